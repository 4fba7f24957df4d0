use Rattle.std.proofs.Common.{◌<◌, ◌+◌, ◌-◌, ◌^◌, ap, sym, ◌∙◌, [], subst, arith}
use Rattle.pb_base.specs.declared.literal.Lit.{Lit}
use Rattle.pb_base.specs.Literals.{negated}
use Rattle.pb_unit.specs.Trails.{oldest}
use Rattle.pb_unit.specs.Index.{code, list_at, sum_at, room_at, AreLowered}
use Rattle.pb_unit.proofs.Entering.{code-within}
use Rattle.pb_unit.proofs.Telling.{counted_less, fits_back, counted_next, counted_as}
use Rattle.pb_unit.proofs.Queueing.{oldest-none}
use Rattle.pb_unit.proofs.queue.uncount.Goals as goal

pub raise_both-requires-clause-listed : goal.raise_both-requires-clause-listed
raise_both-requires-clause-listed c =
    omega (arith, c.loop-left.invariant.counts.width, ap code c.not-falsified.ensures, code-within c.args.held.now.vars (negated c.nth.result.now) c.nth.ensures.within)

pub raise_both-requires-clause-raise : goal.raise_both-requires-clause-raise
raise_both-requires-clause-raise c =
    let counts = counted_next c.args.held.now.vars c.args.places.now c.args.lists.now c.loop-left.kept c.nth.result.now c.args.held.now.lits c.loop-left.left (c.loop-left.left - 1) (omega (arith, c.loop-left-test.true)) c.nth.ensures.older c.loop-left.invariant.counts in
    record {
      known = c.loop-left.invariant.counts.known c.not-falsified.result;
      fits = λ p. subst (λ (l : Lit). room_at c.loop-left.kept p + sum_at p (list_at c.args.lists.now l) < 2 ^ 128) (sym c.not-falsified.ensures)
          (fits_back c.args.held.now.vars c.args.places.now c.args.lists.now c.loop-left.kept c.nth.result.now (oldest (c.loop-left.left - 1) c.args.held.now.lits) counts c.nth.ensures.absent p);
    }

pub loop-left-preserved : goal.loop-left-preserved
loop-left-preserved c =
    let counts = counted_next c.args.held.now.vars c.args.places.now c.args.lists.now c.loop-left.kept c.nth.result.now c.args.held.now.lits c.loop-left.left (c.loop-left.left - 1) (omega (arith, c.loop-left-test.true)) c.nth.ensures.older c.loop-left.invariant.counts in
    let lowered : AreLowered (list_at c.args.lists.now (negated c.nth.result.now)) c.raise_both.new.kept c.loop-left.kept = subst (λ (l : Lit). AreLowered (list_at c.args.lists.now l) c.raise_both.new.kept c.loop-left.kept) c.not-falsified.ensures c.raise_both.ensures in
    record {
      in_held = omega (arith, c.loop-left.invariant.in_held);
      counts = counted_less c.args.held.now.vars c.args.places.now c.args.lists.now c.raise_both.new.kept c.loop-left.kept c.nth.result.now (oldest (c.loop-left.left - 1) c.args.held.now.lits) counts c.nth.ensures.absent lowered;
      alerts = λ p. sym (lowered.alerts p) ∙ c.loop-left.invariant.alerts p;
    }

pub returns-clause-counts : goal.returns-clause-counts
returns-clause-counts c =
    counted_as c.args.held.now.vars c.args.places.now c.args.lists.now c.loop-left.kept (oldest c.loop-left.left c.args.held.now.lits) [] (oldest-none c.loop-left.left c.args.held.now.lits (omega (arith, c.loop-left-test.false))) c.loop-left.invariant.counts
