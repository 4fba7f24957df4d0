use Rattle.std.proofs.Common.{◌≡◌, ◌≤◌, ◌+◌, ◌-◌, ap, sym, ◌∙◌, List, [], ◌∷◌, ℕ, subst, length, arith}
use Rattle.pb_base.specs.declared.literal.Lit.{Lit}
use Rattle.pb_base.specs.Literals.{negated}
use Rattle.pb_norm.specs.Propagation.{room}
use Rattle.pb_norm.proofs.Rooms.{IsPart}
use Rattle.pb_unit.specs.Trails.{oldest}
use Rattle.pb_unit.specs.States.{standing}
use Rattle.pb_unit.specs.Steps.{Advances}
use Rattle.pb_unit.specs.Index.{code, list_at, sum_at, room_at, AreLowered, IsCounted}
use Rattle.pb_unit.proofs.Entering.{code-within}
use Rattle.pb_unit.proofs.Telling.{enough_room, counted_more, oldest-more, drop_part, told_room}
use Rattle.pb_unit.proofs.queue.tell.Goals as goal

pub tell_both-requires-clause-listed : goal.tell_both-requires-clause-listed
tell_both-requires-clause-listed c =
    omega (arith, c.requires.counts.width, ap code c.not-falsified.ensures, code-within c.args.held.now.vars (negated c.nth.result.now) c.nth.ensures.within)

pub tell_both-requires-clause-tell : goal.tell_both-requires-clause-tell
tell_both-requires-clause-tell c =
    let part : IsPart (c.nth.result.now ∷ oldest c.args.counted c.args.held.now.lits) c.args.held.now.lits = subst (λ (ls : List Lit). IsPart ls c.args.held.now.lits) c.nth.ensures.older (drop_part (length c.args.held.now.lits - (c.args.counted + 1)) c.args.held.now.lits) in
    record {
      within = c.requires.within;
      known = c.requires.counts.known c.not-falsified.result;
      enough = λ p.
          let e = enough_room c.args.held.now.vars c.args.places.now c.args.lists.now c.args.kept.now c.nth.result.now (oldest c.args.counted c.args.held.now.lits) c.requires.counts c.nth.ensures.absent p in
          subst (λ (l : Lit). sum_at p (list_at c.args.lists.now l) ≤ room_at c.args.kept.now p) (sym c.not-falsified.ensures) (omega (arith, e));
      bound = λ p d at.
          subst (λ (l : Lit). room c.args.held.now.lits d.terms + sum_at p (list_at c.args.lists.now l) ≤ room_at c.args.kept.now p) (sym c.not-falsified.ensures)
          (told_room c.args.held.now.vars c.args.places.now c.args.lists.now c.args.kept.now c.nth.result.now (oldest c.args.counted c.args.held.now.lits) c.args.held.now.lits c.requires.counts c.nth.ensures.absent part p d at);
      alerts = c.requires.counts.alerts;
    }

pub returns-clause-counts : goal.returns-clause-counts
returns-clause-counts c =
    let before : List Lit = c.args.held.now.lits in
    let after : List Lit = c.tell_both.new.held.lits in
    let k : ℕ = c.args.counted in
    let f : Advances (standing c.args.places.now) [] before after = c.tell_both.ensures.told.advances [] in
    let lowered : AreLowered (list_at c.args.lists.now (negated c.nth.result.now)) c.args.kept.now c.tell_both.new.kept =
    subst (λ (l : Lit). AreLowered (list_at c.args.lists.now l) c.args.kept.now c.tell_both.new.kept) c.not-falsified.ensures c.tell_both.ensures.told.lowered in
    let counts : IsCounted c.args.held.now.vars c.args.places.now c.args.lists.now c.tell_both.new.kept (c.nth.result.now ∷ oldest k before) =
    counted_more c.args.held.now.vars c.args.places.now c.args.lists.now c.args.kept.now c.tell_both.new.kept c.nth.result.now (oldest k before) c.requires.counts c.nth.ensures.absent lowered in
    let same : c.nth.result.now ∷ oldest k before ≡ oldest (k + 1) after =
    sym c.nth.ensures.older ∙ (sym (oldest-more (k + 1) f.more before (omega (arith, c.requires.next))) ∙ ap (oldest (k + 1)) (sym f.extends)) in
    subst (λ (ls : List Lit). IsCounted c.tell_both.new.held.vars c.args.places.now c.args.lists.now c.tell_both.new.kept ls) same
    (subst (λ (n : ℕ). IsCounted n c.args.places.now c.args.lists.now c.tell_both.new.kept (c.nth.result.now ∷ oldest k before)) (sym c.tell_both.ensures.vars) counts)
