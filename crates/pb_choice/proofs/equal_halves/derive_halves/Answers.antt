use Rattle.std.proofs.Common.{◌≡◌, ◌<◌, ◌+◌, ℕ, List, sym, arith}
use Rattle.std.specs.Prelude.{count_by}
use Rattle.std.proofs.lemmas.List.Elements.{All-weaker}
use Rattle.pb_norm.specs.Constraints.{Weighted}
use Rattle.pb_steps.specs.declared.step.Step.{Step}
use Rattle.pb_steps.specs.Steps.{takes_id}
use Rattle.pb_family.proofs.Deriving.{deriving_as, deriving_starts, deriving_step, steps_fault, steps_last}
use Rattle.pb_choice.specs.HalfPlans.{halves_steps, plan_fresh, plan_steps}
use Rattle.pb_choice.proofs.PlanParts.{plan_ids}
use Rattle.pb_choice.proofs.equal_halves.derive_halves.Goals as goal

pub returns-in_err-derive : goal.returns-in_err-derive
returns-in_err-derive g c =
    let l = c.args.lower.now in
    let u = c.args.upper.now in
    let old = g.T.StepSink.state c.args.sink.now in
    let front : List Step = plan_steps l c.args.first c.args.ids.low old.next in
    steps_fault c.from_residual.result _ front (plan_steps u (c.args.first + plan_fresh l) c.args.ids.high (old.next + count_by takes_id front)) (g.T.StepSink.state c.derive.new.sink) c.from_residual.ensures.1
    (deriving_starts (halves_steps l u c.args.first c.args.ids.low c.args.ids.high old.next) old) c.in_err-derive.ensures

pub derive-requires : goal.derive-requires
derive-requires g c =
    let r = c.requires.ready in
    record {
      original = r.emits.original.0;
      low = r.emits.from;
      fits = omega (arith, r.emits.fits);
      given = r.low_given;
      known = r.low_known;
      few = omega (arith, r.few);
    }

pub derive-requires-2 : goal.derive-requires-2
derive-requires-2 g c =
    let l = c.args.lower.now in
    let u = c.args.upper.now in
    let old = g.T.StepSink.state c.args.sink.now in
    let ids = c.in_ok-derive.ensures.ids in
    let fresh = c.counts.ensures.fresh in
    record {
      original = All-weaker (λ (t : Weighted). t.lit.var < c.args.first) (λ (t : Weighted). t.lit.var < c.args.first + c.counts.result.fresh) (λ t h. omega (arith, h)) u.constraint.now.terms c.requires.ready.emits.original.1;
      low = omega (arith, c.requires.ready.emits.from);
      fits = omega (arith, fresh, c.requires.ready.emits.fits);
      given = c.requires.ready.high_given;
      known = omega (arith, ids, c.requires.ready.high_known);
      few = omega (arith, ids, plan_ids l c.args.first c.args.ids.low old.next, c.requires.ready.clauses, c.requires.ready.emits.fits, c.requires.ready.few);
    }

pub returns : goal.returns
returns g c =
    let l = c.args.lower.now in
    let u = c.args.upper.now in
    let old = g.T.StepSink.state c.args.sink.now in
    let mid = g.T.StepSink.state c.derive.new.sink in
    let after = g.T.StepSink.state c.derive-2.new.sink in
    let front : List Step = plan_steps l c.args.first c.args.ids.low old.next in
    let back : ℕ → ℕ → List Step = λ fresh next. plan_steps u (c.args.first + fresh) c.args.ids.high next in
    let taken = c.in_ok-derive.ensures in
    let next : old.next + count_by takes_id front ≡ mid.next = sym taken.ids in
    let fresh : plan_fresh l ≡ c.counts.result.fresh = sym c.counts.ensures.fresh in
    let here = deriving_as (λ i. back (fresh i) (next i))
    (deriving_step {left = back (plan_fresh l) (old.next + count_by takes_id front)} front mid (deriving_starts (halves_steps l u c.args.first c.args.ids.low c.args.ids.high old.next) old) taken) in
    steps_last c.derive-2.result (back c.counts.result.fresh mid.next) after here c.derive-2.ensures
