use Rattle.std.proofs.Common.{◌≡◌, ◌+◌, ◌++◌, ℕ, ℤ, List, [], ◌∷◌, refl, sym, arith}
use Rattle.std.proofs.lemmas.List.Sums.{count_by-le-length}
use Rattle.pb_norm.specs.BoundedSums.{BoundedSum}
use Rattle.pb_steps.specs.declared.step.Step.{Step}
use Rattle.pb_steps.specs.declared.step.Step.TheVariants.{Del}
use Rattle.pb_steps.specs.Steps.{takes_id}
use Rattle.pb_family.specs.StepSinks.{StepState, TakesSteps}
use Rattle.pb_family.proofs.Deriving.{Deriving, deriving_as, deriving_starts, deriving_step, steps_fault, steps_last}
use Rattle.pb_totalizer.specs.ExactSteps.{exact_steps}
use Rattle.pb_totalizer.specs.ExactSum.{exact_sum}
use Rattle.pb_totalizer.specs.laws.ExactDerives.{exact_lines}
use Rattle.pb_choice.specs.EqualitySteps.{joint_steps, quotient_step}
use Rattle.pb_choice.proofs.PlanParts.{one_id}
use Rattle.pb_choice.proofs.equal_derivation.derive_joint.Goals as goal

-- ---- how far the derivation has come

module _ {R : Type 0} (m : BoundedSum) (a : ℤ) (first low high : ℕ) (old : StepState R) where
  abbrev all : List Step
  all = joint_steps m a first low high old.next

  -- the clauses, from quotients under neighbouring ids, and that these go
  abbrev left : ℕ → ℕ → List Step
  left id next = exact_steps m first id (id + 1) next ++ Del (id ∷ (id + 1) ∷ []) ∷ []

  starts : Deriving all ((quotient_step low a ∷ []) ++ quotient_step high a ∷ left old.next (old.next + 2)) old old
  starts = deriving_starts all old

  module _ (mid : StepState R) (one : TakesSteps (quotient_step low a ∷ []) old mid) where
    one_divided : Deriving all ((quotient_step high a ∷ []) ++ left old.next (old.next + 2)) old mid
    one_divided = deriving_step {left = quotient_step high a ∷ left old.next (old.next + 2)} (quotient_step low a ∷ []) mid starts one

    module _ (top : StepState R) (two : TakesSteps (quotient_step high a ∷ []) mid top) where
      two_more : old.next + 2 ≡ top.next
      two_more = omega (arith, one.ids, two.ids, one_id (quotient_step low a) refl, one_id (quotient_step high a) refl)

      both_divided : (own : ℕ) → own ≡ old.next → Deriving all (left own top.next) old top
      both_divided own given = deriving_as (λ i. left (sym given i) (two_more i)) (deriving_step {left = left old.next (old.next + 2)} (quotient_step high a ∷ []) top one_divided two)

-- ---- the calls

pub derive_quotient-requires : goal.derive_quotient-requires
derive_quotient-requires g c = record { few = omega (arith, c.requires.ready.few) }

pub returns-in_err-derive_quotient : goal.returns-in_err-derive_quotient
returns-in_err-derive_quotient g c =
    steps_fault c.from_residual.result _ (quotient_step c.args.ids.low c.args.coef.now ∷ []) _ _ c.from_residual.ensures.1
    (starts (exact_sum c.args.exact.now) c.args.coef.now c.args.first c.args.ids.low c.args.ids.high _) c.in_err-derive_quotient.ensures

pub derive_quotient-requires-2 : goal.derive_quotient-requires-2
derive_quotient-requires-2 g c =
    let one = one_id (quotient_step c.args.ids.low c.args.coef.now) refl in
    record { few = omega (arith, c.in_ok-derive_quotient.ensures.ids, one, c.requires.ready.few) }

pub returns-in_err-derive_quotient-2 : goal.returns-in_err-derive_quotient-2
returns-in_err-derive_quotient-2 g c =
    steps_fault c.from_residual-in_err-derive_quotient-2.result _ (quotient_step c.args.ids.high c.args.coef.now ∷ []) _ _ c.from_residual-in_err-derive_quotient-2.ensures.1
    (one_divided (exact_sum c.args.exact.now) c.args.coef.now c.args.first c.args.ids.low c.args.ids.high _ _ c.in_ok-derive_quotient.ensures) c.in_err-derive_quotient-2.ensures

pub derive-requires : goal.derive-requires
derive-requires g c =
    let next = two_more (exact_sum c.args.exact.now) c.args.coef.now c.args.first c.args.ids.low c.args.ids.high _ _ c.in_ok-derive_quotient.ensures _ c.in_ok-derive_quotient-2.ensures in
    record {
      original = c.requires.ready.emits.original;
      low = c.requires.ready.emits.from;
      fits = c.requires.ready.emits.fits;
      lower_given = omega (arith, c.requires.ready.low_given, c.requires.ready.low_known, c.next_id-own.ensures);
      lower_known = omega (arith, next, c.next_id-own.ensures);
      upper_given = omega arith;
      upper_known = omega (arith, next, c.next_id-own.ensures);
      few = omega (arith, next, c.requires.ready.few);
    }

pub returns-in_err-derive : goal.returns-in_err-derive
returns-in_err-derive g c =
    let own = c.next_id-own.result in
    let top = g.T.StepSink.state c.derive_quotient-2.new.sink in
    steps_fault c.from_residual-in_err-derive.result _ (exact_steps (exact_sum c.args.exact.now) c.args.first own (own + 1) top.next) _ _ c.from_residual-in_err-derive.ensures.1
    (both_divided (exact_sum c.args.exact.now) c.args.coef.now c.args.first c.args.ids.low c.args.ids.high _ _ c.in_ok-derive_quotient.ensures top c.in_ok-derive_quotient-2.ensures own c.next_id-own.ensures) c.in_err-derive.ensures

pub derive_deletion-requires : goal.derive_deletion-requires
derive_deletion-requires g c =
    let m : BoundedSum = exact_sum c.args.exact.now in
    let a = c.args.coef.now in
    let own = c.next_id-own.result in
    let old = g.T.StepSink.state c.args.sink.now in
    let top = g.T.StepSink.state c.derive_quotient-2.new.sink in
    let given : old.next ≡ own = sym c.next_id-own.ensures in
    let next = two_more m a c.args.first c.args.ids.low c.args.ids.high old _ c.in_ok-derive_quotient.ensures top c.in_ok-derive_quotient-2.ensures in
    let steps : List Step = exact_steps m c.args.first own (own + 1) top.next in
    record {
      fits = omega (arith, given, c.requires.ready.few);
      few = omega (arith, c.in_ok-derive.ensures.ids, next, count_by-le-length takes_id steps, exact_lines m c.args.first own (own + 1) top.next, c.requires.ready.clauses, c.requires.ready.emits.fits, c.requires.ready.few);
    }

pub returns : goal.returns
returns g c =
    let own = c.next_id-own.result in
    let top = g.T.StepSink.state c.derive_quotient-2.new.sink in
    let last : List Step = Del (own ∷ (own + 1) ∷ []) ∷ [] in
    let there = deriving_step {left = last} (exact_steps (exact_sum c.args.exact.now) c.args.first own (own + 1) top.next) (g.T.StepSink.state c.derive.new.sink)
    (both_divided (exact_sum c.args.exact.now) c.args.coef.now c.args.first c.args.ids.low c.args.ids.high _ _ c.in_ok-derive_quotient.ensures top c.in_ok-derive_quotient-2.ensures own c.next_id-own.ensures) c.in_ok-derive.ensures in
    steps_last c.derive_deletion.result last _ there c.derive_deletion.ensures
