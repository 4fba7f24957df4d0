use Rattle.std.proofs.Common.{◌≡◌, ◌+◌, ◌++◌, ℕ, List, [], ◌∷◌, sym, arith}
use Rattle.std.specs.Prelude.{IsTrue}
use Rattle.pb_steps.specs.declared.step.Step.{Step}
use Rattle.pb_steps.specs.declared.step.Step.TheVariants.{Del}
use Rattle.pb_steps.specs.Steps.{takes_id}
use Rattle.pb_family.specs.StepSinks.{StepState, TakesSteps}
use Rattle.pb_family.proofs.Deriving.{Deriving, deriving_as, deriving_starts, deriving_step, steps_fault, steps_last}
use Rattle.pb_choice.specs.declared.chosen.Chosen.{Chosen}
use Rattle.pb_choice.specs.Chosen.{sum_at, treatment_at}
use Rattle.pb_choice.specs.ConstraintSteps.{reduced_steps}
use Rattle.pb_choice.specs.SumSteps.{sum_steps}
use Rattle.pb_choice.proofs.FamilyCounts.{chosen_few}
use Rattle.pb_choice.proofs.PlanParts.{one_id}
use Rattle.pb_choice.proofs.derivation.derive_reduced.Goals as goal

-- ---- how far the derivation has come

module _ {R : Type 0} (reduces : Step) (f : Chosen) (first : ℕ) (old : StepState R) where
  abbrev all : List Step
  all = reduced_steps reduces (treatment_at f) (sum_at f) first old.next

  -- the clauses, from the constraint with an id, and that it goes
  abbrev left : ℕ → ℕ → List Step
  left id next = sum_steps (treatment_at f) (sum_at f) first id next ++ Del (id ∷ []) ∷ []

  starts : Deriving all ((reduces ∷ []) ++ left old.next (old.next + 1)) old old
  starts = deriving_starts all old

  reduced : (mid : StepState R) (own : ℕ) → own ≡ old.next → IsTrue (takes_id reduces) → TakesSteps (reduces ∷ []) old mid → Deriving all (left own mid.next) old mid
  reduced mid own given takes taken =
      let next : old.next + 1 ≡ mid.next = omega (arith, taken.ids, one_id reduces takes) in
      deriving_as (λ i. left (sym given i) (next i)) (deriving_step {left = left old.next (old.next + 1)} (reduces ∷ []) mid starts taken)

-- ---- the calls

pub derive-requires : goal.derive-requires
derive-requires g c =
    let old = g.T.StepSink.state c.args.sink.now in
    let ids = c.in_ok-step.ensures.hands.ids in
    let one = one_id c.args.reduces.now c.requires.takes in
    record {
      original = c.requires.original;
      low = c.requires.low;
      fits = c.requires.fits;
      given = omega (arith, c.requires.given, c.next_id-own.ensures);
      known = omega (arith, ids, one, c.next_id-own.ensures);
      few = omega (arith, ids, one, c.requires.few);
    }

pub derive_deletion-requires : goal.derive_deletion-requires
derive_deletion-requires g c =
    let f = c.args.chosen.now in
    let ids = c.in_ok-step.ensures.hands.ids in
    let one = one_id c.args.reduces.now c.requires.takes in
    let all = c.in_ok-derive.ensures.ids in
    let mid = g.T.StepSink.state c.step.new.self in
    record {
      fits = omega (arith, c.next_id-own.ensures, c.requires.few);
      few = omega (arith, all, ids, one, (chosen_few f).ids c.args.first c.next_id-own.result mid.next (omega (arith, c.requires.fits)), c.requires.few);
    }

pub returns-in_err-step : goal.returns-in_err-step
returns-in_err-step g c =
    steps_fault c.from_residual.result _ (c.args.reduces.now ∷ []) _ _ c.from_residual.ensures.1 (starts c.args.reduces.now c.args.chosen.now c.args.first _) c.in_err-step.ensures.hands

pub returns-in_err-derive : goal.returns-in_err-derive
returns-in_err-derive g c =
    let f = c.args.chosen.now in
    let own = c.next_id-own.result in
    let mid = g.T.StepSink.state c.step.new.self in
    steps_fault c.from_residual-in_err-derive.result _ (sum_steps (treatment_at f) (sum_at f) c.args.first own mid.next) _ _ c.from_residual-in_err-derive.ensures.1
    (reduced c.args.reduces.now f c.args.first _ mid own c.next_id-own.ensures c.requires.takes c.in_ok-step.ensures.hands) c.in_err-derive.ensures

pub returns : goal.returns
returns g c =
    let f = c.args.chosen.now in
    let own = c.next_id-own.result in
    let mid = g.T.StepSink.state c.step.new.self in
    let there = deriving_step {left = Del (own ∷ []) ∷ []} (sum_steps (treatment_at f) (sum_at f) c.args.first own mid.next) (g.T.StepSink.state c.derive.new.sink)
    (reduced c.args.reduces.now f c.args.first _ mid own c.next_id-own.ensures c.requires.takes c.in_ok-step.ensures.hands) c.in_ok-derive.ensures in
    steps_last c.derive_deletion.result (Del (own ∷ []) ∷ []) _ there c.derive_deletion.ensures
