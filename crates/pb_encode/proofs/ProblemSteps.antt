-- The lines of a problem's derivation that are handed over one after another.
use Rattle.std.proofs.Common.{◌≡◌, ◌<◌, ◌+◌, ◌-◌, ◌^◌, ◌++◌, ℕ, List, [], ◌∷◌, length, ap, arith}
use Rattle.std.specs.Prelude.{Result, IsErrAnd}
use Rattle.pb_base.specs.declared.problem.Problem.{Problem}
use Rattle.pb_base.specs.Problems.{IsWithinLimits}
use Rattle.pb_norm.specs.Products.{loaded_of}
use Rattle.pb_steps.specs.declared.step.Step.{Step}
use Rattle.pb_steps.specs.declared.step.Step.TheVariants.{Head, Loaded, End}
use Rattle.pb_family.specs.StepSinks.{StepState, TakesSteps, StopsInSteps, HandsSteps}
use Rattle.pb_family.specs.declared.sink.SinkFault.{SinkFault}
use Rattle.pb_family.proofs.Deriving.{Deriving, deriving_starts, deriving_step, steps_fault, steps_last}
use Rattle.pb_base.specs.declared.options.Options.{Options}
use Rattle.pb_encode.specs.Steps.{loaded_steps, problem_steps}
use Rattle.pb_encode.specs.Summaries.{IsEncodable}
use Rattle.pb_encode.specs.inner.Streams.{steps_at_next}
use Rattle.pb_encode.proofs.DerivedProblems.{loaded_count, whole_leave}
use Rattle.pb_encode.proofs.StepPositions.{ids_in, stops_same_steps, takes_same_steps}

module _ {R : Type 0} (o : Options) (p : Problem) (within : IsWithinLimits p) (encodable : IsEncodable o p) (a b c : StepState R) (starts : a.next ≡ length (loaded_of p) + 1) (next : ℕ) (next_is : next ≡ a.next) where
  abbrev all : List Step
  all = problem_steps o p

  abbrev head_lines : List Step
  head_lines = Head ∷ Loaded (length (loaded_of p)) ∷ []

  abbrev behind_head : List Step
  behind_head = loaded_steps o p ++ End ∷ []

  lines_are : Head ∷ Loaded (next - 1) ∷ [] ≡ head_lines
  lines_are =
      let count : next - 1 ≡ length (loaded_of p) = omega (arith, next_is, starts) in
      ap (λ (n : ℕ). Head ∷ Loaded n ∷ []) count

  pub start_small : a.next + 1 < 2 ^ 62
  start_small = omega (arith, starts, loaded_count o p within encodable)

  pub head_stops : {T : Type 0} (r : Result T SinkFault) (f : SinkFault) → IsErrAnd r (λ g. g ≡ f) → StopsInSteps (Head ∷ Loaded (next - 1) ∷ []) a b f → HandsSteps all r a b
  head_stops r f is stops = steps_fault r f head_lines behind_head b is (deriving_starts all a) (stops_same_steps _ _ a b f lines_are stops)

  -- the head and the number of constraints were taken
  module _ (head : TakesSteps (Head ∷ Loaded (next - 1) ∷ []) a b) where
    head_taken : Deriving all behind_head a b
    head_taken = deriving_step {left = behind_head} head_lines b (deriving_starts all a) (takes_same_steps _ _ a b lines_are head)

    pub head_next : b.next ≡ length (loaded_of p) + 1
    head_next = omega (arith, head.ids, starts)

    same : steps_at_next o p b.next ≡ loaded_steps o p
    same = ap (steps_at_next o p) head_next

    pub steps_stop : {T : Type 0} (r : Result T SinkFault) (f : SinkFault) → IsErrAnd r (λ g. g ≡ f) → StopsInSteps (steps_at_next o p b.next) b c f → HandsSteps all r a c
    steps_stop r f is stops = steps_fault r f (loaded_steps o p) (End ∷ []) c is head_taken (stops_same_steps _ _ b c f same stops)

    -- so were the steps
    module _ (taken : TakesSteps (steps_at_next o p b.next) b c) where
      pub end_small : c.next < 2 ^ 62
      end_small = omega (arith, taken.ids, whole_leave o p within encodable, ap ids_in same, head_next)

      pub end_last : {T : Type 0} (r : Result T SinkFault) (e : StepState R) → HandsSteps (End ∷ []) r c e → HandsSteps all r a e
      end_last r e h = steps_last r (End ∷ []) e (deriving_step (loaded_steps o p) c head_taken (takes_same_steps _ _ b c same taken)) h
