-- Reifications, clauses and deletions that are handed over by three calls.
use Rattle.std.proofs.Common.{◌≡◌, ◌+◌, ◌*◌, ◌++◌, List, map, length, subst}
use Rattle.std.specs.Prelude.{Result, IsErrAnd}
use Rattle.pb_steps.specs.declared.step.Step.{Step}
use Rattle.pb_derive.specs.Claims.{claim_steps}
use Rattle.pb_derive.specs.Deletions.{deletion_steps}
use Rattle.pb_derive.specs.Reifications.{Reification, reification_steps}
use Rattle.pb_derive.specs.Phases.{phases}
use Rattle.pb_derive.specs.Justifications.{Justification, by_justification}
use Rattle.pb_family.specs.StepSinks.{StepState, TakesSteps, StopsInSteps, HandsSteps}
use Rattle.pb_family.specs.declared.sink.SinkFault.{SinkFault}
use Rattle.pb_family.proofs.Deriving.{deriving_starts, deriving_step, steps_fault, steps_last}
use Rattle.pb_family.proofs.SameSteps.{HaveSameSteps}
use Rattle.pb_family.proofs.Sequence.{after_reifications}

module _ {R T : Type 0} (r : Result T SinkFault) (ms : List Reification) (rs qs : List Justification) (same : HaveSameSteps rs qs) (old : StepState R) where
  abbrev all : List Step
  all = phases old.next ms (map by_justification qs)

  -- the fault in the reifications is handed on
  pub stopped_in_reifications : (f : SinkFault) (after : StepState R) → IsErrAnd r (λ g. g ≡ f) → StopsInSteps (reification_steps old.next ms) old after f → HandsSteps all r old after
  stopped_in_reifications f after is part =
      steps_fault r f (reification_steps old.next ms) (claim_steps (old.next + 2 * length ms) (map by_justification qs) ++ deletion_steps 2 old.next (length ms)) after is (deriving_starts all old) part

  -- that in the clauses is
  pub stopped_in_claims : (f : SinkFault) (mid after : StepState R) → IsErrAnd r (λ g. g ≡ f) → TakesSteps (reification_steps old.next ms) old mid → StopsInSteps (claim_steps mid.next (map by_justification rs)) mid after f → HandsSteps all r old after
  stopped_in_claims f mid after is first part =
      steps_fault r f (claim_steps mid.next (map by_justification qs)) (deletion_steps 2 old.next (length ms)) after is (after_reifications old old ms (map by_justification qs) mid (deriving_starts all old) first)
      (subst (λ (ss : List Step). StopsInSteps ss mid after f) (same.steps mid.next) part)

  -- the deletions end it
  pub ended_by_deletions : (mid last new : StepState R) → TakesSteps (reification_steps old.next ms) old mid → TakesSteps (claim_steps mid.next (map by_justification rs)) mid last → HandsSteps (deletion_steps 2 old.next (length ms)) r last new
      → HandsSteps all r old new
  ended_by_deletions mid last new first second third =
      steps_last r (deletion_steps 2 old.next (length ms)) new
      (deriving_step {left = deletion_steps 2 old.next (length ms)} (claim_steps mid.next (map by_justification qs)) last (after_reifications old old ms (map by_justification qs) mid (deriving_starts all old) first)
      (subst (λ (ss : List Step). TakesSteps ss mid last) (same.steps mid.next) second)) third
