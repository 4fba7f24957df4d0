-- A whole derivation along a tree: what the fresh variables mean, then the clauses, and then the deletions.
use Rattle.std.proofs.Common.{◌≡◌, ◌+◌, ◌*◌, ◌++◌, ℕ, List, map, length, ap, arith}
use Rattle.std.specs.Prelude.{Result}
use Rattle.pb_base.specs.declared.literal.Term.{Term}
use Rattle.pb_norm.specs.Constraints.{weights}
use Rattle.pb_steps.specs.declared.step.Step.{Step}
use Rattle.pb_derive.specs.Claims.{claim_steps}
use Rattle.pb_derive.specs.Deletions.{deletion_steps}
use Rattle.pb_derive.specs.Reifications.{Reification, reification_steps}
use Rattle.pb_derive.specs.Phases.{phases}
use Rattle.pb_derive.specs.Justifications.{Justification, by_justification}
use Rattle.pb_family.specs.StepSinks.{StepState, TakesSteps, HandsSteps}
use Rattle.pb_family.specs.declared.sink.SinkFault.{SinkFault}
use Rattle.pb_family.proofs.Deriving.{steps_same}
use Rattle.pb_family.proofs.HandedPhases.{ended_by_deletions}
use Rattle.pb_family.proofs.SameSteps.{HaveSameSteps}
use Rattle.pb_tree.specs.Scheme.{Scheme, fresh_of}
use Rattle.pb_tree.specs.Tree.{tree_of}
use Rattle.pb_tree.specs.TreeSteps.{reifications}
use Rattle.pb_tree.specs.laws.Meant.{reifications_next}
use Rattle.pb_tree.proofs.TreeReifications.{length-reifications}

-- what the fresh variables of some terms mean
abbrev pub part_reifications : Scheme → List Term → ℕ → List Reification
part_reifications s ts first = reifications s (tree_of (weights ts)) first

-- the same justifications, written another way
pub same_as : (rs qs : List Justification) → rs ≡ qs → HaveSameSteps rs qs
same_as rs qs is = record { count = ap length is; steps = λ next. ap (λ (xs : List Justification). claim_steps next (map by_justification xs)) is }

-- and the whole derivation with them
pub same_phases : (next : ℕ) (ms : List Reification) (rs qs : List Justification) → HaveSameSteps rs qs → phases next ms (map by_justification rs) ≡ phases next ms (map by_justification qs)
same_phases next ms rs qs same = ap (λ (ss : List Step). reification_steps next ms ++ (ss ++ deletion_steps 2 next (length ms))) (same.steps (next + 2 * length ms))

module _ {R : Type 0} (s : Scheme) (ts : List Term) (first : ℕ) (old mid : StepState R) (meant : TakesSteps (reification_steps old.next (part_reifications s ts first)) old mid) where
  pub meant_next : mid.next ≡ old.next + 2 * fresh_of s (tree_of (weights ts))
  meant_next = omega (arith, reifications_next (part_reifications s ts first) old mid meant, length-reifications s (tree_of (weights ts)) first)

  -- the deletions end it
  pub derived : {T : Type 0} (result : Result T SinkFault) (rs qs : List Justification) (base fresh : ℕ) (last new : StepState R) → HaveSameSteps rs qs → base ≡ old.next → fresh ≡ fresh_of s (tree_of (weights ts))
      → TakesSteps (claim_steps mid.next (map by_justification rs)) mid last → HandsSteps (deletion_steps 2 base fresh) result last new → HandsSteps (phases old.next (part_reifications s ts first) (map by_justification qs)) result old new
  derived result rs qs base fresh last new same is ends claimed deleted =
      let ms = part_reifications s ts first in
      let count : fresh ≡ length ms = omega (arith, ends, length-reifications s (tree_of (weights ts)) first) in
      ended_by_deletions result ms rs qs same old mid last new meant claimed (steps_same result _ _ last new (λ i. deletion_steps 2 (is i) (count i)) deleted)
