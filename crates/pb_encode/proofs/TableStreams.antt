-- The clauses and the derivation of a problem's table, handed over behind those of its constraints.
use Rattle.std.proofs.Common.{◌≡◌, ◌≤◌, ◌+◌, ◌^◌, ℕ, List, length, ap, sym, subst, arith}
use Rattle.std.specs.Prelude.{Result, IsErrAnd}
use Rattle.pb_base.specs.declared.problem.Problem.{Problem}
use Rattle.pb_base.specs.Problems.{IsWithinLimits, originals}
use Rattle.pb_norm.specs.Products.{loaded_of}
use Rattle.pb_steps.specs.declared.step.Step.{Step}
use Rattle.pb_family.specs.Handing.{HandsIfMemory, TakesClauses}
use Rattle.pb_family.specs.Sinks.{SinkState}
use Rattle.pb_family.specs.StepSinks.{StepState, TakesSteps, StopsInSteps, HandsSteps}
use Rattle.pb_family.specs.declared.sink.SinkFault.{SinkFault}
use Rattle.pb_family.proofs.Deriving.{deriving_as, deriving_starts, deriving_step, steps_fault, steps_last}
use Rattle.pb_family.proofs.Emission.{emitting_starts, emitting_step}
use Rattle.pb_family.proofs.Stopping.{stops_last}
use Rattle.pb_base.specs.declared.options.Options.{Options}
use Rattle.pb_choice.specs.Readiness.{LeavesIds}
use Rattle.pb_gentot.specs.BoundTable.{table_clauses}
use Rattle.pb_gentot.specs.BoundTableSteps.{table_steps}
use Rattle.pb_encode.specs.Clauses.{loaded_clauses, problem_clauses, table_first}
use Rattle.pb_encode.specs.Groups.{groups_of}
use Rattle.pb_encode.specs.Summaries.{IsEncodable}
use Rattle.pb_encode.specs.Tables.{table_terms}
use Rattle.pb_encode.specs.inner.Streams.{loaded_steps_from, steps_at_next}
use Rattle.pb_encode.proofs.DerivedProblems.{loaded_leave}
use Rattle.pb_encode.proofs.GroupLists.{size_loaded}
use Rattle.pb_encode.proofs.StepPositions.{ids_in, Ready}

-- ---- the clauses

pub table_last : {R T : Type 0} (o : Options) (p : Problem) (a b c : SinkState R) (first : ℕ) → first ≡ table_first o p → TakesClauses (loaded_clauses o p) a b → (r : Result T SinkFault) → HandsIfMemory (table_clauses (table_terms o p) first) r b c → HandsIfMemory (problem_clauses o p) r a c
table_last o p a b c first is taken r hands =
    let terms = table_terms o p in
    stops_last r (table_clauses terms (table_first o p)) c (emitting_step (loaded_clauses o p) b (emitting_starts (problem_clauses o p) a) taken)
    (subst (λ (n : ℕ). HandsIfMemory (table_clauses terms n) r b c) is hands)

-- ---- the derivation

module _ {R : Type 0} (o : Options) (p : Problem) (within : IsWithinLimits p) (encodable : IsEncodable o p) (a b : StepState R) (starts : a.next ≡ length (loaded_of p) + 1) where
  abbrev all : List Step
  all = steps_at_next o p a.next

  -- the derivations of the constraints
  abbrev front : List Step
  front = loaded_steps_from o p a.next

  at_start : front ≡ loaded_steps_from o p (length (loaded_of p) + 1)
  at_start = ap (loaded_steps_from o p) starts

  front_leaves : LeavesIds (loaded_steps_from o p) a.next
  front_leaves = omega (arith, loaded_leave o p within encodable, ap ids_in at_start, starts)

  pub front_ready : Ready o (originals p + 1) 1 a.next (groups_of p)
  front_ready = record { fits = omega (arith, encodable.vars); counted = omega (arith, encodable.clauses); known = omega (arith, starts, size_loaded p); few = front_leaves }

  pub front_stops : {T : Type 0} (r : Result T SinkFault) (f : SinkFault) → IsErrAnd r (λ g. g ≡ f) → StopsInSteps front a b f → HandsSteps all r a b
  front_stops r f is stops = steps_fault r f front (table_steps (table_terms o p) (table_first o p) (a.next + ids_in front)) b is (deriving_starts all a) stops

  -- once these are taken
  module _ (taken : TakesSteps front a b) where
    pub back_small : b.next ≤ 2 ^ 61
    back_small = omega (arith, taken.ids, front_leaves)

    pub back_last : {T : Type 0} (last : ℕ) (last_is : last ≡ table_first o p) (r : Result T SinkFault) (c : StepState R) → HandsSteps (table_steps (table_terms o p) last b.next) r b c → HandsSteps all r a c
    back_last last last_is r c hands =
        let at : table_steps (table_terms o p) (table_first o p) (a.next + ids_in front) ≡ table_steps (table_terms o p) last b.next = λ i. table_steps (table_terms o p) (sym last_is i) (sym taken.ids i) in
        steps_last r (table_steps (table_terms o p) last b.next) c (deriving_as at (deriving_step front b (deriving_starts all a) taken)) hands
