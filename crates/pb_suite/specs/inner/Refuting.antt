-- How going through a CNF, its derivation and a refutation ends, where a line is said if there is one. It serves proofs.
use Rattle.std.specs.Prelude.{ℕ, ◌≢◌, List, IsNone, IsSome, Ok}
use Rattle.pb_base.specs.declared.literal.Lit.{Lit}
use Rattle.pb_base.specs.declared.problem.Problem.{Problem}
use Rattle.pb_desk.specs.View.{opened}
use Rattle.pb_desk.specs.Desk.{DeskState, FailsToRead, IfKept, IsSteady, IsTold, Reads, same}
use Rattle.pb_desk.specs.TwoSlots.{TakesBoth}
use Rattle.pb_steps.specs.declared.denied.Denied.{Denied}
use Rattle.pb_check.specs.declared.verdict.CheckFault.{CheckFault}
use Rattle.pb_check.specs.declared.verdict.CheckFault.TheVariants as check
use Rattle.pb_check.specs.declared.verdict.Verdict.TheVariants.{Accepted, Rejected}
use Rattle.pb_check.specs.KeptClauses.{SaysClauses}
use Rattle.pb_check.specs.Outcomes.{NamesText, StopsCheck}
use Rattle.pb_check.specs.Walk.{Walk}
use Rattle.pb_lrat.specs.declared.refute_fault.RefuteFault.{RefuteFault}
use Rattle.pb_lrat.specs.declared.refute_fault.RefuteFault.TheVariants as refute
use Rattle.pb_lrat.specs.Refuting.{Refutes, StopsRefuting}
use Rattle.pb_suite.specs.declared.outcome.Outcome.{Outcome}
use Rattle.pb_suite.specs.declared.outcome.Outcome.TheVariants as outcome
use Rattle.pb_suite.specs.inner.Runs.{check_refusal, lrat_refusal}
use Rattle.pb_suite.specs.inner.Saying.{EndsSaying}

-- the refutation was not opened; or it is none, a read failed or memory was wanting; or it is one, and the line is said
pub data EndsFollowing (vars : ℕ) (clauses : List (List Lit)) (lrat line : List ℕ) (old new : DeskState) : Outcome → Type 0 where
  not_opened : FailsToRead same old new → (IsSteady old → IsTold old (λ t. IsNone (t.shelf lrat))) → EndsFollowing vars clauses lrat line old new outcome.ReadFault
  stopped : (between : DeskState) → Reads (opened 3 lrat) old between → IfKept old between (λ t. IsSome (t.shelf lrat)) → (fault : RefuteFault) → StopsRefuting vars clauses 3 between new fault → (IsSteady between → fault ≢ refute.Failed) → EndsFollowing vars clauses lrat line old new (lrat_refusal fault)
  said : (between after : DeskState) (answer : Outcome) → Reads (opened 3 lrat) old between → IfKept old between (λ t. IsSome (t.shelf lrat)) → Refutes vars clauses 3 between after → (IsSteady after → IsSome after.view.told) → EndsSaying line after new answer → EndsFollowing vars clauses lrat line old new answer

-- the check gave no verdict; or a step is not allowed; or the derivation is accepted, and the refutation of the clauses of the CNF is gone through
pub data EndsRefuting (p : Problem) (lrat line : List ℕ) (old new : DeskState) : Outcome → Type 0 where
  unchecked_so : (fault : CheckFault) → StopsCheck p 1 2 old new fault → NamesText fault → (IsSteady old → fault ≢ check.ReadFault) → EndsRefuting p lrat line old new (check_refusal fault)
  rejected : (number : ℕ) (denied : Denied) → TakesBoth 1 2 (λ c q. Walk p c q (Ok (Rejected number denied))) old new → EndsRefuting p lrat line old new (outcome.Rejected number denied)
  accepted_then : (between : DeskState) (vars : ℕ) (clauses : List (List Lit)) (answer : Outcome) → TakesBoth 1 2 (λ c q. Walk p c q (Ok Accepted)) old between → IfKept old between (λ t. SaysClauses (t.left 1) vars clauses) → EndsFollowing vars clauses lrat line between new answer
      → EndsRefuting p lrat line old new answer
