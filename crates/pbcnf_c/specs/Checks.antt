-- What checking and refuting by texts answer. Our own.
use Rattle.std.specs.Prelude.{ℕ, ℤ, Bool, ◌≡◌, List, Option, Some, Ok, Err}
use Rattle.pb_base.specs.declared.expected.Expected.{Expected}
use Rattle.pb_base.specs.declared.file.File.{File}
use Rattle.pb_base.specs.declared.file.File.TheVariants.{Lrat}
use Rattle.pb_base.specs.declared.limit.LimitKind.{LimitKind}
use Rattle.pb_base.specs.declared.literal.Lit.{Lit}
use Rattle.pb_base.specs.declared.place.Place.{Place}
use Rattle.pb_base.specs.declared.problem.Problem.{Problem}
use Rattle.pb_base.specs.Problems.{IsSolution}
use Rattle.pb_steps.specs.declared.denied.Denied.{Denied}
use Rattle.pb_check.specs.declared.verdict.CheckFault.TheVariants as fault
use Rattle.pb_check.specs.declared.verdict.Verdict.TheVariants.{Rejected}
use Rattle.pb_check.specs.KeptClauses.{SaysClauses}
use Rattle.pb_check.specs.Models.{ExtendsSolutions}
use Rattle.pb_check.specs.Turns.{Answer}
use Rattle.pb_check.specs.Walk.{Accepts, Walk}
use Rattle.pb_lrat.specs.declared.denied.LratDenied.{LratDenied}
use Rattle.pb_lrat.specs.LratWalk.{LratEnding, lrat_walk}
use Rattle.pb_lrat.specs.LratWalk.{LratEnding as ending}
use Rattle.pb_suite.specs.declared.outcome.Outcome.{Outcome}
use Rattle.pb_suite.specs.declared.outcome.Outcome.TheVariants as outcome
use Rattle.pb_suite.specs.Denoted.{Denotes}
use Rattle.pb_suite.specs.Refusals.{RefusesOpb}

-- ---- a derivation

-- The OPB text denotes a problem, and going through the CNF and the derivation beside it gives this answer.
pub record IsJudged (bound : Option ℤ) (opb cnf proof : List ℕ) (answer : Answer) : Type 0 where
  pub problem : Problem
  pub denotes : Denotes bound opb problem
  pub judged : Walk problem cnf proof answer

-- The OPB text denotes a problem, beside which the derivation is accepted, so that each solution of it is the front of a model of the CNF.
pub record IsAccepted (bound : Option ℤ) (opb cnf proof : List ℕ) : Type 0 where
  pub problem : Problem
  pub denotes : Denotes bound opb problem
  pub accepted : Accepts problem cnf proof
  pub extends : ExtendsSolutions problem cnf

-- In the order of a run: the OPB text is refused, or the bound is too heavy; the first fault of the CNF and of the derivation, or the first step that is not allowed.
pub data StopsChecking (bound : Option ℤ) (opb cnf proof : List ℕ) : Outcome → Type 0 where
  bad_problem : (answer : Outcome) → RefusesOpb bound opb answer → StopsChecking bound opb cnf proof answer
  token : (file : File) (place : Place) (expected : Expected) → IsJudged bound opb cnf proof (Err (fault.Refused file place expected)) → StopsChecking bound opb cnf proof (outcome.Refused file place expected)
  limit : (file : File) (place : Option Place) (which : LimitKind) → IsJudged bound opb cnf proof (Err (fault.Limit file place which)) → StopsChecking bound opb cnf proof (outcome.Limit (Some file) which place)
  denial : (line : ℕ) (denied : Denied) → IsJudged bound opb cnf proof (Ok (Rejected line denied)) → StopsChecking bound opb cnf proof (outcome.Rejected line denied)

-- The derivation is accepted, or why it is not. Or memory was wanting.
pub data Checks (bound : Option ℤ) (opb cnf proof : List ℕ) : Outcome → Type 0 where
  accepted : IsAccepted bound opb cnf proof → Checks bound opb cnf proof outcome.Done
  stopped : (answer : Outcome) → StopsChecking bound opb cnf proof answer → Checks bound opb cnf proof answer
  no_memory : Checks bound opb cnf proof outcome.NoMemory

-- ---- a refutation

-- The derivation is accepted, and the last text ends so as a refutation of the clauses of the CNF.
pub record IsFollowed (bound : Option ℤ) (opb cnf proof lrat : List ℕ) (end : LratEnding) : Type 0 where
  pub vars : ℕ
  pub clauses : List (List Lit)
  pub accepted : IsAccepted bound opb cnf proof
  pub says_all : SaysClauses cnf vars clauses
  pub ends : lrat_walk vars clauses lrat ≡ end

-- It refutes them, so that the problem has no solution.
pub record IsRefuted (bound : Option ℤ) (opb cnf proof lrat : List ℕ) : Type 0 where
  pub followed : IsFollowed bound opb cnf proof lrat ending.refuted
  pub none : (values : List Bool) → ¬ IsSolution followed.accepted.problem values

-- The problem is refuted, or why it is not, in the order of a run. Or memory was wanting.
pub data Refutes (bound : Option ℤ) (opb cnf proof lrat : List ℕ) : Outcome → Type 0 where
  refuted : IsRefuted bound opb cnf proof lrat → Refutes bound opb cnf proof lrat outcome.Done
  unchecked : (answer : Outcome) → StopsChecking bound opb cnf proof answer → Refutes bound opb cnf proof lrat answer
  token : (place : Place) (expected : Expected) → IsFollowed bound opb cnf proof lrat (ending.refused place expected) → Refutes bound opb cnf proof lrat (outcome.Refused Lrat place expected)
  limit : (place : Option Place) (which : LimitKind) → IsFollowed bound opb cnf proof lrat (ending.limited place which) → Refutes bound opb cnf proof lrat (outcome.Limit (Some Lrat) which place)
  denial : (line : ℕ) (why : LratDenied) → IsFollowed bound opb cnf proof lrat (ending.not_refuted line why) → Refutes bound opb cnf proof lrat (outcome.NotRefuted line why)
  no_memory : Refutes bound opb cnf proof lrat outcome.NoMemory
