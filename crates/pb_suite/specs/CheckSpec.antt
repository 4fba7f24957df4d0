-- The specification of checking a derivation. Our own.
use Rattle.std.specs.Prelude.{ℕ, ◌≡◌, ◌⊎◌, List, [], ◌∷◌, Option, Some, None, Ok, Err, codes}
use Rattle.std.specs.Option.{unwrap_or}
use Rattle.pb_base.specs.declared.expected.Expected.{Expected}
use Rattle.pb_base.specs.declared.file.File.{File}
use Rattle.pb_base.specs.declared.file.File.TheVariants.{Opb, Cnf, Proof}
use Rattle.pb_base.specs.declared.limit.LimitKind.{LimitKind}
use Rattle.pb_base.specs.declared.place.Place.{Place}
use Rattle.pb_base.specs.declared.problem.Problem.{Problem}
use Rattle.pb_steps.specs.declared.denied.Denied.{Denied}
use Rattle.pb_check.specs.declared.verdict.CheckFault.TheVariants as fault
use Rattle.pb_check.specs.declared.verdict.Verdict.TheVariants.{Accepted, Rejected}
use Rattle.pb_check.specs.Outcomes.{LeavesOpen}
use Rattle.pb_check.specs.Turns.{Answer}
use Rattle.pb_check.specs.Walk.{Walk}
use Rattle.pb_words.specs.CheckWords.{CheckWords}
use Rattle.pb_suite.specs.declared.outcome.Outcome.{Outcome}
use Rattle.pb_suite.specs.declared.outcome.Outcome.TheVariants as outcome
use Rattle.pb_suite.specs.Outputs.{only_words}
use Rattle.pb_suite.specs.CommandSpec.{CommandSpec, Ended, IsUnended, Shelf, Taken}
use Rattle.pb_suite.specs.Denoted.{IsDenoted}
use Rattle.pb_suite.specs.Refusals.{IsUnread, RefusesOpb}

-- the shelf has all three texts, and walking through the CNF and the derivation gives this answer
pub record IsJudged (shelf : Shelf) (w : CheckWords) (answer : Answer) : Type 0 where
  pub problem : Problem
  pub cnf : List ℕ
  pub proof : List ℕ
  pub denoted : IsDenoted shelf w.opb w.bound problem
  pub has_cnf : shelf w.cnf ≡ Some cnf
  pub has_proof : shelf w.proof ≡ Some proof
  pub judged : Walk problem cnf proof answer

-- in the order of a run: the OPB text, and the bound if one is given; whether both others are there; their first fault, or the first step that is not allowed
pub data StopsCheck (shelf : Shelf) (w : CheckWords) : Outcome → Type 0 where
  unread : (answer : Outcome) → IsUnread shelf w.opb (RefusesOpb w.bound) answer → StopsCheck shelf w answer
  lacking : (p : Problem) → IsDenoted shelf w.opb w.bound p → (shelf w.cnf ≡ None) ⊎ (shelf w.proof ≡ None) → StopsCheck shelf w outcome.ReadFault
  token : (file : File) (place : Place) (expected : Expected) → IsJudged shelf w (Err (fault.Refused file place expected)) → StopsCheck shelf w (outcome.Refused file place expected)
  limit : (file : File) (place : Option Place) (which : LimitKind) → IsJudged shelf w (Err (fault.Limit file place which)) → StopsCheck shelf w (outcome.Limit (Some file) which place)
  denial : (line : ℕ) (denied : Denied) → IsJudged shelf w (Ok (Rejected line denied)) → StopsCheck shelf w (outcome.Rejected line denied)

-- the problem's text is read yet, and neither the CNF nor the derivation is open; or there is a problem, over which what was taken of both leaves the answer open
abbrev pub IsUnjudged : Shelf → CheckWords → Taken → Ended → Type 0
IsUnjudged shelf w taken ended = (IsUnended 0 w.opb taken ended × (taken 1 w.cnf ≡ None) × (taken 2 w.proof ≡ None)) ⊎ ((p : Problem) × IsDenoted shelf w.opb w.bound p × LeavesOpen p (unwrap_or (taken 1 w.cnf) []) (unwrap_or (taken 2 w.proof) []))

abbrev pub check_spec : CheckWords → CommandSpec
check_spec w = record {
  texts = record { kind = Opb; name = w.opb } ∷ record { kind = Cnf; name = w.cnf } ∷ record { kind = Proof; name = w.proof } ∷ [];
  leaves_open = λ shelf taken ended. IsUnjudged shelf w taken ended;
  stops = λ shelf answer. StopsCheck shelf w answer;
  done = λ shelf out. IsJudged shelf w (Ok Accepted) × (out ≡ only_words (codes "accepted\n"));
}
