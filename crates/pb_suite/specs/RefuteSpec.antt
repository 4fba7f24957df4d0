-- The specification of refuting a problem. Our own.
use Rattle.std.specs.Prelude.{ℕ, ◌≡◌, ◌⊎◌, List, [], ◌∷◌, Option, Some, None, Ok, codes}
use Rattle.std.specs.Option.{unwrap_or}
use Rattle.pb_base.specs.declared.expected.Expected.{Expected}
use Rattle.pb_base.specs.declared.file.File.TheVariants.{Opb, Cnf, Proof, Lrat}
use Rattle.pb_base.specs.declared.limit.LimitKind.{LimitKind}
use Rattle.pb_base.specs.declared.literal.Lit.{Lit}
use Rattle.pb_base.specs.declared.place.Place.{Place}
use Rattle.pb_check.specs.declared.verdict.Verdict.TheVariants.{Accepted}
use Rattle.pb_check.specs.KeptClauses.{SaysClauses}
use Rattle.pb_lrat.specs.declared.denied.LratDenied.{LratDenied}
use Rattle.pb_lrat.specs.LratStates.{started}
use Rattle.pb_lrat.specs.LratWalk.{LratEnding, lrat_walk}
use Rattle.pb_lrat.specs.LratWalk.{LratEnding as ending}
use Rattle.pb_lrat.specs.Refuting.{TakesEnded}
use Rattle.pb_words.specs.RefuteWords.{RefuteWords}
use Rattle.pb_suite.specs.declared.outcome.Outcome.{Outcome}
use Rattle.pb_suite.specs.declared.outcome.Outcome.TheVariants as outcome
use Rattle.pb_suite.specs.Outputs.{only_words}
use Rattle.pb_suite.specs.CommandSpec.{CommandSpec, Ended, Shelf, Taken}
use Rattle.pb_suite.specs.CheckSpec.{IsJudged, IsUnjudged, StopsCheck}

-- the derivation is accepted, and the CNF says these clauses over so many variables
pub record IsAccepted (shelf : Shelf) (w : RefuteWords) (vars : ℕ) (clauses : List (List Lit)) : Type 0 where
  pub judged : IsJudged shelf w.checked (Ok Accepted)
  pub says_all : SaysClauses judged.cnf vars clauses

-- the same, and the last text ends so as a refutation of these clauses
pub record IsFollowed (shelf : Shelf) (w : RefuteWords) (end : LratEnding) : Type 0 where
  pub vars : ℕ
  pub clauses : List (List Lit)
  pub lrat : List ℕ
  pub accepted : IsAccepted shelf w vars clauses
  pub has_lrat : shelf w.lrat ≡ Some lrat
  pub ends : lrat_walk vars clauses lrat ≡ end

-- in the order of a run: what stops the check; whether the refutation is there; its first fault, or the line at which it is none
pub data StopsRefute (shelf : Shelf) (w : RefuteWords) : Outcome → Type 0 where
  unchecked : (answer : Outcome) → StopsCheck shelf w.checked answer → StopsRefute shelf w answer
  lacking : (vars : ℕ) (clauses : List (List Lit)) → IsAccepted shelf w vars clauses → shelf w.lrat ≡ None → StopsRefute shelf w outcome.ReadFault
  token : (place : Place) (expected : Expected) → IsFollowed shelf w (ending.refused place expected) → StopsRefute shelf w (outcome.Refused Lrat place expected)
  limit : (place : Option Place) (which : LimitKind) → IsFollowed shelf w (ending.limited place which) → StopsRefute shelf w (outcome.Limit (Some Lrat) which place)
  no_refutation : (line : ℕ) (why : LratDenied) → IsFollowed shelf w (ending.not_refuted line why) → StopsRefute shelf w (outcome.NotRefuted line why)

-- the refutation is not open yet, nor is the check's answer settled; or the derivation is accepted, and in what was taken of the refutation each line that LF ends is taken, and none is too long
abbrev pub IsUnfollowed : Shelf → RefuteWords → Taken → Ended → Type 0
IsUnfollowed shelf w taken ended = ((taken 3 w.lrat ≡ None) × IsUnjudged shelf w.checked taken ended) ⊎ ((vars : ℕ) × (clauses : List (List Lit)) × IsAccepted shelf w vars clauses × TakesEnded (started vars clauses) (unwrap_or (taken 3 w.lrat) []))

abbrev pub refute_spec : RefuteWords → CommandSpec
refute_spec w = record {
  texts = record { kind = Opb; name = w.checked.opb } ∷ record { kind = Cnf; name = w.checked.cnf } ∷ record { kind = Proof; name = w.checked.proof } ∷ record { kind = Lrat; name = w.lrat } ∷ [];
  leaves_open = λ shelf taken ended. IsUnfollowed shelf w taken ended;
  stops = λ shelf answer. StopsRefute shelf w answer;
  done = λ shelf out. IsFollowed shelf w ending.refuted × (out ≡ only_words (codes "refuted\n"));
}
