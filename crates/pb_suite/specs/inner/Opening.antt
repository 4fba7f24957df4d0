-- How opening a CNF and its derivation ends, and the same behind the problem of a check. It serves proofs.
use Rattle.std.specs.Prelude.{ℕ, ◌≡◌, false, List, Some, IsNone, IsTrue}
use Rattle.pb_base.specs.declared.file.File.TheVariants.{Opb}
use Rattle.pb_base.specs.declared.problem.Problem.{Problem}
use Rattle.pb_desk.specs.View.{Told, View, opened}
use Rattle.pb_desk.specs.Desk.{DeskState, FailsToRead, IfKept, IsSteady, IsTold, Reads, same}
use Rattle.pb_words.specs.CheckWords.{CheckWords}
use Rattle.pb_suite.specs.declared.outcome.Outcome.{Outcome}
use Rattle.pb_suite.specs.declared.outcome.Outcome.TheVariants as outcome
use Rattle.pb_suite.specs.Denoted.{Denotes}
use Rattle.pb_suite.specs.Refusals.{RefusesOpb}
use Rattle.pb_suite.specs.inner.Runs.{Fetches, HasText, IsUnendedIn, StopsReading}

abbrev pub opened_both : List ℕ → List ℕ → View → View
opened_both cnf proof view = opened 2 proof (opened 1 cnf view)

-- both texts stand in their slots from their first bytes on
pub record HasBoth (cnf proof : List ℕ) (t : Told) : Type 0 where
  pub has_cnf : t.shelf cnf ≡ Some (t.left 1)
  pub has_proof : t.shelf proof ≡ Some (t.left 2)

-- a read failed before the one was open or before the other was, over a steady desk for want of the text
pub data StopsOpening (cnf proof : List ℕ) (old new : DeskState) : Type 0 where
  no_cnf : FailsToRead same old new → (IsSteady old → IsTold old (λ t. IsNone (t.shelf cnf))) → StopsOpening cnf proof old new
  no_proof : FailsToRead (opened 1 cnf) old new → (IsSteady old → IsTold old (λ t. IsNone (t.shelf proof))) → StopsOpening cnf proof old new

-- the problem of a check was read
pub record IsRead (w : CheckWords) (p : Problem) (old new : DeskState) : Type 0 where
  pub fetched : (count : ℕ) × Fetches 0 w.opb count old new
  pub denotes : IsTrue new.keeps → HasText w.opb (λ text. Denotes w.bound text p) old

-- and then both texts were opened
pub record IsOpened (w : CheckWords) (p : Problem) (old new : DeskState) : Type 0 where
  pub between : DeskState
  pub read : IsRead w p old between
  pub reached : Reads (opened_both w.cnf w.proof) between new
  pub cnf_begun : new.ended 1 ≡ false
  pub proof_begun : new.ended 2 ≡ false
  pub found : IfKept new new (HasBoth w.cnf w.proof)

-- the problem was not read; or it was, and then one of the texts was not opened
pub data StopsBefore (w : CheckWords) (old new : DeskState) : Outcome → Type 0 where
  not_read : (answer : Outcome) → StopsReading Opb 0 w.opb (RefusesOpb w.bound) old new answer → (IsSteady old → answer ≡ outcome.ReadFault → IsTold old (λ t. IsNone (t.shelf w.opb))) → (answer ≡ outcome.ReadFault → IsUnendedIn 0 w.opb new) → StopsBefore w old new answer
  not_opened : (p : Problem) (between : DeskState) → IsRead w p old between → StopsOpening w.cnf w.proof between new → StopsBefore w old new outcome.ReadFault
