-- What stands of a derivation, whatever the run answers: the first lines of one that is accepted. Our own.
use Rattle.std.specs.Prelude.{ℕ, ◌≡◌, ◌≤◌, ◌+◌, ◌*◌, List, [], ◌∷◌, ◌++◌, All, Option, Some, length, take}
use Rattle.pb_base.specs.declared.literal.Lit.{Lit}
use Rattle.pb_base.specs.declared.problem.Problem.{Problem}
use Rattle.pb_base.specs.Problems.{originals}
use Rattle.pb_desk.specs.View.{Made, Told}
use Rattle.pb_desk.specs.Desk.{DeskState, IfTold, IsTold}
use Rattle.pb_norm.specs.Products.{loaded_of}
use Rattle.pb_steps.specs.declared.step.Step.{Step}
use Rattle.pb_steps.specs.StepLines.{IsReadBack}
use Rattle.pb_family.specs.StepSinks.{first_line, steps_text}
use Rattle.pb_dimacs.specs.CnfReading.{CnfReads}
use Rattle.pb_check.specs.Walk.{Accepts}
use Rattle.pb_words.specs.EncodeWords.{EncodeWords}
use Rattle.pb_words.specs.Parsed.{Wanted}
use Rattle.pb_words.specs.Parsed.Wanted.{Encode}
use Rattle.pb_suite.specs.EncodeSpec.{file_of}
use Rattle.pb_suite.specs.Denoted.{IsDenoted}

-- Going through the lines of the steps, the one canonical line of each, accepts them beside the problem and the CNF. They are few: at most eight for each fresh variable and each clause, four for each loaded constraint, and eight.
pub record IsShortDerivation (p : Problem) (cnf : List ℕ) (steps : List Step) : Type 0 where
  pub accepted : Accepts p cnf (steps_text steps)
  pub read_back : All IsReadBack steps
  pub fresh : ℕ
  pub clauses : List (List Lit)
  pub says : CnfReads cnf (originals p + fresh) clauses
  pub few : length steps ≤ 8 * (fresh + length clauses) + 4 * length (loaded_of p) + 8

-- the lines of the first steps, whole, and at most a part of the line of the next one
pub record AreFirstLines (steps : List Step) (bytes : List ℕ) : Type 0 where
  pub front : List Step
  pub left : List Step
  pub whole : steps ≡ front ++ left
  pub count : ℕ
  pub are : bytes ≡ steps_text front ++ take count (first_line left)

-- The derivation has the name that was asked for, and was made behind the CNF, which stands whole. The bytes are the first lines of one that is accepted for the problem that the text denotes.
pub record IsBegun (w : EncodeWords) (t : Told) (name bytes : List ℕ) (before : List Made) : Type 0 where
  pub named : w.proof ≡ Some name
  pub problem : Problem
  pub cnf : List ℕ
  pub denoted : IsDenoted t.shelf w.opb w.bound problem
  pub behind : before ≡ file_of 0 w.cnf cnf ∷ []
  pub steps : List Step
  pub derivation : IsShortDerivation problem cnf steps
  pub first_lines : AreFirstLines steps bytes

-- so it is of any file in slot 1 that was made since and is the newest
abbrev pub Stands : EncodeWords → Told → Told → Type 0
Stands w old new = (name bytes : List ℕ) (before : List Made) → new.made ≡ file_of 1 name bytes ∷ (before ++ old.made) → IsBegun w old name bytes before

-- where words ask for encoding, of a desk that tells what it holds
abbrev pub DerivationsStand : Option Wanted → DeskState → DeskState → Type 0
DerivationsStand asked old new = (w : EncodeWords) → asked ≡ Some (Encode w) → IfTold old (λ t. IsTold new (Stands w t))
