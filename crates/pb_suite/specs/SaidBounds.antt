-- What a run that encoded with a table of bounds says of the objective: for each value that it may be below, a literal that is false just there. Our own.
use Rattle.std.specs.Prelude.{ℕ, ℤ, ◌≡◌, true, List, ◌∷◌, ◌++◌, Option, Some}
use Rattle.pb_base.specs.declared.literal.Lit.{Lit}
use Rattle.pb_base.specs.declared.problem.Problem.{Problem}
use Rattle.pb_desk.specs.View.{Told}
use Rattle.pb_desk.specs.Desk.{DeskState, IfTold, IsTold}
use Rattle.pb_dimacs.specs.CnfReading.{CnfReads}
use Rattle.pb_encode.specs.BoundLines.{bounds_text}
use Rattle.pb_encode.specs.Bounds.{TellBounds}
use Rattle.pb_encode.specs.Summaries.{summary_of, summary_text}
use Rattle.pb_words.specs.EncodeWords.{EncodeWords}
use Rattle.pb_words.specs.Parsed.{Wanted}
use Rattle.pb_words.specs.Parsed.Wanted.{Encode}
use Rattle.pb_suite.specs.declared.outcome.Outcome.{Outcome}
use Rattle.pb_suite.specs.declared.outcome.Outcome.TheVariants as outcome
use Rattle.pb_suite.specs.EncodeSpec.{file_of, proof_files}
use Rattle.pb_suite.specs.Denoted.{IsDenoted}

-- The file of the CNF was made since, and beside the size of the encoding the lines of some rows were said. Over the clauses of the CNF these rows bound the objective of the problem that the text denotes.
pub record SaysBounds (w : EncodeWords) (old new : Told) : Type 0 where
  pub problem : Problem
  pub denoted : IsDenoted old.shelf w.opb w.bound problem
  pub cnf : List ℕ
  pub proof : List ℕ
  pub made_is : new.made ≡ proof_files w.proof proof ++ file_of 0 w.cnf cnf ∷ old.made
  pub vars : ℕ
  pub clauses : List (List Lit)
  pub says : CnfReads cnf vars clauses
  pub rows : List (ℤ × Lit)
  pub said_is : new.said ≡ old.said ++ (summary_text (summary_of w.options problem) ++ bounds_text rows)
  pub bounds : TellBounds problem vars clauses rows

-- where words ask for encoding with a table and that is done, the rows of the table are said
abbrev pub BoundsAsked : Option Wanted → Outcome → DeskState → DeskState → Type 0
BoundsAsked asked answer old new = (w : EncodeWords) → asked ≡ Some (Encode w) → w.options.table ≡ true → answer ≡ outcome.Done → IfTold old (λ t. IsTold new (SaysBounds w t))
