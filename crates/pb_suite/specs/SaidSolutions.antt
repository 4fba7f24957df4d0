-- What decoding says where a solver's values are a solution. Our own.
use Rattle.std.specs.Prelude.{ℕ, ◌≡◌, List, Option, Some}
use Rattle.pb_base.specs.declared.problem.Problem.{Problem}
use Rattle.pb_base.specs.Problems.{IsSolution}
use Rattle.pb_desk.specs.View.{Told}
use Rattle.pb_desk.specs.Desk.{DeskState, IfTold}
use Rattle.pb_model.specs.declared.model.Model.{Model}
use Rattle.pb_model.specs.declared.model.Says.TheVariants.{Satisfiable}
use Rattle.pb_model.specs.SolutionText.{solution_text}
use Rattle.pb_words.specs.DecodeWords.{DecodeWords}
use Rattle.pb_words.specs.Parsed.{Wanted}
use Rattle.pb_words.specs.Parsed.Wanted.{Decode}
use Rattle.pb_suite.specs.declared.outcome.Outcome.{Outcome}
use Rattle.pb_suite.specs.declared.outcome.Outcome.TheVariants as outcome
use Rattle.pb_suite.specs.Outputs.{nothing, only_words, Adds, Output}
use Rattle.pb_suite.specs.CommandSpec.{CommandSpec, Shelf}
use Rattle.pb_suite.specs.DecodeSpec.{decode_spec, IsAnswered}

-- this output is due, and nothing else is: the command does not stop
pub record IsDue (o : CommandSpec) (shelf : Shelf) (out : Output) : Type 0 where
  pub done : o.done shelf out
  pub only : (other : Output) → o.done shelf other → other ≡ out
  pub goes_on : (answer : Outcome) → ¬ o.stops shelf answer

-- the line was said and no file was made; or a read failed; or a write failed, or memory was wanting
pub data SaysOnly (line : List ℕ) (old new : DeskState) : Outcome → Type 0 where
  done : Adds (only_words line) old new → SaysOnly line old new outcome.Done
  read_fault : Adds nothing old new → SaysOnly line old new outcome.ReadFault
  write_fault : SaysOnly line old new outcome.WriteFault
  no_memory : SaysOnly line old new outcome.NoMemory

-- where the solver says that there is a model, and its values are a solution, exactly that solution's text is due, and is said unless a call failed or memory was wanting
abbrev pub SaidOf : DecodeWords → DeskState → DeskState → Outcome → Told → Type 0
SaidOf w old new answer t = (p : Problem) (m : Model) → IsAnswered t.shelf w p m → m.says ≡ Satisfiable → IsSolution p m.values
    → IsDue (decode_spec w) t.shelf (only_words (solution_text p m.values)) × SaysOnly (solution_text p m.values) old new answer

-- so it is where words ask for decoding
abbrev pub SaysSolutions : Option Wanted → Outcome → DeskState → DeskState → Type 0
SaysSolutions asked answer old new = (w : DecodeWords) → asked ≡ Some (Decode w) → IfTold old (SaidOf w old new answer)
