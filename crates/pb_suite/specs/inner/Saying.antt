-- How saying words ends. It serves proofs.
use Rattle.std.specs.Prelude.{ℕ, List, length}
use Rattle.pb_desk.specs.View.{spoke}
use Rattle.pb_desk.specs.Desk.{DeskState, IsSteady, LacksRoom, Reaches, StopsIn, same, words}
use Rattle.pb_suite.specs.declared.outcome.Outcome.{Outcome}
use Rattle.pb_suite.specs.declared.outcome.Outcome.TheVariants as outcome

-- all was said; or a write failed in the words, over a steady desk for want of room
pub data EndsSaying (said : List ℕ) (old new : DeskState) : Outcome → Type 0 where
  whole : Reaches (spoke said) old new → EndsSaying said old new outcome.Done
  cut_off : StopsIn said spoke old new → (IsSteady old → LacksRoom words (length said) old) → EndsSaying said old new outcome.WriteFault

-- the same of words that are made first, for which memory may be wanting
pub data EndsTelling (said : List ℕ) (old new : DeskState) : Outcome → Type 0 where
  says : (answer : Outcome) → EndsSaying said old new answer → EndsTelling said old new answer
  no_memory : Reaches same old new → EndsTelling said old new outcome.NoMemory
