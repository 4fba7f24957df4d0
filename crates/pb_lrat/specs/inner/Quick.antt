-- What stands behind the id of a line. This serves the proof that a line in the usual layout is read as it is defined.
use Rattle.std.specs.Prelude.{ℕ, List, ◌∷◌}
use Rattle.pb_base.specs.Words.{words_of}
use Rattle.pb_steps.specs.StepGrammar.{StepSymbol, SpellAll, texts}
use Rattle.pb_steps.specs.StepGrammar.StepSymbol.{number}
use Rattle.pb_lrat.specs.declared.said.Said.{Said}
use Rattle.pb_lrat.specs.LratGrammar.{WordsTell}

-- with an id before it, it tells what is said
pub record TellsBehind (vars id : ℕ) (left : List ℕ) (said : Said) : Type 0 where
  pub more : List StepSymbol
  pub spelled : SpellAll (texts (words_of left)) more
  pub tells : (ws : List (List ℕ)) → SpellAll ws (number id ∷ more) → WordsTell vars ws said
