-- What stands behind a verb. This serves the proof that a line in the usual layout is read as it is defined.
use Rattle.std.specs.Prelude.{◌≡◌, ℕ, false, List, ◌∷◌}
use Rattle.std.specs.List.{AllByRecursion}
use Rattle.pb_base.specs.Tokens.{is_white}
use Rattle.pb_base.specs.Words.{words_of}
use Rattle.pb_steps.specs.declared.step.Step.{Step}
use Rattle.pb_steps.specs.Sayable.{IsSayable}
use Rattle.pb_steps.specs.StepGrammar.{StepSymbol, SpellAll, step_symbols, texts}

-- behind a verb, which is the first word of the step, the rest of its line says the step
pub record SaysBehind (verb left : List ℕ) (s : Step) : Type 0 where
  pub black : AllByRecursion (λ b. is_white b ≡ false) verb
  pub more : List StepSymbol
  pub symbols : step_symbols s ≡ StepSymbol.key verb ∷ more
  pub spelled : SpellAll (texts (words_of left)) more
  pub sayable : IsSayable s
