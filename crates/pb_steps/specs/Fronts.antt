-- What the first bytes of the rest of a line spell (our own).
use Rattle.std.specs.Prelude.{◌≡◌, ◌≤◌, ◌<◌, ℕ, false, List, ◌++◌, Some, length, take, drop}
use Rattle.std.specs.Str.Parse.{AllDigits}
use Rattle.pb_base.specs.Numbers.{natural_of}
use Rattle.pb_base.specs.Words.{words_of, goes_on}
use Rattle.pb_steps.specs.StepGrammar.{StepSymbol, SpellAll, texts}

-- digits, with which a word ends
pub record IsNumberAt (bytes : List ℕ) (n count : ℕ) : Type 0 where
  pub some : 0 < count
  pub within : count ≤ length bytes
  pub digits : AllDigits 10 (take count bytes)
  pub value : natural_of (take count bytes) ≡ Some n
  pub ends : goes_on (drop count bytes) ≡ false

-- whatever the words behind them stand for, the first bytes stand for these before it
abbrev pub Spells : List ℕ → List StepSymbol → ℕ → Type 0
Spells bytes ks count = (rest : List StepSymbol) → SpellAll (texts (words_of (drop count bytes))) rest → SpellAll (texts (words_of bytes)) (ks ++ rest)

-- some of the first bytes do
pub record IsShort (bytes : List ℕ) (ks : List StepSymbol) (count : ℕ) : Type 0 where
  pub some : 0 < count
  pub within : count ≤ length bytes
  pub spells : Spells bytes ks count
