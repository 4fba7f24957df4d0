-- The one line that is written of a step (our own profile, after VeriPB's).
use Rattle.std.specs.Prelude.{ℕ, suc, List, ◌∷◌, ℤ, pos, drop, if◌then◌else◌, decimal}
use Rattle.std.specs.Fmt.{signed_decimal}
use Rattle.std.specs.List.{flat_map}
use Rattle.pb_base.specs.declared.literal.Lit.{Lit}
use Rattle.pb_steps.specs.declared.step.Step.{Step}
use Rattle.pb_steps.specs.StepGrammar.{StepSymbol, step_symbols}
use Rattle.pb_steps.specs.StepGrammar.StepSymbol.{key, number, factor, integer, coefficient, literal, variable, weakened}

abbrev pub variable_word : ℕ → List ℕ
variable_word v = 120 ∷ decimal v

abbrev pub literal_word : Lit → List ℕ
literal_word l = if l.positive then variable_word l.var else 126 ∷ variable_word l.var

-- with its sign, but for 0
abbrev pub coefficient_word : ℤ → List ℕ
coefficient_word (pos (suc n)) = 43 ∷ decimal (suc n)
coefficient_word z = signed_decimal z

-- the one word that is written of each
abbrev pub word_of : StepSymbol → List ℕ
word_of (key k) = k
word_of (number n) = decimal n
word_of (factor z) = signed_decimal z
word_of (integer z) = signed_decimal z
word_of (coefficient z) = coefficient_word z
word_of (literal l) = literal_word l
word_of (variable v) = variable_word v
word_of (weakened v) = variable_word v

abbrev pub with_blanks : List StepSymbol → List ℕ
with_blanks ks = flat_map (λ k. 32 ∷ word_of k) ks

-- the line of a step, without its LF: its words, with one blank between each two
abbrev pub step_line : Step → List ℕ
step_line s = drop 1 (with_blanks (step_symbols s))
