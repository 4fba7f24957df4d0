-- How the lines of a derivation are spelled: each step is a list of words, by what they stand for (our own profile, after VeriPB's; Gocht 2022).
use Rattle.std.specs.Prelude.{◌≡◌, ◌==◌, ℕ, Bool, true, false, if◌then◌else◌, List, [], ◌∷◌, ◌++◌, map, Some, ℤ, pos, codes}
use Rattle.std.specs.Option.{option_map}
use Rattle.std.specs.List.{flat_map}
use Rattle.pb_base.specs.declared.literal.Lit.{Lit}
use Rattle.pb_base.specs.declared.literal.Term.{Term}
use Rattle.pb_base.specs.Numbers.{natural_of, integer_of}
use Rattle.pb_base.specs.LiteralWords.{variable_of, literal_of}
use Rattle.pb_base.specs.Words.{Chunk, words_of}
use Rattle.pb_steps.specs.declared.op.Set.{Set}
use Rattle.pb_steps.specs.declared.op.PolOp.{PolOp}
use Rattle.pb_steps.specs.declared.op.PolOp.TheVariants.{Push, Axiom, Add, Mul, Div, Saturate, Weaken}
use Rattle.pb_steps.specs.declared.step.Step.{Step}
use Rattle.pb_steps.specs.declared.step.Step.TheVariants.{Blank, Head, Loaded, Pol, Rup, Red, Del, Out, End}
use Rattle.pb_steps.specs.Sayable.{IsSayable}

-- what a word stands for: itself, a number of digits alone, an integer, a literal, a variable, or a literal whose sign does not matter
pub data StepSymbol : Type 0 where
  key : List ℕ → StepSymbol
  number : ℕ → StepSymbol
  factor : ℤ → StepSymbol
  integer : ℤ → StepSymbol
  coefficient : ℤ → StepSymbol
  literal : Lit → StepSymbol
  variable : ℕ → StepSymbol
  weakened : ℕ → StepSymbol

abbrev pub op_symbols : PolOp → List StepSymbol
op_symbols (Push id) = number id ∷ []
op_symbols (Axiom l) = literal l ∷ []
op_symbols Add = key (codes "+") ∷ []
op_symbols (Mul n) = factor n ∷ key (codes "*") ∷ []
op_symbols (Div n) = factor n ∷ key (codes "d") ∷ []
op_symbols Saturate = key (codes "s") ∷ []
op_symbols (Weaken v) = weakened v ∷ key (codes "w") ∷ []

abbrev pub term_symbols : Term → List StepSymbol
term_symbols t = coefficient t.coef ∷ literal t.lit ∷ []

abbrev pub bit_word : Bool → List ℕ
bit_word value = if value then codes "1" else codes "0"

abbrev pub set_symbols : Set → List StepSymbol
set_symbols s = variable s.var ∷ key (codes "->") ∷ key (bit_word s.value) ∷ []

-- a constraint, and what follows its `;`
abbrev pub constraint_symbols : List Term → ℤ → List StepSymbol → List StepSymbol
constraint_symbols ts right rest = flat_map term_symbols ts ++ key (codes ">=") ∷ integer right ∷ key (codes ";") ∷ rest

abbrev pub step_symbols : Step → List StepSymbol
step_symbols Blank = []
step_symbols Head = key (codes "pseudo-Boolean") ∷ key (codes "derivation") ∷ key (codes "profile") ∷ key (codes "1") ∷ []
step_symbols (Loaded n) = key (codes "f") ∷ number n ∷ []
step_symbols (Pol ops) = key (codes "pol") ∷ flat_map op_symbols ops
step_symbols (Rup ts right ids) = key (codes "rup") ∷ constraint_symbols ts right (map number ids)
step_symbols (Red ts right sets) = key (codes "red") ∷ constraint_symbols ts right (flat_map set_symbols sets)
step_symbols (Del ids) = key (codes "del") ∷ map number ids
step_symbols (Out id) = key (codes "out") ∷ number id ∷ []
step_symbols End = key (codes "end") ∷ []

-- the word stands for it
abbrev pub SpellsSymbol : List ℕ → StepSymbol → Type 0
SpellsSymbol w (key k) = w ≡ k
SpellsSymbol w (number n) = natural_of w ≡ Some n
SpellsSymbol w (factor z) = option_map pos (natural_of w) ≡ Some z
SpellsSymbol w (integer z) = integer_of w ≡ Some z
SpellsSymbol w (coefficient z) = integer_of w ≡ Some z
SpellsSymbol w (literal l) = literal_of w ≡ Some l
SpellsSymbol w (variable v) = variable_of true w ≡ Some (record { var = v; positive = true })
SpellsSymbol w (weakened v) = (positive : Bool) × (literal_of w ≡ Some (record { var = v; positive = positive }))

-- the words stand for these, one for one
abbrev pub SpellAll : List (List ℕ) → List StepSymbol → Type 0
SpellAll [] [] = Unit {0}
SpellAll (w ∷ ws) (k ∷ ks) = SpellsSymbol w k × SpellAll ws ks
SpellAll _ _ = ⊥

-- ---- lines

-- the word begins with `*`
abbrev pub begins_with_star : List ℕ → Bool
begins_with_star [] = false
begins_with_star (b ∷ _) = b == 42

-- no words, or a comment
abbrev pub is_blank : List (List ℕ) → Bool
is_blank [] = true
is_blank (w ∷ _) = begins_with_star w

-- words, which say a step: they stand for its words, one for one, and are within the limits
abbrev pub WordsSay : List (List ℕ) → Step → Type 0
WordsSay ws Blank = is_blank ws ≡ true
WordsSay ws s = SpellAll ws (step_symbols s) × IsSayable s

abbrev pub texts : List Chunk → List (List ℕ)
texts ws = map (λ w. w.text) ws

-- the line says the step
abbrev pub SaysStep : List ℕ → Step → Type 0
SaysStep line s = WordsSay (texts (words_of line)) s
