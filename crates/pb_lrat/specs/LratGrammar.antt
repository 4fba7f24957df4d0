-- How LRAT lines are spelled: each is a list of words, by what they stand for (LRAT: Cruz-Filipe, Heule, Hunt, Kaufmann and Schneider-Kamp 2017).
use Rattle.std.specs.Prelude.{◌≡◌, ℕ, false, List, [], ◌∷◌, ◌++◌, map, codes}
use Rattle.std.specs.List.{AllByRecursion}
use Rattle.pb_base.specs.declared.literal.Lit.{Lit}
use Rattle.pb_base.specs.Words.{words_of}
use Rattle.pb_dimacs.specs.CnfReading.{clause_numbers, is_said, IsLitWithin}
use Rattle.pb_steps.specs.Sayable.{IsId}
use Rattle.pb_steps.specs.StepGrammar.{StepSymbol, SpellAll, texts}
use Rattle.pb_steps.specs.StepGrammar.StepSymbol.{key, number, integer}
use Rattle.pb_lrat.specs.declared.said.Said.{Said}
use Rattle.pb_lrat.specs.declared.said.Said.TheVariants.{Nothing, Adds, Deletes}

-- ids, and the 0 that ends them
abbrev pub id_symbols : List ℕ → List StepSymbol
id_symbols ids = map number ids ++ number 0 ∷ []

-- the id of a clause, its literals and their 0, and its hints
abbrev pub addition_symbols : ℕ → List Lit → List ℕ → List StepSymbol
addition_symbols id ls hints = number id ∷ map integer (clause_numbers ls) ++ id_symbols hints

-- an id, which may be any, `d`, and the ids of the clauses that go
abbrev pub deletion_symbols : ℕ → List ℕ → List StepSymbol
deletion_symbols id ids = number id ∷ key (codes "d") ∷ id_symbols ids

-- words, which tell of a line over so many variables what is said: they are none, or a comment; or they stand for its words, one for one, and are within the limits
abbrev pub WordsTell : ℕ → List (List ℕ) → Said → Type 0
WordsTell vars ws Nothing = is_said ws ≡ false
WordsTell vars ws (Adds id ls hints) = SpellAll ws (addition_symbols id ls hints) × IsId id × AllByRecursion (IsLitWithin vars) ls × AllByRecursion IsId hints
WordsTell vars ws (Deletes ids) = (id : ℕ) × SpellAll ws (deletion_symbols id ids) × IsId id × AllByRecursion IsId ids

-- the line says it
abbrev pub LineTells : ℕ → List ℕ → Said → Type 0
LineTells vars line said = WordsTell vars (texts (words_of line)) said
