-- Worked examples of texts: what they tell beside two variables, or their first fault.
use Rattle.std.specs.Prelude.{◌≡◌, ℕ, Bool, true, false, List, [], ◌∷◌, Some, Ok, Err, Result, refl, codes}
use Rattle.pb_base.specs.declared.expected.Expected.{Expected}
use Rattle.pb_base.specs.declared.expected.Expected.TheVariants.{ModelLine, ModelLiteral, Opposite, ModelZero}
use Rattle.pb_base.specs.declared.limit.LimitKind.TheVariants.{Variables}
use Rattle.pb_model.specs.declared.fault.ModelFault.{ModelFault}
use Rattle.pb_model.specs.declared.fault.ModelFault.TheVariants.{Token, Limit}
use Rattle.pb_model.specs.declared.model.Model.{Model}
use Rattle.pb_model.specs.declared.model.Says.{Says}
use Rattle.pb_model.specs.declared.model.Says.TheVariants.{Satisfiable, Other, Missing}
use Rattle.pb_model.specs.ModelReading.{told}

abbrev tells : Says → List Bool → Result Model ModelFault
tells says values = Ok (record { says = says; values = values })

abbrev faults : ℕ → ℕ → Expected → Result Model ModelFault
faults line column expected = Err (Token (record { line = line; column = column }) expected)

pub a_model : told 2 (codes "s SATISFIABLE\nv 1 -2 0\n") ≡ tells Satisfiable (true ∷ false ∷ [])
a_model = refl

-- blanks and tabs, a comment, values over lines, a sign, the 0 with one, and no LF at the end
pub values_over_lines : told 3 (codes "c by hand\n\tv -2 +3\n\n s\tSATISFIABLE\nv 1 -0") ≡ tells Satisfiable (true ∷ false ∷ true ∷ [])
values_over_lines = refl

-- a variable that is not listed is false; others are passed over, of whatever sign
pub not_listed : told 2 (codes "s SATISFIABLE\nv 9 -9 2 0\n") ≡ tells Satisfiable (false ∷ true ∷ [])
not_listed = refl

pub not_satisfiable : told 1 (codes "s UNSATISFIABLE") ≡ tells Other (false ∷ [])
not_satisfiable = refl

-- one word more
pub another_answer : told 1 (codes "s SATISFIABLE 1") ≡ tells Other (false ∷ [])
another_answer = refl

pub an_empty_text : told 2 [] ≡ tells Missing (false ∷ false ∷ [])
an_empty_text = refl

pub opposite : told 2 (codes "s SATISFIABLE\nv 1 -1 0\n") ≡ faults 2 5 Opposite
opposite = refl

-- at the end of the text, on the line after the last
pub no_zero : told 2 (codes "s SATISFIABLE\nv 1 2") ≡ faults 3 1 ModelZero
no_zero = refl

pub two_status_lines : told 2 (codes "s SATISFIABLE\ns SATISFIABLE\n") ≡ faults 2 1 ModelLine
two_status_lines = refl

pub values_behind_the_zero : told 2 (codes "v 0\nv 1 0\n") ≡ faults 2 1 ModelLine
values_behind_the_zero = refl

pub a_word_behind_the_zero : told 2 (codes "v 1 0 2\n") ≡ faults 1 7 ModelLiteral
a_word_behind_the_zero = refl

pub no_integer : told 2 (codes "v x1 0\n") ≡ faults 1 3 ModelLiteral
no_integer = refl

pub another_line : told 2 (codes "o 3\n") ≡ faults 1 1 ModelLine
another_line = refl

-- a variable past the limit
pub too_great : told 2 (codes "v 2147483648 0\n") ≡ Err (Limit (Some (record { line = 1; column = 3 })) Variables)
too_great = refl
