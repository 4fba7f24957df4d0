-- The text of a solution: the output format of the Pseudo-Boolean Competitions (Roussel and Manquinho).
use Rattle.std.specs.Prelude.{ℕ, ◌+◌, Bool, List, [], ◌∷◌, ◌++◌, Option, Some, None, if◌then◌else◌, codes}
use Rattle.std.specs.Fmt.{signed_decimal}
use Rattle.pb_base.specs.declared.literal.Term.{Term}
use Rattle.pb_base.specs.declared.problem.Problem.{Problem}
use Rattle.pb_base.specs.Literals.{Assignment, assigned_by}
use Rattle.pb_base.specs.Problems.{sum_value, widened}
use Rattle.pb_model.specs.VariableNames.{name_at}

-- the value of the objective, if there is one
abbrev pub objective_line : Assignment → Option (List Term) → List ℕ
objective_line a None = []
objective_line a (Some ts) = codes "o " ++ signed_decimal (sum_value a ts) ++ codes "\n"

-- a variable by its name, and its value, behind a blank
abbrev pub value_word : Problem → ℕ → Bool → List ℕ
value_word p v value = (if value then codes " " else codes " -") ++ name_at p v

-- the values of the variables from one on
abbrev pub value_words : Problem → ℕ → List Bool → List ℕ
value_words p v [] = []
value_words p v (value ∷ values) = value_word p v value ++ value_words p (v + 1) values

abbrev pub values_line : Problem → List Bool → List ℕ
values_line p values = codes "v" ++ value_words p 1 values ++ codes "\n"

-- the value of the objective, if there is one, the line of a status, and the values
abbrev pub text_under : List ℕ → Problem → List Bool → List ℕ
text_under status p values = objective_line (assigned_by (widened p values)) p.objective ++ status ++ values_line p values

abbrev pub solution_text : Problem → List Bool → List ℕ
solution_text = text_under (codes "s SATISFIABLE\n")

abbrev pub optimum_text : Problem → List Bool → List ℕ
optimum_text = text_under (codes "s OPTIMUM FOUND\n")
