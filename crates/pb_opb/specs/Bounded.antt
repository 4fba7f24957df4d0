-- A problem with a bound on its objective, as one more statement behind the others (our own).
use Rattle.std.specs.Prelude.{◌↔◌, ◌+◌, ◌≤ℤ◌, ℕ, Bool, List, [], ◌∷◌, ◌++◌, ℤ}
use Rattle.std.specs.Int.RustNames.{unsigned_abs}
use Rattle.pb_base.specs.declared.literal.Term.{Term}
use Rattle.pb_base.specs.declared.problem.Problem.{Problem}
use Rattle.pb_base.specs.declared.problem.Raw.{Raw}
use Rattle.pb_base.specs.declared.problem.Relation.TheVariants.{AtMost}
use Rattle.pb_base.specs.Literals.{assigned_by}
use Rattle.pb_base.specs.Problems.{IsSolution, magnitude, objective_terms, sum_value, widened}

-- the value of the objective, where the problem's variables have these values
abbrev pub objective_value : Problem → List Bool → ℤ
objective_value p values = sum_value (assigned_by (widened p values)) (objective_terms p)

-- the sum is at most the bound
abbrev pub sum_at_most : List Term → ℤ → Raw
sum_at_most ts bound = record { terms = ts; relation = AtMost; right = bound }

abbrev pub bounded : Problem → ℤ → Problem
bounded p bound = record p { statements = p.statements ++ sum_at_most (objective_terms p) bound ∷ [] }

-- what the absolute values of that statement's numbers add up to
abbrev pub bound_weight : Problem → ℤ → ℕ
bound_weight p bound = magnitude (objective_terms p) + unsigned_abs bound

-- the solutions of the bounded problem are those solutions under which the objective is at most the bound
abbrev pub BoundKeepsSmaller : Type 0
BoundKeepsSmaller = (p : Problem) (bound : ℤ) (values : List Bool) → IsSolution (bounded p bound) values ↔ (IsSolution p values × (objective_value p values ≤ℤ bound))
