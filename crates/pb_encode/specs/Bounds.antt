-- What the rows of a table of bounds say of a problem. Our own.
-- What a row forces is said of assignments, that the objective's sum is below the row's value. The loaded half of that statement
-- holds exactly then, so its normal form would add nothing; and propagation is that over clauses, as `probe` shows it.
use Rattle.std.specs.Prelude.{◌≡◌, ◌≤◌, ◌+ℤ◌, ◌<ℤ◌, ◌↔◌, ℕ, ℤ, pos, Bool, false, List, length, map, take, All, Contains}
use Rattle.pb_base.specs.declared.literal.Lit.{Lit}
use Rattle.pb_base.specs.declared.problem.Problem.{Problem}
use Rattle.pb_base.specs.Literals.{Assignment, assigned_by, lit_value, negated}
use Rattle.pb_base.specs.Problems.{IsSolution, objective_terms, sum_value, widened}
use Rattle.pb_norm.specs.Constraints.{value}
use Rattle.pb_base.specs.declared.options.Options.{Options}
use Rattle.pb_gentot.specs.BoundTable.{table_rows}
use Rattle.pb_gentot.specs.BoundTableLaws.{PropagatesUnder}
use Rattle.pb_gentot.specs.Rising.{Rising}
use Rattle.pb_encode.specs.Clauses.{table_first}
use Rattle.pb_encode.specs.Costs.{objective_form, offset_of}
use Rattle.pb_encode.specs.Models.{IsModelOver}
use Rattle.pb_encode.specs.Tables.{table_terms}

-- the values that the objective may be below, each with its literal: those of the table, from the offset on
abbrev pub bound_rows : Options → Problem → List (ℤ × Lit)
bound_rows o p = map (λ r. (offset_of p +ℤ r.0, r.1)) (table_rows (table_terms o p) (table_first o p))

-- the values of the rows, ascending, are exactly the offset plus each sum of one or more of the objective's costs
pub record AreBounds (p : Problem) (rows : List (ℤ × Lit)) : Type 0 where
  pub sums : List ℕ
  pub values_are : map (λ r. r.0) rows ≡ map (λ u. offset_of p +ℤ pos u) sums
  pub rising : Rising sums
  pub exact : (u : ℕ) → Contains sums u ↔ ((1 ≤ u) × ((a : Assignment) × (value a (objective_form p).terms ≡ u)))

-- the objective's value under values of the problem's variables
abbrev pub objective_under : Problem → List Bool → ℤ
objective_under p values = sum_value (assigned_by (widened p values)) (objective_terms p)

-- The models in which the literal is false, cut to the problem's variables, are exactly the solutions whose objective is below the
-- value. From the literal's negation, unit propagation reaches all that this forces, or a conflict.
pub record IsBound (p : Problem) (vars : ℕ) (clauses : List (List Lit)) (row : ℤ × Lit) : Type 0 where
  pub models : (values : List Bool) → length values ≡ p.vars
      → (IsSolution p values × (objective_under p values <ℤ row.0)) ↔ ((model : List Bool) × IsModelOver vars clauses model × (lit_value (assigned_by model) row.1 ≡ false) × (take p.vars model ≡ values))
  pub propagates : PropagatesUnder clauses (negated row.1) (λ a. sum_value a (objective_terms p) <ℤ row.0)

-- so it is of each row, and no value is left out
pub record TellBounds (p : Problem) (vars : ℕ) (clauses : List (List Lit)) (rows : List (ℤ × Lit)) : Type 0 where
  pub values : AreBounds p rows
  pub each : All (IsBound p vars clauses) rows
