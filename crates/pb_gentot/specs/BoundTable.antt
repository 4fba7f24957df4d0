-- Tables of bounds: along a generalized totalizer with no cut (Joshi, Martins and Manquinho 2015), a literal for each value that a
-- weighted sum can have, whose negation says that the sum is below.
-- A table over no terms has no variable, clause, step or row. If no table is requested its terms are none, so each definition of a
-- problem's clauses, derivation and words is one, without cases; a problem without an objective, or with a constant one, has a table
-- without rows.
use Rattle.std.specs.Prelude.{◌+◌, ◌-◌, ℕ, ℤ, pos, List, [], ◌∷◌, ◌++◌, length, map}
use Rattle.pb_base.specs.declared.literal.Lit.{Lit}
use Rattle.pb_base.specs.Literals.{negated}
use Rattle.pb_norm.specs.Constraints.{Weighted, AllPositive, weight}
use Rattle.pb_norm.specs.BoundedSums.{BoundedSum, IsOverDistinct}
use Rattle.pb_tree.specs.Pairs.{Pair, pair_of}
use Rattle.pb_tree.specs.Tree.{tree_of}
use Rattle.pb_tree.specs.Scheme.{Scheme, values, fresh_of, output, clauses_of, clause_count_of}
use Rattle.pb_gentot.specs.Generalized.{generalized}

-- the terms of a table: each adds something, and each variable stands once
pub record IsTable (ts : List Weighted) : Type 0 where
  pub positive : AllPositive ts
  pub distinct : IsOverDistinct ts

-- no sum of the terms is cut
abbrev pub uncut : List Weighted → Scheme
uncut ts = generalized (weight ts)

-- what the sum can be, beside 0, ascending
abbrev pub table_values : List Weighted → List ℕ
table_values ts = values (uncut ts) (tree_of ts)

-- the literal of a value, which is true where the sum reaches it
abbrev pub table_output : List Weighted → ℕ → ℕ → Lit
table_output ts first u = output (uncut ts) (tree_of ts) first u

-- each two that stand beside one another
abbrev pub neighbours : List ℕ → List Pair
neighbours [] = []
neighbours (u ∷ []) = []
neighbours (u ∷ v ∷ us) = pair_of u v ∷ neighbours (v ∷ us)

-- what reaches the later one reaches the earlier
abbrev pub neighbour_clause : (ℕ → Lit) → Pair → List Lit
neighbour_clause f p = negated (f p.right) ∷ f p.left ∷ []

abbrev pub table_clauses : List Weighted → ℕ → List (List Lit)
table_clauses ts first = clauses_of (uncut ts) (tree_of ts) first ++ map (neighbour_clause (table_output ts first)) (neighbours (table_values ts))

-- how many fresh variables it has
abbrev pub table_fresh : List Weighted → ℕ
table_fresh ts = fresh_of (uncut ts) (tree_of ts)

-- how many clauses
abbrev pub table_size : List Weighted → ℕ
table_size ts = clause_count_of (uncut ts) (tree_of ts) + (length (table_values ts) - 1)

-- the values, each with its literal
abbrev pub table_rows : List Weighted → ℕ → List (ℤ × Lit)
table_rows ts first = map (λ u. (pos u, table_output ts first u)) (table_values ts)

-- the sum is less than a value
abbrev pub below : List Weighted → ℕ → BoundedSum
below ts u = record { terms = ts; bound = u - 1 }
