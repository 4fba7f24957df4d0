-- Worked examples of tables of bounds.
use Rattle.std.specs.Prelude.{◌≡◌, pos, List, [], ◌∷◌, length, refl}
use Rattle.pb_norm.specs.Constraints.{Weighted}
use Rattle.pb_tree.specs.Tree.{split_within}
use Rattle.pb_gentot.specs.BoundTable.{table_values, table_clauses, table_rows, table_fresh, table_size}
use Rattle.pb_gentot.specs.BoundTableSteps.{table_steps}
use Rattle.pb_gentot.specs.examples.Examples.{x, not_x, weighing}

-- 3x1 + 1x2
abbrev three_and_one : List Weighted
three_and_one = weighing 1 (3 ∷ 1 ∷ [])

pub three_and_one_clauses : table_clauses three_and_one 3
    ≡ ((not_x 1 ∷ x 4 ∷ [])
    ∷ (not_x 2 ∷ x 3 ∷ [])
    ∷ (not_x 1 ∷ not_x 2 ∷ x 5 ∷ [])
    ∷ (not_x 4 ∷ x 3 ∷ [])
    ∷ (not_x 5 ∷ x 4 ∷ [])
    ∷ [])
unfolding split_within
three_and_one_clauses = refl

pub three_and_one_rows : table_rows three_and_one 3 ≡ ((pos 1, x 3) ∷ (pos 3, x 4) ∷ (pos 4, x 5) ∷ [])
unfolding split_within
three_and_one_rows = refl

pub three_and_one_counts : (table_fresh three_and_one ≡ 3) × (table_size three_and_one ≡ 5)
unfolding split_within
three_and_one_counts = (refl, refl)

-- 2x1 + 1x2 + 1x3, where two sums are one
abbrev two_and_ones : List Weighted
two_and_ones = weighing 1 (2 ∷ 1 ∷ 1 ∷ [])

pub two_and_ones_clauses : table_clauses two_and_ones 4
    ≡ ((not_x 2 ∷ x 4 ∷ [])
    ∷ (not_x 3 ∷ x 4 ∷ [])
    ∷ (not_x 2 ∷ not_x 3 ∷ x 5 ∷ [])
    ∷ (not_x 1 ∷ x 7 ∷ [])
    ∷ (not_x 4 ∷ x 6 ∷ [])
    ∷ (not_x 5 ∷ x 7 ∷ [])
    ∷ (not_x 1 ∷ not_x 4 ∷ x 8 ∷ [])
    ∷ (not_x 1 ∷ not_x 5 ∷ x 9 ∷ [])
    ∷ (not_x 7 ∷ x 6 ∷ [])
    ∷ (not_x 8 ∷ x 7 ∷ [])
    ∷ (not_x 9 ∷ x 8 ∷ [])
    ∷ [])
unfolding split_within
two_and_ones_clauses = refl

pub two_and_ones_rows : table_rows two_and_ones 4 ≡ ((pos 1, x 6) ∷ (pos 2, x 7) ∷ (pos 3, x 8) ∷ (pos 4, x 9) ∷ [])
unfolding split_within
two_and_ones_rows = refl

pub two_and_ones_counts : (table_fresh two_and_ones ≡ 6) × (table_size two_and_ones ≡ 11)
unfolding split_within
two_and_ones_counts = (refl, refl)

-- three lines for each fresh variable, and two for each clause
pub two_and_ones_lines : length (table_steps two_and_ones 4 1) ≡ 40
unfolding split_within
two_and_ones_lines = refl

-- sums that no term has by itself
pub wide_values : table_values (weighing 1 (7 ∷ 5 ∷ 3 ∷ [])) ≡ (3 ∷ 5 ∷ 7 ∷ 8 ∷ 10 ∷ 12 ∷ 15 ∷ [])
unfolding split_within
wide_values = refl

-- a single term is its own output
pub one_term : (table_clauses (weighing 1 (6 ∷ [])) 2 ≡ []) × (table_rows (weighing 1 (6 ∷ [])) 2 ≡ ((pos 6, x 1) ∷ []))
unfolding split_within
one_term = (refl, refl)

-- no term gives no row
pub no_term : (table_clauses [] 1 ≡ []) × (table_rows [] 1 ≡ [])
unfolding split_within
no_term = (refl, refl)
