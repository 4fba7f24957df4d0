-- What unit propagation makes of the outputs of an exact sum (our own).
use Rattle.std.specs.Prelude.{◌≤◌, ◌<◌, ◌⊎◌, ℕ, List, cond}
use Rattle.pb_base.specs.declared.literal.Lit.{Lit}
use Rattle.pb_base.specs.Literals.{negated, is_among}
use Rattle.pb_norm.specs.BoundedSums.{BoundedSum}
use Rattle.pb_norm.specs.ClausePropagation.{ClausesReach, ClauseConflict}
use Rattle.pb_tree.specs.Tree.{Tree, tree_of, leaf_sum}
use Rattle.pb_tree.specs.Scheme.{output, IsPartAt}
use Rattle.pb_totalizer.specs.Exact.{outputs_of}
use Rattle.pb_totalizer.specs.Totalizer.{totalizer}

-- how many leaves of a part are given as true, and how many are not given as false
abbrev pub true_leaves : List Lit → Tree → ℕ
true_leaves given t = leaf_sum (λ u. cond (is_among given u.lit) 1 0) t

abbrev pub open_leaves : List Lit → Tree → ℕ
open_leaves given t = leaf_sum (λ u. cond (is_among given (negated u.lit)) 0 1) t

-- over clauses, from what is given each output of each part is reached, either way, where the part's leaves decide it, or there is a conflict
pub record ReachesOutputs (clauses : List (List Lit)) (m : BoundedSum) (first : ℕ) : Type 0 where
  pub most : (given : List Lit) (part : Tree) (at j : ℕ) → IsPartAt (totalizer m.bound) (tree_of m.terms) first part at → 1 ≤ j → j ≤ outputs_of m.bound part → j ≤ true_leaves given part
      → ClausesReach clauses given (output (totalizer m.bound) part at j) ⊎ ClauseConflict clauses given
  pub least : (given : List Lit) (part : Tree) (at j : ℕ) → IsPartAt (totalizer m.bound) (tree_of m.terms) first part at → 1 ≤ j → j ≤ outputs_of m.bound part → open_leaves given part < j
      → ClausesReach clauses given (negated (output (totalizer m.bound) part at j)) ⊎ ClauseConflict clauses given
