-- The halves of a list of terms (as in Bailleux and Boufkhad 2003), each shorter than the list.
use Rattle.std.specs.Prelude.{◌≡◌, ◌≤◌, ◌+◌, List, length}
use Rattle.pb_base.specs.declared.literal.Term.{Term}
use Rattle.pb_norm.specs.Constraints.{weights}
use Rattle.pb_tree.specs.Tree.{node, tree_of}

-- their trees are the parts of the list's, and each has a term
pub record Halves (ts front back : List Term) : Type 0 where
  pub tree : tree_of (weights ts) ≡ node (tree_of (weights front)) (tree_of (weights back))
  pub front_some : 1 ≤ length front
  pub back_some : 1 ≤ length back
  pub whole : length front + length back ≡ length ts
