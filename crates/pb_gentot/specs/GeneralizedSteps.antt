-- How the clauses of a generalized totalizer are derived (our own).
use Rattle.std.specs.Prelude.{ℕ, List, ◌++◌, map}
use Rattle.std.specs.List.{flat_map}
use Rattle.pb_norm.specs.BoundedSums.{BoundedSum}
use Rattle.pb_steps.specs.declared.step.Step.{Step}
use Rattle.pb_tree.specs.Pairs.{Pair, pair_of}
use Rattle.pb_tree.specs.Tree.{tree_of}
use Rattle.pb_tree.specs.TreeSteps.{tree_steps}
use Rattle.pb_gentot.specs.Generalized.{generalized}

-- each value by itself, and each two
abbrev pub generalized_pairs : List ℕ → List ℕ → List Pair
generalized_pairs us vs = map (λ u. pair_of u 0) us ++ (map (pair_of 0) vs ++ flat_map (λ u. map (pair_of u) vs) us)

-- the first fresh variable, the id of the constraint, and the next id
abbrev pub generalized_steps : BoundedSum → ℕ → ℕ → ℕ → List Step
generalized_steps m first id next = tree_steps (generalized m.bound) generalized_pairs (tree_of m.terms) first id next
