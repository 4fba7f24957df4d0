-- How the clauses along a tree are derived: an output means that its leaves reach its value (our own).
use Rattle.std.specs.Prelude.{ℕ, zero, suc, ◌+◌, ◌*◌, List, [], ◌∷◌, ◌++◌, map, min}
use Rattle.pb_base.specs.declared.literal.Term.{Term}
use Rattle.pb_base.specs.Literals.{negated}
use Rattle.pb_norm.specs.Constraints.{Weighted, weights}
use Rattle.pb_norm.specs.BoundedSums.{vars_of}
use Rattle.pb_steps.specs.declared.step.Step.{Step}
use Rattle.pb_derive.specs.Reifications.{Reification}
use Rattle.pb_derive.specs.Phases.{phases}
use Rattle.pb_derive.specs.Justifications.{Justification, by_justification}
use Rattle.pb_tree.specs.Pairs.{Pair, pair_clause}
use Rattle.pb_tree.specs.Scheme.{Scheme, values, fresh_of, output, along}
use Rattle.pb_tree.specs.Tree.{Tree, empty, leaf, node, tree_of}

abbrev pub leaves : Tree → List Weighted
leaves empty = []
leaves (leaf t) = t ∷ []
leaves (node l r) = leaves l ++ leaves r

-- ---- what the fresh variables mean

-- variables in a row, from a number on, each for a value of a sum
abbrev pub reifications_from : ℕ → List Weighted → List ℕ → List Reification
reifications_from var ts [] = []
reifications_from var ts (u ∷ us) = record { var = var; sum = ts; least = u } ∷ reifications_from (var + 1) ts us

-- a node's own
abbrev pub own_reifications : Scheme → Tree → Tree → ℕ → List Reification
own_reifications s l r first = reifications_from (first + fresh_of s l + fresh_of s r) (leaves (node l r)) (values s (node l r))

-- in the order of the numbers
abbrev pub reifications : Scheme → Tree → ℕ → List Reification
reifications s t first = along s (own_reifications s) t first

-- ---- why the clauses hold

-- Where an output's two constraints have their ids, if the first fresh variable's have `id` and `id + 1`: a leaf has none.
abbrev pub output_ids : Scheme → Tree → ℕ → ℕ → List ℕ
output_ids s empty id u = []
output_ids s (leaf t) id u = []
output_ids s (node l r) id u = (id + 2 * (fresh_of s l + fresh_of s r + s.place u (values s (node l r)))) ∷ []

-- the first constraint of a part's value
abbrev pub part_ids : Scheme → Tree → ℕ → ℕ → List ℕ
part_ids s t id zero = []
part_ids s t id (suc u) = output_ids s t id (suc u)

-- where a part has no value in the clause, all its leaves are weakened away
abbrev pub part_weakened : Tree → ℕ → List ℕ
part_weakened t zero = vars_of (leaves t)
part_weakened t (suc u) = []

-- the first constraints of the parts' values, and the second one of the node's
abbrev pub pair_justification : Scheme → Tree → Tree → ℕ → ℕ → Pair → Justification
pair_justification s l r first id p = record {
  clause = pair_clause s.cap (output s l first) (output s r (first + fresh_of s l)) (output s (node l r) first) p;
  ids = part_ids s l id p.left
      ++ (part_ids s r (id + 2 * fresh_of s l) p.right
      ++ map (λ i. i + 1) (output_ids s (node l r) id (min (p.left + p.right) s.cap)));
  weakened = part_weakened l p.left ++ part_weakened r p.right;
}

-- Justifications along a tree: of the left part, of the right part, and then a node's own, which go by its two parts, the first fresh
-- variable and the id of its first constraint.
abbrev pub justifications_along : Scheme → (Tree → Tree → ℕ → ℕ → List Justification) → Tree → ℕ → ℕ → List Justification
justifications_along s own empty first id = []
justifications_along s own (leaf t) first id = []
justifications_along s own (node l r) first id =
    justifications_along s own l first id ++ (justifications_along s own r (first + fresh_of s l) (id + 2 * fresh_of s l) ++ own l r first id)

-- a node's own by the pairs of values that have a clause
abbrev pub pair_justifications : Scheme → (List ℕ → List ℕ → List Pair) → Tree → Tree → ℕ → ℕ → List Justification
pair_justifications s pairs l r first id = map (pair_justification s l r first id) (pairs (values s l) (values s r))

abbrev pub justifications : Scheme → (List ℕ → List ℕ → List Pair) → Tree → ℕ → ℕ → List Justification
justifications s pairs t first id = justifications_along s (pair_justifications s pairs) t first id

-- of the whole tree, where the sum's own constraint has the id `own`
abbrev pub root_justification : Scheme → Tree → ℕ → ℕ → ℕ → Justification
root_justification s t first id own = record {
  clause = negated (output s t first s.cap) ∷ [];
  ids = output_ids s t id s.cap ++ own ∷ [];
  weakened = [];
}

abbrev pub tree_justifications : Scheme → (List ℕ → List ℕ → List Pair) → Tree → ℕ → ℕ → ℕ → List Justification
tree_justifications s pairs t first id own = justifications s pairs t first id ++ root_justification s t first id own ∷ []

-- from the next id on
abbrev pub tree_steps : Scheme → (List ℕ → List ℕ → List Pair) → Tree → ℕ → ℕ → ℕ → List Step
tree_steps s pairs t first own next = phases next (reifications s t first) (map by_justification (tree_justifications s pairs t first next own))

-- of some terms, where the clauses follow in any way
abbrev pub steps_along : Scheme → List Term → ℕ → (ℕ → List Justification) → ℕ → List Step
steps_along s ts first given next = phases next (reifications s (tree_of (weights ts)) first) (map by_justification (given next))
