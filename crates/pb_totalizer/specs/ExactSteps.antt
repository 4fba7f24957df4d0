-- How the clauses of an exact sum are derived (our own).
use Rattle.std.specs.List.{flat_map, range_with_len}
use Rattle.std.specs.Prelude.{ℕ, ◌+◌, ◌*◌, List, [], ◌∷◌, ◌++◌, map, nat_lt, if◌then◌else◌}
use Rattle.pb_norm.specs.BoundedSums.{BoundedSum, vars_of}
use Rattle.pb_steps.specs.declared.step.Step.{Step}
use Rattle.pb_derive.specs.Phases.{phases}
use Rattle.pb_derive.specs.Justifications.{Justification, by_justification}
use Rattle.pb_tree.specs.Pairs.{Pair, pair_of}
use Rattle.pb_tree.specs.Tree.{Tree, node, tree_of}
use Rattle.pb_tree.specs.TreeSteps.{leaves, reifications, output_ids, pair_justifications, justifications_along, root_justification}
use Rattle.pb_tree.specs.Scheme.{fresh_of, output}
use Rattle.pb_totalizer.specs.Exact.{outputs_of, limits, limit_clause}
use Rattle.pb_totalizer.specs.Totalizer.{totalizer}
use Rattle.pb_totalizer.specs.OutputSteps.{totalizer_pairs}

-- the second constraint of the output after an index; past the last one all leaves are weakened away
abbrev pub after_ids : ℕ → Tree → ℕ → ℕ → List ℕ
after_ids bound t id i = if nat_lt i (outputs_of bound t) then map (λ k. k + 1) (output_ids (totalizer bound) t id (i + 1)) else []

abbrev pub after_weakened : ℕ → Tree → ℕ → List ℕ
after_weakened bound t i = if nat_lt i (outputs_of bound t) then [] else vars_of (leaves t)

-- the second constraints of the parts' outputs, and the first one of the node's
abbrev pub limit_justification : ℕ → Tree → Tree → ℕ → ℕ → Pair → Justification
limit_justification bound l r first id p = record {
  clause = limit_clause (outputs_of bound l) (outputs_of bound r) (output (totalizer bound) l first) (output (totalizer bound) r (first + fresh_of (totalizer bound) l))
      (output (totalizer bound) (node l r) first) p.left p.right;
  ids = after_ids bound l id p.left
      ++ (after_ids bound r (id + 2 * fresh_of (totalizer bound) l) p.right
      ++ output_ids (totalizer bound) (node l r) id (p.left + p.right + 1));
  weakened = after_weakened bound l p.left ++ after_weakened bound r p.right;
}

abbrev pub limit_pairs : ℕ → ℕ → ℕ → List Pair
limit_pairs count a b = flat_map (λ i. map (pair_of i) (limits count b i)) (range_with_len 0 (a + 1))

abbrev pub limit_justifications : ℕ → Tree → Tree → ℕ → ℕ → List Justification
limit_justifications bound l r first id = map (limit_justification bound l r first id) (limit_pairs (outputs_of bound (node l r)) (outputs_of bound l) (outputs_of bound r))

-- a node's own, in the order of its clauses
abbrev pub own_justifications : ℕ → Tree → Tree → ℕ → ℕ → List Justification
own_justifications bound l r first id =
    pair_justifications (totalizer bound) (totalizer_pairs (bound + 1)) l r first id
    ++ limit_justifications bound l r first id

-- the output of the bound, by the sum's constraint from below
abbrev pub least_justification : ℕ → Tree → ℕ → ℕ → ℕ → Justification
least_justification bound t first id lower = record {
  clause = output (totalizer bound) t first bound ∷ [];
  ids = map (λ k. k + 1) (output_ids (totalizer bound) t id bound) ++ lower ∷ [];
  weakened = [];
}

-- of the whole, where the sum's two constraints have the ids `lower` and `upper`
abbrev pub exact_justifications : BoundedSum → ℕ → ℕ → ℕ → ℕ → List Justification
exact_justifications m first id lower upper =
    let t = tree_of m.terms in
    justifications_along (totalizer m.bound) (own_justifications m.bound) t first id
    ++ least_justification m.bound t first id lower ∷ root_justification (totalizer m.bound) t first id upper ∷ []

-- the first fresh variable, the ids of the sum's two constraints, and the next id
abbrev pub exact_steps : BoundedSum → ℕ → ℕ → ℕ → ℕ → List Step
exact_steps m first lower upper next = phases next (reifications (totalizer m.bound) (tree_of m.terms) first) (map by_justification (exact_justifications m first next lower upper))
