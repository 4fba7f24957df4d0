-- Totalizers in both directions (Bailleux and Boufkhad 2003), of literals of which exactly so many are to be true: the outputs of
-- a node say how many of its leaves are true, up to one more than the bound.
-- The two halves of an equality are one pair. Propagation is proved of each half and of both together. If no assignment under the
-- given literals meets both, then one half alone has none, since between one with too few true literals and one with too many there
-- is one with exactly so many; so the terms are not looked at for that. A clause from outputs to parts follows from the reifications
-- read the other way: a false output says how many leaves are false, and the sum of the negated leaves reaches the rest.
use Rattle.std.specs.Prelude.{◌≡◌, ◌+◌, ℕ, List, [], ◌∷◌, ◌++◌, length, map, nat_lt, sum_by, count_by, if◌then◌else◌}
use Rattle.std.specs.List.{filter, flat_map, range_with_len}
use Rattle.pb_base.specs.declared.literal.Lit.{Lit}
use Rattle.pb_base.specs.Literals.{Assignment, negated}
use Rattle.pb_norm.specs.Constraints.{value}
use Rattle.pb_norm.specs.BoundedSums.{BoundedSum}
use Rattle.pb_norm.specs.Reduction.{at_most}
use Rattle.pb_derive.specs.Ones.{ones}
use Rattle.pb_tree.specs.Tree.{Tree, node, tree_of}
use Rattle.pb_tree.specs.Scheme.{values, fresh_of, output, along, count_along, own_of, own_count_of}
use Rattle.pb_totalizer.specs.Totalizer.{totalizer}

-- the literal after an index, which is left out past the last one
abbrev pub unless_last : (ℕ → Lit) → ℕ → ℕ → List Lit
unless_last f a i = if nat_lt i a then f (i + 1) ∷ [] else []

-- where at most i of the left are true and at most j of the right, no more than i + j are
abbrev pub limit_clause : ℕ → ℕ → (ℕ → Lit) → (ℕ → Lit) → (ℕ → Lit) → ℕ → ℕ → List Lit
limit_clause a b f g h i j = unless_last f a i ++ (unless_last g b j ++ negated (h (i + j + 1)) ∷ [])

-- the j from 0 to b whose sum with i is below the number of outputs
abbrev pub limits : ℕ → ℕ → ℕ → List ℕ
limits count b i = filter (λ j. nat_lt (i + j) count) (range_with_len 0 (b + 1))

-- for i from 0 to a, for those j
abbrev pub limit_clauses : ℕ → ℕ → ℕ → (ℕ → Lit) → (ℕ → Lit) → (ℕ → Lit) → List (List Lit)
limit_clauses count a b f g h = flat_map (λ i. map (limit_clause a b f g h i) (limits count b i)) (range_with_len 0 (a + 1))

-- how many such i and j there are
abbrev pub limit_count : ℕ → ℕ → ℕ → ℕ
limit_count count a b = sum_by (λ i. count_by (λ j. nat_lt (i + j) count) (range_with_len 0 (b + 1))) (range_with_len 0 (a + 1))

-- how many outputs a part has
abbrev pub outputs_of : ℕ → Tree → ℕ
outputs_of bound t = length (values (totalizer bound) t)

-- a node's own: from its parts to its outputs, and from the outputs to the parts
abbrev pub limits_of : ℕ → Tree → Tree → ℕ → List (List Lit)
limits_of bound l r first =
    limit_clauses (outputs_of bound (node l r)) (outputs_of bound l) (outputs_of bound r) (output (totalizer bound) l first) (output (totalizer bound) r (first + fresh_of (totalizer bound) l)) (output (totalizer bound) (node l r) first)

abbrev pub exact_own : ℕ → Tree → Tree → ℕ → List (List Lit)
exact_own bound l r first = own_of (totalizer bound) l r first ++ limits_of bound l r first

abbrev pub exact_along : ℕ → Tree → ℕ → List (List Lit)
exact_along bound t first = along (totalizer bound) (exact_own bound) t first

-- how many clauses lead from a node's outputs to its parts, and along a tree
abbrev pub limit_count_of : ℕ → Tree → Tree → ℕ
limit_count_of bound l r = limit_count (outputs_of bound (node l r)) (outputs_of bound l) (outputs_of bound r)

abbrev pub limits_along : ℕ → Tree → ℕ
limits_along bound t = count_along (limit_count_of bound) t

-- ---- of a sum whose coefficients are all 1, which is to be exactly its bound

abbrev pub exact_clauses : BoundedSum → ℕ → List (List Lit)
exact_clauses m first =
    let t = tree_of m.terms in
    let o = output (totalizer m.bound) t first in
    exact_along m.bound t first ++ (o m.bound ∷ []) ∷ (negated (o (m.bound + 1)) ∷ []) ∷ []

-- how many fresh variables it has
abbrev pub exact_fresh : BoundedSum → ℕ
exact_fresh m = fresh_of (totalizer m.bound) (tree_of m.terms)

-- how many clauses, with those of the root
abbrev pub exact_size : BoundedSum → ℕ
exact_size m = count_along (λ l r. own_count_of (totalizer m.bound) l r + limit_count_of m.bound l r) (tree_of m.terms) + 2

-- the other half: the negated terms stay within what is left
abbrev pub at_least : BoundedSum → BoundedSum
at_least m = at_most (record { terms = m.terms; degree = m.bound })

abbrev pub IsExactly : Assignment → BoundedSum → Type 0
IsExactly a m = value a m.terms ≡ m.bound

-- so many of the literals
abbrev pub literals_within : List Lit → ℕ → BoundedSum
literals_within ls bound = record { terms = ones ls; bound = bound }
