-- Generalized totalizers (Joshi, Martins and Manquinho 2015), in one direction: a node has an output for each sum that its
-- leaves can reach, where all sums past the bound count as one more than it.
use Rattle.std.specs.Prelude.{ℕ, ◌+◌, ◌*◌, ◌==◌, List, [], ◌∷◌, ◌++◌, map, min}
use Rattle.std.specs.List.{filter, flat_map, range_with_len, list_any}
use Rattle.pb_base.specs.declared.literal.Lit.{Lit}
use Rattle.pb_base.specs.Literals.{negated}
use Rattle.pb_norm.specs.BoundedSums.{BoundedSum}
use Rattle.pb_tree.specs.Tree.{tree_of}
use Rattle.pb_tree.specs.Scheme.{Scheme, fresh_of, clause_count_of, tree_clauses}
use Rattle.pb_tree.specs.Places.{place_of}

-- all u, v and u + v, cut
abbrev pub sums : ℕ → List ℕ → List ℕ → List ℕ
sums cap us vs = flat_map (λ u. u ∷ map (λ v. min (u + v) cap) vs) us ++ vs

-- the numbers up to the cap that stand in a list, ascending
abbrev pub ascending : ℕ → List ℕ → List ℕ
ascending cap xs = filter (λ n. list_any (λ x. x == n) xs) (range_with_len 0 (cap + 1))

-- a value of a part gives one of the node
abbrev pub one_clause : (ℕ → Lit) → (ℕ → Lit) → ℕ → List Lit
one_clause f h u = negated (f u) ∷ h u ∷ []

-- a value of each part gives their sum
abbrev pub both_clause : ℕ → (ℕ → Lit) → (ℕ → Lit) → (ℕ → Lit) → ℕ → ℕ → List Lit
both_clause cap f g h u v = negated (f u) ∷ negated (g v) ∷ h (min (u + v) cap) ∷ []

abbrev pub value_clauses : ℕ → List ℕ → List ℕ → (ℕ → Lit) → (ℕ → Lit) → (ℕ → Lit) → List (List Lit)
value_clauses cap us vs f g h =
    map (one_clause f h) us ++ (map (one_clause g h) vs ++ flat_map (λ u. map (both_clause cap f g h u) vs) us)

abbrev pub generalized : ℕ → Scheme
generalized bound = record {
  cap = bound + 1;
  weight = λ t. t.coef;
  joined = λ us vs. ascending (bound + 1) (sums (bound + 1) us vs);
  place = place_of;
  merged = value_clauses (bound + 1);
  merged_count = λ a b. a * b + a + b;
}

-- ---- of a bounded sum

abbrev pub generalized_clauses : BoundedSum → ℕ → List (List Lit)
generalized_clauses m first = tree_clauses (generalized m.bound) (tree_of m.terms) first

-- how many fresh variables it has
abbrev pub generalized_fresh : BoundedSum → ℕ
generalized_fresh m = fresh_of (generalized m.bound) (tree_of m.terms)

-- how many clauses, with that of the root
abbrev pub generalized_size : BoundedSum → ℕ
generalized_size m = clause_count_of (generalized m.bound) (tree_of m.terms) + 1
