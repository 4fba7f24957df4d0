-- A generalized totalizer is lawful.
use Rattle.std.proofs.Common.{◌≡◌, ◌<◌, ◌≤◌, ◌+◌, ◌*◌, ◌⊎◌, ◌++◌, ◌==◌, ℕ, true, List, [], ◌∷◌, length, min, refl, sym, subst, arith, inl, inr, length-append}
use Rattle.std.specs.Prelude.{Contains, map}
use Rattle.std.specs.List.{flat_map, range_with_len, list_any}
use Rattle.std.proofs.lemmas.Bool.{eq-eqb, eqb-true, or_cases, or_left, or_right}
use Rattle.std.proofs.lemmas.List.{length-map}
use Rattle.std.proofs.lemmas.List.Elements.{All-contains, Contains-append_left, Contains-append_right, Contains-append_cases}
use Rattle.pb_base.specs.declared.literal.Lit.{Lit}
use Rattle.pb_base.specs.Literals.{Assignment, IsModel, AgreeBelow}
use Rattle.pb_norm.specs.BoundedSums.{BoundedSum, StaysWithin, IsProper}
use Rattle.pb_norm.specs.ClausePropagation.{ClausesPropagate}
use Rattle.pb_base.proofs.Members.{Contains-nil, Contains-here, Contains-there, Contains-cons_cases, Contains-map}
use Rattle.pb_family.specs.Families.{VarsBelow, NamesOnly}
use Rattle.pb_family.proofs.Filters.{Contains-filter, Contains-filter_cases}
use Rattle.pb_tree.specs.Tree.{Tree, empty, leaf, node, tree_of}
use Rattle.pb_tree.specs.Scheme.{values}
use Rattle.pb_tree.proofs.Sums.{OfLeft, OfBoth, IsLawful}
use Rattle.pb_tree.proofs.Lists.{Contains-map_cases, Contains-flat_map, Contains-flat_map_cases, Contains-range, Contains-range_cases}
use Rattle.pb_tree.proofs.Places.{place_within, at_place}
use Rattle.pb_tree.proofs.Laws.{Suits, cap_value, tree_propagates, tree_sound, tree_extends, tree_names, tree_counts}
use Rattle.pb_gentot.specs.Generalized.{sums, ascending, one_clause, both_clause, value_clauses, generalized, generalized_clauses, generalized_fresh, generalized_size}

-- ---- what an ascending list has

any_equal : (xs : List ℕ) (n : ℕ) → Contains xs n → list_any (λ x. x == n) xs ≡ true
any_equal [] n h = absurd (Contains-nil n h)
any_equal (x ∷ xs) n h =
    elim (Contains-cons_cases x xs n h) as (λ _. list_any (λ x. x == n) (x ∷ xs) ≡ true) [
      | inl same ↦ or_left (x == n) (list_any (λ x. x == n) xs) (eq-eqb x n same)
      | inr rest ↦ or_right (x == n) (list_any (λ x. x == n) xs) (any_equal xs n rest)
    ]

from_any_equal : (xs : List ℕ) (n : ℕ) → list_any (λ x. x == n) xs ≡ true → Contains xs n
from_any_equal [] n h = absurd (cc)
from_any_equal (x ∷ xs) n h =
    elim (or_cases (x == n) (list_any (λ x. x == n) xs) h) as (λ _. Contains (x ∷ xs) n) [
      | inl here ↦ subst (λ (k : ℕ). Contains (x ∷ xs) k) (eqb-true x n here) (Contains-here x xs)
      | inr rest ↦ Contains-there x xs n (from_any_equal xs n rest)
    ]

pub ascending_has : (cap : ℕ) (xs : List ℕ) (n : ℕ) → Contains xs n → n ≤ cap → Contains (ascending cap xs) n
ascending_has cap xs n h le =
    Contains-filter (λ n. list_any (λ x. x == n) xs) (range_with_len 0 (cap + 1)) n (Contains-range 0 (cap + 1) n (omega arith) (omega arith)) (any_equal xs n h)

pub ascending_cases : (cap : ℕ) (xs : List ℕ) (n : ℕ) → Contains (ascending cap xs) n → Contains xs n × (n ≤ cap)
ascending_cases cap xs n h =
    let kept = Contains-filter_cases (λ n. list_any (λ x. x == n) xs) (range_with_len 0 (cap + 1)) n h in
    let range = Contains-range_cases 0 (cap + 1) n kept.0 in
    (from_any_equal xs n kept.1, omega arith)

-- ---- what the sums have

pub sums_left : (cap : ℕ) (us vs : List ℕ) (u : ℕ) → Contains us u → Contains (sums cap us vs) u
sums_left cap us vs u h =
    Contains-append_left (flat_map (λ u. u ∷ map (λ v. min (u + v) cap) vs) us) vs u
    (Contains-flat_map (λ u. u ∷ map (λ v. min (u + v) cap) vs) us u u h (Contains-here u (map (λ v. min (u + v) cap) vs)))

pub sums_right : (cap : ℕ) (us vs : List ℕ) (v : ℕ) → Contains vs v → Contains (sums cap us vs) v
sums_right cap us vs v h = Contains-append_right (flat_map (λ u. u ∷ map (λ v. min (u + v) cap) vs) us) vs v h

pub sums_both : (cap : ℕ) (us vs : List ℕ) (u v : ℕ) → Contains us u → Contains vs v → Contains (sums cap us vs) (min (u + v) cap)
sums_both cap us vs u v h k =
    Contains-append_left (flat_map (λ u. u ∷ map (λ v. min (u + v) cap) vs) us) vs (min (u + v) cap)
    (Contains-flat_map (λ u. u ∷ map (λ v. min (u + v) cap) vs) us u (min (u + v) cap) h
    (Contains-there u (map (λ v. min (u + v) cap) vs) (min (u + v) cap) (Contains-map (λ v. min (u + v) cap) vs v k)))

pub values_within : (bound : ℕ) (t : Tree) (u : ℕ) → Contains (values (generalized bound) t) u → u ≤ bound + 1
values_within bound empty u h = absurd (Contains-nil u h)
values_within bound (leaf t) u h =
    elim (Contains-cons_cases (min t.coef (bound + 1)) [] u h) as (λ _. u ≤ bound + 1) [ inl same ↦ omega arith | inr none ↦ absurd (Contains-nil u none) ]
values_within bound (node l r) u h = (ascending_cases (bound + 1) (sums (bound + 1) (values (generalized bound) l) (values (generalized bound) r)) u h).1

pub left_value : (bound : ℕ) (l r : Tree) (u : ℕ) → Contains (values (generalized bound) l) u → Contains (values (generalized bound) (node l r)) u
left_value bound l r u h =
    let s = generalized bound in
    ascending_has (bound + 1) (sums (bound + 1) (values s l) (values s r)) u (sums_left (bound + 1) (values s l) (values s r) u h) (values_within bound l u h)

pub right_value : (bound : ℕ) (l r : Tree) (v : ℕ) → Contains (values (generalized bound) r) v → Contains (values (generalized bound) (node l r)) v
right_value bound l r v h =
    let s = generalized bound in
    ascending_has (bound + 1) (sums (bound + 1) (values s l) (values s r)) v (sums_right (bound + 1) (values s l) (values s r) v h) (values_within bound r v h)

pub both_value : (bound : ℕ) (l r : Tree) (u v : ℕ) → Contains (values (generalized bound) l) u → Contains (values (generalized bound) r) v → Contains (values (generalized bound) (node l r)) (min (u + v) (bound + 1))
both_value bound l r u v h k =
    let s = generalized bound in
    ascending_has (bound + 1) (sums (bound + 1) (values s l) (values s r)) (min (u + v) (bound + 1)) (sums_both (bound + 1) (values s l) (values s r) u v h k) (omega arith)

-- ---- the clauses

value_clause_cases : (bound : ℕ) (l r : Tree) (f g h : ℕ → Lit) (c : List Lit)
    → Contains (value_clauses (bound + 1) (values (generalized bound) l) (values (generalized bound) r) f g h) c
    → OfLeft (generalized bound) l f h c ⊎ OfLeft (generalized bound) r g h c ⊎ OfBoth (generalized bound) l r f g h c
value_clause_cases bound l r f g h c listed =
    let s = generalized bound in
    let us = values s l in
    let vs = values s r in
    let Goal : Type 0 = OfLeft s l f h c ⊎ OfLeft s r g h c ⊎ OfBoth s l r f g h c in
    let pairs = flat_map (λ u. map (both_clause (bound + 1) f g h u) vs) us in
    elim (Contains-append_cases (map (one_clause f h) us) (map (one_clause g h) vs ++ pairs) c listed) as (λ _. Goal) [
      | inl left ↦ let found = Contains-map_cases (one_clause f h) us c left in inl (found.0, found.1, sym found.2)
      | inr rest ↦ elim (Contains-append_cases (map (one_clause g h) vs) pairs c rest) as (λ _. Goal) [
        | inl right ↦ let found = Contains-map_cases (one_clause g h) vs c right in inr (inl (found.0, found.1, sym found.2))
        | inr both ↦
            let row = Contains-flat_map_cases (λ u. map (both_clause (bound + 1) f g h u) vs) us c both in
            let found = Contains-map_cases (both_clause (bound + 1) f g h row.0) vs c row.2 in
            inr (inr (row.0, found.0, row.1, found.1, both_value bound l r row.0 found.0 row.1 found.1, sym found.2))
      ]
    ]

rows_length : (cap : ℕ) (f g h : ℕ → Lit) (vs us : List ℕ) → length (flat_map (λ u. map (both_clause cap f g h u) vs) us) ≡ length us * length vs
rows_length cap f g h vs [] = omega arith
rows_length cap f g h vs (u ∷ us) =
    let row = map (both_clause cap f g h u) vs in
    let rest = flat_map (λ u. map (both_clause cap f g h u) vs) us in
    omega (arith, length-append row rest, length-map vs (both_clause cap f g h u), rows_length cap f g h vs us)

value_clauses_length : (cap : ℕ) (us vs : List ℕ) (f g h : ℕ → Lit) → length (value_clauses cap us vs f g h) ≡ length us * length vs + length us + length vs
value_clauses_length cap us vs f g h =
    let pairs = flat_map (λ u. map (both_clause cap f g h u) vs) us in
    omega (
      arith,
      length-append (map (one_clause f h) us) (map (one_clause g h) vs ++ pairs),
      length-append (map (one_clause g h) vs) pairs,
      length-map us (one_clause f h),
      length-map vs (one_clause g h),
      rows_length cap f g h vs us,
    )

-- no sum is left out
abbrev pub Always : ℕ → Type 0
Always n = Unit {0}

pub generalized_lawful : (bound : ℕ) → IsLawful (generalized bound) Always
generalized_lawful bound =
    let s = generalized bound in
    record {
      within_parts = λ a b h. (tt, tt);
      within_capped = λ a b h. tt;
      within_cap = λ p t x le reach. (x, tt, le, reach);
      within_cap_with = λ p t u x le reach. (x, tt, le, reach);
      left_value = left_value bound;
      right_value = right_value bound;
      both_value = λ l r u v h k within. both_value bound l r u v h k;
      place_within = λ l r u h. place_within u (values s (node l r)) h;
      at_place = λ l r u h. at_place u (values s (node l r)) 0 h;
      left_clause = λ l r f g h u here.
          let us = values s l in
          let vs = values s r in
          Contains-append_left (map (one_clause f h) us) (map (one_clause g h) vs ++ flat_map (λ u. map (both_clause (bound + 1) f g h u) vs) us) (one_clause f h u)
          (Contains-map (one_clause f h) us u here);
      right_clause = λ l r f g h v here.
          let us = values s l in
          let vs = values s r in
          let pairs = flat_map (λ u. map (both_clause (bound + 1) f g h u) vs) us in
          Contains-append_right (map (one_clause f h) us) (map (one_clause g h) vs ++ pairs) (one_clause g h v)
          (Contains-append_left (map (one_clause g h) vs) pairs (one_clause g h v) (Contains-map (one_clause g h) vs v here));
      both_clause = λ l r f g h u v here also within.
          let us = values s l in
          let vs = values s r in
          let pairs = flat_map (λ u. map (both_clause (bound + 1) f g h u) vs) us in
          Contains-append_right (map (one_clause f h) us) (map (one_clause g h) vs ++ pairs) (both_clause (bound + 1) f g h u v)
          (Contains-append_right (map (one_clause g h) vs) pairs (both_clause (bound + 1) f g h u v)
          (Contains-flat_map (λ u. map (both_clause (bound + 1) f g h u) vs) us u (both_clause (bound + 1) f g h u v) here (Contains-map (both_clause (bound + 1) f g h u) vs v also)));
      each_clause = value_clause_cases bound;
      counted = λ l r f g h. value_clauses_length (bound + 1) (values s l) (values s r) f g h;
    }

-- ---- what a sum has to be, and the laws

pub generalized_suits : (m : BoundedSum) → IsProper m → Suits (generalized m.bound) m
generalized_suits m proper = record {
  cut = refl;
  weights = λ t h. refl;
  distinct = proper.distinct;
  positive = λ t h. All-contains (λ u. 0 < u.coef) m.terms t proper.positive h;
  passes = proper.heavy;
}

pub generalized_sound : (m : BoundedSum) → IsProper m → (first : ℕ) (a : Assignment) → IsModel a (generalized_clauses m first) → StaysWithin a m
generalized_sound m proper first a model = tree_sound (generalized m.bound) Always (generalized_lawful m.bound) m (generalized_suits m proper) first a model

pub generalized_extends : (m : BoundedSum) → IsProper m → (first : ℕ) → VarsBelow first m.terms → (a : Assignment) → StaysWithin a m
    → (b : Assignment) × AgreeBelow first a b × IsModel b (generalized_clauses m first)
generalized_extends m proper first below a holds = tree_extends (generalized m.bound) Always (generalized_lawful m.bound) m (generalized_suits m proper) first below a holds

pub generalized_counts : (m : BoundedSum) (first : ℕ) → length (generalized_clauses m first) ≡ generalized_size m
generalized_counts m first = tree_counts (generalized m.bound) Always (generalized_lawful m.bound) (tree_of m.terms) first

pub generalized_names : (m : BoundedSum) → IsProper m → (first : ℕ) → NamesOnly m.terms first (generalized_fresh m) (generalized_clauses m first)
generalized_names m proper first = tree_names (generalized m.bound) Always (generalized_lawful m.bound) m (generalized_suits m proper) first

pub generalized_propagates : (m : BoundedSum) → IsProper m → (first : ℕ) → ClausesPropagate (generalized_clauses m first) (λ a. StaysWithin a m)
generalized_propagates m proper first = tree_propagates (generalized m.bound) Always (generalized_lawful m.bound) m (generalized_suits m proper) first

-- the root has an output for the cap
pub generalized_cap : (m : BoundedSum) → IsProper m → Contains (values (generalized m.bound) (tree_of m.terms)) (m.bound + 1)
generalized_cap m proper = cap_value (generalized m.bound) Always (generalized_lawful m.bound) m (generalized_suits m proper)
