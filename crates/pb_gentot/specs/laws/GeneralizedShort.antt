-- The lines of a generalized totalizer's derivation are within their limits, and short.
use Rattle.std.proofs.Common.{◌≡◌, ◌≤◌, ◌<◌, ◌+◌, ◌*◌, ◌^◌, ◌==◌, ℕ, Bool, List, [], ◌∷◌, ◌++◌, length, min, ◌∙◌, subst, arith}
use Rattle.std.specs.Prelude.{Contains, All, map, count_by}
use Rattle.std.specs.List.{flat_map, range_with_len, list_any}
use Rattle.std.proofs.lemmas.List.{length-map}
use Rattle.std.proofs.lemmas.List.Sums.{count_by-le-length}
use Rattle.pb_base.proofs.Members.{Contains-nil, Contains-here}
use Rattle.pb_norm.specs.Constraints.{weight}
use Rattle.pb_norm.specs.BoundedSums.{BoundedSum, IsProper}
use Rattle.pb_steps.specs.Sayable.{IsSayable}
use Rattle.pb_derive.specs.Short.{AreShort}
use Rattle.pb_family.specs.Derivations.{AreOriginal, MayStart}
use Rattle.pb_family.proofs.Filters.{Contains-filter, Contains-filter_cases}
use Rattle.pb_tree.specs.Pairs.{Pair, pair_of}
use Rattle.pb_tree.specs.Scheme.{values}
use Rattle.pb_tree.specs.Tree.{Tree, empty, leaf, node}
use Rattle.pb_tree.proofs.PairCounts.{is_none, is_some, count-append, count-map, count_none, count_rows, filter_weaker}
use Rattle.pb_tree.proofs.TreeShort.{IsSparing, tree_sayable, tree_lines_short}
use Rattle.pb_gentot.specs.Generalized.{sums, generalized, generalized_clauses, generalized_fresh, generalized_size}
use Rattle.pb_gentot.specs.GeneralizedSteps.{generalized_pairs, generalized_steps}
use Rattle.pb_gentot.specs.laws.ByPairs.{value_from, generalized_by_pairs}
use Rattle.pb_gentot.specs.laws.GeneralizedLaws.{Always, generalized_lawful, generalized_suits, generalized_counts, left_value, right_value}

abbrev AreSome : List ℕ → Type 0
AreSome us = (u : ℕ) → Contains us u → 1 ≤ u

pairs_count : (p : Pair → Bool) (us vs : List ℕ)
    → count_by p (generalized_pairs us vs) ≡ count_by p (map (λ u. pair_of u 0) us) + (count_by p (map (pair_of 0) vs) + count_by p (flat_map (λ u. map (pair_of u) vs) us))
pairs_count p us vs =
    let twos = flat_map (λ u. map (pair_of u) vs) us in
    omega (arith, count-append p (map (λ u. pair_of u 0) us) (map (pair_of 0) vs ++ twos), count-append p (map (pair_of 0) vs) twos)

no_left : (us vs : List ℕ) → AreSome us → count_by (λ p. is_none p.left) (generalized_pairs us vs) ≤ length vs
no_left us vs some =
    let p = λ (q : Pair). is_none q.left in
    let one : count_by p (map (λ u. pair_of u 0) us) ≡ 0 = count-map p (λ u. pair_of u 0) us ∙ count_none is_none us (λ u h. is_some u (some u h)) in
    let two = count_by-le-length p (map (pair_of 0) vs) in
    let size = length-map vs (pair_of 0) in
    let three = count_rows p (λ u. map (pair_of u) vs) 0 us (λ u h.
    let none : count_by p (map (pair_of u) vs) ≡ 0 = count-map p (pair_of u) vs ∙ count_none (λ v. is_none u) vs (λ v k. is_some u (some u h)) in
    omega arith) in
    omega (arith, pairs_count p us vs, one, two, size, three)

no_right : (us vs : List ℕ) → AreSome vs → count_by (λ p. is_none p.right) (generalized_pairs us vs) ≤ length us
no_right us vs some =
    let p = λ (q : Pair). is_none q.right in
    let one = count_by-le-length p (map (λ u. pair_of u 0) us) in
    let size = length-map us (λ u. pair_of u 0) in
    let none : count_by is_none vs ≡ 0 = count_none is_none vs (λ v h. is_some v (some v h)) in
    let two : count_by p (map (pair_of 0) vs) ≡ count_by is_none vs = count-map p (pair_of 0) vs in
    let three = count_rows p (λ u. map (pair_of u) vs) 0 us (λ u h.
    let row : count_by p (map (pair_of u) vs) ≡ count_by is_none vs = count-map p (pair_of u) vs in
    omega arith) in
    omega (arith, pairs_count p us vs, one, two, size, none, three)

some_length : (us : List ℕ) (u : ℕ) → Contains us u → 1 ≤ length us
some_length [] u h = absurd (Contains-nil u h)
some_length (v ∷ us) u h = omega arith

-- what has all values of a part has no fewer
grows : (bound : ℕ) (t l r : Tree) → ((u : ℕ) → Contains (values (generalized bound) t) u → Contains (values (generalized bound) (node l r)) u)
    → length (values (generalized bound) t) ≤ length (values (generalized bound) (node l r))
grows bound empty l r each = omega arith
grows bound (leaf t) l r each =
    let v = min t.coef (bound + 1) in
    let some = some_length (values (generalized bound) (node l r)) v (each v (Contains-here v [])) in
    omega arith
grows bound (node a b) l r each =
    let s = generalized bound in
    let cap = bound + 1 in
    let p = λ (n : ℕ). list_any (λ x. x == n) (sums cap (values s a) (values s b)) in
    let q = λ (n : ℕ). list_any (λ x. x == n) (sums cap (values s l) (values s r)) in
    let range = range_with_len 0 (cap + 1) in
    filter_weaker p q range (λ n h holds. (Contains-filter_cases q range n (each n (Contains-filter p range n h holds))).1)

pub generalized_sparing : (bound : ℕ) → IsSparing (generalized bound) generalized_pairs
generalized_sparing bound =
    let s = generalized bound in
    record {
      no_left = λ l r one two. no_left (values s l) (values s r) (value_from bound l one);
      no_right = λ l r one two. no_right (values s l) (values s r) (value_from bound r two);
      left_grows = λ l r. grows bound l l r (left_value bound l r);
      right_grows = λ l r. grows bound r l r (right_value bound l r);
    }

pub size_fits : {clauses size : ℕ} → clauses ≡ size → clauses < 2 ^ 60 → size < 5 * 2 ^ 60
size_fits is small = omega (arith, is, small)

module _ (m : BoundedSum) (proper : IsProper m) (light : weight m.terms < 2 ^ 100) (modest : generalized_size m < 5 * 2 ^ 60) (first id next : ℕ)
    (original : AreOriginal first m.terms) (start : MayStart first (generalized_fresh m) id next) where
  few_clauses : length (generalized_clauses m first) < 5 * 2 ^ 60
  few_clauses = omega (arith, generalized_counts m first, modest)

  pub generalized_sayable : All IsSayable (generalized_steps m first id next)
  generalized_sayable =
      tree_sayable (generalized m.bound) Always (generalized_lawful m.bound) generalized_pairs (generalized_by_pairs m.bound) m (generalized_suits m proper) light first id next original start few_clauses

  pub generalized_short : length m.terms ≤ 2 ^ 21 → AreShort (length m.terms) (generalized_fresh m) (generalized_size m) (generalized_steps m first id next)
  generalized_short narrow =
      subst (λ (k : ℕ). AreShort (length m.terms) (generalized_fresh m) k (generalized_steps m first id next)) (generalized_counts m first)
      (tree_lines_short (generalized m.bound) Always (generalized_lawful m.bound) generalized_pairs (generalized_by_pairs m.bound) m (generalized_suits m proper) light first id next original start few_clauses (generalized_sparing m.bound) narrow)
