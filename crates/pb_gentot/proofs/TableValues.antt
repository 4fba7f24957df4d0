-- The values of a table are what the sum can be, beside 0.
use Rattle.std.proofs.Common.{◌≡◌, ◌<◌, ◌≤◌, ◌+◌, ◌⊎◌, ◌++◌, ℕ, Bool, true, List, [], ◌∷◌, map, min, refl, sym, ◌∙◌, subst, arith, inl, inr}
use Rattle.std.specs.Prelude.{Contains, ◌↔◌}
use Rattle.std.specs.List.{flat_map}
use Rattle.std.proofs.lemmas.List.Elements.{All-contains, Contains-append_cases}
use Rattle.pb_base.specs.declared.literal.Lit.{Lit}
use Rattle.pb_base.specs.Literals.{Assignment, lit_value}
use Rattle.pb_base.proofs.Members.{Contains-nil, Contains-cons_cases}
use Rattle.pb_norm.specs.Constraints.{Weighted, weight, value}
use Rattle.pb_norm.proofs.Proper.{apart}
use Rattle.pb_tree.specs.Tree.{Tree, empty, leaf, node, tree_of, leaf_sum}
use Rattle.pb_tree.specs.Scheme.{Scheme, values}
use Rattle.pb_tree.specs.TreeSteps.{leaves}
use Rattle.pb_tree.proofs.Lists.{Contains-map_cases, Contains-flat_map_cases}
use Rattle.pb_tree.proofs.Pushing.{passing, reach_all, reach_value}
use Rattle.pb_tree.proofs.Splitting.{split_sum, leaf_listed}
use Rattle.pb_tree.proofs.Sums.{Reach}
use Rattle.pb_tree.proofs.TreeRows.{leaves_of}
use Rattle.pb_gentot.specs.BoundTable.{IsTable, uncut, table_values}
use Rattle.pb_gentot.specs.Generalized.{sums, generalized}
use Rattle.pb_gentot.specs.laws.ByPairs.{value_from}
use Rattle.pb_gentot.specs.laws.GeneralizedLaws.{Always, generalized_lawful, ascending_cases}
use Rattle.pb_gentot.specs.Rising.{Rising}
use Rattle.pb_gentot.proofs.Emitting.{rising_values}
use Rattle.pb_gentot.proofs.Subsums.{IsSubsum, subsum-append, subsum_assigned}

-- ---- each value is a sum of leaves

reach_zero : (s : Scheme) (p : Lit → Bool) (t : Tree) → Reach s p t 0
reach_zero s p empty = refl
reach_zero s p (leaf t) = inl refl
reach_zero s p (node l r) = (0, 0, refl, reach_zero s p l, reach_zero s p r)

pub reach_within : (s : Scheme) (p : Lit → Bool) (t : Tree) (x : ℕ) → Reach s p t x → x ≤ leaf_sum s.weight t
reach_within s p empty x reach = omega arith
reach_within s p (leaf t) x reach = elim reach as (λ _. x ≤ s.weight t) [ inl none ↦ omega arith | inr one ↦ let e = one.0 in omega arith ]
reach_within s p (node l r) x reach = omega (arith, reach.2, reach_within s p l reach.0 reach.3, reach_within s p r reach.1 reach.4)

abbrev all_pass : Lit → Bool
all_pass l = true

value_reached : (bound : ℕ) (t : Tree) (u : ℕ) → leaf_sum (λ w. w.coef) t ≤ bound → Contains (values (generalized bound) t) u → Reach (generalized bound) all_pass t u
value_reached bound empty u light h = absurd (Contains-nil u h)
value_reached bound (leaf t) u light h =
    elim (Contains-cons_cases (min t.coef (bound + 1)) [] u h) as (λ _. (u ≡ 0) ⊎ ((u ≡ t.coef) × (all_pass t.lit ≡ true))) [
      | inl same ↦ inr ((omega arith), refl)
      | inr none ↦ absurd (Contains-nil u none)
    ]
value_reached bound (node l r) u light h =
    let s = generalized bound in
    let us = values s l in
    let vs = values s r in
    let cap = bound + 1 in
    elim (Contains-append_cases (flat_map (λ u. u ∷ map (λ v. min (u + v) cap) vs) us) vs u (ascending_cases cap (sums cap us vs) u h).0) as (λ _. Reach s all_pass (node l r) u) [
      | inl row ↦
          let found = Contains-flat_map_cases (λ u. u ∷ map (λ v. min (u + v) cap) vs) us u row in
          let left = value_reached bound l found.0 (omega arith) found.1 in
          elim (Contains-cons_cases found.0 (map (λ v. min (found.0 + v) cap) vs) u found.2) as (λ _. Reach s all_pass (node l r) u) [
            | inl same ↦ (found.0, 0, (omega arith), left, reach_zero s all_pass r)
            | inr sum ↦
                let pair = Contains-map_cases (λ v. min (found.0 + v) cap) vs u sum in
                let e = pair.2 in
                let right = value_reached bound r pair.0 (omega arith) pair.1 in
                (found.0, pair.0, omega (arith, reach_within s all_pass l found.0 left, reach_within s all_pass r pair.0 right), left, right)
          ]
      | inr alone ↦ (0, u, (omega arith), reach_zero s all_pass l, value_reached bound r u (omega arith) alone)
    ]

reach_subsum : (bound : ℕ) (p : Lit → Bool) (t : Tree) (x : ℕ) → Reach (generalized bound) p t x → IsSubsum (leaves t) x
reach_subsum bound p empty x reach = reach
reach_subsum bound p (leaf t) x reach =
    elim reach as (λ _. IsSubsum (t ∷ []) x) [ inl none ↦ inl none | inr one ↦ inr (0, (let e = one.0 in omega arith), refl) ]
reach_subsum bound p (node l r) x reach =
    subst (λ (n : ℕ). IsSubsum (leaves l ++ leaves r) n) (sym reach.2) (subsum-append (leaves l) (leaves r) reach.0 reach.1 (reach_subsum bound p l reach.0 reach.3) (reach_subsum bound p r reach.1 reach.4))

-- ---- the values

total_weight : (ts : List Weighted) → leaf_sum (λ w. w.coef) (tree_of ts) ≡ weight ts
total_weight ts = split_sum (λ w. w.coef) ts

pub each_positive : (ts : List Weighted) → IsTable ts → (t : Weighted) → Contains ts t → 1 ≤ t.coef
each_positive ts table t h = let some = All-contains (λ (u : Weighted). 0 < u.coef) ts t table.positive h in omega arith

pub table_value_positive : (ts : List Weighted) → IsTable ts → (u : ℕ) → Contains (table_values ts) u → 1 ≤ u
table_value_positive ts table u h = value_from (weight ts) (tree_of ts) (λ w m. each_positive ts table w (leaf_listed ts w m)) u h

table_value_reached : (ts : List Weighted) (u : ℕ) → Contains (table_values ts) u → Reach (uncut ts) all_pass (tree_of ts) u
table_value_reached ts u h = value_reached (weight ts) (tree_of ts) u (omega (arith, total_weight ts)) h

pub table_value_within : (ts : List Weighted) (u : ℕ) → Contains (table_values ts) u → u ≤ weight ts
table_value_within ts u h = omega (arith, reach_within (uncut ts) all_pass (tree_of ts) u (table_value_reached ts u h), total_weight ts)

-- what some leaves add up to
pub table_value_from : (ts : List Weighted) (p : Lit → Bool) (x : ℕ) → Reach (uncut ts) p (tree_of ts) x → 1 ≤ x → (x ≤ weight ts) × Contains (table_values ts) x
table_value_from ts p x reach some =
    let within : x ≤ weight ts = omega (arith, reach_within (uncut ts) p (tree_of ts) x reach, total_weight ts) in
    (within, subst (λ (n : ℕ). Contains (table_values ts) n) (let e : min x (weight ts + 1) ≡ x = omega arith in e) (reach_value (uncut ts) Always (generalized_lawful (weight ts)) p (tree_of ts) x reach some tt))

-- a sum under an assignment
pub value_reach : (ts : List Weighted) (p : Lit → Bool) → Reach (uncut ts) p (tree_of ts) (leaf_sum (passing (uncut ts) p) (tree_of ts))
value_reach ts p = reach_all (uncut ts) p (tree_of ts)

pub passing_value : (ts : List Weighted) (a : Assignment) → leaf_sum (passing (uncut ts) (lit_value a)) (tree_of ts) ≡ value a ts
passing_value ts a = split_sum (passing (uncut ts) (lit_value a)) ts

-- the numbers from 1 on that the sum is under some assignment
pub table_values_are : (ts : List Weighted) → IsTable ts → (u : ℕ) → Contains (table_values ts) u ↔ ((1 ≤ u) × ((a : Assignment) × (value a ts ≡ u)))
table_values_are ts table u = (
  (λ h. (
    table_value_positive ts table u h,
    subsum_assigned ts (apart ts table.distinct) u (subst (λ (us : List Weighted). IsSubsum us u) (leaves_of ts) (reach_subsum (weight ts) all_pass (tree_of ts) u (table_value_reached ts u h))),
  )),
  (λ h.
      let a = h.1.0 in
      let is : leaf_sum (passing (uncut ts) (lit_value a)) (tree_of ts) ≡ u = passing_value ts a ∙ h.1.1 in
      let reach = subst (λ (n : ℕ). Reach (uncut ts) (lit_value a) (tree_of ts) n) is (value_reach ts (lit_value a)) in
      (table_value_from ts (lit_value a) u reach h.0).1),
)

pub table_values_rise : (ts : List Weighted) → Rising (table_values ts)
table_values_rise ts = rising_values (weight ts) (tree_of ts) (table_values ts) refl
