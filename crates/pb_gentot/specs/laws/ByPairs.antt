-- The clauses of generalized totalizers go by pairs of values.
use Rattle.std.proofs.Common.{◌≡◌, ◌≤◌, ◌+◌, ◌⊎◌, ℕ, zero, suc, List, [], ◌∷◌, ◌++◌, min, refl, ap, sym, ◌∙◌, subst, arith, inl, inr}
use Rattle.std.specs.Prelude.{Contains, map}
use Rattle.std.specs.List.{flat_map}
use Rattle.std.proofs.lemmas.List.Elements.{Contains-append_cases}
use Rattle.pb_base.specs.declared.literal.Lit.{Lit}
use Rattle.pb_base.specs.Literals.{negated}
use Rattle.pb_base.proofs.Members.{Contains-nil, Contains-cons_cases}
use Rattle.pb_tree.specs.Pairs.{Pair, pair_of, pair_clause}
use Rattle.pb_tree.specs.Scheme.{values}
use Rattle.pb_tree.specs.Tree.{Tree, empty, leaf, node}
use Rattle.pb_tree.proofs.Lists.{Contains-map_cases, Contains-flat_map_cases}
use Rattle.pb_tree.proofs.PairLists.{map_same, map-append, map-map, rows_same}
use Rattle.pb_tree.proofs.PairJustifications.{IsByPairs, IsPositive}
use Rattle.pb_tree.proofs.TreeParts.{IsPart, AreFromParts}
use Rattle.pb_gentot.specs.Generalized.{sums, one_clause, both_clause, value_clauses, generalized}
use Rattle.pb_gentot.specs.GeneralizedSteps.{generalized_pairs}
use Rattle.pb_gentot.specs.laws.GeneralizedLaws.{ascending_cases, values_within, left_value, right_value, both_value}

pub value_from : (bound : ℕ) (t : Tree) → IsPositive (generalized bound) t → (u : ℕ) → Contains (values (generalized bound) t) u → 1 ≤ u
value_from bound empty positive u h = absurd (Contains-nil u h)
value_from bound (leaf t) positive u h =
    elim (Contains-cons_cases (min t.coef (bound + 1)) [] u h) as (λ _. 1 ≤ u) [ inl same ↦ let some = positive t refl in omega arith | inr none ↦ absurd (Contains-nil u none) ]
value_from bound (node l r) positive u h =
    let s = generalized bound in
    let us = values s l in
    let vs = values s r in
    let cap = bound + 1 in
    let left = value_from bound l (λ w m. positive w (inl m)) in
    let right = value_from bound r (λ w m. positive w (inr m)) in
    elim (Contains-append_cases (flat_map (λ u. u ∷ map (λ v. min (u + v) cap) vs) us) vs u (ascending_cases cap (sums cap us vs) u h).0) as (λ _. 1 ≤ u) [
      | inl row ↦
          let found = Contains-flat_map_cases (λ u. u ∷ map (λ v. min (u + v) cap) vs) us u row in
          let low = left found.0 found.1 in
          elim (Contains-cons_cases found.0 (map (λ v. min (found.0 + v) cap) vs) u found.2) as (λ _. 1 ≤ u) [
            | inl same ↦ omega arith
            | inr sum ↦ let pair = Contains-map_cases (λ v. min (found.0 + v) cap) vs u sum in let e = pair.2 in omega arith
          ]
      | inr alone ↦ right u alone
    ]

one_left : (cap : ℕ) (f g h : ℕ → Lit) (u : ℕ) → 1 ≤ u → u ≤ cap → one_clause f h u ≡ pair_clause cap f g h (pair_of u 0)
one_left cap f g h zero low high = absurd (omega arith)
one_left cap f g h (suc u) low high = ap (λ (n : ℕ). negated (f (suc u)) ∷ h n ∷ []) (let e : suc u ≡ min (suc u + 0) cap = omega arith in e)

one_right : (cap : ℕ) (f g h : ℕ → Lit) (v : ℕ) → 1 ≤ v → v ≤ cap → one_clause g h v ≡ pair_clause cap f g h (pair_of 0 v)
one_right cap f g h zero low high = absurd (omega arith)
one_right cap f g h (suc v) low high = ap (λ (n : ℕ). negated (g (suc v)) ∷ h n ∷ []) (let e : suc v ≡ min (0 + suc v) cap = omega arith in e)

both : (cap : ℕ) (f g h : ℕ → Lit) (u v : ℕ) → 1 ≤ u → 1 ≤ v → both_clause cap f g h u v ≡ pair_clause cap f g h (pair_of u v)
both cap f g h zero v low high = absurd (omega arith)
both cap f g h (suc u) zero low high = absurd (omega arith)
both cap f g h (suc u) (suc v) low high = refl

generalized_merged : (cap : ℕ) (us vs : List ℕ) (f g h : ℕ → Lit) → ((u : ℕ) → Contains us u → (1 ≤ u) × (u ≤ cap)) → ((v : ℕ) → Contains vs v → (1 ≤ v) × (v ≤ cap))
    → value_clauses cap us vs f g h ≡ map (pair_clause cap f g h) (generalized_pairs us vs)
generalized_merged cap us vs f g h left right =
    let c = pair_clause cap f g h in
    let ones = map_same (one_clause f h) (λ u. c (pair_of u 0)) us (λ u m. one_left cap f g h u (left u m).0 (left u m).1) ∙ sym (map-map c (λ u. pair_of u 0) us) in
    let others = map_same (one_clause g h) (λ v. c (pair_of 0 v)) vs (λ v m. one_right cap f g h v (right v m).0 (right v m).1) ∙ sym (map-map c (pair_of 0) vs) in
    let twos = rows_same c (λ u. map (pair_of u) vs) (λ u. map (both_clause cap f g h u) vs) us
    (λ u m. map_same (both_clause cap f g h u) (λ v. c (pair_of u v)) vs (λ v n. both cap f g h u v (left u m).0 (right v n).0) ∙ sym (map-map c (pair_of u) vs)) in
    (λ i. ones i ++ (others i ++ twos i))
    ∙ ap (λ (cs : List (List Lit)). map c (map (λ u. pair_of u 0) us) ++ cs) (sym (map-append c (map (pair_of 0) vs) (flat_map (λ u. map (pair_of u) vs) us)))
    ∙ sym (map-append c (map (λ u. pair_of u 0) us) (map (pair_of 0) vs ++ flat_map (λ u. map (pair_of u) vs) us))

-- which pairs there are
abbrev IsPairOf : List ℕ → List ℕ → Pair → Type 0
IsPairOf us vs p = (Contains us p.left × (p.right ≡ 0)) ⊎ (((p.left ≡ 0) × Contains vs p.right) ⊎ (Contains us p.left × Contains vs p.right))

pairs_cases : (us vs : List ℕ) (p : Pair) → Contains (generalized_pairs us vs) p → IsPairOf us vs p
pairs_cases us vs p h =
    let twos = flat_map (λ u. map (pair_of u) vs) us in
    elim (Contains-append_cases (map (λ u. pair_of u 0) us) (map (pair_of 0) vs ++ twos) p h) as (λ _. IsPairOf us vs p) [
      | inl one ↦
          let found = Contains-map_cases (λ u. pair_of u 0) us p one in
          inl (subst (λ (q : Pair). Contains us q.left × (q.right ≡ 0)) found.2 (found.1, refl))
      | inr rest ↦ elim (Contains-append_cases (map (pair_of 0) vs) twos p rest) as (λ _. IsPairOf us vs p) [
        | inl one ↦
            let found = Contains-map_cases (pair_of 0) vs p one in
            inr (inl (subst (λ (q : Pair). (q.left ≡ 0) × Contains vs q.right) found.2 (refl, found.1)))
        | inr two ↦
            let row = Contains-flat_map_cases (λ u. map (pair_of u) vs) us p two in
            let found = Contains-map_cases (pair_of row.0) vs p row.2 in
            inr (inr (subst (λ (q : Pair). Contains us q.left × Contains vs q.right) found.2 (row.1, found.1)))
      ]
    ]

generalized_from : (bound : ℕ) → AreFromParts (generalized bound)
generalized_from bound l r w h =
    let s = generalized bound in
    let us = values s l in
    let vs = values s r in
    let cap = bound + 1 in
    let Goal : Type 0 = (u : ℕ) × (v : ℕ) × IsPart us u × IsPart vs v × (w ≤ u + v) in
    elim (Contains-append_cases (flat_map (λ u. u ∷ map (λ v. min (u + v) cap) vs) us) vs w (ascending_cases cap (sums cap us vs) w h).0) as (λ _. Goal) [
      | inl row ↦
          let found = Contains-flat_map_cases (λ u. u ∷ map (λ v. min (u + v) cap) vs) us w row in
          elim (Contains-cons_cases found.0 (map (λ v. min (found.0 + v) cap) vs) w found.2) as (λ _. Goal) [
            | inl same ↦ (found.0, 0, inr found.1, inl refl, omega arith)
            | inr sum ↦ let pair = Contains-map_cases (λ v. min (found.0 + v) cap) vs w sum in let e = pair.2 in (found.0, pair.0, inr found.1, inr pair.1, omega arith)
          ]
      | inr alone ↦ (0, w, inl refl, inr alone, omega arith)
    ]

pub generalized_by_pairs : (bound : ℕ) → IsByPairs (generalized bound) generalized_pairs
generalized_by_pairs bound =
    let s = generalized bound in
    let cap = bound + 1 in
    record {
      merged = λ l r one two f g h. generalized_merged cap (values s l) (values s r) f g h (λ u m. (value_from bound l one u m, values_within bound l u m)) (λ v m. (value_from bound r two v m, values_within bound r v m));
      lefts = λ l r p h. elim (pairs_cases (values s l) (values s r) p h) as (λ _. IsPart (values s l) p.left) [
        | inl one ↦ inr one.0
        | inr rest ↦ elim rest as (λ _. IsPart (values s l) p.left) [ inl one ↦ inl one.0 | inr two ↦ inr two.0 ]
      ];
      rights = λ l r p h. elim (pairs_cases (values s l) (values s r) p h) as (λ _. IsPart (values s r) p.right) [
        | inl one ↦ inl one.1
        | inr rest ↦ elim rest as (λ _. IsPart (values s r) p.right) [ inl one ↦ inr one.1 | inr two ↦ inr two.1 ]
      ];
      owns = λ l r p h.
          let Goal : Type 0 = Contains (values s (node l r)) (min (p.left + p.right) cap) in
          elim (pairs_cases (values s l) (values s r) p h) as (λ _. Goal) [
            | inl one ↦ let le = values_within bound l p.left one.0 in
                let e : p.left ≡ min (p.left + p.right) cap = omega (arith, le, one.1) in
                subst (λ (n : ℕ). Contains (values s (node l r)) n) e (left_value bound l r p.left one.0)
            | inr rest ↦ elim rest as (λ _. Goal) [
              | inl one ↦ let le = values_within bound r p.right one.1 in
                  let e : p.right ≡ min (p.left + p.right) cap = omega (arith, le, one.0) in
                  subst (λ (n : ℕ). Contains (values s (node l r)) n) e (right_value bound l r p.right one.1)
              | inr two ↦ both_value bound l r p.left p.right two.0 two.1
            ]
          ];
      from = generalized_from bound;
      low = value_from bound;
    }
