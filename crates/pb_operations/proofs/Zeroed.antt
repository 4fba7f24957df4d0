-- A term whose coefficient is 0 counts for nothing.
use Rattle.std.proofs.Common.{◌≡◌, ◌≢◌, ◌≤◌, ◌<◌, ◌-◌, ℕ, zero, suc, Bool, true, false, cond, List, [], ◌∷◌, length, get_or, map, filter, sum_by, ltb, eqb, arith, refl, ap, sym, ◌∙◌, subst, inl, inr, eq-eqb}
use Rattle.std.specs.Prelude.{All, set}
use Rattle.std.specs.List.Sorted.{IsNonDecreasingBy, IsPartitionedBy, IsPartitionPoint}
use Rattle.std.proofs.lemmas.Bool.{ne_eqb, ltb-true, ltb-false, lt-ltb, cases_lt}
use Rattle.std.proofs.lemmas.List.{length-map}
use Rattle.std.proofs.lemmas.List.Elements.{All-head, All-tail}
use Rattle.std.proofs.lemmas.List.Sorted.{IsPartitionedBy-ltb}
use Rattle.std.proofs.lemmas.List.Sums.{sum_by-cons}
use Rattle.std.proofs.Math.ListN.{get_or-map}
use Rattle.pb_base.specs.declared.literal.Term.{Term}
use Rattle.pb_base.proofs.Pairs.{AllPairs-tail}
use Rattle.pb_norm.specs.Constraints.{Weighted, Constraint, weighted, weights, AllPositive, IsAscending}
use Rattle.pb_norm.specs.Halves.{is_positive}
use Rattle.pb_steps.specs.Operations.{is_other, coef_at, weakening}
use Rattle.pb_operations.specs.inner.Sides.{zeroed}
use Rattle.pb_operations.proofs.Others.{IsApart, Before, apart-behind, earlier-apart}

-- ---- where a variable stands

ascending-at : (ts : List Term) (i j : ℕ) (d : Term) → IsAscending (weights ts) → i < j → j < length ts → (get_or ts i d).lit.var < (get_or ts j d).lit.var
ascending-at ts i j d up less below =
    let order = up i j (weighted d) less (omega (arith, length-map ts weighted)) in
    omega (arith, ap (λ (w : Weighted). w.lit.var) (get_or-map weighted ts i d), ap (λ (w : Weighted). w.lit.var) (get_or-map weighted ts j d))

vars-rise : (ts : List Term) → IsAscending (weights ts) → IsNonDecreasingBy (λ t. t.lit.var) ts
vars-rise ts up i j d le below =
    elim (cases_lt i j) as (λ _. (get_or ts i d).lit.var ≤ (get_or ts j d).lit.var) [
      | inl less ↦ omega (arith, ascending-at ts i j d up less below)
      | inr past ↦ let same : i ≡ j = omega arith in let e = ap (λ (k : ℕ). (get_or ts k d).lit.var) same in omega arith
    ]

pub vars-part : (ts : List Term) (v : ℕ) → IsAscending (weights ts) → IsPartitionedBy (λ t. ltb t.lit.var v) ts
vars-part ts v up = IsPartitionedBy-ltb (λ t. t.lit.var) ts v (vars-rise ts up)

pub part-point : (ts : List Term) (v i : ℕ) → IsPartitionPoint (λ t. ltb t.lit.var v ≡ true) (λ t. ltb t.lit.var v ≡ false) ts i → IsPartitionPoint (λ t. t.lit.var < v) (λ t. v ≤ t.lit.var) ts i
part-point ts v i point = (
  λ k d low high. ltb-true (get_or ts k d).lit.var v (point.0 k d low high),
  λ k d low high. let h = ltb-false (get_or ts k d).lit.var v (point.1 k d low high) in omega arith,
)

-- where it does not stand at that place, it stands nowhere
pub none-stands : (ts : List Term) (v i : ℕ) → IsAscending (weights ts) → IsPartitionPoint (λ t. t.lit.var < v) (λ t. v ≤ t.lit.var) ts i → (i < length ts → (d : Term) → (get_or ts i d).lit.var ≢ v) → All (IsApart v) ts
none-stands ts v i up point apart k d below e =
    elim (cases_lt k i) as (λ _. ⊥) [
      | inl before ↦ let less = point.0 k d (omega arith) before in omega (arith, less, e)
      | inr past ↦ elim (cases_lt i k) as (λ _. ⊥) [
        | inl behind ↦
            let least = point.1 i d (omega arith) (omega arith) in
            let less = ascending-at ts i k d up behind below in
            omega (arith, e)
        | inr at ↦ let same : k ≡ i = omega arith in apart (omega arith) d (ap (λ (n : ℕ). (get_or ts n d).lit.var) (sym same) ∙ e)
      ]
    ]

-- ---- one coefficient becomes 0

pub zeroed-other : (v : ℕ) (t : Weighted) → t.lit.var ≢ v → zeroed v t ≡ t
zeroed-other v t h = ap (λ (b : Bool). record { coef = cond b 0 t.coef; lit = t.lit }) (ne_eqb t.lit.var v h)

zeroed-own : (v : ℕ) (t : Weighted) → t.lit.var ≡ v → zeroed v t ≡ record { coef = 0; lit = t.lit }
zeroed-own v t e = ap (λ (b : Bool). record { coef = cond b 0 t.coef; lit = t.lit }) (eq-eqb t.lit.var v e)

pub zeroed-none : (v : ℕ) (ts : List Term) → All (IsApart v) ts → map (zeroed v) (weights ts) ≡ weights ts
zeroed-none v [] h = refl
zeroed-none v (t ∷ ts) h =
    ap (λ (u : Weighted). u ∷ map (zeroed v) (weights ts)) (zeroed-other v (weighted t) (All-head (IsApart v) t ts h)) ∙
    ap (λ (us : List Weighted). weighted t ∷ us) (zeroed-none v ts (All-tail (IsApart v) t ts h))

pub zeroed-at : (v : ℕ) (ts : List Term) (i : ℕ) (u : Term) → i < length ts → ((d : Term) → (get_or ts i d).lit.var ≡ v) → ((d : Term) → weighted u ≡ record { coef = 0; lit = (get_or ts i d).lit }) → IsAscending (weights ts) →
    weights (set ts i u) ≡ map (zeroed v) (weights ts)
zeroed-at v [] i u below at is up = absurd (omega (arith, below))
zeroed-at v (t ∷ ts) zero u below at is up =
    ap (λ (w : Weighted). w ∷ weights ts) (is t ∙ sym (zeroed-own v (weighted t) (at t))) ∙
    ap (λ (us : List Weighted). zeroed v (weighted t) ∷ us) (sym (zeroed-none v ts (subst (λ (w : ℕ). All (IsApart w) ts) (at t) (apart-behind t ts up))))
zeroed-at v (t ∷ ts) (suc i) u below at is up =
    let rest : i < length ts = omega (arith, below) in
    ap (λ (w : Weighted). w ∷ weights (set ts i u)) (sym (zeroed-other v (weighted t) (earlier-apart v t ts i rest at up))) ∙
    ap (λ (us : List Weighted). zeroed v (weighted t) ∷ us) (zeroed-at v ts i u rest at is (AllPairs-tail Before (weighted t) (weights ts) up))

-- ---- what is left without those of 0

-- the terms that count, and a degree
abbrev pub counted : List Weighted → ℕ → Constraint
counted ts degree = record { terms = filter is_positive ts; degree = degree }

pub counted-all : (ts : List Weighted) → AllPositive ts → filter is_positive ts ≡ ts
counted-all [] h = refl
counted-all (t ∷ ts) h =
    ap (λ (b : Bool). cond {A = List Weighted} b (t ∷ filter is_positive ts) (filter is_positive ts)) (lt-ltb 0 t.coef (All-head (λ u. 0 < u.coef) t ts h)) ∙
    ap (λ (us : List Weighted). t ∷ us) (counted-all ts (All-tail (λ u. 0 < u.coef) t ts h))

counted-zeroed : (v : ℕ) (ts : List Weighted) → filter (is_other v) (filter is_positive ts) ≡ filter is_positive (map (zeroed v) ts)
counted-zeroed v [] = refl
counted-zeroed v (t ∷ ts) = by_tests (eqb t.lit.var v) refl (ltb 0 t.coef) refl (counted-zeroed v ts) where
  by_tests : (own : Bool) → eqb t.lit.var v ≡ own → (some : Bool) → ltb 0 t.coef ≡ some → filter (is_other v) (filter is_positive ts) ≡ filter is_positive (map (zeroed v) ts) → filter (is_other v) (filter is_positive (t ∷ ts)) ≡ filter is_positive (map (zeroed v) (t ∷ ts))
  by_tests true e true f ih = rw (f, e) ih
  by_tests true e false f ih = rw (f, e) ih
  by_tests false e true f ih = rw (e, f, e) (ap (λ (us : List Weighted). t ∷ us) ih)
  by_tests false e false f ih = rw (e, f) ih

counted-lost : (v : ℕ) (ts : List Weighted) → sum_by (coef_at v) (filter is_positive ts) ≡ sum_by (coef_at v) ts
counted-lost v [] = refl
counted-lost v (t ∷ ts) = by_test (ltb 0 t.coef) refl (counted-lost v ts) where
  nothing : (b : Bool) → t.coef ≡ 0 → cond b t.coef 0 ≡ 0
  nothing true e = e
  nothing false e = refl

  by_test : (some : Bool) → ltb 0 t.coef ≡ some → sum_by (coef_at v) (filter is_positive ts) ≡ sum_by (coef_at v) ts → sum_by (coef_at v) (cond {A = List Weighted} (ltb 0 t.coef) (t ∷ filter is_positive ts) (filter is_positive ts)) ≡ sum_by (coef_at v) (t ∷ ts)
  by_test true f ih =
      ap (λ (b : Bool). sum_by (coef_at v) (cond {A = List Weighted} b (t ∷ filter is_positive ts) (filter is_positive ts))) f ∙ omega (arith, sum_by-cons (coef_at v) t (filter is_positive ts), sum_by-cons (coef_at v) t ts, ih)
  by_test false f ih =
      let h = ltb-false 0 t.coef f in
      ap (λ (b : Bool). sum_by (coef_at v) (cond {A = List Weighted} b (t ∷ filter is_positive ts) (filter is_positive ts))) f ∙ omega (arith, sum_by-cons (coef_at v) t ts, nothing (eqb t.lit.var v) (omega arith), ih)

-- a weakening of what counts
pub counted-weakened : (v : ℕ) (ts us : List Weighted) (degree left : ℕ) → us ≡ map (zeroed v) ts → left ≡ degree - sum_by (coef_at v) ts → weakening v (counted ts degree) ≡ counted us left
counted-weakened v ts us degree left e f =
    let terms : filter (is_other v) (filter is_positive ts) ≡ filter is_positive us = counted-zeroed v ts ∙ ap (filter is_positive) (sym e) in
    let same : degree - sum_by (coef_at v) (filter is_positive ts) ≡ left = ap (λ (n : ℕ). degree - n) (counted-lost v ts) ∙ sym f in
    λ i. record { terms = terms i; degree = same i }
