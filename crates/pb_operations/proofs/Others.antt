-- The terms of other variables, where a list has at most one of each.
use Rattle.std.proofs.Common.{◌≡◌, ◌≢◌, ◌<◌, ℕ, zero, suc, Bool, not, cond, List, [], ◌∷◌, length, get_or, filter, sum_by, arith, refl, ap, sym, ◌∙◌, subst, eq-eqb}
use Rattle.std.specs.Prelude.{All}
use Rattle.std.specs.List.{remove}
use Rattle.std.proofs.lemmas.Bool.{ne_eqb}
use Rattle.std.proofs.lemmas.List.Elements.{All-nil, All-cons, All-head, All-tail}
use Rattle.std.proofs.lemmas.List.Sums.{sum_by-cons}
use Rattle.pb_base.specs.declared.literal.Term.{Term}
use Rattle.pb_base.proofs.Pairs.{AllPairs-head, AllPairs-tail}
use Rattle.pb_norm.specs.Constraints.{Weighted, weighted, weights, IsAscending}
use Rattle.pb_norm.specs.inner.Kept.{on_weight}
use Rattle.pb_steps.specs.Operations.{is_other, coef_at}

abbrev pub IsApart : ℕ → Term → Type 0
IsApart v t = t.lit.var ≢ v

pub others-none : (v : ℕ) (ts : List Term) → All (IsApart v) ts → filter (on_weight (is_other v)) ts ≡ ts
others-none v [] h = refl
others-none v (t ∷ ts) h =
    ap (λ (b : Bool). cond {A = List Term} (not b) (t ∷ filter (on_weight (is_other v)) ts) (filter (on_weight (is_other v)) ts)) (ne_eqb t.lit.var v (All-head (IsApart v) t ts h)) ∙
    ap (λ (us : List Term). t ∷ us) (others-none v ts (All-tail (IsApart v) t ts h))

pub lost-none : (v : ℕ) (ts : List Term) → All (IsApart v) ts → sum_by (on_weight (coef_at v)) ts ≡ 0
lost-none v [] h = refl
lost-none v (t ∷ ts) h =
    let first : coef_at v (weighted t) ≡ 0 = ap (λ (b : Bool). cond b (weighted t).coef 0) (ne_eqb t.lit.var v (All-head (IsApart v) t ts h)) in
    omega (arith, sum_by-cons (on_weight (coef_at v)) t ts, first, lost-none v ts (All-tail (IsApart v) t ts h))

-- those behind a term are of later variables
later-apart : (v : ℕ) (ts : List Term) → All (λ (u : Weighted). v < u.lit.var) (weights ts) → All (IsApart v) ts
later-apart v [] h = All-nil (IsApart v)
later-apart v (t ∷ ts) h =
    let first : v < t.lit.var = All-head (λ (u : Weighted). v < u.lit.var) (weighted t) (weights ts) h in
    All-cons (IsApart v) t ts (λ e. omega (arith, first, e)) (later-apart v ts (All-tail (λ (u : Weighted). v < u.lit.var) (weighted t) (weights ts) h))

abbrev pub Before : Weighted → Weighted → Type 0
Before s t = s.lit.var < t.lit.var

pub apart-behind : (t : Term) (ts : List Term) → IsAscending (weights (t ∷ ts)) → All (IsApart t.lit.var) ts
apart-behind t ts up = later-apart t.lit.var ts (AllPairs-head Before (weighted t) (weights ts) up)

-- a term in front of one of the variable is of an earlier one
pub earlier-apart : (v : ℕ) (t : Term) (ts : List Term) (i : ℕ) → i < length ts → ((d : Term) → (get_or ts i d).lit.var ≡ v) → IsAscending (weights (t ∷ ts)) → IsApart v t
earlier-apart v t ts i below at up e = apart-behind t ts up i t below (at t ∙ sym e)

pub others-remove : (v : ℕ) (ts : List Term) (i : ℕ) → i < length ts → ((d : Term) → (get_or ts i d).lit.var ≡ v) → IsAscending (weights ts) → filter (on_weight (is_other v)) ts ≡ remove ts i
others-remove v [] i below at up = absurd (omega (arith, below))
others-remove v (t ∷ ts) zero below at up =
    ap (λ (b : Bool). cond {A = List Term} (not b) (t ∷ filter (on_weight (is_other v)) ts) (filter (on_weight (is_other v)) ts)) (eq-eqb t.lit.var v (at t)) ∙
    others-none v ts (subst (λ (w : ℕ). All (IsApart w) ts) (at t) (apart-behind t ts up))
others-remove v (t ∷ ts) (suc i) below at up =
    let rest : i < length ts = omega (arith, below) in
    ap (λ (b : Bool). cond {A = List Term} (not b) (t ∷ filter (on_weight (is_other v)) ts) (filter (on_weight (is_other v)) ts)) (ne_eqb t.lit.var v (earlier-apart v t ts i rest at up)) ∙
    ap (λ (us : List Term). t ∷ us) (others-remove v ts i rest at (AllPairs-tail Before (weighted t) (weights ts) up))

pub lost-at : (v : ℕ) (ts : List Term) (i : ℕ) (d : Term) → i < length ts → ((e : Term) → (get_or ts i e).lit.var ≡ v) → IsAscending (weights ts) → sum_by (on_weight (coef_at v)) ts ≡ (weighted (get_or ts i d)).coef
lost-at v [] i d below at up = absurd (omega (arith, below))
lost-at v (t ∷ ts) zero d below at up =
    let first : coef_at v (weighted t) ≡ (weighted t).coef = ap (λ (b : Bool). cond b (weighted t).coef 0) (eq-eqb t.lit.var v (at t)) in
    let rest = lost-none v ts (subst (λ (w : ℕ). All (IsApart w) ts) (at t) (apart-behind t ts up)) in
    omega (arith, sum_by-cons (on_weight (coef_at v)) t ts, first, rest)
lost-at v (t ∷ ts) (suc i) d below at up =
    let less : i < length ts = omega (arith, below) in
    let first : coef_at v (weighted t) ≡ 0 = ap (λ (b : Bool). cond b (weighted t).coef 0) (ne_eqb t.lit.var v (earlier-apart v t ts i less at up)) in
    omega (arith, sum_by-cons (on_weight (coef_at v)) t ts, first, lost-at v ts i d less at (AllPairs-tail Before (weighted t) (weights ts) up))
