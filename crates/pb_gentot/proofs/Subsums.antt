-- Sums of some of the terms, and assignments that give them.
use Rattle.std.proofs.Common.{◌≡◌, ◌≢◌, ◌+◌, ◌⊎◌, ◌++◌, ◌==◌, ℕ, Bool, true, false, cond, not, List, [], ◌∷◌, refl, sym, ap, ◌∙◌, subst, arith, inl, inr}
use Rattle.std.specs.Prelude.{All}
use Rattle.std.proofs.lemmas.Bool.{cond-true, cond-false, eq-eqb, ne_eqb}
use Rattle.std.proofs.lemmas.List.Elements.{All-head, All-tail}
use Rattle.pb_base.specs.Literals.{Assignment, lit_value}
use Rattle.pb_base.proofs.Pairs.{AllPairs-head, AllPairs-tail}
use Rattle.pb_norm.specs.Constraints.{Weighted, value, term_value}
use Rattle.pb_norm.proofs.AdditionValues.{value-cons}
use Rattle.pb_derive.specs.Forms.{AreApartTerms}

-- the coefficients of some of the terms add up to the number
abbrev pub IsSubsum : List Weighted → ℕ → Type 0
IsSubsum [] u = u ≡ 0
IsSubsum (t ∷ ts) u = IsSubsum ts u ⊎ ((v : ℕ) × (u ≡ t.coef + v) × IsSubsum ts v)

pub subsum-append : (ts us : List Weighted) (u v : ℕ) → IsSubsum ts u → IsSubsum us v → IsSubsum (ts ++ us) (u + v)
subsum-append [] us u v h k = subst (λ (n : ℕ). IsSubsum us n) (let e : v ≡ u + v = omega arith in e) k
subsum-append (t ∷ ts) us u v h k =
    elim h as (λ _. IsSubsum (t ∷ (ts ++ us)) (u + v)) [
      | inl without ↦ inl (subsum-append ts us u v without k)
      | inr with ↦ inr (with.0 + v, (let e = with.1 in omega arith), subsum-append ts us with.0 v with.2 k)
    ]

-- ---- the assignment with one value written over it

with_value : Assignment → ℕ → Bool → Assignment
with_value a v b n = cond (n == v) b (a n)

value-here : (a : Assignment) (v : ℕ) (b : Bool) → with_value a v b v ≡ b
unfolding with_value
value-here a v b = cond-true (v == v) b (a v) (eq-eqb v v refl)

value-there : (a : Assignment) (v n : ℕ) (b : Bool) → n ≢ v → with_value a v b n ≡ a n
unfolding with_value
value-there a v n b other = cond-false (n == v) b (a n) (ne_eqb n v other)

same_value : (a b : Assignment) (t : Weighted) → a t.lit.var ≡ b t.lit.var → term_value a t ≡ term_value b t
same_value a b t same = ap (λ (x : Bool). cond (cond t.lit.positive x (not x)) t.coef 0) same

-- the terms of other variables add as much
value-with : (a : Assignment) (v : ℕ) (b : Bool) (ts : List Weighted) → All (λ t. v ≢ t.lit.var) ts → value (with_value a v b) ts ≡ value a ts
value-with a v b [] other = refl
value-with a v b (t ∷ ts) other =
    let here = same_value (with_value a v b) a t (value-there a v t.lit.var b (λ e. All-head (λ t. v ≢ t.lit.var) t ts other (sym e))) in
    omega (arith, value-cons (with_value a v b) t ts, value-cons a t ts, here, value-with a v b ts (All-tail (λ t. v ≢ t.lit.var) t ts other))

-- ---- an assignment for each of the sums

turned_true : (sign : Bool) → cond sign sign (not sign) ≡ true
turned_true true = refl
turned_true false = refl

turned_false : (sign : Bool) → cond sign (not sign) (not (not sign)) ≡ false
turned_false true = refl
turned_false false = refl

-- some assignment makes just those terms true
pub subsum_assigned : (ts : List Weighted) → AreApartTerms ts → (u : ℕ) → IsSubsum ts u → (a : Assignment) × (value a ts ≡ u)
subsum_assigned [] apart u h = ((λ v. true), (omega arith))
subsum_assigned (t ∷ ts) apart u h =
    let others = AllPairs-head (λ (s u : Weighted). s.lit.var ≢ u.lit.var) t ts apart in
    let rest = AllPairs-tail (λ (s u : Weighted). s.lit.var ≢ u.lit.var) t ts apart in
    elim h as (λ _. (a : Assignment) × (value a (t ∷ ts) ≡ u)) [
      | inl without ↦
          let found = subsum_assigned ts rest u without in
          let a = with_value found.0 t.lit.var (not t.lit.positive) in
          let at : a t.lit.var ≡ not t.lit.positive = value-here found.0 t.lit.var (not t.lit.positive) in
          let off : lit_value a t.lit ≡ false = ap (λ (b : Bool). cond t.lit.positive b (not b)) at ∙ turned_false t.lit.positive in
          let nothing : term_value a t ≡ 0 = cond-false (lit_value a t.lit) t.coef 0 off in
          let is = found.1 in
          (a, omega (arith, value-cons a t ts, value-with found.0 t.lit.var (not t.lit.positive) ts others))
      | inr with ↦
          let found = subsum_assigned ts rest with.0 with.2 in
          let a = with_value found.0 t.lit.var t.lit.positive in
          let at : a t.lit.var ≡ t.lit.positive = value-here found.0 t.lit.var t.lit.positive in
          let on : lit_value a t.lit ≡ true = ap (λ (b : Bool). cond t.lit.positive b (not b)) at ∙ turned_true t.lit.positive in
          let whole : term_value a t ≡ t.coef = cond-true (lit_value a t.lit) t.coef 0 on in
          let is = found.1 in
          let e = with.1 in
          (a, omega (arith, value-cons a t ts, value-with found.0 t.lit.var t.lit.positive ts others))
    ]
