-- A constraint that is written with its terms in any order is in the database in their order.
use Rattle.std.proofs.Common.{◌≡◌, ◌≢◌, ◌<◌, ◌+◌, ℕ, zero, suc, Bool, true, false, cond, List, [], ◌∷◌, ◌++◌, refl, ap, sym, ◌∙◌, subst, arith, ltb, pos, neg_ℤ, ◌+ℤ◌, ◌-ℤ◌}
use Rattle.std.specs.Prelude.{All, map, filter, sum_by, int_lt}
use Rattle.std.specs.Int.RustNames.{unsigned_abs}
use Rattle.std.proofs.lemmas.Int.{ints}
use Rattle.std.proofs.lemmas.Bool.{ltb-false, le-ltb}
use Rattle.std.proofs.lemmas.List.Elements.{All-nil, All-cons, All-head, All-tail, All-filter}
use Rattle.std.proofs.lemmas.List.Sums.{sum_by-cons}
use Rattle.pb_base.specs.declared.literal.Lit.{Lit}
use Rattle.pb_base.specs.declared.literal.Term.{Term}
use Rattle.pb_base.specs.Problems.{magnitude}
use Rattle.pb_base.specs.Literals.{negated, is_same}
use Rattle.pb_base.proofs.LiteralLemmas.{is_same-other_var}
use Rattle.pb_base.proofs.Pairs.{AllPairs-head, AllPairs-tail}
use Rattle.pb_norm.specs.Constraints.{Weighted, AllPositive, weight, term_of, terms_of}
use Rattle.pb_norm.specs.Addition.{coef_of, combined, with_term, joined, cancelled}
use Rattle.pb_norm.specs.Halves.{unsigned, moved, positive_part, is_positive, written}
use Rattle.pb_norm.proofs.WrittenForm.{normal_terms-positive, normal_terms-ascending}
use Rattle.pb_derive.specs.Forms.{AreSameTerms, AreApartTerms, IsFormOf}
use Rattle.pb_derive.proofs.Closed.{joined-positive}

-- the variable of the term is another
abbrev pub Other : ℕ → Weighted → Type 0
Other v t = v ≢ t.lit.var

with_term-other : (v : ℕ) (t : Weighted) (us : List Weighted) → v ≢ t.lit.var → All (Other t.lit.var) us → All (Other v) us → All (Other v) (with_term t us)
with_term-other v t [] h apart all = All-cons (Other v) t [] h all
with_term-other v t (u ∷ us) h apart all =
    placed (ltb t.lit.var u.lit.var) (ltb u.lit.var t.lit.var) refl refl (with_term-other v t us h (All-tail (Other t.lit.var) u us apart) (All-tail (Other v) u us all))
  where
    placed : (before after : Bool) → before ≡ ltb t.lit.var u.lit.var → after ≡ ltb u.lit.var t.lit.var → All (Other v) (with_term t us) →
        All (Other v) (cond {A = List Weighted} before (t ∷ u ∷ us) (cond {A = List Weighted} after (u ∷ with_term t us) (combined t u ++ us)))
    placed true after e f ih = All-cons (Other v) t (u ∷ us) h all
    placed false true e f ih = All-cons (Other v) u (with_term t us) (All-head (Other v) u us all) ih
    placed false false e f ih = absurd (All-head (Other t.lit.var) u us apart (omega (arith, ltb-false t.lit.var u.lit.var (sym e), ltb-false u.lit.var t.lit.var (sym f))))

-- a term of another variable than all adds itself alone
with_term-same : (t : Weighted) (us : List Weighted) → All (Other t.lit.var) us → (f : Weighted → ℕ) → sum_by f (with_term t us) ≡ f t + sum_by f us
with_term-same t [] apart f = sum_by-cons f t []
with_term-same t (u ∷ us) apart f =
    placed (ltb t.lit.var u.lit.var) (ltb u.lit.var t.lit.var) refl refl (with_term-same t us (All-tail (Other t.lit.var) u us apart) f)
  where
    placed : (before after : Bool) → before ≡ ltb t.lit.var u.lit.var → after ≡ ltb u.lit.var t.lit.var → sum_by f (with_term t us) ≡ f t + sum_by f us →
        sum_by f (cond {A = List Weighted} before (t ∷ u ∷ us) (cond {A = List Weighted} after (u ∷ with_term t us) (combined t u ++ us))) ≡ f t + sum_by f (u ∷ us)
    placed true after e g ih = sum_by-cons f t (u ∷ us)
    placed false true e g ih = omega (arith, ih, sum_by-cons f u (with_term t us), sum_by-cons f u us)
    placed false false e g ih = absurd (All-head (Other t.lit.var) u us apart (omega (arith, ltb-false t.lit.var u.lit.var (sym e), ltb-false u.lit.var t.lit.var (sym g))))

joined-other : (v : ℕ) (ts : List Weighted) → AreApartTerms ts → All (Other v) ts → All (Other v) (joined ts [])
joined-other v [] apart all = All-nil (Other v)
joined-other v (t ∷ ts) apart all =
    let heads = AllPairs-head (λ (s t : Weighted). s.lit.var ≢ t.lit.var) t ts apart in
    let tails = AllPairs-tail (λ (s t : Weighted). s.lit.var ≢ t.lit.var) t ts apart in
    with_term-other v t (joined ts []) (All-head (Other v) t ts all) (joined-other t.lit.var ts tails heads) (joined-other v ts tails (All-tail (Other v) t ts all))

-- terms whose variables are different stay the same as they are put in order
pub joined-same : (ts : List Weighted) → AreApartTerms ts → AreSameTerms (joined ts []) ts
joined-same [] apart f = refl
joined-same (t ∷ ts) apart f =
    let heads = AllPairs-head (λ (s t : Weighted). s.lit.var ≢ t.lit.var) t ts apart in
    let tails = AllPairs-tail (λ (s t : Weighted). s.lit.var ≢ t.lit.var) t ts apart in
    omega (arith, with_term-same t (joined ts []) (joined-other t.lit.var ts tails heads) f, joined-same ts tails f, sum_by-cons f t ts)

-- and take nothing from each other
coef_of-other : (l : Lit) (us : List Weighted) → All (Other l.var) us → coef_of us l ≡ 0
coef_of-other l [] h = refl
coef_of-other l (u ∷ us) h =
    let nothing : cond (is_same u.lit l) u.coef 0 ≡ 0 = ap (λ (b : Bool). cond b u.coef 0) (is_same-other_var u.lit l (λ e. All-head (Other l.var) u us h (sym e))) in
    omega (arith, sum_by-cons (λ (t : Weighted). cond (is_same t.lit l) t.coef 0) u us, nothing, coef_of-other l us (All-tail (Other l.var) u us h))

cancelled-none : (ts : List Weighted) → AreApartTerms ts → cancelled ts [] ≡ 0
cancelled-none [] apart = refl
cancelled-none (t ∷ ts) apart =
    let heads = AllPairs-head (λ (s t : Weighted). s.lit.var ≢ t.lit.var) t ts apart in
    let tails = AllPairs-tail (λ (s t : Weighted). s.lit.var ≢ t.lit.var) t ts apart in
    omega (arith, coef_of-other (negated t.lit) (joined ts []) (joined-other t.lit.var ts tails heads), cancelled-none ts tails)

-- ---- as they are written

pub filter-all : (f : Weighted → ℕ) (ts : List Weighted) → AllPositive ts → sum_by f (filter is_positive ts) ≡ sum_by f ts
filter-all f [] positive = refl
filter-all f (t ∷ ts) positive = by_test (ltb 0 t.coef) refl (filter-all f ts (All-tail (λ (t : Weighted). 0 < t.coef) t ts positive))
  where
    by_test : (b : Bool) → ltb 0 t.coef ≡ b → sum_by f (filter is_positive ts) ≡ sum_by f ts → sum_by f (cond b (t ∷ filter is_positive ts) (filter is_positive ts)) ≡ sum_by f (t ∷ ts)
    by_test true e ih = omega (arith, ih, sum_by-cons f t (filter is_positive ts), sum_by-cons f t ts)
    by_test false e ih = absurd (omega (arith, ltb-false 0 t.coef e, All-head (λ (t : Weighted). 0 < t.coef) t ts positive))

-- what holds of each term, holds of each as they are put in order
with_term-all : (P : Weighted → Type 0) (t : Weighted) (us : List Weighted) → All (Other t.lit.var) us → P t → All P us → All P (with_term t us)
with_term-all P t [] apart h all = All-cons P t [] h all
with_term-all P t (u ∷ us) apart h all =
    placed (ltb t.lit.var u.lit.var) (ltb u.lit.var t.lit.var) refl refl (with_term-all P t us (All-tail (Other t.lit.var) u us apart) h (All-tail P u us all))
  where
    placed : (before after : Bool) → before ≡ ltb t.lit.var u.lit.var → after ≡ ltb u.lit.var t.lit.var → All P (with_term t us) →
        All P (cond {A = List Weighted} before (t ∷ u ∷ us) (cond {A = List Weighted} after (u ∷ with_term t us) (combined t u ++ us)))
    placed true after e f ih = All-cons P t (u ∷ us) h all
    placed false true e f ih = All-cons P u (with_term t us) (All-head P u us all) ih
    placed false false e f ih = absurd (All-head (Other t.lit.var) u us apart (omega (arith, ltb-false t.lit.var u.lit.var (sym e), ltb-false u.lit.var t.lit.var (sym f))))

pub joined-all : (P : Weighted → Type 0) (ts : List Weighted) → AreApartTerms ts → All P ts → All P (joined ts [])
joined-all P [] apart all = all
joined-all P (t ∷ ts) apart all =
    let heads = AllPairs-head (λ (s t : Weighted). s.lit.var ≢ t.lit.var) t ts apart in
    let tails = AllPairs-tail (λ (s t : Weighted). s.lit.var ≢ t.lit.var) t ts apart in
    with_term-all P t (joined ts []) (joined-other t.lit.var ts tails heads) (All-head P t ts all) (joined-all P ts tails (All-tail P t ts all))

not_below_zero : (n : ℕ) → int_lt (pos n) (pos 0) ≡ false
not_below_zero n = le-ltb n 0 (omega arith)

unsigned-term : (t : Weighted) → unsigned (term_of t) ≡ t
unsigned-term t = ap (λ (b : Bool). record { coef = t.coef; lit = cond {A = Lit} b (negated t.lit) t.lit }) (not_below_zero t.coef)

unsigned-terms : (ts : List Weighted) → map unsigned (terms_of ts) ≡ ts
unsigned-terms [] = refl
unsigned-terms (t ∷ ts) = λ i. unsigned-term t i ∷ unsigned-terms ts i

moved-none : (ts : List Weighted) → moved (terms_of ts) ≡ 0
moved-none [] = refl
moved-none (t ∷ ts) = omega (arith, sum_by-cons (λ (u : Term). positive_part (neg_ℤ u.coef)) (term_of t) (terms_of ts), negative t.coef, moved-none ts)
  where
    negative : (n : ℕ) → positive_part (neg_ℤ (pos n)) ≡ 0
    negative zero = refl
    negative (suc n) = refl

-- a sum of different variables with positive coefficients is written as it is, in their order
pub written-form : (ts : List Weighted) (k : ℕ) → AreApartTerms ts → AllPositive ts → IsFormOf (record { terms = ts; degree = k }) (written (terms_of ts) (pos k))
written-form ts k apart positive = record {
  terms = λ f. subst (λ (us : List Weighted). sum_by f (filter is_positive (joined us [])) ≡ sum_by f ts) (sym (unsigned-terms ts)) (filter-all f (joined ts []) (joined-positive ts [] positive (All-nil (λ (t : Weighted). 0 < t.coef))) ∙ joined-same ts apart f);
  degree = degree_of k (moved (terms_of ts)) (cancelled (map unsigned (terms_of ts)) []) (moved-none ts) (subst (λ (us : List Weighted). cancelled us [] ≡ 0) (sym (unsigned-terms ts)) (cancelled-none ts apart));
  positive = normal_terms-positive (terms_of ts);
  ascending = normal_terms-ascending (terms_of ts);
}
  where
    degree_of : (k m c : ℕ) → m ≡ 0 → c ≡ 0 → positive_part (pos k +ℤ pos m -ℤ pos c) ≡ k
    degree_of k m c e f = rw (e, f) (ap positive_part (let same : pos k +ℤ pos 0 -ℤ pos 0 ≡ pos k = omega (arith, ints) in same))

-- what holds of each term holds of each as it is written
pub written-all : (P : Weighted → Type 0) (ts : List Weighted) (k : ℕ) → AreApartTerms ts → All P ts → All P (written (terms_of ts) (pos k)).terms
written-all P ts k apart h =
    subst (λ (us : List Weighted). All P (filter is_positive (joined us []))) (sym (unsigned-terms ts)) (All-filter is_positive P (joined ts []) (joined-all P ts apart h))

pub magnitude-terms : (ts : List Weighted) → magnitude (terms_of ts) ≡ weight ts
magnitude-terms [] = refl
magnitude-terms (t ∷ ts) = omega (arith, sum_by-cons (λ (u : Term). unsigned_abs u.coef) (term_of t) (terms_of ts), sum_by-cons (λ (u : Weighted). u.coef) t ts, magnitude-terms ts)
