-- What the operations of cutting planes do to constraints whose terms are given in any order.
use Rattle.std.proofs.Common.{◌≡◌, ◌≢◌, ◌≤◌, ◌<◌, ◌+◌, ◌-◌, ◌*◌, ℕ, Bool, true, false, not, cond, List, [], ◌∷◌, ◌++◌, refl, ap, sym, ◌∙◌, subst, arith, pos, eqb}
use Rattle.std.specs.Prelude.{All, sum_by}
use Rattle.std.proofs.lemmas.Bool.{eq-eqb, ne_eqb}
use Rattle.std.proofs.lemmas.List.Elements.{All-head, All-tail, All-map, All-weaker, All-filter}
use Rattle.std.proofs.lemmas.List.Sums.{sum_by-cons}
use Rattle.pb_base.specs.Literals.{Assignment}
use Rattle.pb_base.proofs.Pairs.{AllPairs-head, AllPairs-tail}
use Rattle.pb_base.proofs.Sums.{sum_by-map, sum_by-filter}
use Rattle.pb_norm.specs.Constraints.{Weighted, Constraint, AllPositive, weight, value, term_value, terms_of}
use Rattle.pb_norm.specs.BoundedSums.{vars_of}
use Rattle.pb_norm.specs.Addition.{sum_of, joined, cancelled}
use Rattle.pb_norm.specs.Halves.{written}
use Rattle.pb_norm.specs.Reduction.{quotient_up}
use Rattle.pb_norm.proofs.AdditionSizes.{weight-cons}
use Rattle.pb_norm.proofs.AdditionOrder.{map-ascending, joined-ascending, filter-ascending}
use Rattle.pb_norm.proofs.AdditionValues.{joined-value}
use Rattle.pb_norm.proofs.Opened.{quotient_up-enough}
use Rattle.pb_steps.specs.Operations.{scaled, multiple, shrunk, division, weakening, is_other, coef_at}
use Rattle.pb_derive.specs.Forms.{AreSameTerms, AreApartTerms, IsFormOf}
use Rattle.pb_derive.specs.Later.{IsOther}
use Rattle.pb_derive.proofs.Closed.{joined-positive}
use Rattle.pb_derive.proofs.Closing.{weaken_from}
use Rattle.pb_derive.proofs.SameTerms.{written-form, written-all}
use Rattle.pb_derive.proofs.SameValues.{same_values}

abbrev Other : Weighted → Weighted → Type 0
Other s t = s.lit.var ≢ t.lit.var

abbrev Positive : Weighted → Type 0
Positive t = 0 < t.coef

-- ---- the sum: what each assignment gives beyond the other side is taken from the degree

pub form_sum : (s t u c d : Constraint) (k : ℕ) → IsFormOf s c → IsFormOf t d → AreApartTerms u.terms → AllPositive u.terms
    → ((a : Assignment) → value a s.terms + value a t.terms ≡ value a u.terms + k) → s.degree + t.degree ≡ u.degree + k → IsFormOf u (sum_of c d)
form_sum s t u c d k hc hd apart positive same degree =
    let w : Constraint = written (terms_of u.terms) (pos u.degree) in
    let wf : IsFormOf u w = written-form u.terms u.degree apart positive in
    let gone : ℕ = cancelled c.terms d.terms in
    let all : (a : Assignment) → value a (joined c.terms d.terms) + gone ≡ value a w.terms + k = λ a.
    omega (arith, joined-value a c.terms d.terms hd.ascending, hc.terms (term_value a), hd.terms (term_value a), wf.terms (term_value a), same a) in
    let up = joined-ascending c.terms d.terms hd.ascending in
    let some = joined-positive c.terms d.terms hc.positive hd.positive in
    let terms : joined c.terms d.terms ≡ w.terms = same_values (joined c.terms d.terms) w.terms gone k some up wf.positive wf.ascending all in
    let none : Assignment = λ v. false in
    let is : gone ≡ k = omega (arith, all none, ap (value none) terms) in
    record {
      terms = λ f. ap (λ (us : List Weighted). sum_by f us) terms ∙ wf.terms f;
      degree = omega (arith, hc.degree, hd.degree, degree, is);
      positive = some;
      ascending = up;
    }

-- ---- multiples and division, term by term

times-positive : (n k : ℕ) → 0 < n → 0 < k → 0 < n * k
times-positive n k h l = grind arith

pub form_multiple : (n : ℕ) (s c : Constraint) → 0 < n → IsFormOf s c → IsFormOf (multiple n s) (multiple n c)
form_multiple n s c some h = record {
  terms = λ f. sum_by-map f (scaled n) c.terms ∙ h.terms (λ t. f (scaled n t)) ∙ sym (sum_by-map f (scaled n) s.terms);
  degree = ap (λ (k : ℕ). n * k) h.degree;
  positive = All-map Positive (scaled n) c.terms (All-weaker Positive (λ (t : Weighted). 0 < n * t.coef) (λ t k. times-positive n t.coef some k) c.terms h.positive);
  ascending = map-ascending (scaled n) (λ t. refl) c.terms h.ascending;
}

pub quotient-positive : (n k : ℕ) → 0 < n → 0 < k → 0 < quotient_up n k
quotient-positive n k h l = by_quotient (quotient_up n k) (quotient_up-enough n k h)
  where
    by_quotient : (q : ℕ) → k ≤ n * q → 0 < q
    by_quotient q e = grind (arith, l)

pub form_division : (n : ℕ) (s c : Constraint) → 0 < n → IsFormOf s c → IsFormOf (division n s) (division n c)
form_division n s c some h = record {
  terms = λ f. sum_by-map f (shrunk n) c.terms ∙ h.terms (λ t. f (shrunk n t)) ∙ sym (sum_by-map f (shrunk n) s.terms);
  degree = ap (quotient_up n) h.degree;
  positive = All-map Positive (shrunk n) c.terms (All-weaker Positive (λ (t : Weighted). 0 < quotient_up n t.coef) (λ t k. quotient-positive n t.coef some k) c.terms h.positive);
  ascending = map-ascending (shrunk n) (λ t. refl) c.terms h.ascending;
}

-- ---- a variable goes, which the first term has

others_stay : (f : Weighted → ℕ) (v : ℕ) (ts : List Weighted) → All (IsOther v) ts → sum_by (λ t. cond (is_other v t) (f t) 0) ts ≡ sum_by f ts
others_stay f v [] h = refl
others_stay f v (t ∷ ts) h =
    let away : t.lit.var ≢ v = λ e. All-head (IsOther v) t ts h (sym e) in
    omega (
      arith,
      sum_by-cons (λ t. cond (is_other v t) (f t) 0) t ts,
      sum_by-cons f t ts,
      ap (λ (b : Bool). cond (not b) (f t) 0) (ne_eqb t.lit.var v away),
      others_stay f v ts (All-tail (IsOther v) t ts h),
    )

none_at : (v : ℕ) (ts : List Weighted) → All (IsOther v) ts → sum_by (coef_at v) ts ≡ 0
none_at v [] h = refl
none_at v (t ∷ ts) h =
    let away : t.lit.var ≢ v = λ e. All-head (IsOther v) t ts h (sym e) in
    omega (arith, sum_by-cons (coef_at v) t ts, ap (λ (b : Bool). cond b t.coef 0) (ne_eqb t.lit.var v away), none_at v ts (All-tail (IsOther v) t ts h))

pub form_weakening : (t : Weighted) (ts : List Weighted) (k : ℕ) (c : Constraint) → All (IsOther t.lit.var) ts → IsFormOf (record { terms = t ∷ ts; degree = k }) c → IsFormOf (record { terms = ts; degree = k - t.coef }) (weakening t.lit.var c)
form_weakening t ts k c others h =
    let v : ℕ = t.lit.var in
    let same : eqb v v ≡ true = eq-eqb v v refl in
    record {
      terms = λ f.
          sum_by-filter f (is_other v) c.terms ∙ h.terms (λ u. cond (is_other v u) (f u) 0)
          ∙ (let e : sum_by (λ u. cond (is_other v u) (f u) 0) (t ∷ ts) ≡ sum_by f ts = omega (arith, sum_by-cons (λ u. cond (is_other v u) (f u) 0) t ts, ap (λ (b : Bool). cond (not b) (f t) 0) same, others_stay f v ts others) in e);
      degree = omega (arith, h.degree, h.terms (coef_at v), sum_by-cons (coef_at v) t ts, ap (λ (b : Bool). cond b t.coef 0) same, none_at v ts others);
      positive = All-filter (is_other v) Positive c.terms h.positive;
      ascending = filter-ascending (is_other v) c.terms h.ascending;
    }

-- ---- the terms in another order

pub form_as : (s t c : Constraint) → AreSameTerms s.terms t.terms → s.degree ≡ t.degree → IsFormOf s c → IsFormOf t c
form_as s t c terms degree h = record { terms = λ f. h.terms f ∙ terms f; degree = h.degree ∙ degree; positive = h.positive; ascending = h.ascending }

-- ---- forms have the same weight, and what holds of each term of one holds of each of the other

pub form_weight : (s c : Constraint) → IsFormOf s c → weight c.terms ≡ weight s.terms
form_weight s c h = h.terms (λ t. t.coef)

pub form_all : (Q : Weighted → Type 0) (s c : Constraint) → AreApartTerms s.terms → AllPositive s.terms → IsFormOf s c → All Q s.terms → All Q c.terms
form_all Q s c apart positive h all =
    let w : Constraint = written (terms_of s.terms) (pos s.degree) in
    let wf : IsFormOf s w = written-form s.terms s.degree apart positive in
    let same : c.terms ≡ w.terms = same_values c.terms w.terms 0 0 h.positive h.ascending wf.positive wf.ascending (λ a. omega (arith, h.terms (term_value a), wf.terms (term_value a))) in
    subst (λ (us : List Weighted). All Q us) (sym same) (written-all Q s.terms s.degree apart all)

-- ---- the variables of some terms go

pub form_weakenings : (ts us : List Weighted) (k : ℕ) (c : Constraint) → AreApartTerms (ts ++ us) → IsFormOf (record { terms = ts ++ us; degree = k }) c → IsFormOf (record { terms = us; degree = k - weight ts }) (weaken_from c (vars_of ts))
form_weakenings [] us k c apart h = subst (λ (n : ℕ). IsFormOf (record { terms = us; degree = n }) c) (let e : k ≡ k - weight [] = omega arith in e) h
form_weakenings (t ∷ ts) us k c apart h =
    let one = form_weakening t (ts ++ us) k c (AllPairs-head Other t (ts ++ us) apart) h in
    let same : k - t.coef - weight ts ≡ k - weight (t ∷ ts) = omega (arith, weight-cons t ts) in
    subst (λ (n : ℕ). IsFormOf (record { terms = us; degree = n }) (weaken_from c (vars_of (t ∷ ts)))) same (form_weakenings ts us (k - t.coef) (weakening t.lit.var c) (AllPairs-tail Other t (ts ++ us) apart) one)
