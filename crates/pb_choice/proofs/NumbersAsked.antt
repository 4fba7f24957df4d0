-- Constraints with one coefficient, which ask for some of their literals: divided by the coefficient they say how many.
use Rattle.std.proofs.Common.{◌≡◌, ◌<◌, ◌≤◌, ◌+◌, ◌-◌, ◌*◌, ◌==◌, ◌&&◌, ◌↔◌, ℕ, Bool, true, List, [], ◌∷◌, length, map, refl, ap, sym, ◌∙◌, subst, arith, inl, inr}
use Rattle.std.specs.Prelude.{All, nat_le, nat_lt}
use Rattle.std.proofs.Math.Nat.{mul-le-mul_left, mul-sub}
use Rattle.std.proofs.lemmas.Bool.{and_parts, cases_lt, cond-true, eqb-true, leb-true, ltb-true}
use Rattle.std.proofs.lemmas.List.{length-map}
use Rattle.std.proofs.lemmas.List.Elements.{All-nil, All-cons}
use Rattle.pb_base.specs.Literals.{Assignment}
use Rattle.pb_norm.specs.Constraints.{Weighted, Constraint, IsLinear, Holds, value, weight}
use Rattle.pb_norm.specs.Reduction.{all_weigh, divided, first_coef, lits_of, opposite, quotient_up, single}
use Rattle.pb_norm.specs.inner.Open.{IsOpen}
use Rattle.pb_norm.proofs.AdditionSizes.{weight-cons}
use Rattle.pb_norm.proofs.Opened.{divided_holds, divided_open, first_coef-positive, quotient_up-enough, quotient_up-least}
use Rattle.pb_derive.specs.Ones.{ones}
use Rattle.pb_choice.specs.Equals.{asks_for_number, asks_for_some, is_counting, number_asked}

-- ---- terms with one coefficient

each_weighs : (a : ℕ) (ts : List Weighted) → all_weigh a ts ≡ true → All (λ t. t.coef ≡ a) ts
each_weighs a [] same = All-nil (λ (t : Weighted). t.coef ≡ a)
each_weighs a (t ∷ ts) same =
    let parts = and_parts (t.coef == a) (all_weigh a ts) same in
    All-cons (λ (t : Weighted). t.coef ≡ a) t ts (eqb-true t.coef a parts.0) (each_weighs a ts parts.1)

weight-each : (a : ℕ) (ts : List Weighted) → all_weigh a ts ≡ true → weight ts ≡ a * length ts
weight-each a [] same = omega arith
weight-each a (t ∷ ts) same =
    let parts = and_parts (t.coef == a) (all_weigh a ts) same in
    let here : t.coef ≡ a = eqb-true t.coef a parts.0 in
    omega (arith, weight-cons t ts, here, weight-each a ts parts.1)

opposites_weigh : (a : ℕ) (ts : List Weighted) → all_weigh a ts ≡ true → all_weigh a (map opposite ts) ≡ true
opposites_weigh a [] same = refl
opposites_weigh a (t ∷ ts) same =
    let parts = and_parts (t.coef == a) (all_weigh a ts) same in
    ap (λ (b : Bool). b && all_weigh a (map opposite ts)) parts.0 ∙ opposites_weigh a ts parts.1

first-opposite : (ts : List Weighted) → first_coef (map opposite ts) ≡ first_coef ts
first-opposite [] = refl
first-opposite (t ∷ ts) = refl

-- the first coefficient is no more than all together, or 1
pub first_small : (ts : List Weighted) → first_coef ts ≤ weight ts + 1
first_small [] = omega arith
first_small (t ∷ ts) = omega (arith, weight-cons t ts)

pub single_ones : (ts : List Weighted) → map single ts ≡ ones (lits_of ts)
single_ones [] = refl
single_ones (t ∷ ts) = ap (λ (us : List Weighted). single t ∷ us) (single_ones ts)

pub opposite_ones : (ts : List Weighted) → ones (lits_of (map opposite ts)) ≡ map opposite (ones (lits_of ts))
opposite_ones [] = refl
opposite_ones (t ∷ ts) = ap (λ (us : List Weighted). single (opposite t) ∷ us) (opposite_ones ts)

-- ---- numbers

quotient_times : (a k : ℕ) → 0 < a → quotient_up a (a * k) ≡ k
quotient_times a k some =
    let most = quotient_up-least a (a * k) k some (omega arith) in
    let enough = quotient_up-enough a (a * k) some in
    elim (cases_lt (quotient_up a (a * k)) k) as (λ _. quotient_up a (a * k) ≡ k) [
      | inl less ↦
          let above : a * (quotient_up a (a * k) + 1) ≤ a * k = mul-le-mul_left a (omega (arith, less)) in
          absurd (omega (arith, above, enough, some))
      | inr least ↦ omega (arith, most, least)
    ]

-- ---- what is asked

-- all coefficients are a, and so many of the literals are to be true: some, but not all
pub record Asks (a k : ℕ) (c : Constraint) : Type 0 where
  pub linear : IsLinear c
  pub weighs : all_weigh a c.terms ≡ true
  pub first : first_coef c.terms ≡ a
  pub degree : c.degree ≡ a * k
  pub some : 1 ≤ k
  pub not_all : k < length c.terms

pub asks : (c : Constraint) → IsLinear c → asks_for_number c ≡ true → Asks (first_coef c.terms) (number_asked c) c
asks c linear h =
    let parts = and_parts (is_counting c) (asks_for_some c) h in
    let counting = and_parts (all_weigh (first_coef c.terms) c.terms) (c.degree == first_coef c.terms * number_asked c) parts.0 in
    let three = and_parts (nat_le 3 (length c.terms)) (nat_le 1 (number_asked c) && nat_lt (number_asked c) (length c.terms)) parts.1 in
    let some = and_parts (nat_le 1 (number_asked c)) (nat_lt (number_asked c) (length c.terms)) three.1 in
    record {
      linear = linear;
      weighs = counting.0;
      first = refl;
      degree = eqb-true c.degree (first_coef c.terms * number_asked c) counting.1;
      some = leb-true 1 (number_asked c) some.0;
      not_all = ltb-true (number_asked c) (length c.terms) some.1;
    }

-- the other half asks for the others
pub asks_opposite : (a k : ℕ) (c d : Constraint) → Asks a k c → IsLinear d → d.terms ≡ map opposite c.terms → d.degree ≡ weight c.terms - c.degree → Asks a (length c.terms - k) d
asks_opposite a k c d h linear terms degree =
    let below = h.not_all in
    let some = h.some in
    record {
      linear = linear;
      weighs = ap (all_weigh a) terms ∙ opposites_weigh a c.terms h.weighs;
      first = ap first_coef terms ∙ first-opposite c.terms ∙ h.first;
      degree = degree ∙ (let e : weight c.terms - c.degree ≡ a * length c.terms - a * k = omega (arith, weight-each a c.terms h.weighs, h.degree) in e) ∙ sym (mul-sub a (length c.terms) k);
      some = omega arith;
      not_all = omega (arith, ap (λ (ts : List Weighted). length ts) terms, length-map c.terms opposite);
    }

module _ (a k : ℕ) (c : Constraint) (h : Asks a k c) where
  abbrev n : ℕ
  n = length c.terms

  pub some_weight : 0 < a
  some_weight = subst (λ (m : ℕ). 0 < m) h.first (first_coef-positive c.terms h.linear.positive)

  all_weight : weight c.terms ≡ a * n
  all_weight = weight-each a c.terms h.weighs

  -- no literal is forced
  pub asks_open : IsOpen c
  asks_open =
      let more : a * (k + 1) ≤ a * n = mul-le-mul_left a (omega (arith, h.not_all)) in
      let least : a * 1 ≤ a * k = mul-le-mul_left a h.some in
      let each = each_weighs a c.terms h.weighs in
      record {
        positive = h.linear.positive;
        ascending = h.linear.ascending;
        within = λ i d w. omega (arith, each i d w, all_weight, h.degree, more);
        weight_fits = h.linear.weight_fits;
        degree_from = omega (arith, h.degree, least, some_weight);
        reachable = omega (arith, all_weight, h.degree, more);
      }

  pub divided_asks : divided c ≡ record { terms = ones (lits_of c.terms); degree = k }
  divided_asks =
      let test : all_weigh (first_coef c.terms) c.terms ≡ true = ap (λ (m : ℕ). all_weigh m c.terms) h.first ∙ h.weighs in
      let degree : quotient_up (first_coef c.terms) c.degree ≡ k = ap (λ (m : ℕ). quotient_up m c.degree) h.first ∙ ap (quotient_up a) h.degree ∙ quotient_times a k some_weight in
      let quotient : Constraint = record { terms = map single c.terms; degree = quotient_up (first_coef c.terms) c.degree } in
      cond-true (all_weigh (first_coef c.terms) c.terms) quotient c test ∙ (λ i. record { terms = single_ones c.terms i; degree = degree i })

  pub asks_holds : (v : Assignment) → Holds v c ↔ (k ≤ value v (ones (lits_of c.terms)))
  asks_holds v = subst (λ (d : Constraint). Holds v c ↔ Holds v d) divided_asks (divided_holds v c asks_open)

  pub asks_divided : IsOpen (divided c)
  asks_divided = divided_open c asks_open
