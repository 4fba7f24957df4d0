-- The two halves of an equality of which a number of literals is asked, as the sums of one totalizer, and when it is encoded so.
use Rattle.std.proofs.Common.{◌≡◌, ◌≢◌, ◌<◌, ◌≤◌, ◌-◌, ◌↔◌, ◌&&◌, ℕ, Bool, true, false, List, [], ◌∷◌, length, map, refl, ap, sym, ◌∙◌, arith}
use Rattle.std.specs.Prelude.{All, nat_le, sum_by}
use Rattle.std.specs.List.{AllPairs}
use Rattle.std.proofs.lemmas.Bool.{and_left, and_parts, and_right}
use Rattle.std.proofs.lemmas.List.{length-map}
use Rattle.std.proofs.lemmas.List.Elements.{All-map}
use Rattle.pb_base.specs.declared.literal.Lit.{Lit}
use Rattle.pb_base.specs.Literals.{Assignment}
use Rattle.pb_base.proofs.Pairs.{AllPairs-map}
use Rattle.pb_norm.specs.BoundedSums.{IsProper, StaysWithin, vars_of}
use Rattle.pb_norm.specs.Constraints.{Weighted, Constraint, Holds, IsAscending, value, weight}
use Rattle.pb_norm.specs.Reduction.{all_weigh, divided, first_coef, lits_of, opposite}
use Rattle.pb_norm.specs.inner.Open.{IsOpen}
use Rattle.pb_norm.proofs.ClauseTerms.{length-weight}
use Rattle.pb_derive.specs.Derivations.{as_constraint}
use Rattle.pb_derive.specs.Forms.{IsFormOf}
use Rattle.pb_derive.specs.Ones.{ones}
use Rattle.pb_derive.proofs.Opposites.{opposite-twice, value-opposite, weight-opposite}
use Rattle.pb_derive.proofs.Rups.{ones-weight}
use Rattle.pb_derive.proofs.UnitTerms.{ones-all, ones-units}
use Rattle.pb_totalizer.specs.Exact.{at_least, exact_fresh}
use Rattle.pb_totalizer.specs.laws.AtLeast.{least_from, least_to}
use Rattle.pb_totalizer.specs.laws.UnitTerms.{literals_proper}
use Rattle.pb_base.specs.declared.options.Options.{Options}
use Rattle.pb_choice.specs.Equals.{asks_for_number, is_joining, is_joint, literals_asked, number_asked}
use Rattle.pb_choice.specs.EqualityLaws.{IsEquality}
use Rattle.pb_choice.proofs.NumbersAsked.{Asks, asks, asks_divided, asks_holds, asks_open, asks_opposite, divided_asks, opposite_ones}

-- ---- where the equality is encoded as one

module _ (o : Options) (c : Constraint) where
  abbrev within : Bool
  within = nat_le (exact_fresh (literals_asked c)) o.budget

  pub joint_asks : is_joint o c ≡ true → asks_for_number c ≡ true
  joint_asks is = (and_parts (asks_for_number c) within (and_parts (is_joining o.equal) (asks_for_number c && within) is).1).0

  pub not_joining : is_joining o.equal ≡ false → is_joint o c ≡ false
  not_joining e = and_left (is_joining o.equal) (asks_for_number c && within) e

  pub not_asking : asks_for_number c ≡ false → is_joint o c ≡ false
  not_asking e = and_right (is_joining o.equal) (asks_for_number c && within) (and_left (asks_for_number c) within e)

-- ---- variables

pub vars_same : (ts : List Weighted) → vars_of (ones (lits_of ts)) ≡ vars_of ts
vars_same [] = refl
vars_same (t ∷ ts) = ap (λ (vs : List ℕ). t.lit.var ∷ vs) (vars_same ts)

pub ones_over : (P : ℕ → Type 0) (ts : List Weighted) → All (λ t. P t.lit.var) ts → All (λ t. P t.lit.var) (ones (lits_of ts))
ones_over P ts h = ones-all (λ (t : Weighted). P t.lit.var) (lits_of ts) (All-map (λ (l : Lit). P l.var) (λ (t : Weighted). t.lit) ts h)

pub lits_apart : (ts : List Weighted) → IsAscending ts → AllPairs (λ k l. k.var ≢ l.var) (lits_of ts)
lits_apart ts up = AllPairs-map (λ (s t : Weighted). s.lit.var < t.lit.var) (λ (k l : Lit). k.var ≢ l.var) (λ (t : Weighted). t.lit) (λ s t less same. omega (arith, less, same)) ts up

-- ---- forms

form_of_open : (s d : Constraint) → d ≡ s → IsOpen d → IsFormOf s d
form_of_open s d same h = record {
  terms = λ f. ap (λ (c : Constraint). sum_by f c.terms) same;
  degree = ap (λ (c : Constraint). c.degree) same;
  positive = h.positive;
  ascending = h.ascending;
}

module _ (c d : Constraint) (equality : IsEquality c d) (number : asks_for_number c ≡ true) where
  pub lower_asks : Asks (first_coef c.terms) (number_asked c) c
  lower_asks = asks c equality.lower_linear number

  some_asked : 1 ≤ c.degree
  some_asked =
      let opened = asks_open (first_coef c.terms) (number_asked c) c lower_asks in
      omega (arith, opened.degree_from)

  pub upper_asks : Asks (first_coef c.terms) (length c.terms - number_asked c) d
  upper_asks = asks_opposite (first_coef c.terms) (number_asked c) c d lower_asks equality.upper_linear equality.halves.turned (equality.halves.degrees some_asked)

  count : length (lits_of c.terms) ≡ length c.terms
  count = length-map c.terms (λ (t : Weighted). t.lit)

  total : weight (ones (lits_of c.terms)) ≡ length c.terms
  total = ones-weight (lits_of c.terms) ∙ count

  pub asked_units : all_weigh 1 (literals_asked c).terms ≡ true
  asked_units = ones-units (lits_of c.terms)

  pub asked_proper : IsProper (literals_asked c)
  asked_proper =
      let linear = equality.lower_linear in
      literals_proper (lits_of c.terms) (number_asked c) (lits_apart c.terms linear.ascending) lower_asks.some (omega (arith, count, lower_asks.not_all))
      (omega (arith, count, length-weight c.terms linear.positive, linear.weight_fits))

  -- the terms of the other half
  turned_terms : ones (lits_of d.terms) ≡ map opposite (ones (lits_of c.terms))
  turned_terms = ap (λ (ts : List Weighted). ones (lits_of ts)) equality.halves.turned ∙ opposite_ones c.terms

  -- ---- what they say

  pub lower_says : (v : Assignment) → Holds v c ↔ StaysWithin v (at_least (literals_asked c))
  lower_says v =
      let as_sum = asks_holds (first_coef c.terms) (number_asked c) c lower_asks v in
      let heavy : number_asked c ≤ weight (ones (lits_of c.terms)) = omega (arith, total, lower_asks.not_all) in
      ((λ (h : Holds v c). least_to (literals_asked c) v (as_sum.0 h)), (λ (h : StaysWithin v (at_least (literals_asked c))). as_sum.1 (least_from (literals_asked c) heavy v h)))

  pub upper_says : (v : Assignment) → Holds v d ↔ StaysWithin v (literals_asked c)
  upper_says v =
      let as_sum = asks_holds (first_coef c.terms) (length c.terms - number_asked c) d upper_asks v in
      let same : value v (ones (lits_of d.terms)) ≡ value v (map opposite (ones (lits_of c.terms))) = ap (value v) turned_terms in
      let both = value-opposite v (ones (lits_of c.terms)) in (
        (λ (h : Holds v d). (let low = as_sum.0 h in omega (arith, low, same, both, total, lower_asks.not_all))),
        (λ (h : StaysWithin v (literals_asked c)). as_sum.1 (omega (arith, h, same, both, total))),
      )

  -- ---- divided, they are the totalizer's sums

  least_is : divided c ≡ as_constraint (at_least (literals_asked c))
  least_is =
      let us = ones (lits_of c.terms) in
      let heavy : number_asked c ≤ weight us = omega (arith, total, lower_asks.not_all) in
      let terms : us ≡ map opposite (map opposite us) = sym (opposite-twice us) in
      let degree : number_asked c ≡ weight (map opposite us) - (weight us - number_asked c) = omega (arith, weight-opposite us, heavy) in
      divided_asks (first_coef c.terms) (number_asked c) c lower_asks ∙ (λ i. record { terms = terms i; degree = degree i })

  most_is : divided d ≡ as_constraint (literals_asked c)
  most_is =
      let us = ones (lits_of c.terms) in
      let degree : length c.terms - number_asked c ≡ weight us - number_asked c = omega (arith, total) in
      divided_asks (first_coef c.terms) (length c.terms - number_asked c) d upper_asks ∙ (λ i. record { terms = turned_terms i; degree = degree i })

  pub least_form : IsFormOf (as_constraint (at_least (literals_asked c))) (divided c)
  least_form = form_of_open (as_constraint (at_least (literals_asked c))) (divided c) least_is (asks_divided (first_coef c.terms) (number_asked c) c lower_asks)

  pub most_form : IsFormOf (as_constraint (literals_asked c)) (divided d)
  most_form = form_of_open (as_constraint (literals_asked c)) (divided d) most_is (asks_divided (first_coef c.terms) (length c.terms - number_asked c) d upper_asks)
