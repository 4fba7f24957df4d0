-- What sums, multiples and quotients of constraints are, by their values under assignments, however their literals cancel.
use Rattle.std.proofs.Common.{◌≡◌, ◌≤◌, ◌<◌, ◌+◌, ◌*◌, ℕ, false, List, refl, ap, ◌∙◌, arith, pos}
use Rattle.std.specs.Prelude.{map, sum_by}
use Rattle.std.proofs.Math.Nat.{mul-add}
use Rattle.std.proofs.lemmas.List.Elements.{All-map, All-weaker}
use Rattle.pb_base.specs.Literals.{Assignment}
use Rattle.pb_norm.specs.Constraints.{Weighted, Constraint, AllPositive, IsAscending, value, term_value, terms_of}
use Rattle.pb_norm.specs.Addition.{sum_of}
use Rattle.pb_norm.specs.Halves.{written}
use Rattle.pb_norm.proofs.AdditionOrder.{map-ascending, joined-ascending}
use Rattle.pb_norm.proofs.AdditionValues.{joined-value}
use Rattle.pb_steps.specs.Operations.{scaled, multiple}
use Rattle.pb_derive.specs.Forms.{AreApartTerms, IsFormOf}
use Rattle.pb_derive.proofs.Closed.{joined-positive}
use Rattle.pb_derive.proofs.SameTerms.{written-form}
use Rattle.pb_derive.proofs.SameValues.{same_values}
use Rattle.pb_derive.proofs.UnaryRows.{scaled-value}

-- under each assignment, what the constraint has above its degree is what V has above d
pub record Worth (c : Constraint) (V : Assignment → ℕ) (d : ℕ) : Type 0 where
  pub same : (a : Assignment) → value a c.terms + d ≡ c.degree + V a
  pub positive : AllPositive c.terms
  pub ascending : IsAscending c.terms

pub worth_of : (s c : Constraint) → IsFormOf s c → Worth c (λ a. value a s.terms) s.degree
worth_of s c h = record { same = λ a. omega (arith, h.terms (term_value a), h.degree); positive = h.positive; ascending = h.ascending }

-- the same value in other words
pub worth_as : (c : Constraint) (V W : Assignment → ℕ) (d k : ℕ) → Worth c V d → ((a : Assignment) → V a + k ≡ W a + d) → Worth c W k
worth_as c V W d k h same = record { same = λ a. omega (arith, h.same a, same a); positive = h.positive; ascending = h.ascending }

-- The degree of a sum is not cut off at 0, where under some assignment the two together have no more than their degrees.
pub worth_sum : (under : Assignment) (c e : Constraint) (V W : Assignment → ℕ) (d k : ℕ) → Worth c V d → Worth e W k → V under + W under ≤ d + k → Worth (sum_of c e) (λ a. V a + W a) (d + k)
worth_sum under c e V W d k h l tight = record {
  same = λ a. omega (
    arith,
    joined-value a c.terms e.terms l.ascending,
    joined-value under c.terms e.terms l.ascending,
    h.same a,
    l.same a,
    h.same under,
    l.same under,
    tight,
  );
  positive = joined-positive c.terms e.terms h.positive l.positive;
  ascending = joined-ascending c.terms e.terms l.ascending;
}

scaled-positive : (n : ℕ) (ts : List Weighted) → 0 < n → AllPositive ts → AllPositive (map (scaled n) ts)
scaled-positive n ts some h = All-map (λ (t : Weighted). 0 < t.coef) (scaled n) ts (All-weaker (λ (t : Weighted). 0 < t.coef) (λ (t : Weighted). 0 < n * t.coef) (λ t k. times t.coef k) ts h)
  where
    times : (k : ℕ) → 0 < k → 0 < n * k
    times k l = grind (arith, some)

pub worth_times : (n : ℕ) (c : Constraint) (V : Assignment → ℕ) (d : ℕ) → 0 < n → Worth c V d → Worth (multiple n c) (λ a. n * V a) (n * d)
worth_times n c V d some h = record {
  same = λ a.
      let whole : n * (value a c.terms + d) ≡ n * (c.degree + V a) = ap (λ (k : ℕ). n * k) (h.same a) in
      omega (arith, scaled-value a n c.terms, mul-add n (value a c.terms) d, mul-add n c.degree (V a), whole);
  positive = scaled-positive n c.terms some h.positive;
  ascending = map-ascending (scaled n) (λ t. refl) c.terms h.ascending;
}

-- what the terms are that have the value
pub worth_form : (t c : Constraint) (V : Assignment → ℕ) (d : ℕ) → Worth c V d → AreApartTerms t.terms → AllPositive t.terms → ((a : Assignment) → value a t.terms + d ≡ t.degree + V a) → IsFormOf t c
worth_form t c V d h apart positive same =
    let w : Constraint = written (terms_of t.terms) (pos t.degree) in
    let wf : IsFormOf t w = written-form t.terms t.degree apart positive in
    let all : (a : Assignment) → value a c.terms + t.degree ≡ value a w.terms + c.degree = λ a. omega (arith, h.same a, same a, wf.terms (term_value a)) in
    let terms : c.terms ≡ w.terms = same_values c.terms w.terms t.degree c.degree h.positive h.ascending wf.positive wf.ascending all in
    let none : Assignment = λ v. false in
    record {
      terms = λ f. ap (λ (us : List Weighted). sum_by f us) terms ∙ wf.terms f;
      degree = omega (arith, all none, ap (value none) terms);
      positive = h.positive;
      ascending = h.ascending;
    }
