-- What is made of constraints that hold, holds.
use Rattle.std.proofs.Common.{◌≡◌, ◌≤◌, ◌<◌, ◌+◌, ◌*◌, ◌⊎◌, inl, inr, ℕ, min, Bool, true, false, not, cond, List, [], ◌∷◌, arith, refl, eqb, ltb}
use Rattle.std.specs.Prelude.{sum_by, map}
use Rattle.std.proofs.lemmas.Bool.{cases_lt}
use Rattle.std.proofs.lemmas.Bool.Decides.{nat_tests}
use Rattle.std.proofs.lemmas.List.Sums.{sum_by-cons}
use Rattle.std.proofs.Math.Nat.{mul-le-mul_left}
use Rattle.pb_base.specs.declared.literal.Lit.{Lit}
use Rattle.pb_base.specs.Literals.{Assignment, lit_value}
use Rattle.pb_base.proofs.LiteralLemmas.{lit_value-negated}
use Rattle.pb_base.proofs.Sums.{sum_by-le-two, sum_by_two, sum_by-le-multiple, multiple-le-sum_by, sum_by-map, sum_by-filter}
use Rattle.pb_norm.specs.Constraints.{Weighted, Constraint, IsAscending, term_value, value, weight, Holds}
use Rattle.pb_norm.specs.Addition.{sum_of}
use Rattle.pb_norm.specs.Halves.{is_positive}
use Rattle.pb_norm.specs.Reduction.{cut_to, quotient_up, opposite}
use Rattle.pb_norm.proofs.AdditionValues.{joined-value}
use Rattle.pb_norm.proofs.Opened.{quotient_up-enough, quotient_up-least}
use Rattle.pb_steps.specs.Operations.{axiom_of, scaled, multiple, shrunk, division, saturation, is_other, coef_at, weakening, negation}

pub axiom_holds : (a : Assignment) (l : Lit) → Holds a (axiom_of l)
axiom_holds a l = omega arith

pub sum_holds : (a : Assignment) (c d : Constraint) → IsAscending d.terms → Holds a c → Holds a d → Holds a (sum_of c d)
sum_holds a c d ascending h k = omega (arith, joined-value a c.terms d.terms ascending, h, k)

-- ---- multiples and quotients

cond-times : (b : Bool) (n k : ℕ) → cond b (n * k) 0 ≡ n * cond b k 0
cond-times true n k = refl
cond-times false n k = omega arith

pub multiple_holds : (a : Assignment) (n : ℕ) (c : Constraint) → Holds a c → Holds a (multiple n c)
multiple_holds a n c h =
    let mapped = sum_by-map (term_value a) (scaled n) c.terms in
    let each : (t : Weighted) → n * term_value a t ≤ term_value a (scaled n t) = λ t. omega (arith, cond-times (lit_value a t.lit) n t.coef) in
    let sums = multiple-le-sum_by n (term_value a) (λ (t : Weighted). term_value a (scaled n t)) c.terms each in
    omega (arith, mul-le-mul_left n h)

cond-quotient : (b : Bool) (n k : ℕ) → 0 < n → cond b k 0 ≤ n * cond b (quotient_up n k) 0
cond-quotient true n k h = quotient_up-enough n k h
cond-quotient false n k h = omega arith

pub divided_holds : (a : Assignment) (n : ℕ) (c : Constraint) → 0 < n → Holds a c → Holds a (division n c)
divided_holds a n c pos h =
    let mapped = sum_by-map (term_value a) (shrunk n) c.terms in
    let each : (t : Weighted) → term_value a t ≤ n * term_value a (shrunk n t) = λ t. cond-quotient (lit_value a t.lit) n t.coef pos in
    let sums = sum_by-le-multiple n (term_value a) (λ (t : Weighted). term_value a (shrunk n t)) c.terms each in
    let reached : c.degree ≤ n * sum_by (λ (t : Weighted). term_value a (shrunk n t)) c.terms = omega arith in
    rw mapped (quotient_up-least n c.degree (sum_by (λ (t : Weighted). term_value a (shrunk n t)) c.terms) pos reached)

-- ---- saturation

-- a sum of parts that are cut at a limit reaches the limit, or is whole
cut-reaches : {X : Type 0} (d : ℕ) (f g : X → ℕ) (xs : List X) → ((x : X) → min (f x) d ≤ g x) → min (sum_by f xs) d ≤ sum_by g xs
cut-reaches d f g [] each = omega arith
cut-reaches d f g (x ∷ xs) each =
    omega (arith, sum_by-cons f x xs, sum_by-cons g x xs, cut-reaches d f g xs each, each x)

cond-cut : (b : Bool) (k d : ℕ) → min (cond b k 0) d ≤ cond (ltb 0 (min k d)) (cond b (min k d) 0) 0
cond-cut true k d = kept (min k d) where
  kept : (m : ℕ) → m ≤ cond (ltb 0 m) m 0
  kept m = grind (arith, nat_tests)
cond-cut false k d = omega arith

pub saturated_holds : (a : Assignment) (c : Constraint) → Holds a c → Holds a (saturation c)
saturated_holds a c h =
    let cut : Weighted → Weighted = cut_to c.degree in
    let kept = sum_by-filter (term_value a) is_positive (map cut c.terms) in
    let mapped = sum_by-map (λ (t : Weighted). cond (is_positive t) (term_value a t) 0) cut c.terms in
    let sums = cut-reaches c.degree (term_value a) (λ (t : Weighted). cond (is_positive (cut t)) (term_value a (cut t)) 0) c.terms (λ t. cond-cut (lit_value a t.lit) t.coef c.degree) in
    omega (arith, kept, mapped, sums, h)

-- ---- weakening and negation

cond-apart : (b p : Bool) (k : ℕ) → cond b k 0 ≤ cond (not p) (cond b k 0) 0 + cond p k 0
cond-apart true true k = omega arith
cond-apart true false k = omega arith
cond-apart false true k = omega arith
cond-apart false false k = omega arith

pub weakened_holds : (a : Assignment) (v : ℕ) (c : Constraint) → Holds a c → Holds a (weakening v c)
weakened_holds a v c h =
    let kept = sum_by-filter (term_value a) (is_other v) c.terms in
    let sums = sum_by-le-two (term_value a) (λ (t : Weighted). cond (is_other v t) (term_value a t) 0) (coef_at v) c.terms (λ t. cond-apart (lit_value a t.lit) (eqb t.lit.var v) t.coef) in
    omega (arith, kept, sums, h)

cond-both : (b : Bool) (k : ℕ) → k ≡ cond b k 0 + cond (not b) k 0
cond-both true k = omega arith
cond-both false k = omega arith

-- the values of a constraint's terms and of its negation's make up the weight
pub value-negation : (a : Assignment) (c : Constraint) → value a c.terms + value a (negation c).terms ≡ weight c.terms
value-negation a c =
    let mapped = sum_by-map (term_value a) opposite c.terms in
    let each : (t : Weighted) → t.coef ≡ term_value a t + term_value a (opposite t) =
    λ t. rw (lit_value-negated a t.lit) (cond-both (lit_value a t.lit) t.coef) in
    let sums = sum_by_two (λ (t : Weighted). t.coef) (term_value a) (λ (t : Weighted). term_value a (opposite t)) c.terms each in
    omega (arith, mapped, sums)

-- a constraint holds, or its negation does
pub holds_or_negation : (a : Assignment) (c : Constraint) → Holds a c ⊎ Holds a (negation c)
holds_or_negation a c =
    elim (cases_lt (value a c.terms) c.degree) [
      | inl short ↦ inr (omega (arith, value-negation a c))
      | inr enough ↦ inl enough
    ]

-- and not both
pub not_both : (a : Assignment) (c : Constraint) → Holds a c → Holds a (negation c) → ⊥
not_both a c h n = omega (arith, value-negation a c, h, n)
