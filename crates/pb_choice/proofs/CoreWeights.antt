-- The core of a constraint weighs no more than the constraint.
use Rattle.std.proofs.Common.{◌<◌, ◌≤◌, ℕ, Bool, true, false, cond, List, [], ◌∷◌, map, min, arith}
use Rattle.std.proofs.lemmas.List.Elements.{All-head, All-tail}
use Rattle.pb_norm.specs.Constraints.{Weighted, Constraint, AllPositive, weight}
use Rattle.pb_norm.specs.inner.Open.{IsOpen}
use Rattle.pb_norm.specs.Reduction.{all_weigh, core, cut_to, divided, first_coef, quotient_up, saturated, single, without_units}
use Rattle.pb_norm.proofs.AdditionSizes.{weight-cons}
use Rattle.pb_norm.proofs.Opened.{saturated_open}
use Rattle.pb_norm.proofs.Units.{split_weight}

pub weight-cut : (n : ℕ) (ts : List Weighted) → weight (map (cut_to n) ts) ≤ weight ts
weight-cut n [] = omega arith
weight-cut n (t ∷ ts) =
    let one : min t.coef n ≤ t.coef = omega arith in
    omega (arith, weight-cons t ts, weight-cons (cut_to n t) (map (cut_to n) ts), weight-cut n ts)

weight-single : (ts : List Weighted) → AllPositive ts → weight (map single ts) ≤ weight ts
weight-single [] positive = omega arith
weight-single (t ∷ ts) positive =
    let Positive : Weighted → Type 0 = λ t. 0 < t.coef in
    let one : 0 < t.coef = All-head Positive t ts positive in
    omega (arith, weight-cons t ts, weight-cons (single t) (map single ts), weight-single ts (All-tail Positive t ts positive))

weight-divided : (c : Constraint) → AllPositive c.terms → weight (divided c).terms ≤ weight c.terms
weight-divided c positive = by_test (all_weigh (first_coef c.terms) c.terms)
  where
    by_test : (b : Bool) → (let d : Constraint = cond b (record { terms = map single c.terms; degree = quotient_up (first_coef c.terms) c.degree }) c in weight d.terms ≤ weight c.terms)
    by_test true = weight-single c.terms positive
    by_test false = omega arith

pub weight-core : (c : Constraint) → IsOpen (without_units c) → weight (core c).terms ≤ weight c.terms
weight-core c opened =
    let whole = split_weight c in
    let cut = weight-cut (without_units c).degree (without_units c).terms in
    let last = weight-divided (saturated (without_units c)) (saturated_open (without_units c) opened).positive in
    omega (arith, whole, cut, last)
