-- The terms of a problem's table: they are few, weigh little, and are over the problem's variables.
use Rattle.std.proofs.Common.{◌≡◌, ◌≢◌, ◌≤◌, ◌<◌, ◌+◌, ◌-◌, ◌^◌, ℕ, Bool, true, false, cond, List, [], All, length, refl, arith, Option, Some, None}
use Rattle.std.specs.Option.{MatchOption, unwrap_or}
use Rattle.std.proofs.lemmas.List.Elements.{All-nil, All-weaker}
use Rattle.pb_base.specs.declared.literal.Term.{Term}
use Rattle.pb_base.specs.declared.problem.Problem.{Problem}
use Rattle.pb_base.specs.Literals.{Assignment}
use Rattle.pb_base.specs.Problems.{IsSumWithin, IsWithinLimits, magnitude, objective_terms, originals}
use Rattle.pb_base.proofs.Pairs.{AllPairs-map, AllPairs-nil}
use Rattle.pb_norm.specs.BoundedSums.{IsOverDistinct}
use Rattle.pb_norm.specs.Constraints.{IsAscending, Weighted, term_value, value, weight}
use Rattle.pb_norm.specs.Halves.{normal_terms}
use Rattle.pb_norm.specs.Reduction.{by_weight}
use Rattle.pb_norm.proofs.Lengths.{ascending_few}
use Rattle.pb_norm.proofs.Proper.{apart, ascending-distinct}
use Rattle.pb_norm.proofs.Sorting.{by_weight-all, by_weight-apart, by_weight-sum, length-by_weight}
use Rattle.pb_norm.proofs.Variables.{OfTerm, OfWritten, normal_terms-vars}
use Rattle.pb_norm.proofs.WrittenForm.{normal_terms-ascending, normal_terms-positive, normal_terms-weight}
use Rattle.pb_family.specs.Families.{VarsBelow}
use Rattle.pb_base.specs.declared.options.Options.{Options}
use Rattle.pb_choice.proofs.Composition.{IsOneBelow}
use Rattle.pb_gentot.specs.BoundTable.{IsTable}
use Rattle.pb_encode.specs.Tables.{table_terms}
use Rattle.pb_encode.proofs.CostLemmas.{light_terms}
use Rattle.pb_encode.proofs.HalfSizes.{normal_short}

-- in whichever order
by_weight-distinct : (ts : List Weighted) → IsAscending ts → IsOverDistinct (by_weight ts)
by_weight-distinct ts ascending =
    AllPairs-map (λ (s t : Weighted). s.lit.var ≢ t.lit.var) (λ (v w : ℕ). v ≢ w) (λ (t : Weighted). t.lit.var) (λ s t other. other) (by_weight ts) (by_weight-apart ts (apart ts (ascending-distinct ts ascending)))

-- what is asked of a table's terms
pub record AreFit (n : ℕ) (ts : List Weighted) : Type 0 where
  pub table : IsTable ts
  pub light : weight ts < 2 ^ 100
  pub few : length ts ≤ 2 ^ 20
  pub narrow : length ts < n
  pub over : All (OfTerm (IsOneBelow n)) ts

none_fit : (n : ℕ) → AreFit (n + 1) []
none_fit n = record {
  table = record { positive = All-nil (λ (t : Weighted). 0 < t.coef); distinct = AllPairs-nil (λ (v w : ℕ). v ≢ w) };
  light = omega arith;
  few = omega arith;
  narrow = omega arith;
  over = All-nil (OfTerm (IsOneBelow (n + 1)));
}

objective_over : (vars : ℕ) (o : Option (List Term)) → MatchOption o (Unit {0}) (λ ts. IsSumWithin vars ts × (magnitude ts < 2 ^ 100)) → All (OfWritten (IsOneBelow (vars + 1))) (unwrap_or o [])
objective_over vars None h = All-nil (OfWritten (IsOneBelow (vars + 1)))
objective_over vars (Some ts) h = λ i d l. (h.0.vars_from i d l, omega (arith, h.0.vars_within i d l))

objective_few : (vars : ℕ) (o : Option (List Term)) → MatchOption o (Unit {0}) (λ ts. IsSumWithin vars ts × (magnitude ts < 2 ^ 100)) → length (unwrap_or o []) ≤ 2 ^ 20
objective_few vars None h = omega arith
objective_few vars (Some ts) h = h.0.count

module _ (p : Problem) (within : IsWithinLimits p) where
  abbrev written : List Term
  written = objective_terms p

  abbrev normal : List Weighted
  normal = normal_terms written

  normal_over : All (OfTerm (IsOneBelow (originals p + 1))) normal
  normal_over = normal_terms-vars (IsOneBelow (originals p + 1)) written (objective_over (originals p) p.objective within.objective)

  -- each variable stands once
  normal_narrow : length normal < originals p + 1
  normal_narrow =
      let none : Weighted = record { coef = 0; lit = record { var = 0; positive = true } } in
      ascending_few normal none (originals p + 1) (normal_terms-ascending written) (λ some. (normal_over 0 none some).0) (λ some. (normal_over (length normal - 1) none (omega (arith, some))).1) (omega arith)

  costs_fit : AreFit (originals p + 1) (by_weight normal)
  costs_fit = record {
    table = record {
      positive = by_weight-all (λ (t : Weighted). 0 < t.coef) normal (normal_terms-positive written);
      distinct = by_weight-distinct normal (normal_terms-ascending written);
    };
    light = omega (arith, by_weight-sum (λ (t : Weighted). t.coef) normal, normal_terms-weight written, light_terms (originals p) p.objective within.objective);
    few = omega (arith, length-by_weight normal, normal_short written, objective_few (originals p) p.objective within.objective);
    narrow = omega (arith, length-by_weight normal, normal_narrow);
    over = by_weight-all (OfTerm (IsOneBelow (originals p + 1))) normal normal_over;
  }

  fit_if : (b : Bool) → AreFit (originals p + 1) (cond b (by_weight normal) [])
  fit_if true = costs_fit
  fit_if false = none_fit (originals p)

  pub table_fits : (o : Options) → AreFit (originals p + 1) (table_terms o p)
  table_fits o = fit_if o.table

-- they are no more than those of the objective where a table is asked for
pub table_few : (o : Options) (p : Problem) (most : ℕ) → (o.table ≡ true → length (objective_terms p) ≤ most) → length (table_terms o p) ≤ most
table_few o p most few = by_test o.table few
  where
    by_test : (b : Bool) → (b ≡ true → length (objective_terms p) ≤ most) → length (cond b (by_weight (normal_terms (objective_terms p))) []) ≤ most
    by_test true h = omega (arith, length-by_weight (normal_terms (objective_terms p)), normal_short (objective_terms p), h refl)
    by_test false h = omega arith

-- the values of a table's sum are those of the costs
pub by_weight-value : (a : Assignment) (ts : List Weighted) → value a (by_weight ts) ≡ value a ts
by_weight-value a ts = by_weight-sum (term_value a) ts

-- they are over variables below the fresh ones
pub table_below : (p : Problem) → IsWithinLimits p → (o : Options) (first : ℕ) → originals p + 1 ≤ first → VarsBelow first (table_terms o p)
table_below p within o first later =
    All-weaker (OfTerm (IsOneBelow (originals p + 1))) (λ (t : Weighted). t.lit.var < first) (λ t h. omega (arith, h.1, later)) (table_terms o p) (table_fits p within o).over
