-- What the rows of a problem's table say of its objective.
use Rattle.std.proofs.Common.{◌≡◌, ◌≤◌, ◌<◌, ◌-◌, ◌↔◌, ◌⊎◌, ℕ, Bool, true, false, cond, leb, List, [], ◌∷◌, All, length, map, take, refl, sym, ap, subst, ◌∙◌, arith, inl, inr, ℤ, pos, ◌+ℤ◌, ◌<ℤ◌}
use Rattle.std.specs.Prelude.{Contains}
use Rattle.std.proofs.lemmas.Bool.{leb-true}
use Rattle.std.proofs.lemmas.Int.{ints}
use Rattle.std.proofs.lemmas.List.Elements.{All-nil, All-cons, Contains-append_right}
use Rattle.pb_base.specs.declared.literal.Lit.{Lit}
use Rattle.pb_base.specs.declared.problem.Problem.{Problem}
use Rattle.pb_base.specs.Literals.{Assignment, assigned_by, lit_value, negated}
use Rattle.pb_base.specs.Problems.{IsSolution, IsWithinLimits, objective_terms, originals, sum_value, widened}
use Rattle.pb_base.proofs.Members.{Contains-here, Contains-there}
use Rattle.pb_norm.specs.BoundedSums.{StaysWithin}
use Rattle.pb_norm.specs.Constraints.{Weighted, value}
use Rattle.pb_norm.specs.Forced.{Forces}
use Rattle.pb_norm.specs.Reduction.{by_weight}
use Rattle.pb_norm.specs.PropagationLaws.{AreAmong}
use Rattle.pb_norm.proofs.PropagationMore.{ClauseConflict-more, ClausesReach-more}
use Rattle.pb_norm.proofs.Solutions.{are_fronts}
use Rattle.pb_norm.specs.ClausePropagation.{ClauseConflict, ClausesReach}
use Rattle.pb_base.specs.declared.options.Options.{Options}
use Rattle.pb_gentot.specs.BoundTable.{IsTable, below, table_clauses, table_output, table_values}
use Rattle.pb_gentot.specs.BoundTableLaws.{PropagatesUnder}
use Rattle.pb_gentot.proofs.TableLaws.{table_propagates, table_sound}
use Rattle.pb_gentot.proofs.TableValues.{table_value_positive, table_values_are, table_values_rise}
use Rattle.pb_encode.specs.Bounds.{AreBounds, IsBound, TellBounds, bound_rows, objective_under}
use Rattle.pb_encode.specs.Clauses.{loaded_clauses, problem_clauses, problem_vars, table_first}
use Rattle.pb_encode.specs.Costs.{objective_form, offset_of}
use Rattle.pb_encode.specs.Models.{IsModelOver}
use Rattle.pb_encode.specs.Tables.{table_terms}
use Rattle.pb_encode.proofs.CostLemmas.{costs_of_sum, light_terms}
use Rattle.pb_encode.proofs.ModelCosts.{front_is_widened, objective_agrees}
use Rattle.pb_encode.proofs.Solutions.{cut_twice, have_solutions, model_from, table_model}
use Rattle.pb_encode.proofs.TableTerms.{by_weight-value, table_fits}

-- the values of rows from an offset on
rows_values : (z : ℤ) (f : ℕ → Lit) (us : List ℕ) → map (λ (r : ℤ × Lit). r.0) (map (λ (r : ℤ × Lit). (z +ℤ r.0, r.1)) (map (λ (u : ℕ). (pos u, f u)) us)) ≡ map (λ (u : ℕ). z +ℤ pos u) us
rows_values z f [] = refl
rows_values z f (u ∷ us) = ap (λ (zs : List ℤ). (z +ℤ pos u) ∷ zs) (rows_values z f us)

-- what holds of each row by its value
each_row : (P : ℤ × Lit → Type 0) (z : ℤ) (f : ℕ → Lit) (us : List ℕ) → ((u : ℕ) → Contains us u → P (z +ℤ pos u, f u)) → All P (map (λ (r : ℤ × Lit). (z +ℤ r.0, r.1)) (map (λ (u : ℕ). (pos u, f u)) us))
each_row P z f [] h = All-nil P
each_row P z f (u ∷ us) h =
    All-cons P (z +ℤ pos u, f u) (map (λ (r : ℤ × Lit). (z +ℤ r.0, r.1)) (map (λ (v : ℕ). (pos v, f v)) us)) (h u (Contains-here u us)) (each_row P z f us (λ v here. h v (Contains-there u us v here)))

-- below a value from an offset on
less_from : (s z : ℤ) (v u : ℕ) → s ≡ z +ℤ pos v → s <ℤ (z +ℤ pos u) → v < u
less_from s z v u is less = omega (arith, ints, is, less)

from_less : (s z : ℤ) (v u : ℕ) → s ≡ z +ℤ pos v → v < u → s <ℤ (z +ℤ pos u)
from_less s z v u is less = omega (arith, ints, is, less)

within_less : (v u : ℕ) → 1 ≤ u → v < u → v ≤ u - 1
within_less v u some less = omega (arith, some, less)

less_within : (v u : ℕ) → 1 ≤ u → v ≤ u - 1 → v < u
less_within v u some le = omega (arith, some, le)

not_reached : (v u : ℕ) → v < u → leb u v ≡ false
not_reached v u less = by_test (leb u v) refl
  where
    by_test : (b : Bool) → leb u v ≡ b → leb u v ≡ false
    by_test true e = absurd (omega (arith, leb-true u v e, less))
    by_test false e = e

-- propagation beside a literal depends on what is said of assignments alone
under_same : (cs ds : List (List Lit)) (k : Lit) (P Q : Assignment → Type 0) → AreAmong cs ds → ((a : Assignment) → P a ↔ Q a) → PropagatesUnder cs k P → PropagatesUnder ds k Q
under_same cs ds k P Q among same h = record {
  conflict = λ given consistent none. ClauseConflict-more cs ds among (k ∷ given) (h.conflict given consistent (λ a true_lits holds. none a true_lits ((same a).0 holds)));
  forced = λ given l consistent forces.
      let some = forces.satisfiable in
      let before : Forces P given l = record {
        satisfiable = (some.0, some.1, (same some.0).1 some.2);
        forces = λ a true_lits holds. forces.forces a true_lits ((same a).0 holds);
      } in
      elim (h.forced given l consistent before) as (λ _. ClausesReach ds (k ∷ given) l ⊎ ClauseConflict ds (k ∷ given)) [
        | inl reached ↦ inl (ClausesReach-more cs ds among (k ∷ given) l reached)
        | inr conflict ↦ inr (ClauseConflict-more cs ds among (k ∷ given) conflict)
      ];
}

module _ (o : Options) (p : Problem) (within : IsWithinLimits p) (asked : o.table ≡ true) where
  abbrev terms : List Weighted
  terms = table_terms o p

  abbrev costs : List Weighted
  costs = (objective_form p).terms

  abbrev clauses : List (List Lit)
  clauses = problem_clauses o p

  table : IsTable terms
  table = (table_fits p within o).table

  terms_are : terms ≡ by_weight costs
  terms_are = ap (λ (b : Bool). cond {A = List Weighted} b (by_weight costs) []) asked

  value_is : (a : Assignment) → value a terms ≡ value a costs
  value_is a = ap (value a) terms_are ∙ by_weight-value a costs

  -- the objective's value is the offset and the table's sum
  sum_is : (a : Assignment) → sum_value a (objective_terms p) ≡ offset_of p +ℤ pos (value a terms)
  sum_is a = costs_of_sum a (objective_terms p) (light_terms (originals p) p.objective within.objective) ∙ ap (λ (n : ℕ). offset_of p +ℤ pos n) (sym (value_is a))

  are_bounds : AreBounds p (bound_rows o p)
  are_bounds = record {
    sums = table_values terms;
    values_are = rows_values (offset_of p) (table_output terms (table_first o p)) (table_values terms);
    rising = table_values_rise terms;
    exact = λ u. (
      (λ h. let found = (table_values_are terms table u).0 h in (found.0, (found.1.0, sym (value_is found.1.0) ∙ found.1.1))),
      (λ h. (table_values_are terms table u).1 (h.0, (h.1.0, value_is h.1.0 ∙ h.1.1))),
    );
  }

  module _ (u : ℕ) (here : Contains (table_values terms) u) where
    abbrev literal : Lit
    literal = table_output terms (table_first o p) u

    abbrev most : ℤ
    most = offset_of p +ℤ pos u

    some : 1 ≤ u
    some = table_value_positive terms table u here

    propagates : PropagatesUnder clauses (negated literal) (λ a. sum_value a (objective_terms p) <ℤ most)
    propagates =
        under_same (table_clauses terms (table_first o p)) clauses (negated literal) (λ a. StaysWithin a (below terms u)) (λ a. sum_value a (objective_terms p) <ℤ most)
        (λ c h. Contains-append_right (loaded_clauses o p) (table_clauses terms (table_first o p)) c h)
        (λ a. (
          (λ le. from_less (sum_value a (objective_terms p)) (offset_of p) (value a terms) u (sum_is a) (less_within (value a terms) u some le)),
          (λ less. within_less (value a terms) u some (less_from (sum_value a (objective_terms p)) (offset_of p) (value a terms) u (sum_is a) less)),
        ))
        (table_propagates terms table (table_first o p) u here)

    -- a solution below the value is the front of a model without the literal
    extends : (values : List Bool) → IsSolution p values → objective_under p values <ℤ most → (model : List Bool) × IsModelOver (problem_vars o p) clauses model × (lit_value (assigned_by model) literal ≡ false) × (take p.vars model ≡ values)
    extends values solution less =
        let front = (are_fronts p within.products values).0 solution in
        let found = model_from o p within front.0 front.1.covers front.1.solves in
        let cut : take p.vars found.model ≡ values = sym (cut_twice p found.model) ∙ ap (take p.vars) found.front ∙ front.1.front in
        let wide : front.0 ≡ widened p values = sym found.front ∙ front_is_widened o p within found.model found.is ∙ ap (widened p) cut in
        let sum : sum_value (assigned_by front.0) (objective_terms p) <ℤ most = subst (λ (all : List Bool). sum_value (assigned_by all) (objective_terms p) <ℤ most) (sym wide) less in
        let v = value (assigned_by front.0) terms in
        (found.model, found.is, found.rows u here ∙ not_reached v u (less_from (sum_value (assigned_by front.0) (objective_terms p)) (offset_of p) v u (sum_is (assigned_by front.0)) sum), cut)

    -- such a model's front is one
    cuts : (values : List Bool) (model : List Bool) → length values ≡ p.vars → IsModelOver (problem_vars o p) clauses model → lit_value (assigned_by model) literal ≡ false → take p.vars model ≡ values → IsSolution p values × (objective_under p values <ℤ most)
    cuts values model covers is off cut =
        let solution = (have_solutions o p within values covers).1 (model, is, cut) in
        let a = assigned_by model in
        let less = table_sound terms table (table_first o p) u here a (table_model o p a is.satisfies) off in
        let sum = from_less (sum_value a (objective_terms p)) (offset_of p) (value a terms) u (sum_is a) less in
        (solution, subst (λ (z : ℤ). z <ℤ most) (sym (objective_agrees o p within model is) ∙ ap (objective_under p) cut) sum)

    row_is_bound : IsBound p (problem_vars o p) clauses (most, literal)
    row_is_bound = record {
      models = λ values covers. (
        (λ h. extends values h.0 h.1),
        (λ found. cuts values found.0 covers found.1 found.2 found.3),
      );
      propagates = propagates;
    }

  pub table_tells : TellBounds p (problem_vars o p) clauses (bound_rows o p)
  table_tells = record {
    values = are_bounds;
    each = each_row (IsBound p (problem_vars o p) clauses) (offset_of p) (table_output terms (table_first o p)) (table_values terms) row_is_bound;
  }
