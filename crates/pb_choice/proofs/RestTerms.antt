-- What is left of a constraint is no longer and no heavier than the constraint.
use Rattle.std.proofs.Common.{◌≡◌, ◌<◌, ◌≤◌, ◌==◌, ℕ, Bool, true, false, not, cond, [], length, map, refl, arith}
use Rattle.std.proofs.lemmas.Bool.{ltb-false, eqb-false}
use Rattle.std.proofs.lemmas.List.{length-map}
use Rattle.pb_norm.specs.declared.reduction.Rest.{Rest}
use Rattle.pb_norm.specs.declared.reduction.Rest.TheVariants as rest
use Rattle.pb_norm.specs.Constraints.{Weighted, Constraint, IsLinear, slack, weight}
use Rattle.pb_norm.specs.Reduction.{all_weigh, at_most, class_of, core, forcing_terms, is_forcing, is_too_light, lits_of, opposite, rest_of, sorted, units_of, without_units}
use Rattle.pb_norm.proofs.Lengths.{HasAtMost, length-filter-le, rest-few}
use Rattle.pb_norm.proofs.RestClasses.{RestOver, rest-over}
use Rattle.pb_norm.proofs.Sorting.{by_weight-sum}
use Rattle.pb_norm.proofs.Units.{without_open}
use Rattle.pb_derive.proofs.Opposites.{weight-opposite}
use Rattle.pb_family.specs.Families.{VarsBelow}
use Rattle.std.proofs.lemmas.List.Elements.{All-nil}
use Rattle.pb_choice.specs.Residual.{rest_terms}
use Rattle.pb_choice.proofs.CoreWeights.{weight-core}

-- ---- over variables of the constraint

terms_over : (first : ℕ) (r : Rest) → RestOver (λ v. v < first) r → VarsBelow first (rest_terms r)
terms_over first (rest.One m) h = h
terms_over first (rest.Card m) h = h
terms_over first (rest.General m) h = h
terms_over first other h = All-nil (λ (t : Weighted). t.lit.var < first)

pub rest_below : (c : Constraint) (first : ℕ) → VarsBelow first c.terms → VarsBelow first (rest_terms (rest_of c))
rest_below c first below = terms_over first (rest_of c) (rest-over (λ v. v < first) c below)

-- ---- it is no longer

terms_short : (n : ℕ) (r : Rest) → HasAtMost n r → length (rest_terms r) ≤ n
terms_short n (rest.One m) h = h
terms_short n (rest.Card m) h = h
terms_short n (rest.General m) h = h
terms_short n other h = omega arith

pub rest_short : (c : Constraint) → length (rest_terms (rest_of c)) ≤ length c.terms
rest_short c = terms_short (length c.terms) (rest_of c) (rest-few c)

-- ---- it weighs no more

class_weight : (c : Constraint) → weight (rest_terms (class_of c)) ≤ weight c.terms
class_weight c = by_tests (not (all_weigh 1 c.terms)) (c.degree == 1) (slack c == 1)
  where
    turned : weight (map opposite c.terms) ≡ weight c.terms
    turned = weight-opposite c.terms

    by_tests : (weighted clause one : Bool) → weight (rest_terms (cond weighted (rest.General (sorted (at_most c))) (cond clause (rest.Clause (lits_of c.terms)) (cond one (rest.One (at_most c)) (rest.Card (at_most c)))))) ≤ weight c.terms
    by_tests true clause one = omega (arith, turned, by_weight-sum (λ (t : Weighted). t.coef) (map opposite c.terms))
    by_tests false true one = omega arith
    by_tests false false true = omega (arith, turned)
    by_tests false false false = omega (arith, turned)

pub rest_light : (c : Constraint) → IsLinear c → weight (rest_terms (rest_of c)) ≤ weight c.terms
rest_light c linear = by_light (is_too_light c) refl
  where
    by_rest : (done : Bool) → ((without_units c).degree == 0) ≡ done → c.degree ≤ weight c.terms → weight (rest_terms (cond done rest.Nothing (class_of (core c)))) ≤ weight c.terms
    by_rest true e light = omega arith
    by_rest false e light =
        let left : 0 < (without_units c).degree = omega (arith, eqb-false (without_units c).degree 0 e) in
        omega (arith, class_weight (core c), weight-core c (without_open c linear light left))

    by_light : (light : Bool) → is_too_light c ≡ light → weight (rest_terms (cond light rest.Empty (cond ((without_units c).degree == 0) rest.Nothing (class_of (core c))))) ≤ weight c.terms
    by_light true e = omega arith
    by_light false e = by_rest ((without_units c).degree == 0) refl (ltb-false (weight c.terms) c.degree e)

-- ---- its units

pub units_short : (c : Constraint) → length (units_of c) ≤ length c.terms
units_short c = by_test (is_too_light c)
  where
    by_test : (light : Bool) → length (cond light [] (lits_of (forcing_terms c))) ≤ length c.terms
    by_test true = omega arith
    by_test false = omega (arith, length-map (forcing_terms c) (λ (t : Weighted). t.lit), length-filter-le (is_forcing c) c.terms)
