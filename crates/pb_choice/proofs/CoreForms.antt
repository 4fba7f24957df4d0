-- What is left of a constraint is its core: as a clause it has no opposite literals, and as a sum it is the core's constraint.
use Rattle.std.proofs.Common.{◌≡◌, ◌<◌, ◌≤◌, ◌==◌, Bool, true, false, not, cond, List, length, map, refl, ap, sym, ◌∙◌, arith}
use Rattle.std.specs.Prelude.{sum_by}
use Rattle.std.proofs.lemmas.Bool.{eqb-false, ltb-false}
use Rattle.std.proofs.lemmas.List.{length-map}
use Rattle.pb_norm.specs.declared.reduction.Rest.{Rest}
use Rattle.pb_norm.specs.declared.reduction.Rest.TheVariants as rest
use Rattle.pb_norm.specs.BoundedSums.{BoundedSum}
use Rattle.pb_norm.specs.ClauseForm.{is_tautology}
use Rattle.pb_norm.specs.Constraints.{Weighted, Constraint, IsLinear, weight, slack}
use Rattle.pb_norm.specs.inner.Open.{IsOpen}
use Rattle.pb_norm.specs.Reduction.{all_weigh, at_most, by_weight, class_of, core, is_too_light, lits_of, opposite, rest_of, sorted, without_units}
use Rattle.pb_norm.proofs.Lengths.{length-core}
use Rattle.pb_norm.proofs.ReductionLaws.{core_open}
use Rattle.pb_norm.proofs.Sorting.{by_weight-sum}
use Rattle.pb_norm.proofs.Units.{without_open}
use Rattle.pb_base.proofs.Sums.{sum_by-map}
use Rattle.pb_derive.specs.Derivations.{as_constraint}
use Rattle.pb_derive.specs.Forms.{IsFormOf}
use Rattle.pb_derive.proofs.Opposites.{opposite-twice, weight-opposite}
use Rattle.pb_choice.proofs.Plain.{ascending_plain}

-- ---- sums

at_most_form : (c : Constraint) → IsOpen c → IsFormOf (as_constraint (at_most c)) c
at_most_form c h = record {
  terms = λ f. ap (λ (ts : List Weighted). sum_by f ts) (sym (opposite-twice c.terms));
  degree = let reach = h.reachable in omega (arith, weight-opposite c.terms, reach);
  positive = h.positive;
  ascending = h.ascending;
}

sorted_form : (c : Constraint) → IsOpen c → IsFormOf (as_constraint (sorted (at_most c))) c
sorted_form c h =
    let ms = map opposite c.terms in
    let plain = at_most_form c h in
    let same : weight (by_weight ms) ≡ weight ms = by_weight-sum (λ (t : Weighted). t.coef) ms in
    record {
      terms = λ f.
          plain.terms f ∙ sum_by-map f opposite ms ∙ sym (by_weight-sum (λ (t : Weighted). f (opposite t)) ms) ∙ sym (sum_by-map f opposite (by_weight ms));
      degree = omega (arith, plain.degree, same);
      positive = h.positive;
      ascending = h.ascending;
    }

-- ---- what is left

-- the core of a constraint is the sum's
pub record IsCoreOf (m : BoundedSum) (c : Constraint) : Type 0 where
  pub light : c.degree ≤ weight c.terms
  pub left : 0 < (without_units c).degree
  pub form : IsFormOf (as_constraint m) (core c)

abbrev pub IsLeftOf : Constraint → Rest → Type 0
IsLeftOf c rest.Nothing = Unit {0}
IsLeftOf c rest.Empty = Unit {0}
IsLeftOf c (rest.Clause ls) = (is_tautology ls ≡ false) × (length ls ≤ length c.terms)
IsLeftOf c (rest.One m) = IsCoreOf m c
IsLeftOf c (rest.Card m) = IsCoreOf m c
IsLeftOf c (rest.General m) = IsCoreOf m c

class_left : (c : Constraint) → c.degree ≤ weight c.terms → 0 < (without_units c).degree → IsOpen (core c) → IsLeftOf c (class_of (core c))
class_left c light left h = by_tests (not (all_weigh 1 d.terms)) (d.degree == 1) (slack d == 1)
  where
    d : Constraint
    d = core c

    plain : IsCoreOf (at_most d) c
    plain = record { light = light; left = left; form = at_most_form d h }

    by_tests : (weighted clause one : Bool) → IsLeftOf c (cond weighted (rest.General (sorted (at_most d))) (cond clause (rest.Clause (lits_of d.terms)) (cond one (rest.One (at_most d)) (rest.Card (at_most d)))))
    by_tests true clause one = record { light = light; left = left; form = sorted_form d h }
    by_tests false true one = (ascending_plain d.terms h.ascending, omega (arith, length-map d.terms (λ (t : Weighted). t.lit), length-core c))
    by_tests false false true = plain
    by_tests false false false = plain

pub rest_left : (c : Constraint) → IsLinear c → IsLeftOf c (rest_of c)
rest_left c linear = by_light (is_too_light c) refl
  where
    by_rest : (done : Bool) → ((without_units c).degree == 0) ≡ done → c.degree ≤ weight c.terms → IsLeftOf c (cond done rest.Nothing (class_of (core c)))
    by_rest true e light = tt
    by_rest false e light =
        let left : 0 < (without_units c).degree = omega (arith, eqb-false (without_units c).degree 0 e) in
        class_left c light left (core_open c (without_open c linear light left))

    by_light : (light : Bool) → is_too_light c ≡ light → IsLeftOf c (cond light rest.Empty (cond ((without_units c).degree == 0) rest.Nothing (class_of (core c))))
    by_light true e = tt
    by_light false e = by_rest ((without_units c).degree == 0) refl (ltb-false (weight c.terms) c.degree e)
