-- The clauses of an exact sum are derived from its two constraints.
use Rattle.std.proofs.Common.{◌≡◌, ◌≤◌, ◌<◌, ◌+◌, ◌-◌, ◌*◌, ◌^◌, ℕ, true, List, length, map, ap, sym, ◌∙◌, subst, arith}
use Rattle.pb_norm.specs.Constraints.{Weighted, Constraint, weight}
use Rattle.pb_norm.specs.BoundedSums.{BoundedSum, IsProper}
use Rattle.pb_norm.specs.Reduction.{all_weigh, opposite}
use Rattle.pb_steps.specs.Database.{Database}
use Rattle.pb_derive.specs.Derivations.{as_constraint, IsReadyForBoth, Derives}
use Rattle.pb_derive.specs.Later.{Knows}
use Rattle.pb_derive.specs.Justifications.{by_justification}
use Rattle.pb_derive.proofs.Justified.{stands_later}
use Rattle.pb_derive.proofs.Opposites.{opposite-twice, weight-opposite}
use Rattle.pb_derive.proofs.Phases.{phases_few}
use Rattle.pb_derive.proofs.JustificationClauses.{clauses-justifications}
use Rattle.pb_family.specs.Families.{VarsBelow}
use Rattle.pb_family.proofs.UnitSums.{unit_coefficient, unit_weight}
use Rattle.pb_tree.specs.Tree.{tree_of}
use Rattle.pb_tree.specs.TreeSteps.{leaves, reifications}
use Rattle.pb_tree.proofs.AlongDerives.{Weighs, over_terms, terms_derive}
use Rattle.pb_tree.proofs.TreeReifications.{length-reifications}
use Rattle.pb_tree.proofs.TreeRows.{leaves_of}
use Rattle.pb_totalizer.specs.Exact.{exact_clauses, exact_fresh, exact_size, at_least}
use Rattle.pb_totalizer.specs.ExactSteps.{exact_justifications, exact_steps}
use Rattle.pb_totalizer.specs.Totalizer.{totalizer}
use Rattle.pb_totalizer.specs.OutputSteps.{totalizer_pairs}
use Rattle.pb_totalizer.specs.laws.ByPairs.{totalizer_by_pairs}
use Rattle.pb_totalizer.specs.laws.ExactLaws.{exact_counts, exact_names, root_outputs}
use Rattle.pb_totalizer.specs.laws.ExactJustifications.{exact_justifications_clauses, exact_justified, exact_whole}

pub unit_weighs : (m : BoundedSum) → all_weigh 1 m.terms ≡ true → IsProper m → Weighs (totalizer m.bound) m.terms
unit_weighs m units proper = record {
  weights = λ t h. sym (unit_coefficient m.terms units t h);
  positive = λ t h. omega (arith, unit_coefficient m.terms units t h);
  distinct = proper.distinct;
}

module _ (m : BoundedSum) (units : all_weigh 1 m.terms ≡ true) (proper : IsProper m) (few : length m.terms < 2 ^ 31) (first lower upper : ℕ) (db : Database) (below : VarsBelow first m.terms)
    (ready : IsReadyForBoth m (at_least m) first (exact_fresh m) lower upper db) where
  abbrev ts : List Weighted
  ts = m.terms

  light : weight ts < 2 ^ 100
  light = omega (arith, unit_weight ts units, few)

  -- what stands, over the leaves
  abbrev least : Constraint
  least = record { terms = leaves (tree_of m.terms); degree = m.bound }

  abbrev most : Constraint
  most = record { terms = map opposite (leaves (tree_of m.terms)); degree = weight (leaves (tree_of m.terms)) - m.bound }

  least_same : as_constraint (at_least m) ≡ least
  least_same =
      let heavy = proper.heavy in
      let terms : map opposite (map opposite ts) ≡ leaves (tree_of ts) = opposite-twice ts ∙ sym (leaves_of ts) in
      let degree : weight (map opposite ts) - (weight ts - m.bound) ≡ m.bound = omega (arith, weight-opposite ts) in
      λ i. record { terms = terms i; degree = degree i }

  most_same : as_constraint m ≡ most
  most_same = λ i. record { terms = map opposite (sym (leaves_of ts) i); degree = weight (sym (leaves_of ts) i) - m.bound }

  -- from each database that has both
  pub exact_derives : Derives db (exact_steps m first lower upper db.next) (exact_clauses m first) (first + exact_fresh m)
  exact_derives =
      let s = totalizer m.bound in
      let pairs = totalizer_pairs (m.bound + 1) in
      let by = totalizer_by_pairs m.bound in
      let weighs = unit_weighs m units proper in
      let P : ℕ → Type 0 = λ v. v < first + exact_fresh m in
      let total : weight (leaves (tree_of ts)) ≡ weight ts = ap weight (leaves_of ts) in
      terms_derive s pairs by ts weighs light first db below ready.room (exact_justifications m first db.next lower upper) (exact_clauses m first)
      (exact_justifications_clauses m first db.next lower upper) (exact_names m units proper first) (λ vars h. exact_whole vars m first db.next lower upper h)
      (λ end later known. exact_justified (Knows end) m first db.next lower upper (over_terms s pairs by ts weighs first below light) (omega (arith, light, total)) known proper.bound_from (root_outputs m units proper)
      (subst (λ (c : Constraint). Knows end lower c) least_same (stands_later P db end lower (as_constraint (at_least m)) ready.room.numbered later ready.least_stands))
      (subst (λ (c : Constraint). Knows end upper c) most_same (stands_later P db end upper (as_constraint m) ready.room.numbered later ready.most_stands)))

-- the steps are few
pub exact_lines : (m : BoundedSum) (first lower upper next : ℕ) → length (exact_steps m first lower upper next) ≤ 8 * (exact_fresh m + exact_size m)
exact_lines m first lower upper next =
    let s = totalizer m.bound in
    let t = tree_of m.terms in
    let rs = exact_justifications m first next lower upper in
    omega (
      arith,
      phases_few next (reifications s t first) (map by_justification rs),
      length-reifications s t first,
      ap length (clauses-justifications rs ∙ exact_justifications_clauses m first next lower upper),
      exact_counts m first,
    )
