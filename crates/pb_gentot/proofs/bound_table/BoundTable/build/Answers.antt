use Rattle.std.proofs.Common.{◌≡◌, ◌<◌, ◌+◌, ◌-◌, ◌^◌, ◌++◌, ◌∙◌, List, length, sym, ap, subst, arith}
use Rattle.pb_base.specs.declared.literal.Term.{Term}
use Rattle.pb_norm.specs.BoundedSums.{IsOverDistinct}
use Rattle.pb_norm.specs.Constraints.{AllPositive, weight, weights}
use Rattle.pb_gentot.specs.BoundTable.{IsTable}
use Rattle.pb_gentot.specs.inner.KeptTables.{IsKeptTable}
use Rattle.pb_gentot.proofs.KeptTables.{kept_of}
use Rattle.pb_gentot.proofs.bound_table.BoundTable.build.Goals.{After-saturating_sub-between}
use Rattle.pb_gentot.proofs.bound_table.BoundTable.build.Goals as goal

-- the table is kept
kept : (c : After-saturating_sub-between) → IsKeptTable c.as_slice-given.result.now c.weight_of-weight.result c.in-Some.part.values.items c.in-Some.part.fresh (c.in-Some.part.clauses + c.saturating_sub-between.result)
kept c =
    let ts = c.as_slice-given.result.now in
    let given = c.as_slice-given.ensures in
    let part = rw c.in-Some.is at c.in_ok-part.ensures in
    let table : IsTable (weights ts) = record {
      positive = subst (λ (us : List Term). AllPositive (weights us)) (sym given) c.requires.positive;
      distinct = subst (λ (us : List Term). IsOverDistinct (weights us)) (sym given) c.requires.distinct;
    } in
    let light : weight (weights ts) < 2 ^ 100 = subst (λ (us : List Term). weight (weights us) < 2 ^ 100) (sym given) c.requires.light in
    let between : c.saturating_sub-between.result ≡ length c.in-Some.part.values.items - 1 = omega (arith, c.saturating_sub-between.ensures, ap length c.as_slice.ensures.value) in
    kept_of ts c.weight_of-weight.result c.args.budget c.in-Some.part c.saturating_sub-between.result table light c.weight_of-weight.ensures c.requires.modest part between

pub overflow_add-result : goal.overflow_add-result
overflow_add-result c = omega (arith, (kept (goal.at.overflow_add-result c).After-saturating_sub-between).modest)

pub invariant_of-result : goal.invariant_of-result
invariant_of-result c =
    let same : c.as_slice-given.result.now ≡ c.extend_from_slice.new.self.items = sym (c.in_ok-extend_from_slice.ensures.items ∙ ap (λ (us : List Term). us ++ c.as_slice-given.result.now) c.new-kept.ensures.items) in
    subst (λ (us : List Term). IsKeptTable us c.weight_of-weight.result c.in-Some.part.values.items c.in-Some.part.fresh (c.in-Some.part.clauses + c.saturating_sub-between.result)) same (kept (goal.at.invariant_of-result c).After-saturating_sub-between)
