use Rattle.std.proofs.Common.{◌≡◌, List, ap, ◌∙◌}
use Rattle.pb_norm.specs.Constraints.{Weighted}
use Rattle.pb_family.proofs.Deriving.{steps_same}
use Rattle.pb_gentot.specs.BoundTableSteps.{table_steps}
use Rattle.pb_gentot.specs.inner.KeptTables.{steps_by}
use Rattle.pb_gentot.proofs.bound_table.BoundTable.derive.Goals as goal

pub returns : goal.returns
returns g c =
    let old = g.T.StepSink.state c.args.sink.now in
    let same : steps_by c.self.inside.weight c.as_slice.result.now c.args.first old.next ≡ table_steps c.args.self.now c.args.first old.next =
    (λ i. steps_by (c.self.invariant.weight_is i) (c.as_slice.ensures.value i) c.args.first old.next)
    ∙ ap (λ (us : List Weighted). table_steps us c.args.first old.next) c.self.view_is in
    steps_same c.derive_table.result _ _ old (g.T.StepSink.state c.derive_table.new.sink) same c.derive_table.ensures
