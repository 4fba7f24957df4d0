use Rattle.std.proofs.Common.{◌≡◌, List, ap, ◌∙◌, subst}
use Rattle.pb_base.specs.declared.literal.Lit.{Lit}
use Rattle.pb_norm.specs.Constraints.{Weighted}
use Rattle.pb_family.specs.Handing.{HandsIfMemory}
use Rattle.pb_gentot.specs.BoundTable.{table_clauses}
use Rattle.pb_gentot.specs.inner.KeptTables.{clauses_by}
use Rattle.pb_gentot.proofs.bound_table.BoundTable.emit.Goals as goal

pub returns : goal.returns
returns g c =
    let sink = g.S.ClauseSink in
    let same : clauses_by c.self.inside.weight c.as_slice.result.now c.args.first ≡ table_clauses c.args.self.now c.args.first =
    (λ i. clauses_by (c.self.invariant.weight_is i) (c.as_slice.ensures.value i) c.args.first)
    ∙ ap (λ (us : List Weighted). table_clauses us c.args.first) c.self.view_is in
    subst (λ (cs : List (List Lit)). HandsIfMemory cs c.emit_table.result (sink.state c.args.sink.now) (sink.state c.emit_table.new.sink)) same c.emit_table.ensures
