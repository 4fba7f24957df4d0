use Rattle.std.proofs.Common.{◌∙◌, List, ap}
use Rattle.pb_family.proofs.Deriving.{steps_same}
use Rattle.pb_family.specs.Derivations.{in_turn}
use Rattle.pb_counter.specs.inner.RowPieces.{row_count, row_width, row_piece}
use Rattle.pb_counter.specs.declared.row_parts.RowPart.{RowPart}
use Rattle.pb_counter.proofs.RowHanding.{row_in_parts, ids_counted}
use Rattle.pb_counter.proofs.row_parts.derive_row.Goals as goal

pub returns : goal.returns
returns g c =
    let old = g.T.StepSink.state c.args.sink.now in
    let turn = λ (ps : List RowPart). in_turn (λ (p : RowPart). row_count p.kind p.row.last) (λ (p : RowPart). row_width p.kind) (λ (p : RowPart). row_piece p.kind p.row) old.next ps in
    record {
      hands = steps_same c.derive_parts.result _ _ old (g.T.StepSink.state c.derive_parts.new.sink)
          (ap turn c.row_parts.ensures ∙ row_in_parts c.args.row old.next c.requires.ids c.requires.fronts)
          c.derive_parts.ensures.hands;
      next = ids_counted c.args.row c.derive_parts.result old.next (g.T.StepSink.state c.derive_parts.new.sink).next c.row_parts.ensures c.derive_parts.ensures.next;
    }
