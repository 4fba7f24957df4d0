use Rattle.std.proofs.Common.{◌∙◌, List, ap}
use Rattle.pb_family.proofs.Deriving.{steps_same}
use Rattle.pb_family.specs.Derivations.{in_turn}
use Rattle.pb_totalizer.specs.inner.RowPieces.{row_count, row_piece}
use Rattle.pb_totalizer.specs.declared.row_lines.RowPart.{RowPart}
use Rattle.pb_totalizer.proofs.RowHanding.{row_in_parts, row_counted}
use Rattle.pb_totalizer.proofs.row_lines.derive_all.Goals as goal

pub returns : goal.returns
returns g c =
    let lines = c.args.lines.now in
    let old = g.T.StepSink.state c.args.sink.now in
    let new = g.T.StepSink.state c.derive_parts.new.sink in
    let turn = λ (ps : List RowPart). in_turn (λ (p : RowPart). row_count p.kind p.lines.row.last) (λ (p : RowPart). 1) (λ (p : RowPart). row_piece p.kind p.lines) old.next ps in
    record {
      hands = steps_same c.derive_parts.result _ _ old new (ap turn c.row_parts.ensures ∙ row_in_parts lines old.next) c.derive_parts.ensures.hands;
      next = row_counted lines c.derive_parts.result old.next new.next c.row_parts.ensures c.derive_parts.ensures.next;
    }
