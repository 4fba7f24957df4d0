use Rattle.std.proofs.Common.{ap}
use Rattle.pb_family.proofs.Deriving.{steps_same}
use Rattle.pb_totalizer.specs.OutputRows.{row_lines}
use Rattle.pb_totalizer.proofs.row_lines.derive_row.Goals as goal

pub returns-clause-hands : goal.returns-clause-hands
returns-clause-hands g c =
    let row = c.args.row in
    steps_same c.derive_all.result _ _ (g.T.StepSink.state c.args.sink.now) (g.T.StepSink.state c.derive_all.new.sink) (ap (row_lines row.first row.id row.inputs row.last) c.next_id-next.ensures) c.derive_all.ensures.hands
