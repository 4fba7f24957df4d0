use Rattle.std.proofs.Common.{ap}
use Rattle.pb_family.proofs.Deriving.{steps_same}
use Rattle.pb_totalizer.specs.OutputBlocks.{block_lines}
use Rattle.pb_totalizer.proofs.block_parts.derive_block_lines.Goals as goal

pub returns-clause-hands : goal.returns-clause-hands
returns-clause-hands g c =
    let row = c.args.row in
    steps_same c.derive_all.result _ _ (g.T.StepSink.state c.args.sink.now) (g.T.StepSink.state c.derive_all.new.sink) (ap (block_lines row.first row.id row.inputs row.last) c.next_id-next.ensures) c.derive_all.ensures.hands
