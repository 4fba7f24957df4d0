use Rattle.std.proofs.Common.{ap}
use Rattle.pb_family.proofs.Deriving.{steps_same}
use Rattle.pb_adder.proofs.RowHanding.{by_last, no_rows}
use Rattle.pb_adder.proofs.RowSteps.{row_given, row_lacks}
use Rattle.pb_adder.proofs.claims.derive_row.Goals as goal

pub returns-in-Some : goal.returns-in-Some
returns-in-Some g c =
    let old = g.T.StepSink.state c.args.sink.now in
    steps_same c.derive_propagated.result _ _ old (g.T.StepSink.state c.derive_propagated.new.sink)
    (ap (by_last c.args.id old.next) (row_given c.args.row c.in-Some.row _ c.in-Some.is c.as_slice.ensures)) c.derive_propagated.ensures

pub returns-in-None : goal.returns-in-None
returns-in-None g c = no_rows c.args.id _ (g.T.StepSink.state c.args.sink.now) (row_lacks c.args.row c.in-None.is)
