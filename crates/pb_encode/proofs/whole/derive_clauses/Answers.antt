use Rattle.pb_encode.proofs.TableStreams.{back_last, back_small, front_stops}
use Rattle.pb_encode.proofs.whole.derive_clauses.Goals as goal

pub returns-in_err-next : goal.returns-in_err-next
returns-in_err-next g c =
    let e = c.args.input.now in
    front_stops e.options.now e.problem.now e.within e.encodable (g.T.StepSink.state c.args.sink.now) (g.T.StepSink.state c.derive_loaded.new.sink) c.requires.next
    c.from_residual.result c.in_err-next.field-0.0 c.from_residual.ensures.1 c.in_err-next.ensures.hands

pub derive_table-requires-clause-few : goal.derive_table-requires-clause-few
derive_table-requires-clause-few g c =
    let e = c.args.input.now in
    back_small e.options.now e.problem.now e.within e.encodable (g.T.StepSink.state c.args.sink.now) (g.T.StepSink.state c.derive_loaded.new.sink) c.requires.next c.in_ok-next.ensures.hands

pub returns : goal.returns
returns g c =
    let e = c.args.input.now in
    back_last e.options.now e.problem.now e.within e.encodable (g.T.StepSink.state c.args.sink.now) (g.T.StepSink.state c.derive_loaded.new.sink) c.requires.next c.in_ok-next.ensures.hands
    c.in_ok-next.next.first c.in_ok-next.ensures.first c.derive_table.result (g.T.StepSink.state c.derive_table.new.sink) c.derive_table.ensures
