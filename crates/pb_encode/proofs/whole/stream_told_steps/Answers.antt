use Rattle.pb_encode.proofs.ProblemSteps.{end_last, end_small, head_next, head_stops, start_small, steps_stop}
use Rattle.pb_encode.proofs.whole.stream_told_steps.Goals as goal

pub derive_steps-requires : goal.derive_steps-requires
derive_steps-requires g c =
    let e = c.args.input.now in
    let a = g.T.StepSink.state c.args.sink.now in
    record { few = start_small e.options.now e.problem.now e.within e.encodable a a a c.requires.next c.next_id-count.result c.next_id-count.ensures }

pub returns-in_err-derive_steps : goal.returns-in_err-derive_steps
returns-in_err-derive_steps g c =
    let e = c.args.input.now in
    let a = g.T.StepSink.state c.args.sink.now in
    let b = g.T.StepSink.state c.derive_steps.new.sink in
    head_stops e.options.now e.problem.now e.within e.encodable a b b c.requires.next c.next_id-count.result c.next_id-count.ensures
    c.from_residual.result c.in_err-derive_steps.field-0.0 c.from_residual.ensures.1 c.in_err-derive_steps.ensures

pub derive_clauses-requires : goal.derive_clauses-requires
derive_clauses-requires g c =
    let e = c.args.input.now in
    let a = g.T.StepSink.state c.args.sink.now in
    let b = g.T.StepSink.state c.derive_steps.new.sink in
    record { next = head_next e.options.now e.problem.now e.within e.encodable a b b c.requires.next c.next_id-count.result c.next_id-count.ensures c.in_ok-derive_steps.ensures }

pub returns-in_err-derive_clauses : goal.returns-in_err-derive_clauses
returns-in_err-derive_clauses g c =
    let e = c.args.input.now in
    let a = g.T.StepSink.state c.args.sink.now in
    let b = g.T.StepSink.state c.derive_steps.new.sink in
    let d = g.T.StepSink.state c.derive_clauses.new.sink in
    steps_stop e.options.now e.problem.now e.within e.encodable a b d c.requires.next c.next_id-count.result c.next_id-count.ensures c.in_ok-derive_steps.ensures
    c.from_residual-in_err-derive_clauses.result c.in_err-derive_clauses.field-0.0 c.from_residual-in_err-derive_clauses.ensures.1 c.in_err-derive_clauses.ensures

pub step-requires : goal.step-requires
step-requires g c =
    let e = c.args.input.now in
    let a = g.T.StepSink.state c.args.sink.now in
    let b = g.T.StepSink.state c.derive_steps.new.sink in
    let d = g.T.StepSink.state c.derive_clauses.new.sink in
    record { few = end_small e.options.now e.problem.now e.within e.encodable a b d c.requires.next c.next_id-count.result c.next_id-count.ensures c.in_ok-derive_steps.ensures c.in_ok-derive_clauses.ensures }

pub returns : goal.returns
returns g c =
    let e = c.args.input.now in
    let a = g.T.StepSink.state c.args.sink.now in
    let b = g.T.StepSink.state c.derive_steps.new.sink in
    let d = g.T.StepSink.state c.derive_clauses.new.sink in
    end_last e.options.now e.problem.now e.within e.encodable a b d c.requires.next c.next_id-count.result c.next_id-count.ensures c.in_ok-derive_steps.ensures c.in_ok-derive_clauses.ensures
    c.step.result (g.T.StepSink.state c.step.new.self) c.step.ensures.hands
