use Rattle.std.proofs.Common.{arith}
use Rattle.pb_norm.specs.Constraints.{weighted, weights}
use Rattle.pb_diagram.proofs.NodeSteps.{noding_from, noding_next, noding_ends, false_fault, true_fault, true_room}
use Rattle.pb_diagram.proofs.claims.Claims.derive_level.Goals as goal

pub loop-place-init : goal.loop-place-init
loop-place-init g c = noding_from (weighted c.args.self.now.layer.term.now) (weights c.args.self.now.layer.rest.now) c.args.self.now.layer.next.now c.args.self.now.after c.args.self.now.id c.args.self.now.layer.nodes.now (g.T.StepSink.state c.args.sink.now)

pub returns-in_err-derive_false : goal.returns-in_err-derive_false
returns-in_err-derive_false g c =
    false_fault _ _ _ _ _ _ _ _ _ _ c.loop-place-test.true c.loop-place.invariant c.args.self.now.layer.whole c.args.self.now.layer.left
    c.from_residual.result _ (g.T.StepSink.state c.derive_false.new.sink) c.from_residual.ensures.1 c.in_err-derive_false.ensures

pub derive_true-requires-clause-few : goal.derive_true-requires-clause-few
derive_true-requires-clause-few g c =
    let room = true_room _ _ _ _ _ _ _ _ _ _ c.loop-place-test.true c.loop-place.invariant c.args.self.now.layer.whole c.args.self.now.layer.left (g.T.StepSink.state c.derive_false.new.sink) c.in_ok-derive_false.ensures in
    omega (arith, room, c.requires.few, c.loop-place-test.true)

pub returns-in_err-derive_true : goal.returns-in_err-derive_true
returns-in_err-derive_true g c =
    true_fault _ _ _ _ _ _ _ _ _ _ c.loop-place-test.true c.loop-place.invariant c.args.self.now.layer.whole c.args.self.now.layer.left
    c.from_residual-in_err-derive_true.result _ (g.T.StepSink.state c.derive_false.new.sink) (g.T.StepSink.state c.derive_true.new.sink) c.from_residual-in_err-derive_true.ensures.1 c.in_ok-derive_false.ensures c.in_err-derive_true.ensures

pub loop-place-preserved : goal.loop-place-preserved
loop-place-preserved g c =
    noding_next _ _ _ _ _ _ _ _ _ _ c.loop-place-test.true c.loop-place.invariant c.args.self.now.layer.whole c.args.self.now.layer.left
    (g.T.StepSink.state c.derive_false.new.sink) (g.T.StepSink.state c.derive_true.new.sink) c.in_ok-derive_false.ensures c.in_ok-derive_true.ensures

pub returns : goal.returns
returns g c = noding_ends _ _ _ _ _ _ _ _ _ (omega arith) c.loop-place.invariant

pub derive_false-requires-clause-held : goal.derive_false-requires-clause-held
derive_false-requires-clause-held g c = (c.args.self.now.layer.linked c.loop-place.place _ c.loop-place-test.true).0

pub derive_false-requires-clause-few : goal.derive_false-requires-clause-few
derive_false-requires-clause-few g c = omega (arith, c.loop-place.invariant.room, c.requires.few, c.loop-place-test.true)

pub derive_true-requires-clause-held : goal.derive_true-requires-clause-held
derive_true-requires-clause-held g c = (c.args.self.now.layer.linked c.loop-place.place _ c.loop-place-test.true).1

pub derive_false-requires-clause-within : goal.derive_false-requires-clause-within
derive_false-requires-clause-within g c = c.loop-place-test.true

pub derive_true-requires-clause-within : goal.derive_true-requires-clause-within
derive_true-requires-clause-within g c = c.loop-place-test.true
