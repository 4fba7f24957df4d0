use Rattle.std.proofs.Common.{arith}
use Rattle.pb_family.proofs.Sequence.{reifications_ids}
use Rattle.pb_adder.specs.GateReifications.{gate_reifications}
use Rattle.pb_adder.proofs.Walking.{walked_from, walked_next, walked_fault, walked_ends}
use Rattle.pb_adder.proofs.Walks.{gate_piece, reifications_walk}
use Rattle.pb_adder.proofs.reifications.derive_reifications.Goals as goal

pub loop-gate-init : goal.loop-gate-init
loop-gate-init g c =
    let old = g.T.StepSink.state c.args.sink.now in
    walked_from (gate_piece c.args.first) 4 c.args.gates.now old (reifications_walk c.args.first old.next c.args.gates.now)

pub returns-in_err-derive_gate_reifications : goal.returns-in_err-derive_gate_reifications
returns-in_err-derive_gate_reifications g c =
    walked_fault c.gate-item.result c.loop-gate-test.true c.gate-item.is c.loop-gate.invariant c.from_residual.result _ (g.T.StepSink.state c.derive_gate_reifications.new.sink) c.from_residual.ensures.1 c.in_err-derive_gate_reifications.ensures

pub loop-gate-preserved : goal.loop-gate-preserved
loop-gate-preserved g c =
    let now = g.T.StepSink.state c.loop-gate.sink in
    walked_next c.gate-item.result c.loop-gate-test.true c.gate-item.is c.loop-gate.invariant (g.T.StepSink.state c.derive_gate_reifications.new.sink) (reifications_ids now.next (gate_reifications c.args.first c.gate-item.result)) c.in_ok-derive_gate_reifications.ensures

pub derive_gate_reifications-requires-clause-few : goal.derive_gate_reifications-requires-clause-few
derive_gate_reifications-requires-clause-few g c = omega (arith, c.loop-gate.invariant.next, c.loop-gate-test.true, c.requires.few)

pub returns : goal.returns
returns g c = walked_ends (omega arith) c.loop-gate.invariant
