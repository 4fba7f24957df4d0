use Rattle.std.specs.List.{flat_map}
use Rattle.pb_derive.specs.Reifications.{reification_steps}
use Rattle.pb_adder.specs.GateReifications.{gate_reifications}
use Rattle.pb_adder.proofs.Walking.{Walked}
use Rattle.pb_adder.proofs.Walks.{gate_piece}
use Rattle.pb_adder.proofs.reifications.derive_reifications.Given as goal

abbrev pub invariant-loop-gate : goal.invariant-loop-gate
invariant-loop-gate g l =
    let old = g.T.StepSink.state l.fn.sink in
    Walked (gate_piece l.first) 4 (reification_steps old.next (flat_map (gate_reifications l.first) l.gates)) l.gates l.gate-index old (g.T.StepSink.state l.sink)
