use Rattle.std.proofs.Common.{◌≡◌, ◌+◌, arith, sym, length}
use Rattle.pb_family.proofs.Deriving.{deriving_from}
use Rattle.pb_adder.specs.AdderSteps.{gate_ids}
use Rattle.pb_adder.specs.Gates.{gate_clauses}
use Rattle.pb_adder.specs.laws.AdderShort.{gate_count}
use Rattle.pb_adder.proofs.Walking.{walk_next, walk_fault, walk_ends}
use Rattle.pb_adder.proofs.Walks.{place, claims_piece, claims_on, gates_walk, claims_ids}
use Rattle.pb_adder.proofs.claims.derive_gates.Goals as goal

pub loop-gate-init : goal.loop-gate-init
loop-gate-init g c =
    let old = g.T.StepSink.state c.args.sink.now in
    record { steps = deriving_from old (gates_walk c.args.first c.args.id old.next c.args.gates.now); next = omega arith; id = omega arith }

pub returns-in_err-derive_gate : goal.returns-in_err-derive_gate
returns-in_err-derive_gate g c =
    let now = g.T.StepSink.state c.loop-gate.sink in
    walk_fault (claims_piece c.args.first) (claims_on c.args.first) c.gate-item.result c.args.gates.now c.loop-gate.gate-index c.gate-item.result (place c.loop-gate.id now.next) c.loop-gate-test.true c.gate-item.is c.loop-gate.invariant.steps
    c.from_residual.result _ (g.T.StepSink.state c.derive_gate.new.sink) c.from_residual.ensures.1 c.in_err-derive_gate.ensures

pub loop-gate-preserved : goal.loop-gate-preserved
loop-gate-preserved g c =
    let now = g.T.StepSink.state c.loop-gate.sink in
    let after = g.T.StepSink.state c.derive_gate.new.sink in
    let handed = c.in_ok-derive_gate.ensures in
    let id = c.loop-gate.id in
    let count : after.next ≡ now.next + length (gate_clauses c.args.first c.gate-item.result) = omega (arith, handed.ids, claims_ids now.next (gate_ids id) (gate_clauses c.args.first c.gate-item.result)) in
    record {
      steps = walk_next (claims_piece c.args.first) (claims_on c.args.first) c.gate-item.result c.args.gates.now c.loop-gate.gate-index c.gate-item.result (place id now.next) c.loop-gate-test.true c.gate-item.is c.loop-gate.invariant.steps
          (place (id + 4) after.next) after (λ i. place (id + 4) (sym count i)) handed;
      next = omega (arith, count, gate_count c.args.first c.gate-item.result, c.loop-gate.invariant.next);
      id = omega (arith, c.loop-gate.invariant.id);
    }

pub derive_gate-requires-clause-given : goal.derive_gate-requires-clause-given
derive_gate-requires-clause-given g c = omega (arith, c.loop-gate.invariant.id, c.loop-gate-test.true, c.requires.given)

pub derive_gate-requires-clause-few : goal.derive_gate-requires-clause-few
derive_gate-requires-clause-few g c = omega (arith, c.loop-gate.invariant.next, c.loop-gate-test.true, c.requires.few)

pub returns : goal.returns
returns g c =
    walk_ends (claims_piece c.args.first) (claims_on c.args.first) c.args.gates.now c.loop-gate.gate-index (place c.loop-gate.id (g.T.StepSink.state c.loop-gate.sink).next) (omega arith) c.loop-gate.invariant.steps
