use Rattle.std.proofs.Common.{◌≡◌, ◌≤◌, ◌+◌, ◌*◌, drop}
use Rattle.pb_derive.specs.Claims.{claim_steps}
use Rattle.pb_family.proofs.Deriving.{Deriving}
use Rattle.pb_adder.specs.AdderSteps.{gate_claims}
use Rattle.pb_adder.proofs.Walking.{walk}
use Rattle.pb_adder.proofs.Walks.{place, claims_piece, claims_on}
use Rattle.pb_adder.proofs.claims.derive_gates.Given as goal

abbrev pub invariant-loop-gate : goal.invariant-loop-gate
invariant-loop-gate g l =
    let old = g.T.StepSink.state l.fn.sink in
    let now = g.T.StepSink.state l.sink in
    record {
      steps : Deriving (claim_steps old.next (gate_claims l.first l.fn.id l.gates)) (walk (claims_piece l.first) (claims_on l.first) (place l.id now.next) (drop l.gate-index l.gates)) old now;
      next : now.next ≤ old.next + 14 * l.gate-index;
      id : l.id ≡ l.fn.id + 4 * l.gate-index;
    }
