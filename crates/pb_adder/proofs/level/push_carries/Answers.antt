use Rattle.std.proofs.Common.{arith}
use Rattle.pb_family.proofs.Gathered.{map_next, map_last}
use Rattle.pb_adder.specs.Gates.{carry_wire}
use Rattle.pb_adder.proofs.level.push_carries.Goals as goal

pub loop-gate-preserved : goal.loop-gate-preserved
loop-gate-preserved c =
    map_next carry_wire c.args.gates.now c.loop-gate.gate-index c.gate-item.result c.args.queue.now.items c.loop-gate.queue.items c.push.new.self.items c.carry.result (omega arith) c.gate-item.is c.loop-gate.invariant c.in_ok-push.ensures.items
    c.carry.ensures

pub returns : goal.returns
returns c = map_last carry_wire c.args.gates.now c.loop-gate.gate-index c.args.queue.now.items c.loop-gate.queue.items (omega arith) c.loop-gate.invariant
