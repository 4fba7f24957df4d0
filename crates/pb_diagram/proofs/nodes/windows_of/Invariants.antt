use Rattle.std.proofs.Common.{◌≡◌, ◌≤◌, ◌*◌, ◌^◌, take}
use Rattle.pb_diagram.specs.Guards.{windows}
use Rattle.pb_diagram.proofs.nodes.windows_of.Given as goal

abbrev pub invariant-loop-node : goal.invariant-loop-node
invariant-loop-node l = record {
  is : l.sum ≡ windows (take l.node-index l.nodes);
  few : l.sum ≤ 2 ^ 64 * l.node-index;
}
