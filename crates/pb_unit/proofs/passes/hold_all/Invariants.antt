use Rattle.std.proofs.Common.{◌≡◌, List, take}
use Rattle.pb_norm.specs.Constraints.{Constraint}
use Rattle.pb_norm.specs.Propagation.{Reached}
use Rattle.pb_norm.proofs.Rooms.{IsPart}
use Rattle.pb_unit.proofs.passes.hold_all.Given as goal

abbrev pub invariant-loop-lit : goal.invariant-loop-lit
invariant-loop-lit l = record {
  vars : l.held.vars ≡ l.initial.held.vars;
  reached : (cs : List Constraint) → Reached cs l.lits l.held.lits;
  part : IsPart l.held.lits l.lits;
  so_far : IsPart (take l.lit-index l.lits) l.held.lits;
}
