use Rattle.std.proofs.Common.{◌≡◌, ◌≤◌, ◌+◌, List, length}
use Rattle.pb_base.specs.declared.literal.Lit.{Lit}
use Rattle.pb_unit.specs.States.{standing}
use Rattle.pb_unit.specs.Steps.{Advances}
use Rattle.pb_unit.proofs.passes.settle.Given as goal

abbrev pub invariant-loop-pass : goal.invariant-loop-pass
invariant-loop-pass l = record {
  vars : l.held.vars ≡ l.initial.held.vars;
  advances : (given : List Lit) → Advances (standing l.places) given l.initial.held.lits l.held.lits;
  joined : length l.initial.held.lits + l._pass ≤ length l.held.lits;
}
