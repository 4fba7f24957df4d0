use Rattle.std.proofs.Common.{◌≡◌, ◌<◌, ℕ, List}
use Rattle.pb_base.specs.declared.literal.Lit.{Lit}
use Rattle.pb_norm.specs.Constraints.{Constraint}
use Rattle.pb_norm.specs.Propagation.{room}
use Rattle.pb_unit.specs.States.{standing, Stands}
use Rattle.pb_unit.specs.Steps.{Advances, IsCalm}
use Rattle.pb_unit.proofs.passes.pass.Given as goal

abbrev pub invariant-loop-place : goal.invariant-loop-place
invariant-loop-place l = record {
  vars : l.held.vars ≡ l.initial.held.vars;
  advances : (given : List Lit) → Advances (standing l.places) given l.initial.held.lits l.held.lits;
  calm : (p : ℕ) (c : Constraint) → p < l.place → Stands l.places p c → IsCalm (room l.initial.held.lits c.terms) l.held.lits c;
}
