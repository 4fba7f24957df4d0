use Rattle.std.proofs.Common.{◌≡◌, take, map}
use Rattle.pb_unit.specs.Index.{unit_at, IsTold}
use Rattle.pb_unit.proofs.queue.tell_units.Given as goal

abbrev pub invariant-loop-place : goal.invariant-loop-place
invariant-loop-place l = record {
  vars : l.held.vars ≡ l.initial.held.vars;
  told : IsTold l.places (map unit_at (take l.place-index l.units)) l.initial.kept l.kept l.initial.held.lits l.held.lits l.short;
}
