use Rattle.std.proofs.Common.{◌≡◌, true, take}
use Rattle.pb_database.specs.inner.Showing.{Shows}
use Rattle.pb_database.proofs.rounds.show_others.Given as goal

abbrev pub invariant-loop-constraint : goal.invariant-loop-constraint
invariant-loop-constraint l = record {
  vars : l.rounds.vars ≡ l.initial.rounds.vars;
  shows : Shows true (take l.constraint-index l.constraints) l.initial.rounds.lits l.rounds.lits;
}
