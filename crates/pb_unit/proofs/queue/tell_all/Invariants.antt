use Rattle.std.proofs.Common.{◌≡◌, take}
use Rattle.std.specs.Prelude.{IsNone}
use Rattle.pb_unit.specs.Index.{IsTold}
use Rattle.pb_unit.proofs.queue.tell_all.Given as goal

abbrev pub invariant-loop-occurrence : goal.invariant-loop-occurrence
invariant-loop-occurrence l = record {
  vars : l.held.vars ≡ l.initial.held.vars;
  told : IsTold l.places (take l.occurrence-index l.occurrences) l.initial.kept l.kept l.initial.held.lits l.held.lits l.short;
  still : IsNone l.short → IsNone l.fn.before;
}
