use Rattle.std.proofs.Common.{◌≡◌, take}
use Rattle.pb_unit.specs.Reaching.{AreAssumed}
use Rattle.pb_unit.proofs.reaching.assume_all.Given as goal

abbrev pub invariant-loop-lit : goal.invariant-loop-lit
invariant-loop-lit l = record {
  vars : l.engine.vars ≡ l.initial.engine.vars;
  places : l.engine.places ≡ l.initial.engine.places;
  so_far : AreAssumed (take l.lit-index l.lits) l.engine;
}
