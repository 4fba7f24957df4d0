use Rattle.std.proofs.Common.{◌≤◌, ◌-◌, length, take}
use Rattle.pb_database.specs.inner.Mirrors.{AreSame, IsMirrored}
use Rattle.pb_database.proofs.entering.enter_rest.Given as goal

abbrev pub invariant-rest : goal.invariant-rest
invariant-rest l = record {
  same : AreSame l.fn.slots.items l.slots.items;
  few : l.entered ≤ length l.slots.items;
  mirrored : IsMirrored l.fn.engine.vars (take l.entered l.slots.items) l.engine;
}

abbrev pub decreases-rest : goal.decreases-rest
decreases-rest l = length l.slots.items - l.entered
