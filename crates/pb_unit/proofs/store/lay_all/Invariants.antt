use Rattle.std.proofs.Common.{take}
use Rattle.pb_unit.specs.inner.Filling.{AreLaid}
use Rattle.pb_unit.proofs.store.lay_all.Given as goal

abbrev pub invariant-loop-place : goal.invariant-loop-place
invariant-loop-place l = AreLaid (take l.place l.places) l.kept.items l.tight.items
