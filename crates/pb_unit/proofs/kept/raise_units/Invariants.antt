use Rattle.std.proofs.Common.{take, map}
use Rattle.pb_unit.specs.Index.{unit_at, AreLowered}
use Rattle.pb_unit.proofs.kept.raise_units.Given as goal

abbrev pub invariant-loop-place : goal.invariant-loop-place
invariant-loop-place l = AreLowered (map unit_at (take l.place-index l.places)) l.kept l.initial.kept
