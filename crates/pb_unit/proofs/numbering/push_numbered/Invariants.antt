use Rattle.std.proofs.Common.{◌≡◌, ◌++◌, map, take}
use Rattle.pb_unit.specs.Renaming.{number_in, renamed}
use Rattle.pb_unit.proofs.numbering.push_numbered.Given as goal

abbrev pub invariant-loop-place : goal.invariant-loop-place
invariant-loop-place l = l.made ≡ l.initial.made ++ map (renamed (number_in l.names)) (take l.place l.forms)
