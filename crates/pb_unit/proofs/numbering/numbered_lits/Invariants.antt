use Rattle.std.proofs.Common.{◌≡◌, map, take}
use Rattle.pb_unit.specs.Renaming.{number_in, renamed_lit}
use Rattle.pb_unit.proofs.numbering.numbered_lits.Given as goal

abbrev pub invariant-loop-lit : goal.invariant-loop-lit
invariant-loop-lit l = l.made.items ≡ map (renamed_lit (number_in l.names)) (take l.lit-index l.lits)
