use Rattle.std.proofs.Common.{◌≡◌, map, take}
use Rattle.pb_unit.specs.Renaming.{name_at, renamed_lit}
use Rattle.pb_unit.proofs.numbering.named_lits.Given as goal

abbrev pub invariant-loop-lit : goal.invariant-loop-lit
invariant-loop-lit l = l.made.items ≡ map (renamed_lit (name_at l.names)) (take l.lit-index l.lits)
