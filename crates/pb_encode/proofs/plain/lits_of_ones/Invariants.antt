use Rattle.std.proofs.Common.{◌≡◌, map, take}
use Rattle.pb_norm.specs.ClauseForm.{one_of}
use Rattle.pb_encode.proofs.plain.lits_of_ones.Given as goal

abbrev pub invariant-loop-term : goal.invariant-loop-term
invariant-loop-term l = take l.term-index l.terms ≡ map one_of l.lits.items
