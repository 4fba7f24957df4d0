use Rattle.std.proofs.Common.{take, map}
use Rattle.pb_named.proofs.TableLemmas.{Notes}
use Rattle.pb_named.proofs.noting.note_lits.Given as goal

abbrev pub invariant-loop-lit : goal.invariant-loop-lit
invariant-loop-lit l = Notes l.initial.table l.initial.places (map (λ n. n.name) (take l.lit-index l.lits)) l.table l.places
