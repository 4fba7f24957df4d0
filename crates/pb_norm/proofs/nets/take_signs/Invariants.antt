use Rattle.pb_norm.specs.inner.Nets.{unsigned_term}
use Rattle.pb_norm.proofs.InPlace.{IsMapped}
use Rattle.pb_norm.proofs.nets.take_signs.Given as goal

abbrev pub invariant-loop-term : goal.invariant-loop-term
invariant-loop-term l = IsMapped (unsigned_term l.half) l.initial.terms l.terms l.term-index
