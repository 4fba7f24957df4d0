use Rattle.std.proofs.Common.{◌≡◌, take, map}
use Rattle.pb_norm.proofs.terms.lits_of.Given as goal

abbrev pub invariant-loop-term : goal.invariant-loop-term
invariant-loop-term l = l.lits.items ≡ map (λ t. t.lit) (take l.term-index l.terms)
