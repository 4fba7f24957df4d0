use Rattle.std.proofs.Common.{◌≡◌, ◌++◌, take, map}
use Rattle.pb_base.specs.declared.literal.Term.{Term}
use Rattle.pb_unit.proofs.places.push_lits.Given as goal

abbrev pub invariant-loop-term : goal.invariant-loop-term
invariant-loop-term l = l.lits.items ≡ l.initial.lits.items ++ map (λ (t : Term). t.lit) (take l.term-index l.terms)
