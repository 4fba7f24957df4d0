use Rattle.std.proofs.Common.{◌≡◌, take, map}
use Rattle.pb_base.specs.declared.literal.Term.{Term}
use Rattle.pb_norm.specs.Constraints.{weights}
use Rattle.pb_unit.specs.inner.Slots.{unit}
use Rattle.pb_unit.proofs.places.are_units.Given as goal

abbrev pub invariant-loop-term : goal.invariant-loop-term
invariant-loop-term l = weights (take l.term-index l.terms) ≡ map (λ (t : Term). unit t.lit) (take l.term-index l.terms)
