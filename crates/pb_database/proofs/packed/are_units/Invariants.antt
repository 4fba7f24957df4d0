use Rattle.std.proofs.Common.{◌≡◌, take, map}
use Rattle.pb_base.specs.declared.literal.Term.{Term}
use Rattle.pb_norm.specs.Constraints.{weights}
use Rattle.pb_database.specs.inner.Units.{unit}
use Rattle.pb_database.proofs.packed.are_units.Given as goal

abbrev pub invariant-loop-term : goal.invariant-loop-term
invariant-loop-term l = weights (take l.term-index l.terms) ≡ map (λ (t : Term). unit t.lit) (take l.term-index l.terms)
