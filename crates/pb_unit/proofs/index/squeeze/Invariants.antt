use Rattle.std.specs.Prelude.{is_some}
use Rattle.std.proofs.lemmas.List.Filters.{FiltersInPlace}
use Rattle.pb_unit.specs.States.{at_place}
use Rattle.pb_unit.proofs.index.squeeze.Given as goal

abbrev pub invariant-loop-index : goal.invariant-loop-index
invariant-loop-index l = FiltersInPlace (λ p. is_some (at_place l.places p)) l.initial.units l.units l.front l.index
