-- Conflicts among the outcomes of propagation.
use Rattle.std.specs.Prelude.{Bool, true, false}
use Rattle.pb_unit.specs.declared.engine.Outcome.{Outcome}
use Rattle.pb_unit.specs.declared.engine.Outcome.TheVariants.{Conflict, Fixed}

abbrev pub is_conflict : Outcome → Bool
is_conflict (Conflict place) = true
is_conflict Fixed = false
