-- Constraints whose numbers have room (our own).
use Rattle.std.specs.Prelude.{Option, Some, None, if◌then◌else◌}
use Rattle.pb_norm.specs.Constraints.{Constraint}
use Rattle.pb_steps.specs.Operations.{is_narrow}

-- the constraint, where its numbers have room
abbrev pub fitting : Constraint → Option Constraint
fitting c = if is_narrow c then Some c else None
