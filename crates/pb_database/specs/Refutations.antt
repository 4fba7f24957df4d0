-- Constraints that unit propagation refutes.
use Rattle.std.specs.Prelude.{Bool, List, []}
use Rattle.std.specs.Bool.{MatchBool}
use Rattle.pb_norm.specs.Constraints.{Constraint}
use Rattle.pb_norm.specs.Propagation.{Conflict}

-- whether propagation over constraints reaches a conflict
abbrev pub TellsConflict : List Constraint → Bool → Type 0
TellsConflict cs found = MatchBool found (Conflict cs []) (¬ Conflict cs [])
