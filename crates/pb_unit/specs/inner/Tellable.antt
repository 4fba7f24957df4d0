-- What holds where a literal is told to constraints, and where that is taken back.
use Rattle.std.specs.Prelude.{◌≤◌, ◌<◌, ◌+◌, ◌^◌, ℕ, List, Option, All, length}
use Rattle.pb_base.specs.declared.literal.Lit.{Lit}
use Rattle.pb_norm.specs.Constraints.{Constraint}
use Rattle.pb_unit.specs.declared.index.Occurrence.{Occurrence}
use Rattle.pb_unit.specs.declared.kept.Counters.{Counters}
use Rattle.pb_unit.specs.States.{StandWithin, Stands}
use Rattle.pb_unit.specs.Steps.{IsAlert}
use Rattle.pb_unit.specs.Index.{sum_at, room_at, alert_at, AreAlerts, HasRoom}

-- the rooms have these occurrences yet, above what the constraints can add under the literals that hold
pub record AreTellable (vars : ℕ) (places : List (Option Constraint)) (kept : List Counters) (held : List Lit) (os : List Occurrence) : Type 0 where
  pub within : StandWithin vars places
  pub known : All (λ o. o.place < length kept) os
  pub enough : (p : ℕ) → sum_at p os ≤ room_at kept p
  pub bound : (p : ℕ) → HasRoom places kept held p (sum_at p os)
  pub alerts : AreAlerts places kept

-- the same of one
pub record IsTellable (vars : ℕ) (places : List (Option Constraint)) (kept : List Counters) (held : List Lit) (o : Occurrence) : Type 0 where
  pub within : StandWithin vars places
  pub known : o.place < length kept
  pub enough : o.coef ≤ room_at kept o.place
  pub bound : HasRoom places kept held o.place o.coef
  pub alerts : (c : Constraint) → Stands places o.place c → IsAlert (alert_at kept o.place) c

-- the rooms can take these back
pub record AreRaisable (kept : List Counters) (os : List Occurrence) : Type 0 where
  pub known : All (λ o. o.place < length kept) os
  pub fits : (p : ℕ) → room_at kept p + sum_at p os < 2 ^ 128
