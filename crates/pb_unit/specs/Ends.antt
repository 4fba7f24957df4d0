-- How propagation ends.
use Rattle.std.specs.Prelude.{ℕ, List, Option}
use Rattle.pb_base.specs.declared.literal.Lit.{Lit}
use Rattle.pb_norm.specs.Constraints.{Constraint}
use Rattle.pb_norm.specs.Propagation.{room}
use Rattle.pb_unit.specs.declared.engine.Outcome.{Outcome}
use Rattle.pb_unit.specs.declared.engine.Outcome.TheVariants.{Conflict, Fixed}
use Rattle.pb_unit.specs.States.{Stands}
use Rattle.pb_unit.specs.Steps.{IsCalm, HasTooLittle}

-- some constraint has too little room, or each is calm
abbrev pub Ends : List (Option Constraint) → List Lit → Outcome → Type 0
Ends places ls (Conflict place) = HasTooLittle places ls place
Ends places ls Fixed = (place : ℕ) (c : Constraint) → Stands places place c → IsCalm (room ls c.terms) ls c
