-- What is true of the constraints that stand.
use Rattle.std.specs.Prelude.{ℕ, All}
use Rattle.pb_norm.specs.Constraints.{HasVarsWithin}
use Rattle.pb_steps.specs.Operations.{IsNarrow}
use Rattle.pb_steps.specs.Database.{Entry, Database}

-- its numbers have room, and its variables are within those that there are
pub record IsSound (vars : ℕ) (e : Entry) : Type 0 where
  pub narrow : IsNarrow e.constraint
  pub within : HasVarsWithin vars e.constraint.terms

abbrev pub IsDatabase : Database → Type 0
IsDatabase db = All (IsSound db.vars) db.live
