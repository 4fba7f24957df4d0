-- Constraints in normal form over variables below a number, under assignments that agree there.
use Rattle.std.proofs.Common.{◌≤◌, ◌<◌, ℕ, All, arith}
use Rattle.pb_base.specs.Literals.{Assignment, AgreeBelow}
use Rattle.pb_norm.specs.Constraints.{Constraint, IsLinear, Holds}
use Rattle.pb_norm.proofs.Agreement.{value-agree}
use Rattle.pb_norm.proofs.Variables.{OfTerm}
use Rattle.pb_family.specs.Families.{VarsBelow}
use Rattle.pb_base.specs.declared.options.Options.{Options}

-- a variable from 1 and below a number
abbrev pub IsOneBelow : ℕ → ℕ → Type 0
IsOneBelow n v = (1 ≤ v) × (v < n)

-- in normal form, over variables from 1 and below a number
pub record IsReady (o : Options) (n : ℕ) (c : Constraint) : Type 0 where
  pub linear : IsLinear c
  pub within : All (OfTerm (IsOneBelow n)) c.terms

pub holds-agree : (n : ℕ) (a b : Assignment) → AgreeBelow n a b → (c : Constraint) → VarsBelow n c.terms → Holds a c → Holds b c
holds-agree n a b agree c below holds = omega (arith, value-agree n a b agree c.terms below, holds)
