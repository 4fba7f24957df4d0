-- Stacks of constraints, as the code goes through operations.
use Rattle.std.specs.Prelude.{◌≡◌, ◌<◌, ◌∷◌, ℕ, Bool, true, false, IsTrue, length, List, Option, Some, None, All, option_and_then, reverse}
use Rattle.pb_norm.specs.Constraints.{Constraint}
use Rattle.pb_norm.specs.Constraints.{HasVarsWithin}
use Rattle.pb_steps.specs.declared.op.PolOp.{PolOp}
use Rattle.pb_steps.specs.declared.op.PolOp.TheVariants.{Weaken}
use Rattle.pb_steps.specs.Operations.{IsNarrow}
use Rattle.pb_steps.specs.Database.{Entry}
use Rattle.pb_steps.specs.Stacks.{after_op, with_room}

-- the stack with a constraint, if there is one
abbrev pub topped : Option Constraint → List Constraint → Option (List Constraint)
topped None stack = None
topped (Some c) stack = Some (c ∷ stack)

-- the stack after an operation that finds its operands, and whose result has room
abbrev pub done_op : List Entry → PolOp → List Constraint → Option (List Constraint)
done_op live op stack = option_and_then with_room (after_op live op stack)

-- whether an operation was done, and what it left
abbrev pub IsOutcome : Bool → Option (List Constraint) → List Constraint → Type 0
IsOutcome true after stack = after ≡ Some stack
IsOutcome false after stack = after ≡ None

-- the same of an operation on a stack whose topmost constraint is the last
abbrev pub IsOpOutcome : List Entry → PolOp → List Constraint → List Constraint → Bool → Type 0
IsOpOutcome live op before after done = IsOutcome done (done_op live op (reverse before)) (reverse after)

-- the operation takes a variable out
abbrev pub is_weakening : PolOp → Bool
is_weakening (Weaken v) = true
is_weakening _ = false

abbrev pub IsWeakening : PolOp → Type 0
IsWeakening op = IsTrue (is_weakening op)

-- operations that are done at once: one, or those that weaken
abbrev pub IsRun : List PolOp → Type 0
IsRun ops = (1 < length ops) → All IsWeakening ops

-- its numbers have room, and its variables are within those that there are
pub record IsSoundConstraint (vars : ℕ) (c : Constraint) : Type 0 where
  pub narrow : IsNarrow c
  pub within : HasVarsWithin vars c.terms

abbrev pub AreSoundConstraints : ℕ → List Constraint → Type 0
AreSoundConstraints vars stack = All (IsSoundConstraint vars) stack
