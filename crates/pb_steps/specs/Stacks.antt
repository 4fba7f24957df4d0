-- Operations on a stack of constraints, the topmost first (postfix notation as in VeriPB; Gocht 2022).
use Rattle.std.specs.Prelude.{ℕ, zero, suc, ◌==◌, Bool, false, nat_lt, List, [], ◌∷◌, Option, Some, None, unsigned_abs, option_map, option_and_then, if◌then◌else◌}
use Rattle.pb_norm.specs.Constraints.{Constraint}
use Rattle.pb_norm.specs.Addition.{sum_of}
use Rattle.pb_steps.specs.declared.op.PolOp.{PolOp}
use Rattle.pb_steps.specs.declared.op.PolOp.TheVariants.{Push, Axiom, Add, Mul, Div, Saturate, Weaken}
use Rattle.pb_steps.specs.Operations.{axiom_of, multiple, division, saturation, weakening, is_narrow}
use Rattle.pb_steps.specs.Database.{Entry, constraint_at}

-- ---- how high a stack is

-- at most so high
abbrev pub higher : ℕ → Option ℕ
higher h = if nat_lt h 65536 then Some (suc h) else None

-- the height after an operation, where the operands are there and the stack is not too high
abbrev pub height_after : PolOp → ℕ → Option ℕ
height_after (Push id) h = higher h
height_after (Axiom l) h = higher h
height_after Add (suc (suc h)) = Some (suc h)
height_after Add _ = None
height_after _ (suc h) = Some (suc h)
height_after _ zero = None

abbrev pub height_from : ℕ → List PolOp → Option ℕ
height_from h [] = Some h
height_from h (op ∷ ops) = option_and_then (λ k. height_from k ops) (height_after op h)

abbrev pub leaves_one : Option ℕ → Bool
leaves_one None = false
leaves_one (Some h) = h == 1

-- one constraint is left
abbrev pub is_stacked : List PolOp → Bool
is_stacked ops = leaves_one (height_from 0 ops)

-- ---- what is on it

-- the stack after an operation that finds its operands
abbrev pub after_op : List Entry → PolOp → List Constraint → Option (List Constraint)
after_op live (Push id) stack = option_map (λ c. c ∷ stack) (constraint_at live id)
after_op live (Axiom l) stack = Some (axiom_of l ∷ stack)
after_op live Add (d ∷ c ∷ stack) = Some (sum_of c d ∷ stack)
after_op live (Mul n) (c ∷ stack) = Some (multiple (unsigned_abs n) c ∷ stack)
after_op live (Div n) (c ∷ stack) = Some (division (unsigned_abs n) c ∷ stack)
after_op live Saturate (c ∷ stack) = Some (saturation c ∷ stack)
after_op live (Weaken v) (c ∷ stack) = Some (weakening v c ∷ stack)
after_op _ _ _ = None

-- where the topmost constraint has room
abbrev pub with_room : List Constraint → Option (List Constraint)
with_room [] = None
with_room (c ∷ stack) = if is_narrow c then Some (c ∷ stack) else None

-- the stack after all operations, where each finds its operands and its result has room
abbrev pub after_ops : List Entry → List PolOp → List Constraint → Option (List Constraint)
after_ops live [] stack = Some stack
after_ops live (op ∷ ops) stack = option_and_then (after_ops live ops) (option_and_then with_room (after_op live op stack))
