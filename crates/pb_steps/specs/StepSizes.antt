-- How many bytes a line takes at most, with its LF, by its step's parts: ids have up to 19 digits, variables 10, other numbers 38 (our own).
-- That is 53 bytes a term, 20 an id, 17 a set, and by its kind for an operation, whatever the numbers are.
use Rattle.std.specs.Prelude.{ℕ, ◌+◌, ◌*◌, length, sum_by}
use Rattle.pb_steps.specs.declared.op.PolOp.{PolOp}
use Rattle.pb_steps.specs.declared.op.PolOp.TheVariants.{Push, Axiom, Add, Mul, Div, Saturate, Weaken}
use Rattle.pb_steps.specs.declared.step.Step.{Step}
use Rattle.pb_steps.specs.declared.step.Step.TheVariants.{Blank, Head, Loaded, Pol, Rup, Red, Del, Out, End}

-- an operation, with the blank before it
abbrev pub op_size : PolOp → ℕ
op_size (Push id) = 20
op_size (Axiom l) = 13
op_size Add = 2
op_size (Mul n) = 41
op_size (Div n) = 41
op_size Saturate = 2
op_size (Weaken v) = 14

-- a line with its LF: a term takes up to 53 bytes, an id 20, a variable with its value 17, what stands around them 49
abbrev pub step_size : Step → ℕ
step_size Blank = 1
step_size Head = 36
step_size (Loaded n) = 22
step_size (Pol ops) = 4 + sum_by op_size ops
step_size (Rup ts right ids) = 49 + 53 * length ts + 20 * length ids
step_size (Red ts right sets) = 49 + 53 * length ts + 17 * length sets
step_size (Del ids) = 4 + 20 * length ids
step_size (Out id) = 24
step_size End = 4
