-- The steps that a line can say (our own profile). What rules ask of a step (IsSpelled) follows from it, and has no limits.
-- Rules that required these limits too would refuse callers for nothing.
use Rattle.std.specs.Prelude.{◌≤◌, ◌<◌, ◌≢◌, ◌^◌, ◌≤ℤ◌, ℕ, List, [], ◌∷◌, ℤ, pos, unsigned_abs}
use Rattle.std.specs.List.{AllByRecursion}
use Rattle.pb_base.specs.declared.literal.Term.{Term}
use Rattle.pb_steps.specs.declared.op.Set.{Set}
use Rattle.pb_steps.specs.declared.op.PolOp.{PolOp}
use Rattle.pb_steps.specs.declared.op.PolOp.TheVariants.{Push, Axiom, Mul, Div, Weaken}
use Rattle.pb_steps.specs.declared.step.Step.{Step}
use Rattle.pb_steps.specs.declared.step.Step.TheVariants.{Loaded, Pol, Rup, Red, Del, Out}

abbrev pub IsId : ℕ → Type 0
IsId id = (1 ≤ id) × (id < 2 ^ 63)

abbrev pub IsFactor : ℤ → Type 0
IsFactor n = (pos 1 ≤ℤ n) × (unsigned_abs n < 2 ^ 126)

abbrev pub IsVariable : ℕ → Type 0
IsVariable v = (1 ≤ v) × (v < 2 ^ 31)

abbrev pub IsOp : PolOp → Type 0
IsOp (Push id) = IsId id
IsOp (Axiom l) = IsVariable l.var
IsOp (Mul n) = IsFactor n
IsOp (Div n) = IsFactor n
IsOp (Weaken v) = IsVariable v
IsOp _ = Unit {0}

abbrev pub IsTerm : Term → Type 0
IsTerm t = (unsigned_abs t.coef < 2 ^ 126) × IsVariable t.lit.var

-- variables that ascend from a number on
abbrev pub Ascend : ℕ → List Set → Type 0
Ascend above [] = Unit {0}
Ascend above (s ∷ sets) = (above < s.var) × (s.var < 2 ^ 31) × Ascend s.var sets

-- a line can say the step: ids and factors from 1 on, numbers within their limits, something to take away, variables that ascend
abbrev pub IsSayable : Step → Type 0
IsSayable (Loaded n) = n < 2 ^ 63
IsSayable (Pol ops) = AllByRecursion IsOp ops
IsSayable (Rup ts right ids) = AllByRecursion IsTerm ts × (unsigned_abs right < 2 ^ 126) × AllByRecursion IsId ids
IsSayable (Red ts right sets) = AllByRecursion IsTerm ts × (unsigned_abs right < 2 ^ 126) × Ascend 0 sets
IsSayable (Del ids) = AllByRecursion IsId ids × (ids ≢ [])
IsSayable (Out id) = IsId id
IsSayable _ = Unit {0}
