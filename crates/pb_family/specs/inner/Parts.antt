-- Parts of steps. These serve proofs about the code that makes them.
use Rattle.std.specs.Prelude.{ℕ, Bool, true, pos, List, [], ◌∷◌, map, nat_lt, if◌then◌else◌}
use Rattle.pb_base.specs.Literals.{negated}
use Rattle.pb_norm.specs.Constraints.{Constraint, Weighted, weight}
use Rattle.pb_norm.specs.Reduction.{opposite}
use Rattle.pb_steps.specs.declared.step.Step.{Step}
use Rattle.pb_steps.specs.declared.step.Step.TheVariants.{Rup}
use Rattle.pb_derive.specs.Reifications.{Reification, reverse_of, redundant}

-- a weighted literal, negated where that is asked for
abbrev pub turned : Bool → Weighted → Weighted
turned flip t = record { coef = t.coef; lit = if flip then negated t.lit else t.lit }

abbrev pub reification_of : ℕ → List Weighted → ℕ → Reification
reification_of var sum least = record { var = var; sum = sum; least = least }

-- the variable has the value, or a sum, negated where the value is true, reaches a degree
abbrev pub headed : ℕ → Bool → ℕ → List Weighted → Constraint
headed var value degree sum = record { terms = record { coef = degree; lit = record { var = var; positive = value } } ∷ (if value then map opposite sum else sum); degree = degree }

-- the second line of a reification, of which the first takes the id
abbrev pub second_line : ℕ → Reification → Step
second_line id m = if nat_lt (weight m.sum) m.least then Rup [] (pos 0) (id ∷ []) else redundant (reverse_of m) m.var true
