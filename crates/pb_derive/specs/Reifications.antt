-- Fresh variables that stand for sums which reach a number (reification, as in Gocht, Martins, Nordström and Oertel 2022).
use Rattle.std.specs.Prelude.{◌+◌, ◌-◌, ℕ, Bool, true, false, pos, List, [], ◌∷◌, map, nat_lt, if◌then◌else◌}
use Rattle.pb_norm.specs.Constraints.{Weighted, Constraint, weight, terms_of}
use Rattle.pb_norm.specs.Reduction.{opposite}
use Rattle.pb_steps.specs.declared.step.Step.{Step}
use Rattle.pb_steps.specs.declared.step.Step.TheVariants.{Rup, Red}

-- the variable is true exactly where the sum reaches the number
pub record Reification : Type 0 where
  pub var : ℕ
  pub sum : List Weighted
  pub least : ℕ

-- how much the sum may lack of its whole weight, and one more
abbrev pub spare : Reification → ℕ
spare m = weight m.sum + 1 - m.least

-- where the variable is true, the sum reaches the number
abbrev pub forward_of : Reification → Constraint
forward_of m = record { terms = record { coef = m.least; lit = record { var = m.var; positive = false } } ∷ m.sum; degree = m.least }

-- where it is false, the sum does not
abbrev pub reverse_of : Reification → Constraint
reverse_of m = record { terms = record { coef = spare m; lit = record { var = m.var; positive = true } } ∷ map opposite m.sum; degree = spare m }

abbrev pub redundant : Constraint → ℕ → Bool → Step
redundant c v value = Red (terms_of c.terms) (pos c.degree) (record { var = v; value = value } ∷ [])

-- Both are redundant. Where the sum cannot reach the number, a line that says nothing stands for the second, so that each
-- reification takes two ids.
abbrev pub reification_steps : ℕ → List Reification → List Step
reification_steps id [] = []
reification_steps id (m ∷ ms) =
    redundant (forward_of m) m.var false
    ∷ (if nat_lt (weight m.sum) m.least then Rup [] (pos 0) (id ∷ []) else redundant (reverse_of m) m.var true)
    ∷ reification_steps (id + 2) ms
