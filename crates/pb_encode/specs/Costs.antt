-- The objective of a problem as an offset and costs of literals: the normal form of its sum (after Eén and Sörensson 2006).
-- The objective is brought to normal form as a half that is never reached, `objective >= 2^100`. Its degree is then above 0, so
-- nothing is cut off, and 2^100 less the degree is the offset, the value if no literal costs anything. Products, equal variables and
-- opposite literals are added up as in statements.
use Rattle.std.specs.Prelude.{◌≡◌, ◌^◌, ℕ, cond, List, map, sum_by, ℤ, pos, ◌+ℤ◌, ◌-ℤ◌}
use Rattle.pb_base.specs.declared.problem.Problem.{Problem}
use Rattle.pb_base.specs.Literals.{Assignment, lit_value}
use Rattle.pb_base.specs.Problems.{IsWithinLimits, objective_terms, sum_value}
use Rattle.pb_norm.specs.Constraints.{Constraint, Weighted}
use Rattle.pb_norm.specs.Halves.{written}
use Rattle.pb_norm.specs.Reduction.{opposite}

-- that the objective reaches 2 ^ 100, which it never does, so that its normal form cuts nothing off
abbrev pub objective_form : Problem → Constraint
objective_form p = written (objective_terms p) (pos (2 ^ 100))

-- what the costs are added to: no value of the objective is below it
abbrev pub offset_of : Problem → ℤ
offset_of p = pos (2 ^ 100) -ℤ pos (objective_form p).degree

-- each term of the normal form costs its coefficient where its literal is true: where the negated one, which is soft, is false
abbrev pub softs_of : Problem → List Weighted
softs_of p = map opposite (objective_form p).terms

-- what the soft literals that are false cost
abbrev pub cost_under : Assignment → List Weighted → ℕ
cost_under a softs = sum_by (λ s. cond (lit_value a s.lit) 0 s.coef) softs

-- the value of the objective is the offset and what the false soft literals cost
abbrev pub CostsAddUp : Type 0
CostsAddUp = (p : Problem) (a : Assignment) → IsWithinLimits p → sum_value a (objective_terms p) ≡ offset_of p +ℤ pos (cost_under a (softs_of p))
