-- The operations by which a constraint becomes what is left of it (cutting planes, as in Gocht et al. 2022).
use Rattle.std.specs.Prelude.{ℕ, pos, List, [], ◌∷◌, ◌++◌, map, filter, if◌then◌else◌}
use Rattle.pb_base.specs.declared.literal.Lit.{Lit}
use Rattle.pb_norm.specs.Constraints.{Weighted, Constraint}
use Rattle.pb_norm.specs.Reduction.{all_weigh, cut_to, first_coef, is_within, saturated, units_of, without_units}
use Rattle.pb_steps.specs.declared.op.PolOp.{PolOp}
use Rattle.pb_steps.specs.declared.op.PolOp.TheVariants.{Push, Div, Saturate, Weaken}
use Rattle.pb_steps.specs.declared.step.Step.{Step}
use Rattle.pb_steps.specs.declared.step.Step.TheVariants.{Pol}

-- the terms within a number, cut at another one
abbrev pub cut_terms : ℕ → ℕ → List Weighted → List Weighted
cut_terms slack degree ts = map (cut_to degree) (filter (is_within slack) ts)

-- the coefficient that all terms have, and 1 where they differ
abbrev pub common_coef : List Weighted → ℕ
common_coef ts = if all_weigh (first_coef ts) ts then first_coef ts else 1

-- by what the constraint is divided, once its units are gone and no coefficient counts beyond the degree
abbrev pub divisor : Constraint → ℕ
divisor c = common_coef (saturated (without_units c)).terms

abbrev pub weaken_unit : Lit → PolOp
weaken_unit l = Weaken l.var

-- the units go, coefficients are cut at the degree, and all is divided
abbrev pub reducing : ℕ → List Lit → ℕ → List PolOp
reducing id units factor = Push id ∷ (map weaken_unit units ++ Saturate ∷ Div (pos factor) ∷ [])

-- the step of them, by the units of a constraint
abbrev pub reduction : ℕ → List Lit → Constraint → Step
reduction id units c = Pol (reducing id units (divisor c))

-- the constraint with the id becomes its core
abbrev pub core_ops : Constraint → ℕ → List PolOp
core_ops c id = reducing id (units_of c) (divisor c)
