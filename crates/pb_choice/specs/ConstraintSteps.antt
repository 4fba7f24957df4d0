-- The steps that derive the clauses of a constraint from it, by its treatment. Our own; units and clauses by reverse unit propagation (Goldberg and Novikov 2003).
use Rattle.std.specs.Prelude.{ℕ, ◌+◌, List, [], ◌∷◌, ◌++◌, map, length}
use Rattle.pb_base.specs.declared.literal.Lit.{Lit}
use Rattle.pb_norm.specs.declared.reduction.Rest.{Rest}
use Rattle.pb_norm.specs.Constraints.{Constraint}
use Rattle.pb_norm.specs.BoundedSums.{BoundedSum}
use Rattle.pb_norm.specs.Reduction.{units_of, rest_of}
use Rattle.pb_steps.specs.declared.step.Step.{Step}
use Rattle.pb_steps.specs.declared.step.Step.TheVariants.{Pol, Del}
use Rattle.pb_derive.specs.Claims.{Claim, claim_steps}
use Rattle.pb_derive.specs.Rups.{by_rup}
use Rattle.pb_base.specs.declared.options.Options.{Options}
use Rattle.pb_choice.specs.declared.treatment.Treatment.{Treatment}
use Rattle.pb_choice.specs.Choice.{treatment_of}
use Rattle.pb_choice.specs.Clauses.{by_rest, unit_clause}
use Rattle.pb_choice.specs.Reducing.{core_ops}
use Rattle.pb_choice.specs.SumSteps.{sum_steps}

-- each unit follows from the constraint with the id
abbrev pub unit_claims : ℕ → List Lit → List Claim
unit_claims id units = map (λ l. by_rup (id ∷ []) (unit_clause l)) units

-- a clause that follows from the constraint with the id
abbrev pub clause_steps : ℕ → ℕ → List Lit → List Step
clause_steps id next clause = claim_steps next (by_rup (id ∷ []) clause ∷ [])

-- a step gives the sum's constraint, which goes once the sum's clauses are derived from it
abbrev pub reduced_steps : Step → Treatment → BoundedSum → ℕ → ℕ → List Step
reduced_steps reduces t m first next = reduces ∷ (sum_steps t m first next (next + 1) ++ Del (next ∷ []) ∷ [])

-- what is left of a constraint, by the step that reduces the constraint to it
abbrev pub rest_steps : Step → Treatment → Rest → ℕ → ℕ → ℕ → List Step
rest_steps reduces t r first id next = by_rest [] (clause_steps id next []) (clause_steps id next) (λ m. reduced_steps reduces t m first next) r

-- The units in their order, and then what is left. The fresh variables are numbered from the first number on, the second is the
-- id of the constraint, and the third is the next id.
abbrev pub constraint_steps : Options → Constraint → ℕ → ℕ → ℕ → List Step
constraint_steps o c first id next =
    claim_steps next (unit_claims id (units_of c))
    ++ rest_steps (Pol (core_ops c id)) (treatment_of o (rest_of c)) (rest_of c) first id (next + length (units_of c))
