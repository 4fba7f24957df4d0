-- Clauses that steps give, each put out at once (our own).
use Rattle.std.specs.Prelude.{ℕ, ◌+◌, List, [], ◌∷◌}
use Rattle.pb_base.specs.declared.literal.Lit.{Lit}
use Rattle.pb_steps.specs.declared.step.Step.{Step}
use Rattle.pb_steps.specs.declared.step.Step.TheVariants.{Out}

-- a step that takes an id, and the clause that it gives
pub record Claim : Type 0 where
  pub step : Step
  pub clause : List Lit

-- each claim takes an id, and its clause is put out
abbrev pub claim_steps : ℕ → List Claim → List Step
claim_steps id [] = []
claim_steps id (c ∷ cs) = c.step ∷ Out id ∷ claim_steps (id + 1) cs
