-- How a clause for each two literals is derived (our own).
use Rattle.std.specs.Prelude.{ℕ, List, [], ◌∷◌, map}
use Rattle.pb_base.specs.declared.literal.Lit.{Lit}
use Rattle.pb_steps.specs.declared.step.Step.{Step}
use Rattle.pb_derive.specs.Claims.{Claim, claim_steps}
use Rattle.pb_derive.specs.Rups.{by_rup}
use Rattle.pb_amo.specs.Pairwise.{pairwise_clauses}

-- each follows from the constraint by propagation
abbrev pub pairwise_claims : List Lit → ℕ → List Claim
pairwise_claims ms id = map (by_rup (id ∷ [])) (pairwise_clauses ms)

abbrev pub pairwise_steps : List Lit → ℕ → ℕ → List Step
pairwise_steps ms id next = claim_steps next (pairwise_claims ms id)
