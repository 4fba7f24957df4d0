-- Derivations in three parts (our own).
use Rattle.std.specs.Prelude.{ℕ, ◌+◌, ◌*◌, List, ◌++◌, length}
use Rattle.pb_steps.specs.declared.step.Step.{Step}
use Rattle.pb_derive.specs.Claims.{Claim, claim_steps}
use Rattle.pb_derive.specs.Deletions.{deletion_steps}
use Rattle.pb_derive.specs.Reifications.{Reification, reification_steps}

-- first the reifications of all fresh variables, from the next id on, then the clauses; and then both constraints of each reification are deleted
abbrev pub phases : ℕ → List Reification → List Claim → List Step
phases next ms cs = reification_steps next ms ++ (claim_steps (next + 2 * length ms) cs ++ deletion_steps 2 next (length ms))
