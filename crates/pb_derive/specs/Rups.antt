-- Clauses that follow by unit propagation (reverse unit propagation, Goldberg and Novikov 2003).
use Rattle.std.specs.Prelude.{ℕ, pos, List, map}
use Rattle.pb_base.specs.declared.literal.Lit.{Lit}
use Rattle.pb_norm.specs.ClauseForm.{one_of, distinct}
use Rattle.pb_steps.specs.declared.step.Step.TheVariants.{Rup}
use Rattle.pb_derive.specs.Claims.{Claim}

-- from the constraints with the ids, each literal once
abbrev pub by_rup : List ℕ → List Lit → Claim
by_rup ids clause = record { step = Rup (map one_of (distinct clause)) (pos 1) ids; clause = clause }
