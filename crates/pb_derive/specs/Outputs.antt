-- Clauses that are put out, by the ids of constraints that give them (our own).
use Rattle.std.specs.Prelude.{ℕ, List, map}
use Rattle.pb_base.specs.declared.literal.Lit.{Lit}
use Rattle.pb_steps.specs.declared.step.Step.{Step}
use Rattle.pb_steps.specs.declared.step.Step.TheVariants.{Out}

-- a constraint's id, and the clause that it gives
pub record Output : Type 0 where
  pub id : ℕ
  pub clause : List Lit

abbrev pub clauses_of : List Output → List (List Lit)
clauses_of us = map (λ u. u.clause) us

abbrev pub output_steps : List Output → List Step
output_steps us = map (λ u. Out u.id) us
