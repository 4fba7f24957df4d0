-- Steps that ran, and steps that give clauses. These serve the proofs that derivations run.
use Rattle.std.specs.Prelude.{◌≡◌, ◌≤◌, ◌+◌, ℕ, true, List, Option, All, Contains}
use Rattle.pb_base.specs.declared.literal.Lit.{Lit}
use Rattle.pb_norm.specs.Constraints.{Constraint}
use Rattle.pb_norm.specs.ClauseForm.{clause_form}
use Rattle.pb_steps.specs.declared.step.Step.{Step}
use Rattle.pb_steps.specs.Operations.{Implies}
use Rattle.pb_steps.specs.Steps.{takes_id}
use Rattle.pb_steps.specs.Database.{Database, grown}
use Rattle.pb_steps.specs.Allowed.{Allowed}
use Rattle.pb_steps.specs.Runs.{Runs}
use Rattle.pb_derive.specs.Claims.{Claim}
use Rattle.pb_derive.specs.Later.{IsLater, IsUnmarked, IsSwept}

-- the step gives a constraint over the clause's literals that implies the clause
pub record StepGives (db : Database) (step : Step) (clause : List Lit) : Type 0 where
  pub constraint : Constraint
  pub allowed : (next : Option (List Lit)) → Allowed db step next (grown db constraint)
  pub implies : Implies constraint (clause_form clause)
  pub among : All (λ t. Contains clause t.lit) constraint.terms

-- from now on, the step gives the clause
pub record IsClaim (P : ℕ → Type 0) (db : Database) (c : Claim) : Type 0 where
  pub named : All (λ l. P l.var) c.clause
  pub takes : takes_id c.step ≡ true
  pub gives : (end : Database) → IsLater P db end → StepGives end c.step c.clause

-- steps run from a database, put out clauses and take so many ids; what is new names only variables that meet P
pub record Ran (P : ℕ → Type 0) (db : Database) (steps : List Step) (clauses : List (List Lit)) (ids : ℕ) : Type 0 where
  pub end : Database
  pub runs : Runs db steps clauses end
  pub later : IsLater P db end
  pub next : end.next ≡ db.next + ids

-- and each new constraint was put out or is gone, while none of those that stood before was put out
pub record RanSwept (P : ℕ → Type 0) (db : Database) (steps : List Step) (clauses : List (List Lit)) (ids : ℕ) : Type 1 where
  pub ran : Ran P db steps clauses ids
  pub swept : (S : ℕ → Type 0) → IsSwept S db → IsSwept S ran.end
  pub unmarked : (n m : ℕ) → m ≤ db.next → IsUnmarked n m db → IsUnmarked n m ran.end
