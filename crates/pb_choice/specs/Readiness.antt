-- When the clauses of a constraint may be derived from a database, and how long the lines of the steps are. Our own.
use Rattle.std.specs.Prelude.{◌≡◌, ◌≤◌, ◌<◌, ◌+◌, ◌*◌, ◌^◌, ℕ, List, All, Some, count_by, length, sum_by}
use Rattle.pb_norm.specs.Constraints.{Constraint, IsLinear, weight}
use Rattle.pb_steps.specs.Database.{Database, constraint_at}
use Rattle.pb_steps.specs.declared.step.Step.{Step}
use Rattle.pb_steps.specs.Steps.{takes_id}
use Rattle.pb_derive.specs.Later.{IsNumbered, IsUnnamed}
use Rattle.pb_derive.specs.Short.{line_size}

-- in normal form, and no greater than those of a problem
pub record IsModest (c : Constraint) : Type 0 where
  pub linear : IsLinear c
  pub light : weight c.terms < 2 ^ 100
  pub few : length c.terms < 2 ^ 31

-- the constraint stands there under the id, and the fresh variables are new
pub record IsReadyWith (c : Constraint) (first fresh id : ℕ) (db : Database) : Type 0 where
  pub original : db.original < first
  pub vars : first + fresh ≤ db.vars + 1
  pub numbered : IsNumbered db
  pub stands : constraint_at db.live id ≡ Some c
  pub unnamed : (v : ℕ) → first ≤ v → v < first + fresh → IsUnnamed v db

-- each line, and all together, of the clauses of a constraint of n terms
pub record AreBrief (n fresh clauses : ℕ) (steps : List Step) : Type 0 where
  pub each : All (λ s. line_size s ≤ 2 ^ 28) steps
  pub all : sum_by line_size steps ≤ 512 * (fresh + 1) * n + 2 ^ 20 * (fresh + clauses + 4)

-- of the clauses of an equality, whose halves have n terms each
pub record AreBothBrief (n fresh clauses : ℕ) (steps : List Step) : Type 0 where
  pub each : All (λ s. line_size s ≤ 2 ^ 28) steps
  pub all : sum_by line_size steps ≤ 512 * (fresh + 2) * n + 2 ^ 20 * (fresh + clauses + 8)

-- the ids of steps from the next one on are within a bound
abbrev pub LeavesIds : (ℕ → List Step) → ℕ → Type 0
LeavesIds steps next = next + count_by takes_id (steps next) ≤ 2 ^ 60
