-- Derivations of the clauses that stand for a bounded sum (our own).
-- A clause that follows by propagation names the ids of what it follows from. Its premise is about assignments, that the constraint
-- cannot be met under any that makes the clause false. What is known is a predicate on ids and constraints, so that no database
-- occurs in the proofs of a family.
use Rattle.std.specs.Prelude.{ℕ, ◌+◌, ◌-◌, ◌≤◌, ◌<◌, List, map}
use Rattle.pb_base.specs.declared.literal.Lit.{Lit}
use Rattle.pb_norm.specs.Constraints.{Constraint, weight}
use Rattle.pb_norm.specs.BoundedSums.{BoundedSum}
use Rattle.pb_norm.specs.Reduction.{opposite}
use Rattle.pb_steps.specs.declared.step.Step.{Step}
use Rattle.pb_steps.specs.Database.{Database}
use Rattle.pb_steps.specs.Runs.{Runs}
use Rattle.pb_derive.specs.Later.{IsUnnamed, IsNumbered, Knows, IsLater, IsUnmarked, IsSwept}

-- a bounded sum as a constraint: the literals' negations are to reach what the weight has above the bound
abbrev pub as_constraint : BoundedSum → Constraint
as_constraint m = record { terms = map opposite m.terms; degree = weight m.terms - m.bound }

-- a database with room for fresh variables, which nothing names yet
pub record HasRoom (first fresh : ℕ) (db : Database) : Type 0 where
  pub original : db.original < first
  pub vars : first + fresh ≤ db.vars + 1
  pub numbered : IsNumbered db
  pub unnamed : (v : ℕ) → first ≤ v → v < first + fresh → IsUnnamed v db

-- one in which two sums stand besides: what is at least reached under the id `lower`, what is at most reached under `upper`
pub record IsReadyForBoth (most least : BoundedSum) (first fresh lower upper : ℕ) (db : Database) : Type 0 where
  pub room : HasRoom first fresh db
  pub least_stands : Knows db lower (as_constraint least)
  pub most_stands : Knows db upper (as_constraint most)

-- a database in which a sum stands under an id, and fresh variables are new
pub record IsReadyFor (m : BoundedSum) (first fresh id : ℕ) (db : Database) : Type 0 where
  pub original : db.original < first
  pub vars : first + fresh ≤ db.vars + 1
  pub numbered : IsNumbered db
  pub stands : Knows db id (as_constraint m)
  pub unnamed : (v : ℕ) → first ≤ v → v < first + fresh → IsUnnamed v db

-- Steps that are allowed one after the other and put out the clauses in order. What stood before still does and is not put
-- out, what is new names only variables below a number, and beside what stood before nothing is left but constraints that were
-- put out.
pub record Derives (db : Database) (steps : List Step) (clauses : List (List Lit)) (limit : ℕ) : Type 0 where
  pub end : Database
  pub runs : Runs db steps clauses end
  pub later : IsLater (λ v. v < limit) db end
  pub swept : IsSwept (λ id. id < db.next) end
  pub unmarked : (n m : ℕ) → m ≤ db.next → IsUnmarked n m db → IsUnmarked n m end
