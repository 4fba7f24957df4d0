-- When a clause follows from constraints by unit propagation. This serves the proofs that derivations run.
use Rattle.std.specs.Prelude.{◌≡◌, ◌≤◌, ◌<◌, ◌^◌, ℕ, false, pos, List, [], ◌∷◌, map, length, All, Some}
use Rattle.pb_base.specs.declared.literal.Lit.{Lit}
use Rattle.pb_norm.specs.Constraints.{Constraint}
use Rattle.pb_norm.specs.ClauseForm.{one_of, distinct, is_tautology}
use Rattle.pb_norm.specs.Halves.{written}
use Rattle.pb_norm.specs.Propagation.{Conflict}
use Rattle.pb_steps.specs.Operations.{negation}
use Rattle.pb_steps.specs.Database.{Database, constraint_at}

-- the clause is no tautology, and the constraints and what the clause denies have a conflict
abbrev pub IsRefuting : List Constraint → List Lit → Type 0
IsRefuting cs clause = (is_tautology clause ≡ false) × Conflict (negation (written (map one_of (distinct clause)) (pos 1)) ∷ cs) []

-- the ids are of these constraints
abbrev pub AreAt : Database → List ℕ → List Constraint → Type 0
AreAt db [] [] = Unit {0}
AreAt db (id ∷ ids) (c ∷ cs) = (constraint_at db.live id ≡ Some c) × (id < db.next) × AreAt db ids cs
AreAt db _ _ = ⊥

-- what is asked of a clause beside the conflict
pub record IsClauseIn (P : ℕ → Type 0) (db : Database) (clause : List Lit) : Type 0 where
  pub named : All (λ l. P l.var) clause
  pub vars : All (λ l. l.var ≤ db.vars) clause
  pub few : length clause < 2 ^ 125
