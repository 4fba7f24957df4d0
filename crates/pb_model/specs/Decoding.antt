-- What a model comes to beside a problem (our own).
use Rattle.std.specs.Prelude.{◌≡◌, ◌≢◌, ◌+◌, ◌≤◌, ℕ, List, ◌∷◌, ◌++◌, length, All, Option, Some, None}
use Rattle.pb_base.specs.declared.literal.Term.{Term}
use Rattle.pb_base.specs.declared.problem.Raw.{Raw}
use Rattle.pb_base.specs.declared.problem.Problem.{Problem}
use Rattle.pb_base.specs.Literals.{Assignment, assigned_by}
use Rattle.pb_base.specs.Problems.{Satisfies, IsSolution, widened}
use Rattle.pb_model.specs.declared.decoding.Decoded.{Decoded}
use Rattle.pb_model.specs.declared.decoding.Decoded.TheVariants.{NoModel, Violates, Solution}
use Rattle.pb_model.specs.declared.model.Model.{Model}
use Rattle.pb_model.specs.declared.model.Says.TheVariants.{Satisfiable}

-- the statement of a number, counted from 1, is violated, and those before it hold
pub record IsFirstViolated (a : Assignment) (statements : List Raw) (number : ℕ) : Type 0 where
  pub before : List Raw
  pub statement : Raw
  pub after : List Raw
  pub cut : statements ≡ before ++ statement ∷ after
  pub counted : number ≡ length before + 1
  pub kept : All (Satisfies a) before
  pub violated : ¬ Satisfies a statement

-- the assignment that the values give the problem's variables
abbrev pub assignment_of : Problem → Model → Assignment
assignment_of p m = assigned_by (widened p m.values)

-- what a model comes to
abbrev pub IsDecoded : Problem → Model → Decoded → Type 0
IsDecoded p m NoModel = m.says ≢ Satisfiable
IsDecoded p m (Violates number) = (m.says ≡ Satisfiable) × IsFirstViolated (assignment_of p m) p.statements number
IsDecoded p m Solution = (m.says ≡ Satisfiable) × IsSolution p m.values

-- the variables of the terms are among so many
abbrev pub AreVarsWithin : ℕ → List Term → Type 0
AreVarsWithin vars ts = All (λ t. t.lit.var ≤ vars) ts

-- a place, counted from 0, of the first statement that is violated, or none
abbrev pub FindsViolated : Assignment → List Raw → Option ℕ → Type 0
FindsViolated a statements None = All (Satisfies a) statements
FindsViolated a statements (Some place) = IsFirstViolated a statements (place + 1)
