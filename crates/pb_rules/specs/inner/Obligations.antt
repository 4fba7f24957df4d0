-- Obligations by their ids.
use Rattle.std.specs.Prelude.{◌≡◌, ◌+◌, ◌^◌, ℕ, ℤ, Bool, Some, IsTrue, All, Contains, MatchOption, List, Option, None, option_map, if◌then◌else◌, find, nat_lt, nat_le, unsigned_abs}
use Rattle.std.specs.Option.{option_or}
use Rattle.std.specs.Bool.{MatchBool}
use Rattle.pb_base.specs.declared.literal.Term.{Term}
use Rattle.pb_base.specs.Problems.{magnitude}
use Rattle.pb_norm.specs.Constraints.{Constraint}
use Rattle.pb_steps.specs.declared.op.Set.{Set}
use Rattle.pb_steps.specs.declared.denied.Denied.{Denied}
use Rattle.pb_steps.specs.declared.denied.Denied.TheVariants.{UnknownVar, Width, SetsOriginal}
use Rattle.pb_steps.specs.Steps.{vars_of_terms, vars_of_sets}
use Rattle.pb_steps.specs.Denials.{unless}
use Rattle.pb_steps.specs.Substitutions.{restriction, names_set}
use Rattle.pb_steps.specs.Database.{Entry, Database, constraint_at}
use Rattle.pb_steps.specs.Allowed.{IsShown, IsMet, obligations}
use Rattle.pb_steps.specs.Denials.{FirstUnmet}

-- what stands under an id, if it has a set variable, is shown under the substitution
abbrev pub SlotIsMet : Database → Constraint → List Set → ℕ → Type 0
SlotIsMet db claim sets id = (c : Constraint) → constraint_at db.live id ≡ Some c → IsTrue (names_set sets c) → IsShown db.live claim (restriction sets c)

-- each constraint that has a set variable is among the ids
abbrev pub HasNamed : List Entry → List Set → List ℕ → Type 0
HasNamed live sets ids = (id : ℕ) (c : Constraint) → constraint_at live id ≡ Some c → IsTrue (names_set sets c) → Contains ids id

-- something stands there, has a set variable and is not shown
pub record SlotIsUnmet (db : Database) (claim : Constraint) (sets : List Set) (id : ℕ) : Type 0 where
  pub constraint : Constraint
  pub found : constraint_at db.live id ≡ Some constraint
  pub named : IsTrue (names_set sets constraint)
  pub fails : ¬ IsShown db.live claim (restriction sets constraint)

-- what is to be shown of what stands under an id, if it has a set variable
abbrev pub goal_of : List Set → Option Constraint → Option Constraint
goal_of sets None = None
goal_of sets (Some c) = if names_set sets c then Some (restriction sets c) else None

-- whether a goal is shown
abbrev pub TellsShown : List Entry → Constraint → Constraint → Bool → Type 0
TellsShown live claim goal found = MatchBool found (IsShown live claim goal) (¬ IsShown live claim goal)

-- whether all obligations are met, or the first one that is not
abbrev pub TellsUnmet : Database → Constraint → List Set → Option ℕ → Type 0
TellsUnmet db claim sets found = MatchOption found (All (IsMet db claim sets) (obligations db claim sets)) (FirstUnmet db claim sets)

-- the causes of a denial that are seen without propagation, as the code looks for them
abbrev pub red_causes : Database → List Term → ℤ → List Set → Option Denied
red_causes db ts right sets =
    option_or (option_map UnknownVar (find (λ v. nat_lt db.vars v) (vars_of_terms ts)))
    (option_or (option_map UnknownVar (find (λ v. nat_lt db.vars v) (vars_of_sets sets)))
    (option_or (unless (nat_lt (magnitude ts + unsigned_abs right) (2 ^ 126)) Width)
    (option_map SetsOriginal (find (λ v. nat_le v db.original) (vars_of_sets sets)))))
