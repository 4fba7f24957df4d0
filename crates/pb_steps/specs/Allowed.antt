-- Which steps are allowed (reverse unit propagation, Goldberg and Novikov 2003; redundance, Gocht and Nordström 2021; the rest is our own).
use Rattle.std.specs.Prelude.{◌≡◌, ◌≢◌, ◌≤◌, ◌<◌, ◌+◌, ◌^◌, ◌⊎◌, ℕ, ℤ, false, List, [], ◌∷◌, ◌++◌, Option, Some, unsigned_abs, filter, filter_map, All, AllPairs, IsTrue}
use Rattle.pb_base.specs.declared.literal.Lit.{Lit}
use Rattle.pb_base.specs.declared.literal.Term.{Term}
use Rattle.pb_base.specs.Problems.{magnitude}
use Rattle.pb_norm.specs.Constraints.{Constraint}
use Rattle.pb_norm.specs.ClauseForm.{clause_form}
use Rattle.pb_norm.specs.Halves.{written}
use Rattle.pb_norm.specs.Propagation.{Conflict}
use Rattle.pb_steps.specs.declared.op.Set.{Set}
use Rattle.pb_steps.specs.declared.op.PolOp.{PolOp}
use Rattle.pb_steps.specs.declared.step.Step.{Step}
use Rattle.pb_steps.specs.declared.step.Step.TheVariants.{Blank, Pol, Rup, Red, Del, Out}
use Rattle.pb_steps.specs.Steps.{HasFactor, vars_named, ids_named, vars_of_sets}
use Rattle.pb_steps.specs.Operations.{negation, Implies}
use Rattle.pb_steps.specs.Database.{Entry, Database, live_constraints, constraint_at, IsLive, is_out, entry, grown, reduced, marked}
use Rattle.pb_steps.specs.Stacks.{is_stacked, after_ops}
use Rattle.pb_steps.specs.Substitutions.{restriction, names_set}

-- the numbers of a written constraint have room
abbrev pub IsSlim : List Term → ℤ → Type 0
IsSlim ts right = magnitude ts + unsigned_abs right < 2 ^ 126

-- ---- reverse unit propagation

-- those that propagation may use: the ones with the ids, or all where there is no id
abbrev pub hinted : List Entry → List ℕ → List Constraint
hinted live [] = live_constraints live
hinted live (id ∷ ids) = filter_map (constraint_at live) (id ∷ ids)

-- what is propagated to show a claim
abbrev pub propagated : List Entry → Constraint → List ℕ → List Constraint
propagated live claim ids = negation claim ∷ hinted live ids

-- ---- redundance

-- what is to hold under the substitution: each constraint that has a set variable, and the claim, under the next number
abbrev pub obligations : Database → Constraint → List Set → List Entry
obligations db claim sets = filter (λ e. names_set sets e.constraint) db.live ++ entry db.next claim ∷ []

-- the claim's negation gives the goal, by itself or with all constraints that stand
abbrev pub IsShown : List Entry → Constraint → Constraint → Type 0
IsShown live claim goal = Implies (negation claim) goal ⊎ Conflict (negation claim ∷ negation goal ∷ live_constraints live) []

abbrev pub IsMet : Database → Constraint → List Set → Entry → Type 0
IsMet db claim sets e = IsShown db.live claim (restriction sets e.constraint)

-- ---- steps

pub record IsSummed (db : Database) (ops : List PolOp) (db' : Database) : Type 0 where
  pub factors : All HasFactor ops
  pub stacked : IsTrue (is_stacked ops)
  pub sum : Constraint
  pub result : after_ops db.live ops [] ≡ Some (sum ∷ [])
  pub after : db' ≡ grown db sum

pub record IsPropagated (db : Database) (ts : List Term) (right : ℤ) (ids : List ℕ) (db' : Database) : Type 0 where
  pub slim : IsSlim ts right
  pub conflict : Conflict (propagated db.live (written ts right) ids) []
  pub after : db' ≡ grown db (written ts right)

pub record IsRedundant (db : Database) (ts : List Term) (right : ℤ) (sets : List Set) (db' : Database) : Type 0 where
  pub slim : IsSlim ts right
  pub fresh : All (λ v. db.original < v) (vars_of_sets sets)
  pub met : All (IsMet db (written ts right) sets) (obligations db (written ts right) sets)
  pub after : db' ≡ grown db (written ts right)

pub record IsDeleted (db : Database) (ids : List ℕ) (db' : Database) : Type 0 where
  pub once : AllPairs (λ i j. i ≢ j) ids
  pub kept : All (λ id. is_out db.live id ≡ false) ids
  pub after : db' ≡ reduced db ids

pub record IsPutOut (db : Database) (id : ℕ) (clause : Option (List Lit)) (db' : Database) : Type 0 where
  pub literals : List Lit
  pub is_next : clause ≡ Some literals
  pub constraint : Constraint
  pub found : constraint_at db.live id ≡ Some constraint
  pub implied : Implies constraint (clause_form literals)
  pub after : db' ≡ marked db id

-- what the rule of a step asks, and what the step leaves
abbrev pub ByRule : Database → Step → Option (List Lit) → Database → Type 0
ByRule db Blank clause db' = db' ≡ db
ByRule db (Pol ops) clause db' = IsSummed db ops db'
ByRule db (Rup ts right ids) clause db' = IsPropagated db ts right ids db'
ByRule db (Red ts right sets) clause db' = IsRedundant db ts right sets db'
ByRule db (Del ids) clause db' = IsDeleted db ids db'
ByRule db (Out id) clause db' = IsPutOut db id clause db'
ByRule db _ clause db' = ⊥

-- a step is allowed, with the next clause to put out, and leaves a database
pub record Allowed (db : Database) (step : Step) (clause : Option (List Lit)) (db' : Database) : Type 0 where
  pub vars : All (λ v. v ≤ db.vars) (vars_named step)
  pub ids : All (IsLive db.live) (ids_named step)
  pub rule : ByRule db step clause db'
