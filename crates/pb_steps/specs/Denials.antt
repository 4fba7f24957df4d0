-- Why a step is not allowed: the first cause that applies (our own).
-- Without excluded middle, that a step of a rule is allowed or denied is a theorem (`allowed_or_denied`), since a search for a
-- conflict decides it. It is never both, and there is one database, or one reason.
use Rattle.std.specs.Prelude.{◌≡◌, ◌^◌, ◌+◌, ◌⊎◌, ℕ, Bool, true, not, nat_lt, nat_le, List, [], ◌∷◌, ◌++◌, Option, Some, None, is_some, unsigned_abs, option_map, unwrap_or, find, All, if◌then◌else◌}
use Rattle.std.specs.Option.{option_or}
use Rattle.pb_base.specs.declared.literal.Lit.{Lit}
use Rattle.pb_base.specs.Problems.{magnitude}
use Rattle.pb_norm.specs.Constraints.{Constraint}
use Rattle.pb_norm.specs.ClauseForm.{clause_form}
use Rattle.pb_norm.specs.Halves.{written}
use Rattle.pb_norm.specs.Propagation.{Conflict}
use Rattle.pb_steps.specs.declared.denied.Denied.{Denied}
use Rattle.pb_steps.specs.declared.denied.Denied.TheVariants.{UnknownVar, UnknownId, Stack, Width, SetsOriginal, NotPropagated, Obligation, NoClause, NotImplied, OutDeleted}
use Rattle.pb_steps.specs.declared.op.Set.{Set}
use Rattle.pb_steps.specs.declared.step.Step.{Step}
use Rattle.pb_steps.specs.declared.step.Step.TheVariants.{Pol, Rup, Red, Del, Out}
use Rattle.pb_steps.specs.Steps.{vars_named, ids_named, vars_of_sets}
use Rattle.pb_steps.specs.Operations.{implies}
use Rattle.pb_steps.specs.Database.{Entry, Database, constraint_at, is_live, is_out, without}
use Rattle.pb_steps.specs.Stacks.{is_stacked, after_ops}
use Rattle.pb_steps.specs.Allowed.{propagated, obligations, IsMet}

-- where a test fails
abbrev pub unless : Bool → Denied → Option Denied
unless holds d = if holds then None else Some d

-- ---- the causes that are seen without propagation

abbrev pub unknown_var : Database → Step → Option Denied
unknown_var db step = option_map UnknownVar (find (λ v. nat_lt db.vars v) (vars_named step))

-- each id is gone before the next is looked for, so that one that is named twice is not there
abbrev pub first_gone : List Entry → List ℕ → Option ℕ
first_gone live [] = None
first_gone live (id ∷ ids) = if is_live live id then first_gone (without (id ∷ []) live) ids else Some id

abbrev pub unknown_id : Database → Step → Option Denied
unknown_id db (Del ids) = option_map UnknownId (first_gone db.live ids)
unknown_id db step = option_map UnknownId (find (λ id. not (is_live db.live id)) (ids_named step))

-- the other causes of each kind of step, in their order. Where propagation has a cause of a kind, it comes behind these.
abbrev pub causes : Database → Step → Option (List Lit) → List (Option Denied)
causes db (Pol ops) clause = unless (is_stacked ops) Stack ∷ unless (is_some (after_ops db.live ops [])) Width ∷ []
causes db (Rup ts right ids) clause = unless (nat_lt (magnitude ts + unsigned_abs right) (2 ^ 126)) Width ∷ []
causes db (Red ts right sets) clause =
    unless (nat_lt (magnitude ts + unsigned_abs right) (2 ^ 126)) Width ∷ option_map SetsOriginal (find (λ v. nat_le v db.original) (vars_of_sets sets)) ∷ []
causes db (Del ids) clause = option_map OutDeleted (find (is_out db.live) ids) ∷ []
causes db (Out id) None = Some NoClause ∷ []
causes db (Out id) (Some ls) = unless (unwrap_or (option_map (λ c. implies c (clause_form ls)) (constraint_at db.live id)) true) (NotImplied id) ∷ []
causes db _ clause = []

abbrev pub first_some : {X : Type 0} → List (Option X) → Option X
first_some [] = None
first_some (row ∷ rows) = option_or row (first_some rows)

-- the first of them
abbrev pub seen_denial : Database → Step → Option (List Lit) → Option Denied
seen_denial db step clause = first_some (unknown_var db step ∷ unknown_id db step ∷ causes db step clause)

-- ---- the causes that propagation shows

-- the first obligation that is not met
pub record FirstUnmet (db : Database) (claim : Constraint) (sets : List Set) (id : ℕ) : Type 0 where
  pub before : List Entry
  pub unmet : Entry
  pub later : List Entry
  pub parts : obligations db claim sets ≡ before ++ unmet ∷ later
  pub met : All (IsMet db claim sets) before
  pub fails : ¬ IsMet db claim sets unmet
  pub is_id : id ≡ unmet.id

abbrev pub UnshownBy : Database → Step → Denied → Type 0
UnshownBy db (Rup ts right ids) NotPropagated = ¬ Conflict (propagated db.live (written ts right) ids) []
UnshownBy db (Red ts right sets) (Obligation id) = FirstUnmet db (written ts right) sets id
UnshownBy db _ _ = ⊥

-- the first cause that applies
abbrev pub FirstDenied : Database → Step → Option (List Lit) → Denied → Type 0
FirstDenied db step clause d = (seen_denial db step clause ≡ Some d) ⊎ ((seen_denial db step clause ≡ None) × UnshownBy db step d)
