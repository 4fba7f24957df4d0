-- The database of loaded constraints, and those that steps make of it.
use Rattle.std.proofs.Common.{◌≡◌, ◌≤◌, ◌<◌, ◌+◌, ◌++◌, ℕ, Bool, cond, List, [], ◌∷◌, length, refl, ap, subst, ◌∙◌, arith}
use Rattle.std.specs.Prelude.{All, Option, Some}
use Rattle.std.proofs.lemmas.Bool.{ne_eqb, eq-eqb}
use Rattle.std.proofs.lemmas.List.Elements.{All-nil, All-cons, All-head, All-tail, All-weaker}
use Rattle.pb_norm.specs.Constraints.{Weighted, Constraint}
use Rattle.pb_norm.proofs.Variables.{OfTerm}
use Rattle.pb_steps.specs.Database.{Entry, Database, constraint_at, entry, loaded_database, numbered_from}
use Rattle.pb_derive.specs.Later.{IsOther, IsNumbered, IsUnnamed, IsLater}
use Rattle.pb_base.specs.declared.options.Options.{Options}
use Rattle.pb_choice.proofs.Composition.{IsOneBelow, IsReady}

-- the constraints stand under neighbouring ids
abbrev pub Stand : List Entry → ℕ → List Constraint → Type 0
Stand live id [] = Unit {0}
Stand live id (c ∷ cs) = (constraint_at live id ≡ Some c) × Stand live (id + 1) cs

stand_behind : (e : Entry) (live : List Entry) (id : ℕ) (cs : List Constraint) → e.id < id → Stand live id cs → Stand (e ∷ live) id cs
stand_behind e live id [] below h = tt
stand_behind e live id (c ∷ cs) below h =
    (ap (λ (b : Bool). cond {A = Option Constraint} b (Some e.constraint) (constraint_at live id)) (ne_eqb e.id id (λ same. omega (arith, below, same))) ∙ h.0, stand_behind e live (id + 1) cs (omega (arith, below)) h.1)

stand_numbered : (id : ℕ) (cs : List Constraint) → Stand (numbered_from id cs) id cs
stand_numbered id [] = tt
stand_numbered id (c ∷ cs) = (
  ap (λ (b : Bool). cond {A = Option Constraint} b (Some c) (constraint_at (numbered_from (id + 1) cs) id)) (eq-eqb id id refl),
  stand_behind (entry id c) (numbered_from (id + 1) cs) (id + 1) cs (omega arith) (stand_numbered (id + 1) cs),
)

numbered_below : (id most : ℕ) (cs : List Constraint) → id + length cs ≤ most → All (λ e. e.id < most) (numbered_from id cs)
numbered_below id most [] le = All-nil (λ (e : Entry). e.id < most)
numbered_below id most (c ∷ cs) le = All-cons (λ (e : Entry). e.id < most) (entry id c) (numbered_from (id + 1) cs) (omega (arith, le)) (numbered_below (id + 1) most cs (omega (arith, le)))

unnamed_by : (o : Options) (n v id : ℕ) (cs : List Constraint) → n ≤ v → All (IsReady o n) cs → All (λ e. All (IsOther v) e.constraint.terms) (numbered_from id cs)
unnamed_by o n v id [] le ready = All-nil (λ (e : Entry). All (IsOther v) e.constraint.terms)
unnamed_by o n v id (c ∷ cs) le ready =
    All-cons (λ (e : Entry). All (IsOther v) e.constraint.terms) (entry id c) (numbered_from (id + 1) cs)
    (All-weaker (OfTerm (IsOneBelow n)) (IsOther v) (λ (t : Weighted) h same. omega (arith, le, h.1, same)) c.terms (All-head (IsReady o n) c cs ready).within)
    (unnamed_by o n v (id + 1) cs le (All-tail (IsReady o n) c cs ready))

module _ (original vars : ℕ) (cs : List Constraint) where
  pub loaded_stand : Stand (loaded_database original vars cs).live 1 cs
  loaded_stand = stand_numbered 1 cs

  pub loaded_numbered : IsNumbered (loaded_database original vars cs)
  loaded_numbered = numbered_below 1 (length cs + 1) cs (omega arith)

  pub loaded_unnamed : (o : Options) (n v : ℕ) → n ≤ v → All (IsReady o n) cs → IsUnnamed v (loaded_database original vars cs)
  loaded_unnamed o n v le ready = unnamed_by o n v 1 cs le ready

-- what stood before still does
pub stand_later : (P : ℕ → Type 0) (db end : Database) (id : ℕ) (cs : List Constraint) → IsLater P db end → id + length cs ≤ db.next → Stand db.live id cs → Stand end.live id cs
stand_later P db end id [] later le h = tt
stand_later P db end id (c ∷ cs) later le h = (later.stands id (omega (arith, le)) ∙ h.0, stand_later P db end (id + 1) cs later (omega (arith, le)) h.1)

-- ---- of two parts

pub stand_first : (live : List Entry) (id : ℕ) (cs ds : List Constraint) → Stand live id (cs ++ ds) → Stand live id cs
stand_first live id [] ds h = tt
stand_first live id (c ∷ cs) ds h = (h.0, stand_first live (id + 1) cs ds h.1)

pub stand_rest : (live : List Entry) (id : ℕ) (cs ds : List Constraint) → Stand live id (cs ++ ds) → Stand live (id + length cs) ds
stand_rest live id [] ds h = let same : id ≡ id + 0 = omega arith in subst (λ (i : ℕ). Stand live i ds) same h
stand_rest live id (c ∷ cs) ds h =
    let same : id + 1 + length cs ≡ id + length (c ∷ cs) = omega arith in
    subst (λ (i : ℕ). Stand live i ds) same (stand_rest live (id + 1) cs ds h.1)
