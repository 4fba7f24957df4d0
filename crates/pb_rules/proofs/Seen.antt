-- What holds of a step where no cause of a denial is seen, and that such a step is allowed where propagation shows no cause.
use Rattle.std.proofs.Common.{◌≡◌, ◌≤◌, ◌<◌, ◌+◌, ◌^◌, inl, inr, ℕ, ℤ, List, [], ◌∷◌, Bool, true, false, not, arith, refl, ap, sym, ◌∙◌, ltb, eqb, cond, suc, length, get_or, take, drop, drop-cons, subst, Option, Some, None}
use Rattle.std.specs.Prelude.{All, unsigned_abs, find, is_some}
use Rattle.std.proofs.lemmas.Bool.{ltb-true, ltb-false, eqb-true, true≢false, not-true, not-false}
use Rattle.std.proofs.lemmas.List.Elements.{All-weaker}
use Rattle.pb_base.specs.declared.literal.Lit.{Lit}
use Rattle.pb_base.specs.declared.literal.Term.{Term}
use Rattle.pb_base.specs.Problems.{magnitude}
use Rattle.pb_norm.specs.Constraints.{Constraint}
use Rattle.pb_norm.specs.Halves.{written}
use Rattle.pb_norm.specs.Propagation.{Conflict}
use Rattle.pb_steps.specs.declared.denied.Denied.{Denied}
use Rattle.pb_steps.specs.declared.denied.Denied.TheVariants.{UnknownVar, UnknownId, Stack, Width, SetsOriginal, NotPropagated, Obligation, NoClause, NotImplied, OutDeleted, ClausesLeft}
use Rattle.pb_steps.specs.declared.step.Step.{Step}
use Rattle.pb_steps.specs.declared.step.Step.TheVariants.{Rup, Del}
use Rattle.pb_steps.specs.Steps.{vars_named, IsSpelled, IsRule}
use Rattle.pb_steps.specs.Database.{Entry, Database, constraint_at, is_live, is_out, is_listed, without, grown, reduced}
use Rattle.pb_steps.specs.Allowed.{Allowed, IsSlim, propagated}
use Rattle.pb_steps.specs.Denials.{seen_denial, first_gone, unknown_var, unknown_id, causes, UnshownBy}
use Rattle.pb_steps.specs.DenialLaws.{IsAllowed}
use Rattle.pb_steps.proofs.Searching.{from_find-none, from_map-none, from_first_some-none, from_unless-none, none-some}
use Rattle.std.proofs.lemmas.List.{take_more}
use Rattle.pb_steps.proofs.Keeping.{at-filter}
use Rattle.pb_database.specs.Refutations.{TellsConflict}
use Rattle.pb_database.proofs.Without.{without-push}
use Rattle.pb_steps.proofs.Denying.{allowed_or_denied}

-- the rows of the causes, as they stand in `seen`
abbrev pub rows : Database → Step → Option (List Lit) → List (Option Denied)
rows db step clause = unknown_var db step ∷ unknown_id db step ∷ causes db step clause

pub seen_denial-vars : (db : Database) (step : Step) (clause : Option (List Lit)) → seen_denial db step clause ≡ None → All (λ v. v ≤ db.vars) (vars_named step)
seen_denial-vars db step clause e =
    let row = from_first_some-none (rows db step clause) e 0 None (omega arith) in
    All-weaker (λ v. ltb db.vars v ≡ false) (λ v. v ≤ db.vars) (λ v h. ltb-false db.vars v h) (vars_named step) (from_find-none (λ v. ltb db.vars v) (vars_named step) (from_map-none UnknownVar _ row))

pub seen_denial-slim : (db : Database) (ts : List Term) (right : ℤ) (ids : List ℕ) (clause : Option (List Lit)) → seen_denial db (Rup ts right ids) clause ≡ None → IsSlim ts right
seen_denial-slim db ts right ids clause e =
    let row = from_first_some-none (rows db (Rup ts right ids) clause) e 2 None (omega arith) in
    ltb-true (magnitude ts + unsigned_abs right) (2 ^ 126) (from_unless-none (ltb (magnitude ts + unsigned_abs right) (2 ^ 126)) Width row)

-- a step that has no cause of a denial is allowed
pub by_elimination : (db : Database) (step : Step) (clause : Option (List Lit)) → IsRule step → IsSpelled step → seen_denial db step clause ≡ None → ((d : Denied) → ¬ UnshownBy db step d) → IsAllowed db step clause
by_elimination db step clause rule spelled none unshown =
    elim (allowed_or_denied.either db step clause rule spelled) [
      | inl allowed ↦ allowed
      | inr denied ↦ absurd (elim denied.1 [
        | inl is_seen ↦ none-some denied.0 (sym none ∙ is_seen)
        | inr by ↦ unshown denied.0 by.1
      ])
    ]

pub rup-allowed : (db : Database) (ts : List Term) (right : ℤ) (ids : List ℕ) (clause : Option (List Lit)) → IsSpelled (Rup ts right ids) → seen_denial db (Rup ts right ids) clause ≡ None →
    Conflict (propagated db.live (written ts right) ids) [] → Allowed db (Rup ts right ids) clause (grown db (written ts right))
rup-allowed db ts right ids clause spelled none conflict =
    let found = by_elimination db (Rup ts right ids) clause tt spelled none shown in
    subst (Allowed db (Rup ts right ids) clause) found.1.rule.after found.1
  where
    shown : (d : Denied) → ¬ UnshownBy db (Rup ts right ids) d
    shown NotPropagated not_so = not_so conflict
    shown (UnknownVar v) h = h
    shown (UnknownId id) h = h
    shown Stack h = h
    shown Width h = h
    shown (SetsOriginal v) h = h
    shown (Obligation id) h = h
    shown NoClause h = h
    shown (NotImplied id) h = h
    shown (OutDeleted id) h = h
    shown ClausesLeft h = h

-- what was told of the claim
pub rup-conflict : (db : Database) (ts : List Term) (right : ℤ) (ids : List ℕ) (claim : Constraint) (found : Bool) → claim ≡ written ts right → TellsConflict (propagated db.live claim ids) found → found ≡ true → Conflict (propagated db.live (written ts right) ids) []
rup-conflict db ts right ids claim found same tells e = subst (λ (c : Constraint). Conflict (propagated db.live c ids) []) same (subst (TellsConflict (propagated db.live claim ids)) e tells)

pub rup-none : (db : Database) (ts : List Term) (right : ℤ) (ids : List ℕ) (claim : Constraint) (found : Bool) → claim ≡ written ts right → TellsConflict (propagated db.live claim ids) found → found ≡ false → ¬ Conflict (propagated db.live (written ts right) ids) []
rup-none db ts right ids claim found same tells e = subst (λ (c : Constraint). ¬ Conflict (propagated db.live c ids) []) same (subst (TellsConflict (propagated db.live claim ids)) e tells)

pub del-allowed : (db : Database) (ids : List ℕ) (clause : Option (List Lit)) → IsSpelled (Del ids) → None ≡ first_gone db.live ids → None ≡ find (is_out db.live) ids → Allowed db (Del ids) clause (reduced db ids)
del-allowed db ids clause spelled e f =
    let none : seen_denial db (Del ids) clause ≡ None = rw (← e, ← f) refl in
    let found = by_elimination db (Del ids) clause tt spelled none (λ d by. by) in
    subst (Allowed db (Del ids) clause) found.1.rule.after found.1

-- ---- ids that are gone

listed-gone : (ids : List ℕ) (es : List Entry) (id : ℕ) → is_listed ids id ≡ true → constraint_at (without ids es) id ≡ None
listed-gone ids [] id e = refl
listed-gone ids (x ∷ es) id e = step (is_listed ids x.id) (eqb x.id id) refl refl (listed-gone ids es id e) where
  step : (a b : Bool) → is_listed ids x.id ≡ a → eqb x.id id ≡ b → constraint_at (without ids es) id ≡ None →
      constraint_at (cond {A = List Entry} (not a) (x ∷ without ids es) (without ids es)) id ≡ None
  step true b f g rest = rest
  step false false f g rest = rw g rest
  step false true f g rest =
      let same : x.id ≡ id = eqb-true x.id id g in
      absurd (true≢false (sym e ∙ (ap (is_listed ids) (sym same) ∙ f)))

pub gone-listed : (ids : List ℕ) (es : List Entry) (id : ℕ) → is_listed ids id ≡ true → not (is_live (without ids es) id) ≡ true
gone-listed ids es id e = rw (listed-gone ids es id e) refl

pub live-unlisted : (ids : List ℕ) (es : List Entry) (id : ℕ) → is_listed ids id ≡ false → is_live (without ids es) id ≡ is_live es id
live-unlisted ids es id e = ap is_some (at-filter (λ i. not (is_listed ids i)) es id (rw e refl))

drop-at : (ids : List ℕ) (i : ℕ) → i < length ids → drop i ids ≡ get_or ids i 0 ∷ drop (i + 1) ids
drop-at ids i h = let next : suc i ≡ i + 1 = omega arith in drop-cons ids i 0 h ∙ ap (λ (k : ℕ). get_or ids i 0 ∷ drop k ids) next

pub gone_here : (live : List Entry) (ids : List ℕ) (i : ℕ) → i < length ids → not (is_live live (get_or ids i 0)) ≡ true → first_gone live (drop i ids) ≡ Some (get_or ids i 0)
gone_here live ids i h e =
    let gone : is_live live (get_or ids i 0) ≡ false = not-true (is_live live (get_or ids i 0)) e in
    ap (first_gone live) (drop-at ids i h) ∙ rw gone refl

pub gone_later : (live : List Entry) (ids : List ℕ) (i : ℕ) → i < length ids → not (is_live (without (take i ids) live) (get_or ids i 0)) ≡ false →
    first_gone (without (take i ids) live) (drop i ids) ≡ first_gone (without (take (i + 1) ids) live) (drop (i + 1) ids)
gone_later live ids i h e =
    let there : is_live (without (take i ids) live) (get_or ids i 0) ≡ true = not-false (is_live (without (take i ids) live) (get_or ids i 0)) e in
    let fewer : without (get_or ids i 0 ∷ []) (without (take i ids) live) ≡ without (take (i + 1) ids) live = sym (without-push (take i ids) (get_or ids i 0) live) ∙ ap (λ (js : List ℕ). without js live) (sym (take_more ids i 0 h)) in
    ap (first_gone (without (take i ids) live)) (drop-at ids i h) ∙ (rw there refl ∙ ap (λ (es : List Entry). first_gone es (drop (i + 1) ids)) fewer)
