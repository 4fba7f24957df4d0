-- Each step of a rule is allowed or denied, in one way.
use Rattle.std.proofs.Common.{◌≡◌, ◌≤◌, ◌<◌, ◌+◌, ◌⊎◌, ◌^◌, inl, inr, ℕ, true, false, not, List, [], ◌∷◌, arith, refl, ap, sym, ◌∙◌, subst, ltb, leb}
use Rattle.std.specs.Prelude.{All, Some, None, Option, ℤ, find, option_map, unwrap_or, is_some, unsigned_abs}
use Rattle.std.proofs.lemmas.Bool.{cases_Bool, both_ways, ltb-true, ltb-false, lt-ltb, le-ltb, leb-false, lt-leb, not-false}
use Rattle.std.proofs.lemmas.List.Elements.{All-nil, All-head, All-weaker}
use Rattle.pb_base.proofs.Members.{All-append_both}
use Rattle.pb_base.specs.declared.literal.Lit.{Lit}
use Rattle.pb_base.specs.declared.literal.Term.{Term}
use Rattle.pb_base.specs.Problems.{magnitude}
use Rattle.pb_norm.specs.Constraints.{Constraint}
use Rattle.pb_norm.specs.ClauseForm.{clause_form}
use Rattle.pb_norm.specs.Halves.{written}
use Rattle.pb_norm.specs.Propagation.{Conflict}
use Rattle.pb_steps.specs.declared.denied.Denied.{Denied}
use Rattle.pb_steps.specs.declared.denied.Denied.TheVariants.{UnknownVar, UnknownId, Stack, Width, SetsOriginal, NotPropagated, Obligation, NoClause, NotImplied, OutDeleted}
use Rattle.pb_steps.specs.declared.op.Set.{Set}
use Rattle.pb_steps.specs.declared.op.PolOp.{PolOp}
use Rattle.pb_steps.specs.declared.step.Step.{Step}
use Rattle.pb_steps.specs.declared.step.Step.TheVariants.{Blank, Head, Loaded, Pol, Rup, Red, Del, Out, End}
use Rattle.pb_steps.specs.Steps.{vars_named, ids_named, vars_of_sets, IsRule, IsSpelled}
use Rattle.pb_steps.specs.Operations.{negation, implies}
use Rattle.pb_steps.specs.Database.{Entry, Database, live_constraints, constraint_at, is_live, IsLive, is_out, grown, reduced, marked}
use Rattle.pb_steps.specs.Stacks.{is_stacked, after_ops}
use Rattle.pb_steps.specs.Substitutions.{restriction}
use Rattle.pb_steps.specs.Allowed.{propagated, obligations, IsMet, ByRule, Allowed}
use Rattle.pb_steps.specs.Denials.{unless, unknown_var, unknown_id, first_gone, causes, seen_denial, FirstUnmet, UnshownBy, FirstDenied}
use Rattle.pb_steps.specs.DenialLaws.{IsAllowed, IsDenied, AllowedOrDenied}
use Rattle.pb_steps.proofs.Searching.{none-some, find-none, from_find-none, map-none, from_map-none, or-none, from_first_some-none, unless-none, from_unless-none, all_or_first, first_unique}
use Rattle.pb_steps.proofs.Heights.{one_left}
use Rattle.pb_steps.proofs.Numbers.{none-gone, from_none-gone}
use Rattle.pb_steps.proofs.Deciding.{conflict_decided}

-- ---- rows, each where it does not apply

vars-row : (db : Database) (step : Step) → All (λ v. v ≤ db.vars) (vars_named step) → unknown_var db step ≡ None
vars-row db step h =
    map-none UnknownVar (find (λ v. ltb db.vars v) (vars_named step))
    (find-none (λ v. ltb db.vars v) (vars_named step) (All-weaker (λ v. v ≤ db.vars) (λ v. ltb db.vars v ≡ false) (λ v k. le-ltb db.vars v k) (vars_named step) h))

from_vars-row : (db : Database) (step : Step) → unknown_var db step ≡ None → All (λ v. v ≤ db.vars) (vars_named step)
from_vars-row db step e =
    All-weaker (λ v. ltb db.vars v ≡ false) (λ v. v ≤ db.vars) (λ v k. ltb-false db.vars v k) (vars_named step)
    (from_find-none (λ v. ltb db.vars v) (vars_named step) (from_map-none UnknownVar (find (λ v. ltb db.vars v) (vars_named step)) e))

abbrev id_row : Database → List ℕ → Option Denied
id_row db ids = option_map UnknownId (find (λ id. not (is_live db.live id)) ids)

ids-row : (db : Database) (ids : List ℕ) → All (IsLive db.live) ids → id_row db ids ≡ None
ids-row db ids h =
    map-none UnknownId (find (λ id. not (is_live db.live id)) ids)
    (find-none (λ id. not (is_live db.live id)) ids (All-weaker (IsLive db.live) (λ id. not (is_live db.live id) ≡ false) (λ id k. ap not k) ids h))

from_ids-row : (db : Database) (ids : List ℕ) → id_row db ids ≡ None → All (IsLive db.live) ids
from_ids-row db ids e =
    All-weaker (λ id. not (is_live db.live id) ≡ false) (IsLive db.live) (λ id k. not-false (is_live db.live id) k) ids
    (from_find-none (λ id. not (is_live db.live id)) ids (from_map-none UnknownId (find (λ id. not (is_live db.live id)) ids) e))

sets-row : (db : Database) (sets : List Set) → All (λ v. db.original < v) (vars_of_sets sets) → option_map SetsOriginal (find (λ v. leb v db.original) (vars_of_sets sets)) ≡ None
sets-row db sets h =
    map-none SetsOriginal (find (λ v. leb v db.original) (vars_of_sets sets))
    (find-none (λ v. leb v db.original) (vars_of_sets sets) (All-weaker (λ v. db.original < v) (λ v. leb v db.original ≡ false) (λ v k. lt-leb v db.original k) (vars_of_sets sets) h))

from_sets-row : (db : Database) (sets : List Set) → option_map SetsOriginal (find (λ v. leb v db.original) (vars_of_sets sets)) ≡ None → All (λ v. db.original < v) (vars_of_sets sets)
from_sets-row db sets e =
    All-weaker (λ v. leb v db.original ≡ false) (λ v. db.original < v) (λ v k. leb-false v db.original k) (vars_of_sets sets)
    (from_find-none (λ v. leb v db.original) (vars_of_sets sets) (from_map-none SetsOriginal (find (λ v. leb v db.original) (vars_of_sets sets)) e))

out-row : (db : Database) (ids : List ℕ) → All (λ id. is_out db.live id ≡ false) ids → option_map OutDeleted (find (is_out db.live) ids) ≡ None
out-row db ids h = map-none OutDeleted (find (is_out db.live) ids) (find-none (is_out db.live) ids h)

from_out-row : (db : Database) (ids : List ℕ) → option_map OutDeleted (find (is_out db.live) ids) ≡ None → All (λ id. is_out db.live id ≡ false) ids
from_out-row db ids e = from_find-none (is_out db.live) ids (from_map-none OutDeleted (find (is_out db.live) ids) e)

-- ---- nothing is seen of what is allowed

allowed-seen : (db : Database) (step : Step) (clause : Option (List Lit)) (db' : Database) → Allowed db step clause db' → seen_denial db step clause ≡ None
allowed-seen db Blank clause db' a = refl
allowed-seen db (Pol ops) clause db' a =
    or-none (vars-row db (Pol ops) a.vars) (or-none (ids-row db (ids_named (Pol ops)) a.ids)
    (or-none (unless-none (is_stacked ops) Stack a.rule.stacked) (or-none (rw a.rule.result refl) refl)))
allowed-seen db (Rup ts right ids) clause db' a =
    or-none (vars-row db (Rup ts right ids) a.vars) (or-none (ids-row db ids a.ids)
    (or-none (unless-none (ltb (magnitude ts + unsigned_abs right) (2 ^ 126)) Width (lt-ltb (magnitude ts + unsigned_abs right) (2 ^ 126) a.rule.slim)) refl))
allowed-seen db (Red ts right sets) clause db' a =
    or-none (vars-row db (Red ts right sets) a.vars) (or-none {o = None} refl
    (or-none (unless-none (ltb (magnitude ts + unsigned_abs right) (2 ^ 126)) Width (lt-ltb (magnitude ts + unsigned_abs right) (2 ^ 126) a.rule.slim))
    (or-none (sets-row db sets a.rule.fresh) refl)))
allowed-seen db (Del ids) clause db' a =
    or-none {o = None} refl (or-none (map-none UnknownId (first_gone db.live ids) (none-gone db.live ids a.ids a.rule.once)) (or-none (out-row db ids a.rule.kept) refl))
allowed-seen db (Out id) clause db' a =
    let is_next : clause ≡ Some a.rule.literals = a.rule.is_next in
    rw is_next (
    or-none {o = None} refl (or-none (ids-row db (id ∷ []) a.ids)
    (or-none (unless-none (unwrap_or (option_map (λ c. implies c (clause_form a.rule.literals)) (constraint_at db.live id)) true) (NotImplied id) (rw a.rule.found a.rule.implied)) refl)))
allowed-seen db Head clause db' a = absurd a.rule
allowed-seen db (Loaded count) clause db' a = absurd a.rule
allowed-seen db End clause db' a = absurd a.rule

-- ---- what propagation shows

unshown-rup : (db : Database) (ts : List Term) (right : ℤ) (ids : List ℕ) (d : Denied) → UnshownBy db (Rup ts right ids) d → (d ≡ NotPropagated) × (¬ Conflict (propagated db.live (written ts right) ids) [])
unshown-rup db ts right ids NotPropagated u = (refl, u)
unshown-rup db ts right ids _ u = absurd u

unshown-red : (db : Database) (ts : List Term) (right : ℤ) (sets : List Set) (d : Denied) → UnshownBy db (Red ts right sets) d → (id : ℕ) × (d ≡ Obligation id) × FirstUnmet db (written ts right) sets id
unshown-red db ts right sets (Obligation id) u = (id, refl, u)
unshown-red db ts right sets _ u = absurd u

unmet-fails : (db : Database) (claim : Constraint) (sets : List Set) (id : ℕ) → FirstUnmet db claim sets id → All (IsMet db claim sets) (obligations db claim sets) → ⊥
unmet-fails db claim sets id u all =
    let parts = All-append_both (IsMet db claim sets) u.before (u.unmet ∷ u.later) (subst (All (IsMet db claim sets)) u.parts all) in
    u.fails (All-head (IsMet db claim sets) u.unmet u.later parts.1)

unshown-not_allowed : (db : Database) (step : Step) (clause : Option (List Lit)) (db' : Database) (d : Denied) → UnshownBy db step d → ByRule db step clause db' → ⊥
unshown-not_allowed db Blank clause db' d u rule = absurd u
unshown-not_allowed db Head clause db' d u rule = absurd u
unshown-not_allowed db (Loaded count) clause db' d u rule = absurd u
unshown-not_allowed db (Pol ops) clause db' d u rule = absurd u
unshown-not_allowed db (Rup ts right ids) clause db' d u rule = (unshown-rup db ts right ids d u).1 rule.conflict
unshown-not_allowed db (Red ts right sets) clause db' d u rule =
    let found = unshown-red db ts right sets d u in
    unmet-fails db (written ts right) sets found.0 found.2 rule.met
unshown-not_allowed db (Del ids) clause db' d u rule = absurd u
unshown-not_allowed db (Out id) clause db' d u rule = absurd u
unshown-not_allowed db End clause db' d u rule = absurd u

not_both : (db : Database) (step : Step) (clause : Option (List Lit)) → IsAllowed db step clause → ¬ IsDenied db step clause
not_both db step clause allowed denied =
    elim denied.1 [
      | inl at_sight ↦ absurd (none-some denied.0 (sym (allowed-seen db step clause allowed.0 allowed.1) ∙ at_sight))
      | inr later ↦ unshown-not_allowed db step clause allowed.0 denied.0 later.1 allowed.1.rule
    ]

-- ---- in one way

one_rule : (db : Database) (step : Step) (clause : Option (List Lit)) (db' other : Database) → ByRule db step clause db' → ByRule db step clause other → db' ≡ other
one_rule db Blank clause db' other r q = r ∙ sym q
one_rule db (Pol ops) clause db' other r q =
    let same : r.sum ≡ q.sum = cc (r.result, q.result) in
    r.after ∙ (ap (grown db) same ∙ sym q.after)
one_rule db (Rup ts right ids) clause db' other r q = r.after ∙ sym q.after
one_rule db (Red ts right sets) clause db' other r q = r.after ∙ sym q.after
one_rule db (Del ids) clause db' other r q = r.after ∙ sym q.after
one_rule db (Out id) clause db' other r q = r.after ∙ sym q.after
one_rule db Head clause db' other r q = absurd r
one_rule db (Loaded count) clause db' other r q = absurd r
one_rule db End clause db' other r q = absurd r

one_unshown : (db : Database) (step : Step) (d e : Denied) → UnshownBy db step d → UnshownBy db step e → d ≡ e
one_unshown db Blank d e u v = absurd u
one_unshown db Head d e u v = absurd u
one_unshown db (Loaded count) d e u v = absurd u
one_unshown db (Pol ops) d e u v = absurd u
one_unshown db (Rup ts right ids) d e u v = (unshown-rup db ts right ids d u).0 ∙ sym (unshown-rup db ts right ids e v).0
one_unshown db (Red ts right sets) d e u v =
    let f = unshown-red db ts right sets d u in
    let g = unshown-red db ts right sets e v in
    let p = f.2 in
    let q = g.2 in
    let same : p.unmet ≡ q.unmet =
    first_unique (IsMet db (written ts right) sets) p.before q.before p.unmet q.unmet p.later q.later (sym p.parts ∙ q.parts) p.met q.met p.fails q.fails in
    let ids : f.0 ≡ g.0 = p.is_id ∙ (ap (λ (x : Entry). x.id) same ∙ sym q.is_id) in
    f.1 ∙ (ap Obligation ids ∙ sym g.1)
one_unshown db (Del ids) d e u v = absurd u
one_unshown db (Out id) d e u v = absurd u
one_unshown db End d e u v = absurd u

one_cause : (db : Database) (step : Step) (clause : Option (List Lit)) (d e : Denied) → FirstDenied db step clause d → FirstDenied db step clause e → d ≡ e
one_cause db step clause d e (inl p) (inl q) = let same : Some d ≡ Some e = sym p ∙ q in cc
one_cause db step clause d e (inl p) (inr q) = absurd (none-some d (sym q.0 ∙ p))
one_cause db step clause d e (inr p) (inl q) = absurd (none-some e (sym p.0 ∙ q))
one_cause db step clause d e (inr p) (inr q) = one_unshown db step d e p.1 q.1

-- ---- one of both

-- what is left where nothing is seen
abbrev Unseen : Database → Step → Option (List Lit) → Type 0
Unseen db step clause = IsAllowed db step clause ⊎ ((d : Denied) × UnshownBy db step d)

abbrev is_clear : Option Denied → Type 0
is_clear row = row ≡ None

-- the rows of a step of which nothing is seen
rows-clear : (db : Database) (step : Step) (clause : Option (List Lit)) → seen_denial db step clause ≡ None →
    All is_clear (unknown_var db step ∷ unknown_id db step ∷ causes db step clause)
rows-clear db step clause e =
    from_first_some-none (unknown_var db step ∷ unknown_id db step ∷ causes db step clause) e

met-decided : (db : Database) (claim : Constraint) (sets : List Set) (e : Entry) → IsMet db claim sets e ⊎ ¬ IsMet db claim sets e
met-decided db claim sets e =
    elim (cases_Bool (implies (negation claim) (restriction sets e.constraint))) [
      | inl implied ↦ inl (inl implied)
      | inr fails ↦ elim (conflict_decided (negation claim ∷ negation (restriction sets e.constraint) ∷ live_constraints db.live)) [
        | inl conflict ↦ inl (inr conflict)
        | inr none ↦ inr (λ met. elim met [
          | inl implied ↦ both_ways (implies (negation claim) (restriction sets e.constraint)) fails implied
          | inr conflict ↦ none conflict
        ])
      ]
    ]

unseen-pol : (db : Database) (ops : List PolOp) (clause : Option (List Lit)) → IsSpelled (Pol ops) → seen_denial db (Pol ops) clause ≡ None → Unseen db (Pol ops) clause
unseen-pol db ops clause spelled e = by_result (after_ops db.live ops []) refl where
  by_result : (o : Option (List Constraint)) → after_ops db.live ops [] ≡ o → Unseen db (Pol ops) clause
  by_result None n =
      let row : unless (is_some (after_ops db.live ops [])) Width ≡ None = rows-clear db (Pol ops) clause e 3 None (omega arith) in
      absurd (none-some Width (sym row ∙ rw n refl))
  by_result (Some s) n =
      let stacked = from_unless-none (is_stacked ops) Stack (rows-clear db (Pol ops) clause e 2 None (omega arith)) in
      let left = one_left db.live ops s stacked n in
      inl (
        grown db left.0,
        record {
          vars = from_vars-row db (Pol ops) (rows-clear db (Pol ops) clause e 0 None (omega arith));
          ids = from_ids-row db (ids_named (Pol ops)) (rows-clear db (Pol ops) clause e 1 None (omega arith));
          rule = record { factors = spelled.0; stacked = stacked; sum = left.0; result = n ∙ ap Some left.1; after = refl };
        },
      )

unseen-rup : (db : Database) (ts : List Term) (right : ℤ) (ids : List ℕ) (clause : Option (List Lit)) → seen_denial db (Rup ts right ids) clause ≡ None → Unseen db (Rup ts right ids) clause
unseen-rup db ts right ids clause e =
    elim (conflict_decided (propagated db.live (written ts right) ids)) [
      | inl conflict ↦ inl (
        grown db (written ts right),
        record {
          vars = from_vars-row db (Rup ts right ids) (rows-clear db (Rup ts right ids) clause e 0 None (omega arith));
          ids = from_ids-row db ids (rows-clear db (Rup ts right ids) clause e 1 None (omega arith));
          rule = record {
            slim = ltb-true (magnitude ts + unsigned_abs right) (2 ^ 126) (from_unless-none (ltb (magnitude ts + unsigned_abs right) (2 ^ 126)) Width (rows-clear db (Rup ts right ids) clause e 2 None (omega arith)));
            conflict = conflict;
            after = refl;
          };
        },
      )
      | inr none ↦ inr (NotPropagated, none)
    ]

unseen-red : (db : Database) (ts : List Term) (right : ℤ) (sets : List Set) (clause : Option (List Lit)) → seen_denial db (Red ts right sets) clause ≡ None → Unseen db (Red ts right sets) clause
unseen-red db ts right sets clause e =
    elim (all_or_first (IsMet db (written ts right) sets) (met-decided db (written ts right) sets) (obligations db (written ts right) sets)) [
      | inl met ↦ inl (
        grown db (written ts right),
        record {
          vars = from_vars-row db (Red ts right sets) (rows-clear db (Red ts right sets) clause e 0 None (omega arith));
          ids = All-nil (IsLive db.live);
          rule = record {
            slim = ltb-true (magnitude ts + unsigned_abs right) (2 ^ 126) (from_unless-none (ltb (magnitude ts + unsigned_abs right) (2 ^ 126)) Width (rows-clear db (Red ts right sets) clause e 2 None (omega arith)));
            fresh = from_sets-row db sets (rows-clear db (Red ts right sets) clause e 3 None (omega arith));
            met = met;
            after = refl;
          };
        },
      )
      | inr found ↦ inr (Obligation found.1.id, record { before = found.0; unmet = found.1; later = found.2; parts = found.3; met = found.4; fails = found.5; is_id = refl })
    ]

unseen-del : (db : Database) (ids : List ℕ) (clause : Option (List Lit)) → seen_denial db (Del ids) clause ≡ None → Unseen db (Del ids) clause
unseen-del db ids clause e =
    let known = from_none-gone db.live ids (from_map-none UnknownId (first_gone db.live ids) (rows-clear db (Del ids) clause e 1 None (omega arith))) in
    inl (
      reduced db ids,
      record {
        vars = All-nil (λ v. v ≤ db.vars);
        ids = known.0;
        rule = record { once = known.1; kept = from_out-row db ids (rows-clear db (Del ids) clause e 2 None (omega arith)); after = refl };
      },
    )

unseen-out : (db : Database) (id : ℕ) (clause : Option (List Lit)) → seen_denial db (Out id) clause ≡ None → Unseen db (Out id) clause
unseen-out db id None e = absurd (none-some NoClause (sym (rows-clear db (Out id) None e 2 None (omega arith))))
unseen-out db id (Some ls) e = by_found (constraint_at db.live id) refl where
  by_found : (o : Option Constraint) → constraint_at db.live id ≡ o → Unseen db (Out id) (Some ls)
  by_found None n =
      let live = from_ids-row db (id ∷ []) (rows-clear db (Out id) (Some ls) e 1 None (omega arith)) in
      absurd (both_ways (is_live db.live id) (rw n refl) (All-head (IsLive db.live) id [] live))
  by_found (Some c) n =
      let row : unless (unwrap_or (option_map (λ c. implies c (clause_form ls)) (constraint_at db.live id)) true) (NotImplied id) ≡ None = rows-clear db (Out id) (Some ls) e 2 None (omega arith) in
      let implied = from_unless-none (unwrap_or (option_map (λ c. implies c (clause_form ls)) (constraint_at db.live id)) true) (NotImplied id) row in
      inl (
        marked db id,
        record {
          vars = All-nil (λ v. v ≤ db.vars);
          ids = from_ids-row db (id ∷ []) (rows-clear db (Out id) (Some ls) e 1 None (omega arith));
          rule = record {
            literals = ls;
            is_next = refl;
            constraint = c;
            found = n;
            implied = subst (λ (o : Option Constraint). unwrap_or (option_map (λ c. implies c (clause_form ls)) o) true ≡ true) n implied;
            after = refl;
          };
        },
      )

unseen : (db : Database) (step : Step) (clause : Option (List Lit)) → IsRule step → IsSpelled step → seen_denial db step clause ≡ None → Unseen db step clause
unseen db (Pol ops) clause rule spelled e = unseen-pol db ops clause spelled e
unseen db (Rup ts right ids) clause rule spelled e = unseen-rup db ts right ids clause e
unseen db (Red ts right sets) clause rule spelled e = unseen-red db ts right sets clause e
unseen db (Del ids) clause rule spelled e = unseen-del db ids clause e
unseen db (Out id) clause rule spelled e = unseen-out db id clause e
unseen db Blank clause rule spelled e = absurd rule
unseen db Head clause rule spelled e = absurd rule
unseen db (Loaded count) clause rule spelled e = absurd rule
unseen db End clause rule spelled e = absurd rule

either : (db : Database) (step : Step) (clause : Option (List Lit)) → IsRule step → IsSpelled step → IsAllowed db step clause ⊎ IsDenied db step clause
either db step clause rule spelled = by_seen (seen_denial db step clause) refl where
  by_seen : (o : Option Denied) → seen_denial db step clause ≡ o → IsAllowed db step clause ⊎ IsDenied db step clause
  by_seen (Some d) e = inr (d, inl e)
  by_seen None e = elim (unseen db step clause rule spelled e) [
    | inl allowed ↦ inl allowed
    | inr unshown ↦ inr (unshown.0, inr (e, unshown.1))
  ]

pub allowed_or_denied : AllowedOrDenied
allowed_or_denied = record {
  either = either;
  not_both = not_both;
  one_database = λ db step clause db' other a b. one_rule db step clause db' other a.rule b.rule;
  one_cause = one_cause;
}
