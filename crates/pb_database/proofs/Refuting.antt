-- What propagation answers over constraints that come and go.
use Rattle.std.proofs.Common.{◌≡◌, ◌<◌, ◌+◌, ◌⊎◌, inl, inr, ℕ, Bool, true, false, cond, List, [], ◌∷◌, ◌++◌, Option, Some, None, length, get_or, set, refl, ap, sym, ◌∙◌, subst, take}
use Rattle.std.specs.Prelude.{Contains, is_some}
use Rattle.std.specs.Prelude.{Result, IfOk}
use Rattle.std.proofs.lemmas.Bool.{cases_eq}
use Rattle.std.proofs.lemmas.Result.{IfOk-weaker}
use Rattle.std.proofs.lemmas.List.Elements.{Contains-append_left, Contains-append_right, Contains-append_cases}
use Rattle.pb_base.specs.declared.literal.Lit.{Lit}
use Rattle.pb_base.proofs.Members.{Contains-here, Contains-there, Contains-cons_cases, Contains-nil}
use Rattle.pb_norm.specs.Constraints.{Constraint}
use Rattle.pb_norm.specs.Propagation as propagation
use Rattle.pb_norm.specs.PropagationLaws.{AreAmong}
use Rattle.pb_base.specs.declared.fault.NoMemory.{NoMemory}
use Rattle.pb_steps.specs.Database.{Database, live_constraints}
use Rattle.pb_steps.proofs.MoreConstraints.{conflict-more}
use Rattle.pb_unit.specs.declared.engine.Outcome.{Outcome}
use Rattle.pb_unit.specs.declared.engine.Outcome.TheVariants.{Conflict, Fixed}
use Rattle.pb_unit.specs.States.{EngineState, at_place, placed, added, removed, standing, IsFree, Stands}
use Rattle.pb_unit.specs.Outcomes.{AnswersOf}
use Rattle.pb_unit.proofs.Placing.{at_placed, at_placed_other}
use Rattle.pb_unit.proofs.Standing.{contains_stands, contains_head, contains_tail, contains_cases}
use Rattle.std.specs.Option.{option_to_list}
use Rattle.pb_database.specs.declared.slots.Slot.{Slot}
use Rattle.pb_database.specs.inner.Conflicts.{is_conflict}
use Rattle.pb_database.specs.inner.Slots.{slot_of, listed_slots, entries_from, database_of}
use Rattle.pb_database.proofs.SlotLemmas.{pushed_more}
use Rattle.pb_database.specs.Refutations.{TellsConflict}
use Rattle.pb_database.specs.inner.Mirrors.{IsMirrored, KeepsEngine, IsCovered, IsIdle, HasJust}
use Rattle.pb_database.proofs.Mirroring.{standing-live, live-standing, standing-placed, placed-standing, at-removed, at-removed_other, some-none}

-- ---- answers

pub tells : (s : EngineState) (o : Outcome) (found : Bool) (cs : List Constraint) → AnswersOf s o → s.given ≡ [] → AreAmong (standing s.places) cs → AreAmong cs (standing s.places) → found ≡ is_conflict o → TellsConflict cs found
tells s (Conflict p) found cs a given into from e =
    subst (TellsConflict cs) (sym e) (conflict-more (standing s.places) cs into [] (subst (λ (ls : List Lit). propagation.Conflict (standing s.places) ls) given a.0))
tells s Fixed found cs a given into from e =
    subst (TellsConflict cs) (sym e) (λ c. a.no_conflict (subst (λ (ls : List Lit). propagation.Conflict (standing s.places) ls) (sym given) (conflict-more cs (standing s.places) from [] c)))

-- the same over the same constraints in another order
pub tells_same : (found : Bool) (cs ds : List Constraint) → AreAmong cs ds → AreAmong ds cs → TellsConflict cs found → TellsConflict ds found
tells_same true cs ds into from h = conflict-more cs ds into [] h
tells_same false cs ds into from h = λ c. h (conflict-more ds cs from [] c)

pub among_cons : (c : Constraint) (cs ds : List Constraint) → AreAmong cs ds → AreAmong (c ∷ cs) (c ∷ ds)
among_cons c cs ds h d k = elim (Contains-cons_cases c cs d k) [
  | inl e ↦ subst (Contains (c ∷ ds)) e (Contains-here c ds)
  | inr rest ↦ Contains-there c ds d (h d rest)
]

-- the answer after one more came
pub tells_with : (before mid after : EngineState) (p : ℕ) (c : Constraint) (o : Outcome) (found : Bool) → IsFree before p → mid ≡ added p c before → after ≡ record mid { held = after.held } → AnswersOf after o → found ≡ is_conflict o → TellsConflict (c ∷ standing before.places) found
tells_with before mid after p c o found free put same answer e =
    let places : after.places ≡ placed p c before.places = ap (λ (s : EngineState). s.places) same ∙ ap (λ (s : EngineState). s.places) put in
    let given : after.given ≡ [] = ap (λ (s : EngineState). s.given) same ∙ ap (λ (s : EngineState). s.given) put in
    let into = subst (λ (ps : List (Option Constraint)). AreAmong (standing ps) (c ∷ standing before.places)) (sym places) (standing-placed before.places p c free.empty free.near) in
    let from = subst (λ (ps : List (Option Constraint)). AreAmong (c ∷ standing before.places) (standing ps)) (sym places) (placed-standing before.places p c free.empty free.near) in
    tells after o found (c ∷ standing before.places) answer given into from e

-- what stood at a place is taken away
pub gone_from : (result : Bool) (p : ℕ) (before after : EngineState) → result ≡ is_some (at_place before.places p) → after ≡ cond result (removed p before) before → is_some (at_place before.places p) ≡ true → after ≡ removed p before
gone_from true p before after e f g = f
gone_from false p before after e f g = let no : false ≡ true = e ∙ g in absurd (cc)

pub stands_put : (before mid : EngineState) (p : ℕ) (c : Constraint) → IsFree before p → mid.places ≡ placed p c before.places → is_some (at_place mid.places p) ≡ true
stands_put before mid p c free put = ap (λ (ps : List (Option Constraint)). is_some (at_place ps p)) put ∙ ap is_some (at_placed before.places p c free.near)

pub stands_kept : (before mid late : EngineState) (p : ℕ) (c : Constraint) → IsFree before p → mid ≡ added p c before → KeepsEngine mid late → is_some (at_place late.places p) ≡ true
stands_kept before mid late p c free put kept =
    ap is_some (kept.same p ∙ (ap (λ (s : EngineState). at_place s.places p) put ∙ at_placed before.places p c free.near))

-- the answer where one more came before
pub tells_placed : (before mid : EngineState) (p : ℕ) (first second : Constraint) (found : Bool) → IsFree before p → mid ≡ added p second before → TellsConflict (first ∷ standing mid.places) found → TellsConflict (first ∷ second ∷ standing before.places) found
tells_placed before mid p first second found free put h =
    let places : mid.places ≡ placed p second before.places = ap (λ (s : EngineState). s.places) put in
    let into = subst (λ (ps : List (Option Constraint)). AreAmong (standing ps) (second ∷ standing before.places)) (sym places) (standing-placed before.places p second free.empty free.near) in
    let from = subst (λ (ps : List (Option Constraint)). AreAmong (second ∷ standing before.places) (standing ps)) (sym places) (placed-standing before.places p second free.empty free.near) in
    tells_same found (first ∷ standing mid.places) (first ∷ second ∷ standing before.places) (among_cons first (standing mid.places) (second ∷ standing before.places) into) (among_cons first (second ∷ standing before.places) (standing mid.places) from) h

-- ---- an engine where listed constraints alone stand

pub covered-added : (vars : ℕ) (listed : List ℕ) (s : EngineState) (p : ℕ) (c : Constraint) → IsFree s p → IsCovered vars listed s → IsCovered vars (listed ++ p ∷ []) (added p c s)
covered-added vars listed s p c free h = record {
  vars_are = h.vars_are;
  given = refl;
  covered = λ q. elim (cases_eq q p) [
    | inl e ↦ inr (subst (Contains (listed ++ p ∷ [])) (sym e) (Contains-append_right listed (p ∷ []) p (Contains-here p [])))
    | inr ne ↦ elim (h.covered q) [
      | inl none ↦ inl (at_placed_other s.places p q c free.near ne ∙ none)
      | inr known ↦ inr (Contains-append_left listed (p ∷ []) q known)
    ]
  ];
}

-- what came and went leaves it
pub covered-again : (vars : ℕ) (listed : List ℕ) (s : EngineState) (p : ℕ) (c : Constraint) → IsFree s p → IsCovered vars listed s → IsCovered vars listed (removed p (added p c s))
covered-again vars listed s p c free h = record {
  vars_are = h.vars_are;
  given = refl;
  covered = λ q. elim (cases_eq q p) [
    | inl e ↦ inl (ap (at_place (set (placed p c s.places) p None)) e ∙ at-removed (placed p c s.places) p c (at_placed s.places p c free.near))
    | inr ne ↦ elim (h.covered q) [
      | inl none ↦ inl (at-removed_other (placed p c s.places) p q ne ∙ (at_placed_other s.places p q c free.near ne ∙ none))
      | inr known ↦ inr known
    ]
  ];
}

pub nothing_taken : (n : ℕ) (xs : List ℕ) → n ≡ 0 → take n xs ≡ []
nothing_taken n xs e = ap (λ (k : ℕ). take k xs) e ∙ zero_of xs
  where
    zero_of : (xs : List ℕ) → take 0 xs ≡ []
    zero_of [] = refl
    zero_of (x ∷ xs) = refl

contains_push : (p : ℕ) (rest : List ℕ) (q : ℕ) → Contains (rest ++ p ∷ []) q → (p ≡ q) ⊎ Contains rest q
contains_push p [] q h = contains_cases p [] q h
contains_push p (x ∷ rest) q h = elim (contains_cases x (rest ++ p ∷ []) q h) [
  | inl e ↦ inr (subst (Contains (x ∷ rest)) e (contains_head x rest))
  | inr more ↦ elim (contains_push p rest q more) [
    | inl e ↦ inl e
    | inr there ↦ inr (contains_tail x rest q there)
  ]
]

-- the newest goes
pub covered-less : (vars : ℕ) (listed less : List ℕ) (p : ℕ) (s s' : EngineState) (result : Bool) → listed ≡ less ++ p ∷ [] → IsCovered vars listed s → result ≡ is_some (at_place s.places p) →
    s' ≡ cond result (removed p s) s → IsCovered vars less s'
covered-less vars listed less p s s' result e h answer after = by_result result p less (subst (λ (ps : List ℕ). IsCovered vars ps s) e h) answer after
  where
    by_result : (b : Bool) (p : ℕ) (rest : List ℕ) → IsCovered vars (rest ++ p ∷ []) s → b ≡ is_some (at_place s.places p) → s' ≡ cond b (removed p s) s → IsCovered vars rest s'
    by_result true p rest h e f = subst (IsCovered vars rest) (sym f) (record {
      vars_are = h.vars_are;
      given = refl;
      covered = λ q. elim (cases_eq q p) [
        | inl same ↦ inl (ap (at_place (set s.places p None)) same ∙ emptied (at_place s.places p) refl (sym e))
        | inr ne ↦ elim (h.covered q) [
          | inl none ↦ inl (at-removed_other s.places p q ne ∙ none)
          | inr known ↦ elim (contains_push p rest q known) [
            | inl same ↦ absurd (ne (sym same))
            | inr later ↦ inr later
          ]
        ]
      ];
    })
      where
        emptied : (o : Option Constraint) → at_place s.places p ≡ o → is_some o ≡ true → at_place (set s.places p None) p ≡ None
        emptied None g k = absurd (cc)
        emptied (Some c) g k = at-removed s.places p c g
    by_result false p rest h e f = subst (IsCovered vars rest) (sym f) (record {
      vars_are = h.vars_are;
      given = h.given;
      covered = λ q. elim (h.covered q) [
        | inl none ↦ inl none
        | inr known ↦ elim (contains_push p rest q known) [
          | inl same ↦ inl (ap (at_place s.places) (sym same) ∙ is_empty (at_place s.places p) (sym e))
          | inr later ↦ inr later
        ]
      ];
    })
      where
        is_empty : (o : Option Constraint) → is_some o ≡ false → o ≡ None
        is_empty None g = refl
        is_empty (Some c) g = absurd (cc)

pub idle-just : (vars : ℕ) (s : EngineState) → IsIdle vars s → HasJust [] s
idle-just vars s h = record {
  sound = λ c k. absurd (nothing c (at c k));
  complete = λ c k. absurd (Contains-nil c k);
}
  where
    at : (c : Constraint) → Contains (standing s.places) c → (p : ℕ) × Stands s.places p c
    at c k = contains_stands s.places c k

    nothing : (c : Constraint) → (p : ℕ) × Stands s.places p c → ⊥
    nothing c (p, e) = elim (h.covered p) [
      | inl none ↦ some-none c (sym e ∙ none)
      | inr known ↦ Contains-nil p known
    ]

pub just-added : (cs : List Constraint) (s : EngineState) (p : ℕ) (c : Constraint) → IsFree s p → HasJust cs s → HasJust (cs ++ c ∷ []) (added p c s)
just-added cs s p c free h = record {
  sound = λ d k. elim (Contains-cons_cases c (standing s.places) d (standing-placed s.places p c free.empty free.near d k)) [
    | inl e ↦ subst (Contains (cs ++ c ∷ [])) e (Contains-append_right cs (c ∷ []) c (Contains-here c []))
    | inr rest ↦ Contains-append_left cs (c ∷ []) d (h.sound d rest)
  ];
  complete = λ d k. placed-standing s.places p c free.empty free.near d (elim (Contains-append_cases cs (c ∷ []) d k) [
    | inl old ↦ Contains-there c (standing s.places) d (h.complete d old)
    | inr new ↦ elim (Contains-cons_cases c [] d new) [
      | inl e ↦ subst (Contains (c ∷ standing s.places)) e (Contains-here c (standing s.places))
      | inr none ↦ absurd (Contains-nil d none)
    ]
  ]);
}

pub just-more : (ss : List Slot) (ids : List ℕ) (i : ℕ) (cs : List Constraint) (s : EngineState) → i < length ids →
    HasJust ((cs ++ listed_slots ss (take i ids)) ++ option_to_list (slot_of ss (get_or ids i 0)).constraint) s → HasJust (cs ++ listed_slots ss (take (i + 1) ids)) s
just-more ss ids i cs s below h =
    subst (λ (ds : List Constraint). HasJust ds s) (pushed_more (λ (id : ℕ). (slot_of ss id).constraint) cs (cs ++ listed_slots ss (take i ids)) ((cs ++ listed_slots ss (take i ids)) ++ option_to_list (slot_of ss (get_or ids i 0)).constraint) ids i (get_or ids i 0) 0 below refl refl refl) h

-- the answer over just these constraints
pub tells_just : (before after : EngineState) (o : Outcome) (found : Bool) (cs : List Constraint) → before.given ≡ [] → HasJust cs before → after ≡ record before { held = after.held } → AnswersOf after o → found ≡ is_conflict o → TellsConflict cs found
tells_just before after o found cs given just same answer e =
    let places : after.places ≡ before.places = ap (λ (s : EngineState). s.places) same in
    let none : after.given ≡ [] = ap (λ (s : EngineState). s.given) same ∙ given in
    let into = subst (λ (ps : List (Option Constraint)). AreAmong (standing ps) cs) (sym places) just.sound in
    let from = subst (λ (ps : List (Option Constraint)). AreAmong cs (standing ps)) (sym places) just.complete in
    tells after o found cs answer none into from e

-- ---- over all that stands by ids

among_front : (front cs ds : List Constraint) → AreAmong cs ds → AreAmong (front ++ cs) (front ++ ds)
among_front front cs ds h d k = elim (Contains-append_cases front cs d k) [
  | inl old ↦ Contains-append_left front ds d old
  | inr new ↦ Contains-append_right front ds d (h d new)
]

pub tells_live : (original vars most : ℕ) (ss : List Slot) (s : EngineState) (db : Database) (front : List Constraint) (result : Result Bool NoMemory) → IsMirrored most ss s → database_of original vars ss ≡ db →
    IfOk result (TellsConflict (front ++ standing s.places)) → IfOk result (TellsConflict (front ++ live_constraints db.live))
tells_live original vars most ss s db front result m view h =
    let live = live_constraints (entries_from 1 ss) in
    let own = IfOk-weaker result (TellsConflict (front ++ standing s.places)) (TellsConflict (front ++ live))
    (λ found t. tells_same found (front ++ standing s.places) (front ++ live) (among_front front (standing s.places) live (standing-live most ss s m)) (among_front front live (standing s.places) (live-standing most ss s m)) t) h in
    subst (λ (d : Database). IfOk result (TellsConflict (front ++ live_constraints d.live))) view own
