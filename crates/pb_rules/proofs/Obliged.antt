-- Obligations of what stands, found by ascending ids.
use Rattle.std.proofs.Common.{◌≡◌, ◌≤◌, ◌<◌, ◌+◌, ◌==◌, ◌||◌, ℕ, ℤ, List, [], ◌∷◌, ◌++◌, Bool, true, false, cond, arith, refl, ap, sym, ◌∙◌, eqb, subst, length, get_or, length-append, append_assoc, ◌^◌, ltb, inl, inr, Option, Some, None}
use Rattle.std.specs.Prelude.{All, filter, find, option_map, nat_lt, nat_le, unsigned_abs}
use Rattle.std.specs.Option.{option_or}
use Rattle.std.specs.Bool.{MatchBool}
use Rattle.std.specs.List.{AllPairs}
use Rattle.std.proofs.lemmas.Bool.{ltb-true, leb-false, both_ways, eqb-true, eq-eqb, ne_eqb, cases_eq, cases_lt}
use Rattle.std.proofs.lemmas.List.{get_or_append_left, get_or_at, get_or_default}
use Rattle.std.proofs.lemmas.List.Elements.{All-nil, All-cons, All-head, All-tail, All-append, All-weaker, filter-append}
use Rattle.std.specs.List.Sorted.{IsStrictlyIncreasing}
use Rattle.std.proofs.lemmas.List.Kept.{AllPairs-from_increasing}
use Rattle.pb_base.specs.declared.literal.Lit.{Lit}
use Rattle.pb_base.specs.declared.literal.Term.{Term}
use Rattle.pb_base.proofs.Pairs.{AllPairs-head, AllPairs-tail}
use Rattle.pb_base.proofs.Members.{All-append_both}
use Rattle.pb_norm.specs.Constraints.{Constraint}
use Rattle.pb_base.specs.Problems.{magnitude}
use Rattle.pb_norm.specs.Propagation.{Conflict}
use Rattle.pb_norm.specs.Halves.{written}
use Rattle.pb_steps.specs.declared.denied.Denied.{Denied}
use Rattle.pb_steps.specs.declared.denied.Denied.TheVariants.{UnknownVar, UnknownId, Stack, Width, SetsOriginal, NotPropagated, Obligation, NoClause, NotImplied, OutDeleted, ClausesLeft}
use Rattle.pb_steps.specs.declared.op.Set.{Set}
use Rattle.pb_steps.specs.declared.step.Step.TheVariants.{Red}
use Rattle.pb_steps.specs.Steps.{IsSpelled, vars_of_terms, vars_of_sets}
use Rattle.pb_steps.specs.Operations.{negation, implies, excess}
use Rattle.pb_steps.specs.Substitutions.{restriction, names_set}
use Rattle.pb_steps.specs.Database.{Entry, Database, constraint_at, entry, grown, live_constraints}
use Rattle.pb_steps.specs.Allowed.{Allowed, IsShown, IsMet, IsSlim, obligations}
use Rattle.pb_steps.specs.Denials.{seen_denial, unless, UnshownBy, FirstUnmet}
use Rattle.pb_steps.proofs.Searching.{none-some, from_find-none, from_first_some-none, from_map-none, from_unless-none}
use Rattle.pb_database.specs.Ordered.{IsOrdered}
use Rattle.pb_rules.specs.inner.Obligations.{SlotIsMet, SlotIsUnmet, TellsShown, goal_of, red_causes, HasNamed}
use Rattle.pb_rules.proofs.Seen.{by_elimination, rows, seen_denial-vars}

abbrev Ascends : Entry → Entry → Type 0
Ascends d e = d.id < e.id

-- ---- an entry at its id

split_at : (es : List Entry) (id : ℕ) (c : Constraint) → constraint_at es id ≡ Some c →
    (before : List Entry) × (x : Entry) × (later : List Entry) × (es ≡ before ++ x ∷ later) × (x.id ≡ id) × (x.constraint ≡ c)
split_at [] id c e = absurd (none-some c e)
split_at (y ∷ es) id c e = test (eqb y.id id) refl e (split_at es id c) where
  test : (b : Bool) → eqb y.id id ≡ b → cond b (Some y.constraint) (constraint_at es id) ≡ Some c →
      (constraint_at es id ≡ Some c → (before : List Entry) × (x : Entry) × (later : List Entry) × (es ≡ before ++ x ∷ later) × (x.id ≡ id) × (x.constraint ≡ c)) →
      (before : List Entry) × (x : Entry) × (later : List Entry) × (y ∷ es ≡ before ++ x ∷ later) × (x.id ≡ id) × (x.constraint ≡ c)
  test true f g rest = ([], y, es, refl, eqb-true y.id id f, cc)
  test false f g rest =
      let found = rest g in
      (y ∷ found.0, found.1, found.2, ap (λ (xs : List Entry). y ∷ xs) found.3, found.4, found.5)

at-ascending : (es : List Entry) → AllPairs Ascends es → All (λ e. constraint_at es e.id ≡ Some e.constraint) es
at-ascending [] h = All-nil {X = Entry} (λ e. constraint_at [] e.id ≡ Some e.constraint)
at-ascending (y ∷ es) h =
    let later = AllPairs-head Ascends y es h in
    let rest = at-ascending es (AllPairs-tail Ascends y es h) in
    All-cons {X = Entry} (λ e. constraint_at (y ∷ es) e.id ≡ Some e.constraint) y es (rw (eq-eqb y.id y.id refl) refl)
    (λ k d below. rw (ne_eqb y.id (get_or es k d).id (λ e. omega (arith, later k d below))) (rest k d below))

before-last : (before later : List Entry) (x : Entry) → AllPairs Ascends (before ++ x ∷ later) → All (λ e. e.id < x.id) before
before-last before later x h k d below =
    let within : length before < length (before ++ x ∷ later) = omega (arith, length-append before (x ∷ later)) in
    let less = h k (length before) d below within in
    let first = ap (λ (e : Entry). e.id) (get_or_append_left before (x ∷ later) d k below) in
    let last = ap (λ (e : Entry). e.id) (get_or_at before x later d (length before) refl) in
    omega (arith, less, first, last)

filter-all : (p : Entry → Bool) (P : Entry → Type 0) (es : List Entry) → All (λ e. p e ≡ true → P e) es → All P (filter p es)
filter-all p P [] h = All-nil P
filter-all p P (x ∷ es) h = test (p x) refl (filter-all p P es (All-tail (λ e. p e ≡ true → P e) x es h)) where
  test : (b : Bool) → p x ≡ b → All P (filter p es) → All P (cond b (x ∷ filter p es) (filter p es))
  test true e rest = All-cons P x (filter p es) (All-head (λ e. p e ≡ true → P e) x es h e) rest
  test false e rest = rest

-- ---- obligations

module _ (db : Database) (claim : Constraint) (sets : List Set) where
  abbrev named : Entry → Bool
  named e = names_set sets e.constraint

  -- the ids below are met, so what stands under them is
  met-below : (id : ℕ) (es : List Entry) → ((k : ℕ) → 1 ≤ k → k < id → SlotIsMet db claim sets k) →
      All (λ e. 1 ≤ e.id) es → All (λ e. e.id < id) es → All (λ e. constraint_at db.live e.id ≡ Some e.constraint) es → All (IsMet db claim sets) (filter named es)
  met-below id es met low high at =
      filter-all named (IsMet db claim sets) es (λ k d below is_named. met (get_or es k d).id (low k d below) (high k d below) (get_or es k d).constraint (at k d below) is_named)

  pub first_at : (id : ℕ) → IsOrdered db → ((k : ℕ) → 1 ≤ k → k < id → SlotIsMet db claim sets k) → SlotIsUnmet db claim sets id → FirstUnmet db claim sets id
  first_at id ordered met unmet =
      let found = split_at db.live id unmet.constraint unmet.found in
      let before = found.0 in
      let x = found.1 in
      let later = found.2 in
      let at = subst (λ (es : List Entry). All (λ (e : Entry). constraint_at db.live e.id ≡ Some e.constraint) es) found.3 (at-ascending db.live ordered.ascending) in
      let low = subst (λ (es : List Entry). All (λ (e : Entry). 1 ≤ e.id) es) found.3 ordered.low in
      let high = before-last before later x (subst (AllPairs Ascends) found.3 ordered.ascending) in
      let is_named : named x ≡ true = ap (names_set sets) found.5 ∙ unmet.named in
      let fails : ¬ IsMet db claim sets x = subst (λ (c : Constraint). ¬ IsShown db.live claim (restriction sets c)) (sym found.5) unmet.fails in
      record {
        before = filter named before;
        unmet = x;
        later = filter named later ++ entry db.next claim ∷ [];
        parts =
            ap (λ (es : List Entry). filter named es ++ entry db.next claim ∷ []) found.3 ∙
            (ap (λ (es : List Entry). es ++ entry db.next claim ∷ []) (filter-append named before (x ∷ later) ∙ rw is_named refl) ∙
            append_assoc (filter named before) (x ∷ filter named later) (entry db.next claim ∷ []));
        met = met-below id before met (All-append_both (λ (e : Entry). 1 ≤ e.id) before (x ∷ later) low).0
            (All-weaker {X = Entry} (λ e. e.id < x.id) (λ e. e.id < id) (λ e h. omega (arith, h, found.4)) before high)
            (All-append_both (λ (e : Entry). constraint_at db.live e.id ≡ Some e.constraint) before (x ∷ later) at).0;
        fails = fails;
        is_id = sym found.4;
      }

  all_below : IsOrdered db → ((k : ℕ) → 1 ≤ k → k < db.next → SlotIsMet db claim sets k) → All (IsMet db claim sets) (filter named db.live)
  all_below ordered met = met-below db.next db.live met ordered.low ordered.high (at-ascending db.live ordered.ascending)

  pub first_own : IsOrdered db → ((k : ℕ) → 1 ≤ k → k < db.next → SlotIsMet db claim sets k) → ¬ IsShown db.live claim (restriction sets claim) → FirstUnmet db claim sets db.next
  first_own ordered met fails = record {
    before = filter named db.live;
    unmet = entry db.next claim;
    later = [];
    parts = refl;
    met = all_below ordered met;
    fails = fails;
    is_id = refl;
  }

  pub all_met : IsOrdered db → ((k : ℕ) → 1 ≤ k → k < db.next → SlotIsMet db claim sets k) → IsShown db.live claim (restriction sets claim) → All (IsMet db claim sets) (obligations db claim sets)
  all_met ordered met own =
      All-append (IsMet db claim sets) (filter named db.live) (entry db.next claim ∷ []) (all_below ordered met)
      (All-cons (IsMet db claim sets) (entry db.next claim) [] own (All-nil (IsMet db claim sets)))

  not_unmet : (id : ℕ) → All (IsMet db claim sets) (obligations db claim sets) → FirstUnmet db claim sets id → ⊥
  not_unmet id met first =
      let all = subst (All (IsMet db claim sets)) first.parts met in
      first.fails (All-head (IsMet db claim sets) first.unmet first.later (All-append_both (IsMet db claim sets) first.before (first.unmet ∷ first.later) all).1)

pub red-allowed : (db : Database) (ts : List Term) (right : ℤ) (sets : List Set) (clause : Option (List Lit)) → IsSpelled (Red ts right sets) → seen_denial db (Red ts right sets) clause ≡ None →
    All (IsMet db (written ts right) sets) (obligations db (written ts right) sets) → Allowed db (Red ts right sets) clause (grown db (written ts right))
red-allowed db ts right sets clause spelled none met =
    let found = by_elimination db (Red ts right sets) clause tt spelled none shown in
    subst (Allowed db (Red ts right sets) clause) found.1.rule.after found.1
  where
    shown : (d : Denied) → ¬ UnshownBy db (Red ts right sets) d
    shown (Obligation id) h = not_unmet db (written ts right) sets id met h
    shown NotPropagated h = h
    shown (UnknownVar v) h = h
    shown (UnknownId id) h = h
    shown Stack h = h
    shown Width h = h
    shown (SetsOriginal v) h = h
    shown NoClause h = h
    shown (NotImplied id) h = h
    shown (OutDeleted id) h = h
    shown ClausesLeft h = h

-- of a goal with the degree 0 nothing has to be shown
pub shown_at_once : (live : List Entry) (claim goal : Constraint) → goal.degree ≡ 0 → TellsShown live claim goal true
shown_at_once live claim goal none = inl (ap (λ (n : ℕ). n == 0 || nat_le (n + excess (negation claim) goal) (negation claim).degree) none)

-- ---- the causes that are seen

find-append : (p : ℕ → Bool) (xs ys : List ℕ) → find p (xs ++ ys) ≡ option_or (find p xs) (find p ys)
find-append p [] ys = refl
find-append p (x ∷ xs) ys = test (p x) (find-append p xs ys) where
  test : (b : Bool) → find p (xs ++ ys) ≡ option_or (find p xs) (find p ys) → cond b (Some x) (find p (xs ++ ys)) ≡ option_or (cond b (Some x) (find p xs)) (find p ys)
  test true h = refl
  test false h = h

in_parts : (a b : Option ℕ) (w : Option Denied) (o : Option ℕ) →
    option_or (option_map UnknownVar (option_or a b)) (option_or w (option_or (option_map SetsOriginal o) None)) ≡ option_or (option_map UnknownVar a) (option_or (option_map UnknownVar b) (option_or w (option_map SetsOriginal o)))
in_parts (Some v) b w o = refl
in_parts None (Some v) w o = refl
in_parts None None (Some d) o = refl
in_parts None None None (Some v) = refl
in_parts None None None None = refl

pub red-seen_denial : (db : Database) (ts : List Term) (right : ℤ) (sets : List Set) (clause : Option (List Lit)) → seen_denial db (Red ts right sets) clause ≡ red_causes db ts right sets
red-seen_denial db ts right sets clause =
    let above : ℕ → Bool = λ v. nat_lt db.vars v in
    let slim = unless (nat_lt (magnitude ts + unsigned_abs right) (2 ^ 126)) Width in
    let own = find (λ v. nat_le v db.original) (vars_of_sets sets) in
    ap (λ (o : Option ℕ). option_or (option_map UnknownVar o) (option_or slim (option_or (option_map SetsOriginal own) None))) (find-append above (vars_of_terms ts) (vars_of_sets sets)) ∙
    in_parts (find above (vars_of_terms ts)) (find above (vars_of_sets sets)) slim own

pub red-slim : (db : Database) (ts : List Term) (right : ℤ) (sets : List Set) → seen_denial db (Red ts right sets) None ≡ None → IsSlim ts right
red-slim db ts right sets e =
    let row = from_first_some-none (rows db (Red ts right sets) None) e 2 None (omega arith) in
    ltb-true (magnitude ts + unsigned_abs right) (2 ^ 126) (from_unless-none (ltb (magnitude ts + unsigned_abs right) (2 ^ 126)) Width row)

pub red-vars : (db : Database) (ts : List Term) (right : ℤ) (sets : List Set) → seen_denial db (Red ts right sets) None ≡ None → All (λ v. v ≤ db.vars) (vars_of_terms ts)
red-vars db ts right sets e = (All-append_both (λ v. v ≤ db.vars) (vars_of_terms ts) (vars_of_sets sets) (seen_denial-vars db (Red ts right sets) None e)).0

fresh_sets : (n : ℕ) (sets : List Set) → All (λ v. nat_le v n ≡ false) (vars_of_sets sets) → All (λ (s : Set). n < s.var) sets
fresh_sets n [] h = All-nil (λ (s : Set). n < s.var)
fresh_sets n (s ∷ sets) h =
    All-cons (λ (t : Set). n < t.var) s sets (leb-false s.var n (All-head (λ v. nat_le v n ≡ false) s.var (vars_of_sets sets) h)) (fresh_sets n sets (All-tail (λ v. nat_le v n ≡ false) s.var (vars_of_sets sets) h))

pub red-fresh : (db : Database) (ts : List Term) (right : ℤ) (sets : List Set) → seen_denial db (Red ts right sets) None ≡ None → All (λ (s : Set). db.original < s.var) sets
red-fresh db ts right sets e =
    let own = find (λ v. nat_le v db.original) (vars_of_sets sets) in
    let row : option_map SetsOriginal own ≡ None = from_first_some-none (rows db (Red ts right sets) None) e 3 None (omega arith) in
    fresh_sets db.original sets (from_find-none (λ v. nat_le v db.original) (vars_of_sets sets) (from_map-none SetsOriginal own row))

-- ---- what is shown

pub shown_from : (found : Bool) (live : List Entry) (claim goal : Constraint) (cs : List Constraint) → cs ≡ negation claim ∷ negation goal ∷ live_constraints live → implies (negation claim) goal ≡ false →
    MatchBool found (Conflict cs []) (¬ Conflict cs []) → MatchBool found (IsShown live claim goal) (¬ IsShown live claim goal)
shown_from true live claim goal cs e f conflict = inr (subst (λ (xs : List Constraint). Conflict xs []) e conflict)
shown_from false live claim goal cs e f none = λ h. elim h [
  | inl implied ↦ both_ways (implies (negation claim) goal) f implied
  | inr conflict ↦ none (subst (λ (xs : List Constraint). Conflict xs []) (sym e) conflict)
]

pub causes_original : (db : Database) (ts : List Term) (right : ℤ) (sets : List Set) (v : ℕ) → None ≡ find (λ v. nat_lt db.vars v) (vars_of_terms ts) → None ≡ find (λ v. nat_lt db.vars v) (vars_of_sets sets) →
    nat_lt (magnitude ts + unsigned_abs right) (2 ^ 126) ≡ true → Some v ≡ find (λ v. nat_le v db.original) (vars_of_sets sets) → Some (SetsOriginal v) ≡ red_causes db ts right sets
causes_original db ts right sets v e f g h =
    by_parts (find (λ v. nat_lt db.vars v) (vars_of_terms ts)) (find (λ v. nat_lt db.vars v) (vars_of_sets sets)) (nat_lt (magnitude ts + unsigned_abs right) (2 ^ 126)) (find (λ v. nat_le v db.original) (vars_of_sets sets)) e f g h
  where
    by_parts : (a b : Option ℕ) (slim : Bool) (o : Option ℕ) → None ≡ a → None ≡ b → slim ≡ true → Some v ≡ o →
        Some (SetsOriginal v) ≡ option_or (option_map UnknownVar a) (option_or (option_map UnknownVar b) (option_or (unless slim Width) (option_map SetsOriginal o)))
    by_parts (Some x) b slim o e f g h = absurd (none-some x e)
    by_parts None (Some x) slim o e f g h = absurd (none-some x f)
    by_parts None None false o e f g h = absurd (both_ways false refl g)
    by_parts None None true o e f g h = ap (option_map SetsOriginal) h

-- ---- goals of ids

pub goal-some : (db : Database) (claim : Constraint) (sets : List Set) (id : ℕ) (goal : Constraint) (found : Bool) → Some goal ≡ goal_of sets (constraint_at db.live id) → TellsShown db.live claim goal found →
    MatchBool found (SlotIsMet db claim sets id) (SlotIsUnmet db claim sets id)
goal-some db claim sets id goal found e tells = look (constraint_at db.live id) refl e where
  look : (o : Option Constraint) → constraint_at db.live id ≡ o → Some goal ≡ goal_of sets o → MatchBool found (SlotIsMet db claim sets id) (SlotIsUnmet db claim sets id)
  look None f g = absurd (none-some goal (sym g))
  look (Some c) f g = named (names_set sets c) refl g where
    named : (b : Bool) → names_set sets c ≡ b → Some goal ≡ cond b (Some (restriction sets c)) None → MatchBool found (SlotIsMet db claim sets id) (SlotIsUnmet db claim sets id)
    named false h k = absurd (none-some goal (sym k))
    named true h k = by_found found (subst (λ (x : Constraint). TellsShown db.live claim x found) (let same : goal ≡ restriction sets c = cc in same) tells) where
      by_found : (b : Bool) → TellsShown db.live claim (restriction sets c) b → MatchBool b (SlotIsMet db claim sets id) (SlotIsUnmet db claim sets id)
      by_found true shown = λ d at is_named. let same : c ≡ d = cc in subst (λ (x : Constraint). IsShown db.live claim (restriction sets x)) same shown
      by_found false fails = record { constraint = c; found = f; named = h; fails = fails }

-- ---- ids that are gone through in order

rising : (ids : List ℕ) → IsStrictlyIncreasing ids → (i j d : ℕ) → i < j → j < length ids → get_or ids i d < get_or ids j d
rising ids up i j d less below = AllPairs-from_increasing ids up i j d less below

pub met_more : (db : Database) (claim : Constraint) (sets : List Set) (ids : List ℕ) (i : ℕ) → i < length ids → SlotIsMet db claim sets (get_or ids i 0) →
    ((k d : ℕ) → k < i → SlotIsMet db claim sets (get_or ids k d)) → (k d : ℕ) → k < i + 1 → SlotIsMet db claim sets (get_or ids k d)
met_more db claim sets ids i below here met k d low = elim (cases_eq k i) [
  | inl e ↦
      let same : get_or ids i 0 ≡ get_or ids k d = get_or_default ids i 0 d below ∙ ap (λ (j : ℕ). get_or ids j d) (sym e) in
      subst (SlotIsMet db claim sets) same here
  | inr ne ↦ met k d (omega (arith, ne, low))
]

-- what stands below is met
pub met_below : (db : Database) (claim : Constraint) (sets : List Set) (ids : List ℕ) (i : ℕ) → HasNamed db.live sets ids → IsStrictlyIncreasing ids → i < length ids →
    ((k d : ℕ) → k < i → SlotIsMet db claim sets (get_or ids k d)) → (k : ℕ) → 1 ≤ k → k < get_or ids i 0 → SlotIsMet db claim sets k
met_below db claim sets ids i named up below met k low high c at is_named =
    let found = named k c at is_named in
    let same : get_or ids found.0 0 ≡ k = get_or_default ids found.0 0 k found.1 ∙ found.2 in
    elim (cases_lt found.0 i) [
      | inl less ↦ subst (SlotIsMet db claim sets) same (met found.0 0 less) c at is_named
      | inr more ↦ elim (cases_eq i found.0) [
        | inl e ↦ absurd (omega (arith, high, same, ap (λ (j : ℕ). get_or ids j 0) e))
        | inr ne ↦ absurd (let above : get_or ids i 0 < get_or ids found.0 0 = rising ids up i found.0 0 (omega (arith, more, ne)) found.1 in omega (arith, high, same, above))
      ]
    ]

-- all that stands is met
pub met_all : (db : Database) (claim : Constraint) (sets : List Set) (ids : List ℕ) (i : ℕ) → HasNamed db.live sets ids → length ids ≤ i →
    ((k d : ℕ) → k < i → SlotIsMet db claim sets (get_or ids k d)) → (k : ℕ) → 1 ≤ k → k < db.next → SlotIsMet db claim sets k
met_all db claim sets ids i named past met k low high c at is_named =
    let found = named k c at is_named in
    subst (SlotIsMet db claim sets) found.2 (met found.0 k (omega (arith, found.1, past))) c at is_named
