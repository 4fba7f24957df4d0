-- The engine mirrors what stands by ids.
use Rattle.std.proofs.Common.{◌≡◌, ◌≤◌, ◌<◌, ◌+◌, ◌⊎◌, inl, inr, ℕ, zero, suc, false, true, List, [], ◌∷◌, ◌++◌, Option, Some, None, arith, length, set, refl, ap, sym, ◌∙◌, subst, map, take}
use Rattle.std.specs.Prelude.{All, Contains, filter_map, is_some, option_map}
use Rattle.std.specs.List.{cons_option}
use Rattle.std.proofs.lemmas.Bool.{cases_eq}
use Rattle.std.proofs.lemmas.List.Elements.{All-nil, All-cons}
use Rattle.std.proofs.lemmas.List.{get_or-set_same, get_or-set_other, take_all}
use Rattle.pb_norm.specs.Constraints.{Constraint, Weighted, HasVarsWithin, AreVarsWithin}
use Rattle.pb_norm.specs.PropagationLaws.{AreAmong}
use Rattle.pb_steps.specs.Database.{live_constraints}
use Rattle.pb_unit.specs.States.{EngineState, at_place, placed, added, removed, started, Stands, standing, IsFree}
use Rattle.pb_unit.proofs.Standing.{contains_head, contains_tail, contains_cases, stands_contains, contains_stands}
use Rattle.pb_unit.proofs.Placing.{at_placed, at_placed_other}
use Rattle.pb_database.specs.declared.slots.Slot.{Slot}
use Rattle.pb_database.specs.inner.Slots.{hole, whole, placed_from, slot_at, slot_of, slots_without, marked_slots, place_of, entries_from, listed_slots}
use Rattle.pb_database.specs.Sound.{IsSound}
use Rattle.pb_database.specs.inner.Mirrors.{IsMirrored, KeepsEngine, AreWithin}
use Rattle.pb_database.proofs.SlotLemmas.{live_constraints-slots, constraint_at-slot, length-placed_from}
use Rattle.pb_database.proofs.SoundLemmas.{at-sound}

pub some-none : {X : Type 0} (x : X) → Some x ≡ None → ⊥
some-none x e = let no : ⊥ = cc in no

some-same : {X : Type 0} (x y : X) → Some x ≡ Some y → x ≡ y
some-same x y e = let same : x ≡ y = cc in same

-- ---- places of an engine

-- what stands is at a place of the list
pub stands-below : (ps : List (Option Constraint)) (p : ℕ) (c : Constraint) → Stands ps p c → p < length ps
stands-below [] zero c e = absurd (some-none c (sym e))
stands-below [] (suc p) c e = absurd (some-none c (sym e))
stands-below (o ∷ ps) zero c e = omega arith
stands-below (o ∷ ps) (suc p) c e = omega (arith, stands-below ps p c e)

pub at-removed : (ps : List (Option Constraint)) (p : ℕ) (c : Constraint) → Stands ps p c → at_place (set ps p None) p ≡ None
at-removed ps p c e = get_or-set_same ps p None None (stands-below ps p c e)

pub at-removed_other : (ps : List (Option Constraint)) (p q : ℕ) → (q ≡ p → ⊥) → at_place (set ps p None) q ≡ at_place ps q
at-removed_other ps p q ne = get_or-set_other ps p q None None ne

-- a constraint that came and went
pub keeps : (before mid after : EngineState) (p : ℕ) (c : Constraint) → IsFree before p → mid.places ≡ placed p c before.places → mid.vars ≡ before.vars → after ≡ removed p mid → KeepsEngine before after
keeps before mid after p c free put vars gone = record {
  vars_are = ap (λ (s : EngineState). s.vars) gone ∙ vars;
  same = λ q. ap (λ (s : EngineState). at_place s.places q) gone ∙ (ap (λ (ps : List (Option Constraint)). at_place (set ps p None) q) put ∙ at q);
}
  where
    at : (q : ℕ) → at_place (set (placed p c before.places) p None) q ≡ at_place before.places q
    at q = elim (cases_eq q p) [
      | inl e ↦ ap (at_place (set (placed p c before.places) p None)) e ∙ (at-removed (placed p c before.places) p c (at_placed before.places p c free.near) ∙ (sym free.empty ∙ ap (at_place before.places) (sym e)))
      | inr ne ↦ at-removed_other (placed p c before.places) p q ne ∙ at_placed_other before.places p q c free.near ne
    ]

-- the same where others came and went in between
pub keeps_put : (before mid late after : EngineState) (p : ℕ) (c : Constraint) → IsFree before p → mid ≡ added p c before → KeepsEngine mid late → after ≡ removed p late → KeepsEngine before after
keeps_put before mid late after p c free put kept gone = record {
  vars_are = ap (λ (s : EngineState). s.vars) gone ∙ (kept.vars_are ∙ ap (λ (s : EngineState). s.vars) put);
  same = λ q. ap (λ (s : EngineState). at_place s.places q) gone ∙ at q;
}
  where
    was : (q : ℕ) → at_place late.places q ≡ at_place (placed p c before.places) q
    was q = kept.same q ∙ ap (λ (s : EngineState). at_place s.places q) put

    at : (q : ℕ) → at_place (set late.places p None) q ≡ at_place before.places q
    at q = elim (cases_eq q p) [
      | inl e ↦ ap (at_place (set late.places p None)) e ∙ (at-removed late.places p c (was p ∙ at_placed before.places p c free.near) ∙ (sym free.empty ∙ ap (at_place before.places) (sym e)))
      | inr ne ↦ at-removed_other late.places p q ne ∙ (was q ∙ at_placed_other before.places p q c free.near ne)
    ]

pub keeps_same : (before after : EngineState) → after ≡ before → KeepsEngine before after
keeps_same before after e = record { vars_are = ap (λ (s : EngineState). s.vars) e; same = λ p. ap (λ (s : EngineState). at_place s.places p) e }

-- ---- one more among those that stand

pub standing-placed : (ps : List (Option Constraint)) (p : ℕ) (c : Constraint) → at_place ps p ≡ None → p ≤ length ps → AreAmong (standing (placed p c ps)) (c ∷ standing ps)
standing-placed ps p c empty near d h =
    let at = contains_stands (placed p c ps) d h in
    elim (cases_eq at.0 p) [
      | inl e ↦
          let same : c ≡ d = some-same c d (sym (at_placed ps p c near) ∙ (ap (at_place (placed p c ps)) (sym e) ∙ at.1)) in
          subst (Contains (c ∷ standing ps)) same (contains_head c (standing ps))
      | inr ne ↦ contains_tail c (standing ps) d (stands_contains ps at.0 d (sym (at_placed_other ps p at.0 c near ne) ∙ at.1))
    ]

pub placed-standing : (ps : List (Option Constraint)) (p : ℕ) (c : Constraint) → at_place ps p ≡ None → p ≤ length ps → AreAmong (c ∷ standing ps) (standing (placed p c ps))
placed-standing ps p c empty near d h = elim (contains_cases c (standing ps) d h) [
  | inl e ↦ subst (Contains (standing (placed p c ps))) e (stands_contains (placed p c ps) p c (at_placed ps p c near))
  | inr rest ↦
      let at = contains_stands ps d rest in
      let ne : at.0 ≡ p → ⊥ = λ e. some-none d (sym at.1 ∙ (ap (at_place ps) e ∙ empty)) in
      stands_contains (placed p c ps) at.0 d (at_placed_other ps p at.0 c near ne ∙ at.1)
]

-- ---- slots

pub slot_at-push : (ss : List Slot) (s : Slot) → slot_at (ss ++ s ∷ []) (length ss) ≡ s
slot_at-push [] s = refl
slot_at-push (t ∷ ss) s = slot_at-push ss s

pub slot_at-push_other : (ss : List Slot) (s : Slot) (k : ℕ) → (k ≡ length ss → ⊥) → slot_at (ss ++ s ∷ []) k ≡ slot_at ss k
slot_at-push_other [] s zero ne = absurd (ne refl)
slot_at-push_other [] s (suc k) ne = refl
slot_at-push_other (t ∷ ss) s zero ne = refl
slot_at-push_other (t ∷ ss) s (suc k) ne = slot_at-push_other ss s k (λ e. ne (ap suc e))

pub slot_at-set : (ss : List Slot) (k : ℕ) → slot_at (set ss k hole) k ≡ hole
slot_at-set [] zero = refl
slot_at-set [] (suc k) = refl
slot_at-set (s ∷ ss) zero = refl
slot_at-set (s ∷ ss) (suc k) = slot_at-set ss k

pub slot_at-set_other : (ss : List Slot) (k j : ℕ) → (j ≡ k → ⊥) → slot_at (set ss k hole) j ≡ slot_at ss j
slot_at-set_other ss k j ne = get_or-set_other ss k j hole hole ne

-- what stands in slots is what stands by ids
slots_have : (ss : List Slot) (c : Constraint) → Contains (filter_map (λ (s : Slot). s.constraint) ss) c → (k : ℕ) × ((slot_at ss k).constraint ≡ Some c)
slots_have [] c h = absurd (omega (arith, h.1))
slots_have (s ∷ ss) c h = look s.constraint refl h (λ g. slots_have ss c g) where
  look : (o : Option Constraint) → s.constraint ≡ o → Contains (cons_option o (filter_map (λ (s : Slot). s.constraint) ss)) c →
      (Contains (filter_map (λ (s : Slot). s.constraint) ss) c → (k : ℕ) × ((slot_at ss k).constraint ≡ Some c)) → (k : ℕ) × ((slot_at (s ∷ ss) k).constraint ≡ Some c)
  look None e g later = let r = later g in (suc r.0, r.1)
  look (Some d) e g later = elim (contains_cases d (filter_map (λ (s : Slot). s.constraint) ss) c g) [
    | inl same ↦ (0, e ∙ ap (λ (x : Constraint). Some x) same)
    | inr rest ↦ let r = later rest in (suc r.0, r.1)
  ]

have_slots : (ss : List Slot) (k : ℕ) (c : Constraint) → (slot_at ss k).constraint ≡ Some c → Contains (filter_map (λ (s : Slot). s.constraint) ss) c
have_slots [] zero c e = absurd (some-none c (sym e))
have_slots [] (suc k) c e = absurd (some-none c (sym e))
have_slots (s ∷ ss) zero c e = rw e (contains_head c (filter_map (λ (s : Slot). s.constraint) ss))
have_slots (s ∷ ss) (suc k) c e = look s.constraint (have_slots ss k c e) where
  look : (o : Option Constraint) → Contains (filter_map (λ (s : Slot). s.constraint) ss) c → Contains (cons_option o (filter_map (λ (s : Slot). s.constraint) ss)) c
  look None h = h
  look (Some d) h = contains_tail d (filter_map (λ (s : Slot). s.constraint) ss) c h

pub standing-live : (vars : ℕ) (ss : List Slot) (s : EngineState) → IsMirrored vars ss s → AreAmong (standing s.places) (live_constraints (entries_from 1 ss))
standing-live vars ss s m c h =
    let at = contains_stands s.places c h in
    let found = m.only at.0 c at.1 in
    subst (λ (cs : List Constraint). Contains cs c) (sym (live_constraints-slots 1 ss)) (have_slots ss found.0 c found.1)

pub live-standing : (vars : ℕ) (ss : List Slot) (s : EngineState) → IsMirrored vars ss s → AreAmong (live_constraints (entries_from 1 ss)) (standing s.places)
live-standing vars ss s m c h =
    let found = slots_have ss c (subst (λ (cs : List Constraint). Contains cs c) (live_constraints-slots 1 ss) h) in
    stands_contains s.places (slot_at ss found.0).place c (m.here found.0 c found.1)

-- ---- what changes

pub mirrored-kept : (vars : ℕ) (ss : List Slot) (s s' : EngineState) → IsMirrored vars ss s → KeepsEngine s s' → IsMirrored vars ss s'
mirrored-kept vars ss s s' m k = record {
  vars_are = k.vars_are ∙ m.vars_are;
  here = λ j c e. k.same (slot_at ss j).place ∙ m.here j c e;
  only = λ p c e. m.only p c (sym (k.same p) ∙ e);
  own = m.own;
}

-- slots with the same constraints at the same places
pub mirrored-same : (vars : ℕ) (ss ss' : List Slot) (s : EngineState) → ((k : ℕ) → (slot_at ss' k).constraint ≡ (slot_at ss k).constraint) → ((k : ℕ) → (slot_at ss' k).place ≡ (slot_at ss k).place) → IsMirrored vars ss s → IsMirrored vars ss' s
mirrored-same vars ss ss' s constraint place m = record {
  vars_are = m.vars_are;
  here = λ k c e. ap (at_place s.places) (place k) ∙ m.here k c (sym (constraint k) ∙ e);
  only = λ p c e. let r = m.only p c e in (r.0, constraint r.0 ∙ r.1, place r.0 ∙ r.2);
  own = λ j k c d e f g. m.own j k c d (sym (constraint j) ∙ e) (sym (constraint k) ∙ f) (sym (place j) ∙ (g ∙ place k));
}

marked-slot : (ss : List Slot) (id k : ℕ) → record (slot_at (marked_slots ss id) k) { out = false } ≡ record (slot_at ss k) { out = false }
marked-slot ss zero k = refl
marked-slot ss (suc n) k = at ss n k where
  at : (ss : List Slot) (n k : ℕ) → record (slot_at (set ss n (record (slot_at ss n) { out = true })) k) { out = false } ≡ record (slot_at ss k) { out = false }
  at [] n k = refl
  at (s ∷ ss) zero zero = refl
  at (s ∷ ss) zero (suc k) = refl
  at (s ∷ ss) (suc n) zero = refl
  at (s ∷ ss) (suc n) (suc k) = at ss n k

pub marked-constraint : (ss : List Slot) (id k : ℕ) → (slot_at (marked_slots ss id) k).constraint ≡ (slot_at ss k).constraint
marked-constraint ss id k = ap (λ (s : Slot). s.constraint) (marked-slot ss id k)

pub mirrored-marked : (vars id : ℕ) (ss ss' : List Slot) (s : EngineState) → ss' ≡ marked_slots ss id → IsMirrored vars ss s → IsMirrored vars ss' s
mirrored-marked vars id ss ss' s e m = subst (λ (ts : List Slot). IsMirrored vars ts s) (sym e) (mirrored-same vars ss (marked_slots ss id) s (marked-constraint ss id) (λ k. ap (λ (t : Slot). t.place) (marked-slot ss id k)) m)

-- one more
slot-below : (ss : List Slot) (k : ℕ) (c : Constraint) → (slot_at ss k).constraint ≡ Some c → k < length ss
slot-below [] zero c e = absurd (some-none c (sym e))
slot-below [] (suc k) c e = absurd (some-none c (sym e))
slot-below (s ∷ ss) zero c e = omega arith
slot-below (s ∷ ss) (suc k) c e = omega (arith, slot-below ss k c e)

slot-cases : (ss : List Slot) (s : Slot) (k : ℕ) → ((k ≡ length ss) × (slot_at (ss ++ s ∷ []) k ≡ s)) ⊎ ((k ≡ length ss → ⊥) × (slot_at (ss ++ s ∷ []) k ≡ slot_at ss k))
slot-cases ss s k = elim (cases_eq k (length ss)) [
  | inl e ↦ inl (e, ap (slot_at (ss ++ s ∷ [])) e ∙ slot_at-push ss s)
  | inr ne ↦ inr (ne, slot_at-push_other ss s k ne)
]

-- no slot has a free place
not_free : (vars : ℕ) (ss : List Slot) (s : EngineState) (p k : ℕ) (c : Constraint) → IsFree s p → IsMirrored vars ss s → (slot_at ss k).constraint ≡ Some c → (slot_at ss k).place ≡ p → ⊥
not_free vars ss s p k c free m e f = some-none c (sym (m.here k c e) ∙ (ap (at_place s.places) f ∙ free.empty))

abbrev with_one : List Slot → Constraint → ℕ → List Slot
with_one ss c p = ss ++ whole c p ∷ []

pushed-here : (vars : ℕ) (ss : List Slot) (s : EngineState) (p : ℕ) (c : Constraint) → IsFree s p → IsMirrored vars ss s →
    (k : ℕ) (d : Constraint) → (slot_at (with_one ss c p) k).constraint ≡ Some d → Stands (placed p c s.places) (slot_at (with_one ss c p) k).place d
pushed-here vars ss s p c free m k d e = elim (slot-cases ss (whole c p) k) [
  | inl last ↦
      let found : Some c ≡ Some d = ap (λ (t : Slot). t.constraint) (sym last.1) ∙ e in
      ap (λ (t : Slot). at_place (placed p c s.places) t.place) last.1 ∙ (at_placed s.places p c free.near ∙ found)
  | inr old ↦
      let found : (slot_at ss k).constraint ≡ Some d = ap (λ (t : Slot). t.constraint) (sym old.1) ∙ e in
      ap (λ (t : Slot). at_place (placed p c s.places) t.place) old.1 ∙
      (at_placed_other s.places p (slot_at ss k).place c free.near (not_free vars ss s p k d free m found) ∙ m.here k d found)
]

pushed-only : (vars : ℕ) (ss : List Slot) (s : EngineState) (p : ℕ) (c : Constraint) → IsFree s p → IsMirrored vars ss s →
    (q : ℕ) (d : Constraint) → Stands (placed p c s.places) q d → (k : ℕ) × ((slot_at (with_one ss c p) k).constraint ≡ Some d) × ((slot_at (with_one ss c p) k).place ≡ q)
pushed-only vars ss s p c free m q d e = elim (cases_eq q p) [
  | inl same ↦
      let found : Some c ≡ Some d = sym (at_placed s.places p c free.near) ∙ (ap (at_place (placed p c s.places)) (sym same) ∙ e) in
      let last = slot_at-push ss (whole c p) in
      (length ss, ap (λ (t : Slot). t.constraint) last ∙ found, ap (λ (t : Slot). t.place) last ∙ sym same)
  | inr ne ↦
      let r = m.only q d (sym (at_placed_other s.places p q c free.near ne) ∙ e) in
      let below : r.0 < length ss = slot-below ss r.0 d r.1 in
      let old = slot_at-push_other ss (whole c p) r.0 (λ h. omega (arith, below, h)) in
      (r.0, ap (λ (t : Slot). t.constraint) old ∙ r.1, ap (λ (t : Slot). t.place) old ∙ r.2)
]

pushed-own : (vars : ℕ) (ss : List Slot) (s : EngineState) (p : ℕ) (c : Constraint) → IsFree s p → IsMirrored vars ss s →
    (j k : ℕ) (d e : Constraint) → (slot_at (with_one ss c p) j).constraint ≡ Some d → (slot_at (with_one ss c p) k).constraint ≡ Some e → (slot_at (with_one ss c p) j).place ≡ (slot_at (with_one ss c p) k).place → j ≡ k
pushed-own vars ss s p c free m j k d e f g h = elim (slot-cases ss (whole c p) j) [
  | inl last ↦ elim (slot-cases ss (whole c p) k) [
    | inl last' ↦ last.0 ∙ sym last'.0
    | inr old' ↦ absurd (not_free vars ss s p k e free m (ap (λ (t : Slot). t.constraint) (sym old'.1) ∙ g) (ap (λ (t : Slot). t.place) (sym old'.1) ∙ (sym h ∙ ap (λ (t : Slot). t.place) last.1)))
  ]
  | inr old ↦ elim (slot-cases ss (whole c p) k) [
    | inl last' ↦ absurd (not_free vars ss s p j d free m (ap (λ (t : Slot). t.constraint) (sym old.1) ∙ f) (ap (λ (t : Slot). t.place) (sym old.1) ∙ (h ∙ ap (λ (t : Slot). t.place) last'.1)))
    | inr old' ↦ m.own j k d e (ap (λ (t : Slot). t.constraint) (sym old.1) ∙ f) (ap (λ (t : Slot). t.constraint) (sym old'.1) ∙ g) (ap (λ (t : Slot). t.place) (sym old.1) ∙ (h ∙ ap (λ (t : Slot). t.place) old'.1))
  ]
]

pub mirrored-pushed : (vars : ℕ) (ss : List Slot) (s : EngineState) (p : ℕ) (c : Constraint) → IsFree s p → IsMirrored vars ss s → IsMirrored vars (ss ++ whole c p ∷ []) (added p c s)
mirrored-pushed vars ss s p c free m = record {
  vars_are = m.vars_are;
  here = pushed-here vars ss s p c free m;
  only = pushed-only vars ss s p c free m;
  own = pushed-own vars ss s p c free m;
}

-- one slot more with no constraint
pub mirrored-none : (vars : ℕ) (ss : List Slot) (t : Slot) (s : EngineState) → t.constraint ≡ None → IsMirrored vars ss s → IsMirrored vars (ss ++ t ∷ []) s
mirrored-none vars ss t s none m = record {
  vars_are = m.vars_are;
  here = λ k c e. let old = before k c e in ap (λ (u : Slot). at_place s.places u.place) old ∙ m.here k c (found k c e);
  only = λ p c e.
      let r = m.only p c e in
      let below : r.0 < length ss = slot-below ss r.0 c r.1 in
      let old = slot_at-push_other ss t r.0 (λ h. omega (arith, below, h)) in
      (r.0, ap (λ (u : Slot). u.constraint) old ∙ r.1, ap (λ (u : Slot). u.place) old ∙ r.2);
  own = λ j k c d e f g. m.own j k c d (found j c e) (found k d f) (ap (λ (u : Slot). u.place) (sym (before j c e)) ∙ (g ∙ ap (λ (u : Slot). u.place) (before k d f)));
}
  where
    before : (k : ℕ) (c : Constraint) → (slot_at (ss ++ t ∷ []) k).constraint ≡ Some c → slot_at (ss ++ t ∷ []) k ≡ slot_at ss k
    before k c e = elim (slot-cases ss t k) [
      | inl last ↦ absurd (some-none c (sym e ∙ (ap (λ (u : Slot). u.constraint) last.1 ∙ none)))
      | inr old ↦ old.1
    ]

    found : (k : ℕ) (c : Constraint) → (slot_at (ss ++ t ∷ []) k).constraint ≡ Some c → (slot_at ss k).constraint ≡ Some c
    found k c e = ap (λ (u : Slot). u.constraint) (sym (before k c e)) ∙ e

-- one less
cleared-case : (ss : List Slot) (k j : ℕ) (d : Constraint) → (slot_at (set ss k hole) j).constraint ≡ Some d → (j ≡ k → ⊥) × ((slot_at ss j).constraint ≡ Some d) × ((slot_at (set ss k hole) j).place ≡ (slot_at ss j).place)
cleared-case ss k j d e =
    let ne : j ≡ k → ⊥ = λ f. some-none d (sym e ∙ ap (λ (t : Slot). t.constraint) (ap (slot_at (set ss k hole)) f ∙ slot_at-set ss k)) in
    let old = slot_at-set_other ss k j ne in
    (ne, ap (λ (t : Slot). t.constraint) (sym old) ∙ e, ap (λ (t : Slot). t.place) old)

mirrored-cleared : (vars : ℕ) (ss : List Slot) (s : EngineState) (k : ℕ) (c : Constraint) → (slot_at ss k).constraint ≡ Some c → IsMirrored vars ss s → IsMirrored vars (set ss k hole) (removed (slot_at ss k).place s)
mirrored-cleared vars ss s k c stands m = record {
  vars_are = m.vars_are;
  here = λ j d e.
      let old = cleared-case ss k j d e in
      let other : (slot_at ss j).place ≡ (slot_at ss k).place → ⊥ = λ f. old.0 (m.own j k d c old.1 stands f) in
      ap (at_place (set s.places (slot_at ss k).place None)) old.2 ∙ (at-removed_other s.places (slot_at ss k).place (slot_at ss j).place other ∙ m.here j d old.1);
  only = λ q d e.
      let ne : q ≡ (slot_at ss k).place → ⊥ = λ f. some-none d (sym e ∙ (ap (at_place (set s.places (slot_at ss k).place None)) f ∙ at-removed s.places (slot_at ss k).place c (m.here k c stands))) in
      let r = m.only q d (sym (at-removed_other s.places (slot_at ss k).place q ne) ∙ e) in
      let other : r.0 ≡ k → ⊥ = λ f. ne (sym r.2 ∙ ap (λ (i : ℕ). (slot_at ss i).place) f) in
      let old = slot_at-set_other ss k r.0 other in
      (r.0, ap (λ (t : Slot). t.constraint) old ∙ r.1, ap (λ (t : Slot). t.place) old ∙ r.2);
  own = λ i j d e f g h.
      let left = cleared-case ss k i d f in
      let right = cleared-case ss k j e g in
      m.own i j d e left.1 right.1 (sym left.2 ∙ (h ∙ right.2));
}

-- an empty slot is emptied
mirrored-emptied : (vars : ℕ) (ss : List Slot) (s : EngineState) (k : ℕ) → IsMirrored vars ss s → (slot_at ss k).constraint ≡ None → IsMirrored vars (set ss k hole) s
mirrored-emptied vars ss s k m none = record {
  vars_are = m.vars_are;
  here = λ j d e. let old = cleared-case ss k j d e in ap (at_place s.places) old.2 ∙ m.here j d old.1;
  only = λ q d e.
      let r = m.only q d e in
      let other : r.0 ≡ k → ⊥ = λ f. some-none d (sym r.1 ∙ (ap (λ (i : ℕ). (slot_at ss i).constraint) f ∙ none)) in
      let old = slot_at-set_other ss k r.0 other in
      (r.0, ap (λ (t : Slot). t.constraint) old ∙ r.1, ap (λ (t : Slot). t.place) old ∙ r.2);
  own = λ i j d e f g h.
      let left = cleared-case ss k i d f in
      let right = cleared-case ss k j e g in
      m.own i j d e left.1 right.1 (sym left.2 ∙ (h ∙ right.2));
}

place-taken : (s : Slot) (p : ℕ) → Some p ≡ place_of s → (c : Constraint) × (s.constraint ≡ Some c) × (p ≡ s.place)
place-taken s p e = look s.constraint refl e where
  look : (o : Option Constraint) → s.constraint ≡ o → Some p ≡ option_map (λ (c : Constraint). s.place) o → (c : Constraint) × (s.constraint ≡ Some c) × (p ≡ s.place)
  look None f g = absurd (some-none p g)
  look (Some c) f g = (c, f, some-same p s.place g)

place-none : (s : Slot) → None ≡ place_of s → s.constraint ≡ None
place-none s e = look s.constraint refl e where
  look : (o : Option Constraint) → s.constraint ≡ o → None ≡ option_map (λ (c : Constraint). s.place) o → s.constraint ≡ None
  look None f g = f
  look (Some c) f g = absurd (some-none s.place (sym g))

-- the constraint of an id goes, at its place
pub mirrored-without : (vars id p : ℕ) (ss ss' : List Slot) (s : EngineState) → ss' ≡ slots_without ss id → Some p ≡ place_of (slot_of ss id) → IsMirrored vars ss s → (is_some (at_place s.places p) ≡ true) × IsMirrored vars ss' (removed p s)
mirrored-without vars zero p ss ss' s e f m = absurd (some-none p f)
mirrored-without vars (suc k) p ss ss' s e f m =
    let found = place-taken (slot_at ss k) p f in
    let stands : at_place s.places p ≡ Some found.0 = ap (at_place s.places) found.2 ∙ m.here k found.0 found.1 in
    (ap is_some stands, subst (λ (ts : List Slot). IsMirrored vars ts (removed p s)) (sym e) (subst (λ (q : ℕ). IsMirrored vars (set ss k hole) (removed q s)) (sym found.2) (mirrored-cleared vars ss s k found.0 found.1 m)))

pub mirrored-without_none : (vars id : ℕ) (ss ss' : List Slot) (s : EngineState) → ss' ≡ slots_without ss id → None ≡ place_of (slot_of ss id) → IsMirrored vars ss s → IsMirrored vars ss' s
mirrored-without_none vars zero ss ss' s e f m = subst (λ (ts : List Slot). IsMirrored vars ts s) (sym e) m
mirrored-without_none vars (suc k) ss ss' s e f m = subst (λ (ts : List Slot). IsMirrored vars ts s) (sym e) (mirrored-emptied vars ss s k m (place-none (slot_at ss k) f))

-- ---- the start

placed_from-constraint : (n k : ℕ) (cs : List Constraint) → (slot_at (placed_from n cs) k).constraint ≡ at_place (map Some cs) k
placed_from-constraint n k [] = refl
placed_from-constraint n zero (c ∷ cs) = refl
placed_from-constraint n (suc k) (c ∷ cs) = placed_from-constraint (n + 1) k cs

placed_from-place : (n k : ℕ) (cs : List Constraint) (c : Constraint) → (slot_at (placed_from n cs) k).constraint ≡ Some c → (slot_at (placed_from n cs) k).place ≡ n + k
placed_from-place n zero [] c e = absurd (some-none c (sym e))
placed_from-place n (suc k) [] c e = absurd (some-none c (sym e))
placed_from-place n zero (d ∷ cs) c e = omega arith
placed_from-place n (suc k) (d ∷ cs) c e = omega (arith, placed_from-place (n + 1) k cs c e)

pub mirrored-started : (vars : ℕ) (cs : List Constraint) → IsMirrored vars (placed_from 0 cs) (started vars cs)
mirrored-started vars cs = record {
  vars_are = refl;
  here = λ k c e. ap (at_place (map Some cs)) (place k c e) ∙ (sym (placed_from-constraint 0 k cs) ∙ e);
  only = λ p c e. let found : (slot_at (placed_from 0 cs) p).constraint ≡ Some c = placed_from-constraint 0 p cs ∙ e in (p, found, place p c found);
  own = λ j k c d e f g. sym (place j c e) ∙ (g ∙ place k d f);
}
  where
    place : (k : ℕ) (c : Constraint) → (slot_at (placed_from 0 cs) k).constraint ≡ Some c → (slot_at (placed_from 0 cs) k).place ≡ k
    place k c e = omega (arith, placed_from-place 0 k cs c e)

pub mirrored-new : (vars : ℕ) (ss : List Slot) (cs ds : List Constraint) (s : EngineState) → ss ≡ placed_from 0 cs → s ≡ started vars ds → ds ≡ cs → IsMirrored vars ss s
mirrored-new vars ss cs ds s e f g =
    let engine : started vars cs ≡ s = sym (f ∙ ap (started vars) g) in
    subst (λ (t : EngineState). IsMirrored vars ss t) engine (subst (λ (ts : List Slot). IsMirrored vars ts (started vars cs)) (sym e) (mirrored-started vars cs))

-- ---- variables

pub slots-within : (vars : ℕ) (ss : List Slot) → All (IsSound vars) (entries_from 1 ss) → AreWithin vars ss
slots-within vars ss h k c e = (at-sound vars (entries_from 1 ss) (suc k) c h (constraint_at-slot (suc k) ss ∙ e)).1

-- the same where there are more variables
pub within-more : (vars most n : ℕ) (ts : List Weighted) → vars ≤ most → n ≡ most → HasVarsWithin vars ts → HasVarsWithin n ts
within-more vars most n ts le same h = λ k d below. omega (arith, h k d below, le, same)

pub slots-more : (vars most n : ℕ) (ss : List Slot) → vars ≤ most → n ≡ most → AreWithin vars ss → AreWithin n ss
slots-more vars most n ss le same h = λ k c e. within-more vars most n c.terms le same (h k c e)

-- the same of the constraints of ids
pub listed-within : (vars : ℕ) (ss : List Slot) (ids : List ℕ) → AreWithin vars ss → AreVarsWithin vars (listed_slots ss ids)
listed-within vars ss [] h = All-nil (λ (c : Constraint). HasVarsWithin vars c.terms)
listed-within vars ss (id ∷ ids) h = one (slot_of ss id).constraint (at id) (listed-within vars ss ids h)
  where
    at : (id : ℕ) (c : Constraint) → (slot_of ss id).constraint ≡ Some c → HasVarsWithin vars c.terms
    at zero c e = absurd (some-none c (sym e))
    at (suc k) c e = h k c e

    one : (o : Option Constraint) → ((c : Constraint) → o ≡ Some c → HasVarsWithin vars c.terms) → AreVarsWithin vars (listed_slots ss ids) → AreVarsWithin vars (cons_option o (listed_slots ss ids))
    one None f rest = rest
    one (Some c) f rest = All-cons (λ (d : Constraint). HasVarsWithin vars d.terms) c (listed_slots ss ids) (f c refl) rest

-- ---- an engine at the start

-- of all loaded constraints
pub mirrored-loaded : (vars : ℕ) (cs : List Constraint) (s : EngineState) → s ≡ started vars cs → IsMirrored vars (take (length cs) (placed_from 0 cs)) s
mirrored-loaded vars cs s e =
    let all : length (placed_from 0 cs) ≤ length cs = omega (arith, length-placed_from 0 cs) in
    subst (λ (ts : List Slot). IsMirrored vars ts s) (sym (take_all (length cs) (placed_from 0 cs) all)) (mirrored-new vars (placed_from 0 cs) cs cs s refl e refl)
