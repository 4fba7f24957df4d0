-- A constraint more at a place, and one less.
use Rattle.std.proofs.Common.{◌≡◌, ◌≤◌, ◌<◌, ◌+◌, ◌⊎◌, inl, inr, ℕ, zero, suc, Bool, true, false, cond, List, [], ◌∷◌, ◌++◌, Option, Some, None, arith, length, set, refl, ap, sym, ◌∙◌, subst, length-append}
use Rattle.std.specs.Prelude.{Contains, nat_lt, max}
use Rattle.std.proofs.lemmas.Bool.{cases_eq, ltb-true, ltb-false}
use Rattle.std.proofs.lemmas.List.{get_or-set_same, get_or-set_other, length-set}
use Rattle.pb_norm.specs.Constraints.{Constraint, weight, HasVarsWithin}
use Rattle.pb_norm.specs.Propagation.{room}
use Rattle.pb_unit.specs.declared.kept.Counters.{Counters}
use Rattle.pb_unit.specs.States.{Stands, at_place, placed, StandWithin}
use Rattle.pb_unit.specs.Steps.{IsAlert}
use Rattle.pb_unit.specs.Index.{Lists, terms_at, room_at, alert_at, IsEntered, IsStore, AreListed}
use Rattle.pb_unit.proofs.Queueing.{room-nil}

-- ---- lists with one more

at_push : (ps : List (Option Constraint)) (o : Option Constraint) → at_place (ps ++ o ∷ []) (length ps) ≡ o
at_push [] o = refl
at_push (x ∷ ps) o = at_push ps o

at_push_other : (ps : List (Option Constraint)) (o : Option Constraint) (p : ℕ) → (p ≡ length ps → ⊥) → at_place (ps ++ o ∷ []) p ≡ at_place ps p
at_push_other [] o zero ne = absurd (ne refl)
at_push_other [] o (suc p) ne = refl
at_push_other (x ∷ ps) o zero ne = refl
at_push_other (x ∷ ps) o (suc p) ne = at_push_other ps o p (λ e. ne (ap suc e))

pub at_placed : (ps : List (Option Constraint)) (place : ℕ) (c : Constraint) → place ≤ length ps → at_place (placed place c ps) place ≡ Some c
at_placed ps place c near = by_test (nat_lt place (length ps)) refl
  where
    by_test : (b : Bool) → nat_lt place (length ps) ≡ b → at_place (cond b (set ps place (Some c)) (ps ++ Some c ∷ [])) place ≡ Some c
    by_test true e = get_or-set_same ps place (Some c) None (ltb-true place (length ps) e)
    by_test false e =
        let last : place ≡ length ps = omega (arith, ltb-false place (length ps) e, near) in
        ap (at_place (ps ++ Some c ∷ [])) last ∙ at_push ps (Some c)

pub at_placed_other : (ps : List (Option Constraint)) (place p : ℕ) (c : Constraint) → place ≤ length ps → (p ≡ place → ⊥) → at_place (placed place c ps) p ≡ at_place ps p
at_placed_other ps place p c near ne = by_test (nat_lt place (length ps)) refl
  where
    by_test : (b : Bool) → nat_lt place (length ps) ≡ b → at_place (cond b (set ps place (Some c)) (ps ++ Some c ∷ [])) p ≡ at_place ps p
    by_test true e = get_or-set_other ps place p (Some c) None ne
    by_test false e =
        let last : place ≡ length ps = omega (arith, ltb-false place (length ps) e, near) in
        at_push_other ps (Some c) p (λ h. ne (h ∙ sym last))

pub length-placed : (ps : List (Option Constraint)) (place n : ℕ) (c : Constraint) → place ≤ length ps → length ps ≤ n → place < n → n ≤ max (length ps) (place + 1) → n ≡ length (placed place c ps)
length-placed ps place n c near longer known most = by_test (nat_lt place (length ps)) refl
  where
    by_test : (b : Bool) → nat_lt place (length ps) ≡ b → n ≡ length (cond b (set ps place (Some c)) (ps ++ Some c ∷ []))
    by_test true e = omega (arith, length-set ps place (Some c), ltb-true place (length ps) e, longer, most)
    by_test false e = omega (arith, length-append ps (Some c ∷ []), ltb-false place (length ps) e, near, known, most)

pub stored : (vars : ℕ) (ps : List (Option Constraint)) (lists : Lists) (kept kept' kept'' : List Counters) (tight tight' : List ℕ) (place : ℕ) (c : Constraint) → place ≤ length ps → length kept ≡ length ps → AreListed ps kept tight → IsEntered vars ps lists kept' place c.terms → ((p : ℕ) → alert_at kept' p ≡ alert_at kept p) → place < length kept' → length kept' ≤ max (length kept) (place + 1) → length kept'' ≡ length kept' → ((p : ℕ) → room_at kept'' p ≡ room_at kept' p) → IsAlert (alert_at kept'' place) c → ((p : ℕ) → (p ≡ place → ⊥) → alert_at kept'' p ≡ alert_at kept' p) → (alert_at kept'' place ≤ room_at kept' place) ⊎ Contains tight' place → ((p : ℕ) → Contains tight p → Contains tight' p) → IsStore vars (placed place c ps) lists kept'' tight'
stored vars ps lists kept kept' kept'' tight tight' place c near even listed h alerts known most size rooms alert others here more = record {
  counts = record {
    inner = h.counts.inner;
    size = size ∙ h.counts.size;
    longer = omega (arith, same_length);
    same = λ p d at. elim (cases_eq p place) [
      | inl e ↦ let is : c ≡ d = cc (at_placed ps place c near, at, e) in ap (terms_at h.counts.inner) e ∙ (h.terms ∙ ap (λ (x : Constraint). x.terms) is)
      | inr ne ↦ h.counts.same p d (sym (at_placed_other ps place p c near ne) ∙ at)
    ];
    narrow = h.counts.narrow;
    width = h.counts.width;
    sums = h.counts.sums;
    known = λ l k d below. omega (arith, h.counts.known l k d below, size);
    rooms = λ p. rooms p ∙ h.counts.rooms p;
    alerts = λ p d at. elim (cases_eq p place) [
      | inl e ↦ let is : c ≡ d = cc (at_placed ps place c near, at, e) in subst (IsAlert (alert_at kept'' p)) is (subst (λ (i : ℕ). IsAlert (alert_at kept'' i) c) (sym e) alert)
      | inr ne ↦ subst (λ (a : ℕ). IsAlert a d) (sym (others p ne)) (h.counts.alerts p d (sym (at_placed_other ps place p c near ne) ∙ at))
    ];
  };
  listed = λ p d at. elim (cases_eq p place) [
    | inl e ↦
        let is : c ≡ d = cc (at_placed ps place c near, at, e) in
        subst (λ (x : Constraint). (alert_at kept'' p ≤ weight x.terms) ⊎ Contains tight' p) is
        (subst (λ (i : ℕ). (alert_at kept'' i ≤ weight c.terms) ⊎ Contains tight' i) (sym e) now)
    | inr ne ↦ elim (listed p d (sym (at_placed_other ps place p c near ne) ∙ at)) [
      | inl enough ↦ inl (omega (arith, enough, others p ne, alerts p))
      | inr there ↦ inr (more p there)
    ]
  ];
  even = same_length;
}
  where
    same_length : length kept'' ≡ length (placed place c ps)
    same_length = size ∙ length-placed ps place (length kept') c near h.counts.longer known (omega (arith, most, even))

    full : room_at kept' place ≡ weight c.terms
    full = h.counts.rooms place ∙ (ap (room []) h.terms ∙ room-nil c.terms)

    now : (alert_at kept'' place ≤ weight c.terms) ⊎ Contains tight' place
    now = elim here [ inl enough ↦ inl (omega (arith, enough, full)) | inr there ↦ inr there ]

-- ---- one less

pub stands_removed : (ps : List (Option Constraint)) (place p : ℕ) (c : Constraint) → Stands (set ps place None) p c → Stands ps p c
stands_removed [] zero p c e = e
stands_removed [] (suc place) p c e = e
stands_removed (o ∷ ps) zero zero c e = let no : ⊥ = cc in absurd no
stands_removed (o ∷ ps) zero (suc p) c e = e
stands_removed (o ∷ ps) (suc place) zero c e = e
stands_removed (o ∷ ps) (suc place) (suc p) c e = stands_removed ps place p c e

pub within_removed : (vars : ℕ) (ps : List (Option Constraint)) (place : ℕ) → StandWithin vars ps → StandWithin vars (set ps place None)
within_removed vars ps place h p c at = h p c (stands_removed ps place p c at)

pub within_placed : (vars : ℕ) (ps : List (Option Constraint)) (place : ℕ) (c : Constraint) → place ≤ length ps → HasVarsWithin vars c.terms → StandWithin vars ps → StandWithin vars (placed place c ps)
within_placed vars ps place c near new h p d at = elim (cases_eq p place) [
  | inl e ↦ let is : c ≡ d = cc (at_placed ps place c near, at, e) in subst (λ (x : Constraint). HasVarsWithin vars x.terms) is new
  | inr ne ↦ h p d (sym (at_placed_other ps place p c near ne) ∙ at)
]
