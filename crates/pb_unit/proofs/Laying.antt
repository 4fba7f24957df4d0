-- The first constraints at their places.
use Rattle.std.proofs.Common.{◌≡◌, ◌≤◌, ◌<◌, ◌+◌, ◌^◌, ◌⊎◌, inl, inr, ℕ, zero, suc, List, [], ◌∷◌, ◌++◌, Option, Some, None, map, arith, length, get_or, refl, ap, sym, ◌∙◌, subst, length-append}
use Rattle.std.specs.Prelude.{All, Contains}
use Rattle.std.proofs.lemmas.Bool.{cases_eq, cases_lt}
use Rattle.std.proofs.lemmas.List.Elements.{All-nil, All-cons}
use Rattle.std.proofs.lemmas.List.Sums.{sum_by-cons}
use Rattle.std.proofs.lemmas.List.{get_or_push, get_or_append_left, get_or_past, length-map}
use Rattle.pb_base.specs.declared.literal.Lit.{Lit}
use Rattle.pb_norm.specs.Constraints.{Weighted, Constraint, weight}
use Rattle.pb_unit.specs.declared.kept.Counters.{Counters}
use Rattle.pb_unit.specs.States.{Stands, at_place}
use Rattle.pb_unit.specs.Steps.{IsAlert}
use Rattle.pb_unit.specs.Index.{Lists, coef_of, terms_at, room_at, alert_at, IsStore}
use Rattle.pb_unit.specs.inner.Filling.{terms_in, AreLaid, IsFilled, IsKeptOf}
use Rattle.pb_unit.specs.inner.Slots.{unit, clause_of}
use Rattle.pb_unit.proofs.Queueing.{room-nil}
use Rattle.pb_unit.proofs.Sweeping.{terms_all}

at_last : (ps : List (Option Constraint)) (o : Option Constraint) (p : ℕ) → p ≡ length ps → at_place (ps ++ o ∷ []) p ≡ o
at_last ps o p e = get_or_push ps o None p (sym e)

at_other : (ps : List (Option Constraint)) (o : Option Constraint) (p : ℕ) → (p ≡ length ps → ⊥) → at_place (ps ++ o ∷ []) p ≡ at_place ps p
at_other ps o p ne = elim (cases_lt p (length ps)) [
  | inl below ↦ get_or_append_left ps (o ∷ []) None p below
  | inr past ↦ get_or_past (ps ++ o ∷ []) p None (omega (arith, length-append ps (o ∷ []), past, ne)) ∙ sym (get_or_past ps p None past)
]

abbrev none : Counters
none = record { room = 0; alert = 0 }

kept_last : (ks : List Counters) (k : Counters) (p : ℕ) → p ≡ length ks → get_or (ks ++ k ∷ []) p none ≡ k
kept_last ks k p e = get_or_push ks k none p (sym e)

kept_other : (ks : List Counters) (k : Counters) (p : ℕ) → (p ≡ length ks → ⊥) → get_or (ks ++ k ∷ []) p none ≡ get_or ks p none
kept_other ks k p ne = elim (cases_lt p (length ks)) [
  | inl below ↦ get_or_append_left ks (k ∷ []) none p below
  | inr past ↦ get_or_past (ks ++ k ∷ []) p none (omega (arith, length-append ks (k ∷ []), past, ne)) ∙ sym (get_or_past ks p none past)
]

pub laid_none : (tight : List ℕ) → AreLaid [] [] tight
laid_none tight = record {
  even = refl;
  narrow = λ p c at. let no : ⊥ = cc (nothing_at p, at) in absurd no;
  rooms = λ p. no_room p ∙ sym (ap (λ (o : Option Constraint). weight (terms_in o)) (nothing_at p));
  alerts = λ p c at. let no : ⊥ = cc (nothing_at p, at) in absurd no;
  listed = λ p c at. let no : ⊥ = cc (nothing_at p, at) in absurd no;
}
  where
    nothing_at : (p : ℕ) → at_place [] p ≡ None
    nothing_at zero = refl
    nothing_at (suc p) = refl

    no_room : (p : ℕ) → room_at [] p ≡ 0
    no_room zero = refl
    no_room (suc p) = refl

pub laid_more : (ps : List (Option Constraint)) (ks : List Counters) (tight tight' : List ℕ) (o : Option Constraint) (k : Counters) → AreLaid ps ks tight → IsKeptOf o k
    → (k.alert ≤ k.room) ⊎ Contains tight' (length ps) → ((p : ℕ) → Contains tight p → Contains tight' p) → AreLaid (ps ++ o ∷ []) (ks ++ k ∷ []) tight'
laid_more ps ks tight tight' o k h fit here more = record {
  even = omega (arith, h.even, length-append ks (k ∷ []), length-append ps (o ∷ []));
  narrow = λ p d at. elim (cases_eq p (length ps)) [
    | inl e ↦ omega (arith, fit.narrow, ap (λ (x : Option Constraint). weight (terms_in x)) (is p d e at))
    | inr ne ↦ h.narrow p d (sym (at_other ps o p ne) ∙ at)
  ];
  rooms = λ p. elim (cases_eq p (length ps)) [
    | inl e ↦ ap (λ (x : Counters). x.room) (kept_last ks k p (e ∙ sym h.even)) ∙ (fit.room ∙ ap (λ (o : Option Constraint). weight (terms_in o)) (sym (at_last ps o p e)))
    | inr ne ↦ ap (λ (x : Counters). x.room) (kept_other ks k p (λ i. ne (i ∙ h.even))) ∙ (h.rooms p ∙ ap (λ (o : Option Constraint). weight (terms_in o)) (sym (at_other ps o p ne)))
  ];
  alerts = λ p d at. elim (cases_eq p (length ps)) [
    | inl e ↦ subst (λ (a : ℕ). IsAlert a d) (sym (ap (λ (x : Counters). x.alert) (kept_last ks k p (e ∙ sym h.even)))) (fit.alert d (is p d e at))
    | inr ne ↦ subst (λ (a : ℕ). IsAlert a d) (sym (ap (λ (x : Counters). x.alert) (kept_other ks k p (λ i. ne (i ∙ h.even))))) (h.alerts p d (sym (at_other ps o p ne) ∙ at))
  ];
  listed = λ p d at. elim (cases_eq p (length ps)) [
    | inl e ↦
        let there : alert_at (ks ++ k ∷ []) p ≡ k.alert = ap (λ (x : Counters). x.alert) (kept_last ks k p (e ∙ sym h.even)) in
        elim here [
          | inl enough ↦ inl (omega (arith, enough, fit.room, there, ap (λ (x : Option Constraint). weight (terms_in x)) (is p d e at)))
          | inr listed ↦ inr (subst (Contains tight') (sym e) listed)
        ]
    | inr ne ↦ elim (h.listed p d (sym (at_other ps o p ne) ∙ at)) [
      | inl enough ↦ inl (omega (arith, enough, ap (λ (x : Counters). x.alert) (kept_other ks k p (λ i. ne (i ∙ h.even)))))
      | inr there ↦ inr (more p there)
    ]
  ];
}
  where
    is : (p : ℕ) (d : Constraint) → p ≡ length ps → Stands (ps ++ o ∷ []) p d → o ≡ Some d
    is p d e at = sym (at_last ps o p e) ∙ at

-- of a clause
weight-units : (ls : List Lit) → weight (map unit ls) ≡ length ls
weight-units [] = refl
weight-units (l ∷ ls) =
    let all : weight (unit l ∷ map unit ls) ≡ 1 + weight (map unit ls) = sum_by-cons (λ (t : Weighted). t.coef) (unit l) (map unit ls) in
    omega (arith, all, weight-units ls)

alert-units : (ls : List Lit) → All (λ (t : Weighted). t.coef + 1 ≤ 2) (map unit ls)
alert-units [] = All-nil (λ (t : Weighted). t.coef + 1 ≤ 2)
alert-units (l ∷ ls) = All-cons (λ (t : Weighted). t.coef + 1 ≤ 2) (unit l) (map unit ls) (omega arith) (alert-units ls)

pub clause_kept : (ls : List Lit) → length ls < 2 ^ 64 → IsKeptOf (Some (clause_of ls)) (record { room = length ls; alert = 2 })
clause_kept ls short = record {
  room = sym (weight-units ls);
  narrow = omega (arith, weight-units ls, short);
  alert = λ c e. let is : clause_of ls ≡ c = cc in subst (IsAlert 2) is (record { degree = omega arith; terms = alert-units ls });
}

-- with the index all is there
pub store_laid : (vars : ℕ) (ps : List (Option Constraint)) (lists : Lists) (ks : List Counters) (tight : List ℕ) → AreLaid ps ks tight → IsFilled vars ps lists → IsStore vars ps lists ks tight
store_laid vars ps lists ks tight h f = record {
  counts = record {
    inner = map terms_in ps;
    size = h.even ∙ sym (length-map ps terms_in);
    longer = omega (arith, h.even);
    same = λ p c at. terms_all ps p ∙ ap terms_in at;
    narrow = λ p. omega (arith, ap weight (terms_all ps p), narrow_at (at_place ps p) p refl);
    width = f.width;
    sums = λ l p. f.sums l p ∙ ap (λ (ts : List Weighted). coef_of ts l) (sym (terms_all ps p));
    known = λ l k d below. omega (arith, f.known l k d below, h.even);
    rooms = λ p. h.rooms p ∙ (ap weight (sym (terms_all ps p)) ∙ sym (room-nil (terms_at (map terms_in ps) p)));
    alerts = h.alerts;
  };
  listed = h.listed;
  even = h.even;
}
  where
    narrow_at : (o : Option Constraint) (p : ℕ) → at_place ps p ≡ o → weight (terms_in o) ≤ 2 ^ 126
    narrow_at None p e = omega arith
    narrow_at (Some c) p e = h.narrow p c e
