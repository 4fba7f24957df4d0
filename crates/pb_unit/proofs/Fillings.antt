-- The index of the first constraints, a range of literals at a time.
use Rattle.std.proofs.Common.{◌≡◌, ◌≤◌, ◌<◌, ◌+◌, ◌*◌, inl, inr, ℕ, zero, suc, Bool, true, false, cond, List, [], ◌∷◌, ◌++◌, Option, Some, None, map, arith, length, get_or, take, refl, ap, sym, ◌∙◌, subst, length-append}
use Rattle.std.specs.Prelude.{All, sum_by}
use Rattle.std.proofs.lemmas.Bool.{cases_Bool, cases_eq, cases_lt}
use Rattle.std.proofs.lemmas.List.{get_or_push, get_or_append_left, get_or_past, length-map, get_or-map, map_more, map_push, length-take-le}
use Rattle.std.proofs.lemmas.List.Elements.{All-nil, All-cons, All-head, All-tail, All-append, All-weaker}
use Rattle.std.proofs.lemmas.List.Sums.{sum_by-cons}
use Rattle.pb_base.specs.declared.literal.Lit.{Lit}
use Rattle.pb_base.specs.declared.literal.Term.{Term}
use Rattle.pb_base.specs.Literals.{is_same}
use Rattle.pb_base.proofs.LiteralLemmas.{same_lit}
use Rattle.pb_norm.specs.Constraints.{Weighted, Constraint, HasVarsWithin, weighted, weights}
use Rattle.pb_unit.specs.declared.index.Occurrence.{Occurrence}
use Rattle.pb_unit.specs.declared.places.Slot.{Slot}
use Rattle.pb_unit.specs.inner.Slots.{slot_at}
use Rattle.pb_unit.specs.States.{at_place, StandWithin}
use Rattle.pb_unit.specs.Index.{Lists, code, coef_of, sum_at, list_at, size_of, terms_at, IsPushed}
use Rattle.pb_unit.specs.inner.Filling.{terms_in, AddsPlace, AddsTerm, IsFilled, IsFilledAt, IsFilling, IsInRange}
use Rattle.pb_unit.proofs.Telling.{parts_all, sum_at-here, sum_at-elsewhere}
use Rattle.pb_unit.proofs.Entering.{same_code, other_code, sums_more, coef_of-push, code-within}
use Rattle.pb_unit.proofs.Sweeping.{terms_all}

-- ---- terms at the last place

terms_last : (front : List (List Weighted)) (ts : List Weighted) (p : ℕ) → p ≡ length front → terms_at (front ++ ts ∷ []) p ≡ ts
terms_last front ts p e = get_or_push front ts [] p (sym e)

terms_before : (front : List (List Weighted)) (ts : List Weighted) (p : ℕ) → (p ≡ length front → ⊥) → terms_at (front ++ ts ∷ []) p ≡ terms_at front p
terms_before front ts p ne = elim (cases_lt p (length front)) [
  | inl below ↦ get_or_append_left front (ts ∷ []) [] p below
  | inr past ↦
      get_or_past (front ++ ts ∷ []) p [] (omega (arith, length-append front (ts ∷ []), past, ne)) ∙ sym (get_or_past front p [] past)
]

-- another literal has none of a term
none_of : (t : Weighted) (l : Lit) → is_same t.lit l ≡ false → (ts : List Weighted) → coef_of (ts ++ t ∷ []) l ≡ coef_of ts l
none_of t l other ts = coef_of-push ts t l ∙ (ap (λ (b : Bool). coef_of ts l + cond b t.coef 0) other ∙ (let none : coef_of ts l + 0 ≡ coef_of ts l = omega arith in none))

-- ---- one more term

apart : (low high : ℕ) (t : Weighted) (l : Lit) → (IsInRange low high t.lit → ⊥) → IsInRange low high l → is_same t.lit l ≡ false
apart low high t l out in_range = elim (cases_Bool (is_same t.lit l)) [
  | inl same ↦ absurd (out (subst (IsInRange low high) (sym (same_lit t.lit l same)) in_range))
  | inr other ↦ other
]

-- a term whose literal is out of the range changes nothing
pub skipped_term : (low high place : ℕ) (t : Weighted) (lists : Lists) → (IsInRange low high t.lit → ⊥) → AddsTerm low high place t lists lists
skipped_term low high place t lists out start front ts at h = record {
  size = h.size;
  filled = λ l r p. h.filled l r p ∙ same l r p;
  known = λ l r. subst (λ (n : ℕ). All (λ (o : Occurrence). o.place < n) (list_at lists l)) long (h.known l r);
  others = h.others;
}
  where
    long : length (front ++ ts ∷ []) ≡ length (front ++ (ts ++ t ∷ []) ∷ [])
    long = omega (arith, length-append front (ts ∷ []), length-append front ((ts ++ t ∷ []) ∷ []))

    same : (l : Lit) → IsInRange low high l → (p : ℕ) → coef_of (terms_at (front ++ ts ∷ []) p) l ≡ coef_of (terms_at (front ++ (ts ++ t ∷ []) ∷ []) p) l
    same l r p = elim (cases_eq p (length front)) [
      | inl e ↦ ap (λ (us : List Weighted). coef_of us l) (terms_last front ts p e) ∙ (sym (none_of t l (apart low high t l out r) ts) ∙ ap (λ (us : List Weighted). coef_of us l) (sym (terms_last front (ts ++ t ∷ []) p e)))
      | inr ne ↦ ap (λ (us : List Weighted). coef_of us l) (terms_before front ts p ne ∙ sym (terms_before front (ts ++ t ∷ []) p ne))
    ]

occurrence : ℕ → Weighted → Occurrence
occurrence place t = record { place = place; coef = t.coef }

pub added_term : (low high place : ℕ) (t : Weighted) (lists lists' : Lists) → IsInRange low high t.lit → IsPushed t.lit (record { place = place; coef = t.coef }) lists lists' → AddsTerm low high place t lists lists'
added_term low high place t lists lists' in_range pushed start front ts at h = record {
  size = pushed.size ∙ h.size;
  filled = λ l r p. sums_more lists lists' o t l p pushed ∙ (ap (λ (n : ℕ). n + cond (is_same t.lit l) (sum_at p (o ∷ [])) 0) (h.filled l r p) ∙ more l p);
  known = λ l r. subst (λ (n : ℕ). All (λ (o : Occurrence). o.place < n) (list_at lists' l)) long (known l r);
  others = λ l out. pushed.elsewhere l (λ e. out (subst (IsInRange low high) (sym (same_code l t.lit e)) in_range)) ∙ h.others l out;
}
  where
    o : Occurrence
    o = record { place = place; coef = t.coef }

    long : length (front ++ ts ∷ []) ≡ length (front ++ (ts ++ t ∷ []) ∷ [])
    long = omega (arith, length-append front (ts ∷ []), length-append front ((ts ++ t ∷ []) ∷ []))

    P : Occurrence → Type 0
    P o = o.place < length (front ++ ts ∷ [])

    known : (l : Lit) → IsInRange low high l → All (λ (o : Occurrence). o.place < length (front ++ ts ∷ [])) (list_at lists' l)
    known l r = elim (cases_Bool (is_same t.lit l)) [
      | inl same ↦
          let parts = parts_all (λ (o : Occurrence). o.place < length (front ++ ts ∷ [])) pushed.front pushed.back (subst (All (λ (o : Occurrence). o.place < length (front ++ ts ∷ []))) pushed.was (h.known t.lit in_range)) in
          let here : o.place < length (front ++ ts ∷ []) = omega (arith, at, length-append front (ts ∷ [])) in
          let there : All (λ (o : Occurrence). o.place < length (front ++ ts ∷ [])) (list_at lists' t.lit) =
          subst (All (λ (o : Occurrence). o.place < length (front ++ ts ∷ []))) (sym pushed.is) (All-append (λ (o : Occurrence). o.place < length (front ++ ts ∷ [])) pushed.front (o ∷ pushed.back) parts.0 (All-cons (λ (o : Occurrence). o.place < length (front ++ ts ∷ [])) o pushed.back here parts.1)) in
          subst (λ (k : Lit). All (λ (o : Occurrence). o.place < length (front ++ ts ∷ [])) (list_at lists' k)) (same_lit t.lit l same) there
      | inr other ↦ subst (All (λ (o : Occurrence). o.place < length (front ++ ts ∷ []))) (sym (pushed.elsewhere l (other_code t.lit l other))) (h.known l r)
    ]

    more : (l : Lit) (p : ℕ) → coef_of (terms_at (front ++ ts ∷ []) p) l + cond (is_same t.lit l) (sum_at p (o ∷ [])) 0 ≡ coef_of (terms_at (front ++ (ts ++ t ∷ []) ∷ []) p) l
    more l p = elim (cases_eq p (length front)) [
      | inl e ↦
          let here : sum_at p (o ∷ []) ≡ t.coef = ap (λ (i : ℕ). sum_at i (o ∷ [])) (e ∙ at) ∙ sum_at-here o in
          ap (λ (us : List Weighted). coef_of us l + cond (is_same t.lit l) (sum_at p (o ∷ [])) 0) (terms_last front ts p e) ∙
          (ap (λ (n : ℕ). coef_of ts l + cond (is_same t.lit l) n 0) here ∙
          (sym (coef_of-push ts t l) ∙ ap (λ (us : List Weighted). coef_of us l) (sym (terms_last front (ts ++ t ∷ []) p e))))
      | inr ne ↦
          ap (λ (n : ℕ). coef_of (terms_at (front ++ ts ∷ []) p) l + cond (is_same t.lit l) n 0) (sum_at-elsewhere p o (λ i. ne (sym i ∙ sym at))) ∙
          (nothing (coef_of (terms_at (front ++ ts ∷ []) p) l) (is_same t.lit l) ∙
          ap (λ (us : List Weighted). coef_of us l) (terms_before front ts p ne ∙ sym (terms_before front (ts ++ t ∷ []) p ne)))
    ]
      where
        nothing : (n : ℕ) (b : Bool) → n + cond b 0 0 ≡ n
        nothing n true = omega arith
        nothing n false = omega arith

-- ---- one more place

pub added_none : (low high place : ℕ) (lists : Lists) → AddsPlace low high place [] lists lists
added_none low high place lists start front at h = record {
  size = h.size;
  filled = λ l r p. h.filled l r p ∙ ap (λ (us : List Weighted). coef_of us l) (sym (same p));
  known = λ l r. All-weaker (λ (o : Occurrence). o.place < length front) (λ (o : Occurrence). o.place < length (front ++ [] ∷ [])) (λ o lt. omega (arith, lt, length-append front (none ∷ []))) (list_at lists l) (h.known l r);
  others = h.others;
}
  where
    none : List Weighted
    none = []

    same : (p : ℕ) → terms_at (front ++ [] ∷ []) p ≡ terms_at front p
    same p = elim (cases_eq p (length front)) [
      | inl e ↦ terms_last front [] p e ∙ sym (get_or_past front p [] (omega (arith, e)))
      | inr ne ↦ terms_before front [] p ne
    ]

pub added_then : (low high place : ℕ) (ts : List Weighted) (t : Weighted) (a b c : Lists) → AddsPlace low high place ts a b → AddsTerm low high place t b c → AddsPlace low high place (ts ++ t ∷ []) a c
added_then low high place ts t a b c f g start front at h = g start front ts at (f start front at h)

pub filling_none : (low high : ℕ) (lists : Lists) → ((l : Lit) → IsInRange low high l → list_at lists l ≡ []) → IsFilling low high lists lists []
filling_none low high lists empty = record {
  size = refl;
  filled = λ l r p. ap (sum_at p) (empty l r) ∙ sym (ap (λ (us : List Weighted). coef_of us l) (no_terms p));
  known = λ l r. subst (All (λ (o : Occurrence). o.place < 0)) (sym (empty l r)) (All-nil (λ (o : Occurrence). o.place < 0));
  others = λ l _. refl;
}
  where
    no_terms : (p : ℕ) → terms_at [] p ≡ []
    no_terms zero = refl
    no_terms (suc p) = refl

pub numbered_at : (n : ℕ) (ts : List Term) (i : ℕ) (t : Term) → i < length ts → t ≡ get_or ts i t → All (λ (u : Weighted). code u.lit < n) (weights ts) → code t.lit < n
numbered_at n ts i t below at all =
    let e : get_or (weights ts) i (weighted t) ≡ weighted t = get_or-map weighted ts i t (weighted t) below ∙ ap weighted (sym at) in
    subst (λ (u : Weighted). code u.lit < n) e (all i (weighted t) (omega (arith, below, length-map ts weighted)))

pub filling_more : (low high : ℕ) (slots : List Slot) (lits : List Lit) (i : ℕ) (slot : Slot) (start a b : Lists) → i < length slots → slot ≡ get_or slots i slot
    → IsFilling low high start a (map terms_in (map (slot_at lits) (take i slots))) → AddsPlace low high i (terms_in (slot_at lits slot)) a b
    → IsFilling low high start b (map terms_in (map (slot_at lits) (take (i + 1) slots)))
filling_more low high slots lits i slot start a b below at h f =
    subst (IsFilling low high start b) (sym more) (f start front (omega (arith, count, length-take-le i slots (omega (arith, below)))) h)
  where
    front : List (List Weighted)
    front = map terms_in (map (slot_at lits) (take i slots))

    count : length front ≡ length (take i slots)
    count = length-map (map (slot_at lits) (take i slots)) terms_in ∙ length-map (take i slots) (slot_at lits)

    more : map terms_in (map (slot_at lits) (take (i + 1) slots)) ≡ front ++ terms_in (slot_at lits slot) ∷ []
    more =
        ap (map terms_in) (map_more (slot_at lits) slots i slot below ∙ ap (λ (s : Slot). map (slot_at lits) (take i slots) ++ slot_at lits s ∷ []) (sym at)) ∙
        map_push terms_in (map (slot_at lits) (take i slots)) (slot_at lits slot)

-- within the variables each literal has a number
numbered_within : (vars : ℕ) (lists : Lists) (ts : List Weighted) → size_of lists ≡ 2 * vars + 2 → HasVarsWithin vars ts → All (λ (t : Weighted). code t.lit < size_of lists) ts
numbered_within vars lists ts width within = All-weaker (λ (t : Weighted). t.lit.var ≤ vars) (λ (t : Weighted). code t.lit < size_of lists) (λ t h. omega (arith, width, code-within vars t.lit h)) ts within

pub slots_numbered : (vars : ℕ) (lists : Lists) (slots : List Slot) (lits : List Lit) (ps : List (Option Constraint)) → size_of lists ≡ 2 * vars + 2 → map (slot_at lits) slots ≡ ps → StandWithin vars ps → All (λ (s : Slot). All (λ (t : Weighted). code t.lit < size_of lists) (terms_in (slot_at lits s))) slots
slots_numbered vars lists slots lits ps width is within k d below = by_slot (slot_at lits (get_or slots k d)) here
  where
    here : at_place ps k ≡ slot_at lits (get_or slots k d)
    here = ap (λ (qs : List (Option Constraint)). at_place qs k) (sym is) ∙ get_or-map (slot_at lits) slots k d None below

    by_slot : (o : Option Constraint) → at_place ps k ≡ o → All (λ (t : Weighted). code t.lit < size_of lists) (terms_in o)
    by_slot None e = All-nil (λ (t : Weighted). code t.lit < size_of lists)
    by_slot (Some c) e = numbered_within vars lists c.terms width (within k c e)

-- ---- one range after another

pub ranged_filled : (low high : ℕ) (a b : Lists) (inner : List (List Weighted)) → IsFilling low high a b inner → ((m : Lit) → code m < low → IsFilledAt a inner m) → (m : Lit) → code m < high → IsFilledAt b inner m
ranged_filled low high a b inner h so_far m below = elim (cases_lt (code m) low) [
  | inl before ↦ λ p. ap (sum_at p) (h.others m (λ r. omega (arith, r.from, before))) ∙ so_far m before p
  | inr from ↦ h.filled m (record { from = from; below = below })
]

pub ranged_known : (low high : ℕ) (a b : Lists) (inner : List (List Weighted)) → IsFilling low high a b inner → ((m : Lit) → code m < low → All (λ (o : Occurrence). o.place < length inner) (list_at a m)) → (m : Lit) → code m < high → All (λ (o : Occurrence). o.place < length inner) (list_at b m)
ranged_known low high a b inner h so_far m below = elim (cases_lt (code m) low) [
  | inl before ↦ subst (All (λ (o : Occurrence). o.place < length inner)) (sym (h.others m (λ r. omega (arith, r.from, before)))) (so_far m before)
  | inr from ↦ h.known m (record { from = from; below = below })
]

-- a literal beyond the variables has no coefficient
beyond_none : (vars : ℕ) (ts : List Weighted) (l : Lit) → HasVarsWithin vars ts → 2 * vars + 2 ≤ code l → coef_of ts l ≡ 0
beyond_none vars [] l within beyond = refl
beyond_none vars (t ∷ ts) l within beyond =
    let f : Weighted → ℕ = λ t. cond (is_same t.lit l) t.coef 0 in
    let here : f t ≡ 0 = elim (cases_Bool (is_same t.lit l)) [
      | inl same ↦ absurd (omega (arith, code-within vars t.lit (All-head (λ (u : Weighted). u.lit.var ≤ vars) t ts within), ap code (same_lit t.lit l same), beyond))
      | inr other ↦ ap (λ (b : Bool). cond b t.coef 0) other
    ] in
    let rest : sum_by f ts ≡ 0 = beyond_none vars ts l (All-tail (λ (u : Weighted). u.lit.var ≤ vars) t ts within) beyond in
    let all : sum_by f (t ∷ ts) ≡ 0 = omega (arith, sum_by-cons f t ts, here, rest) in
    all

pub all_filled : (vars : ℕ) (ps : List (Option Constraint)) (lists : Lists) (low : ℕ) → size_of lists ≡ 2 * vars + 2 → 2 * vars + 2 ≤ low → StandWithin vars ps
    → ((m : Lit) → code m < low → IsFilledAt lists (map terms_in ps) m) → ((m : Lit) → code m < low → All (λ (o : Occurrence). o.place < length (map terms_in ps)) (list_at lists m)) → ((m : Lit) → low ≤ code m → list_at lists m ≡ [])
    → IsFilled vars ps lists
all_filled vars ps lists low width all within filled known rest = record {
  width = width;
  sums = λ l p. elim (cases_lt (code l) low) [
    | inl below ↦ filled l below p ∙ ap (λ (ts : List Weighted). coef_of ts l) (terms_all ps p)
    | inr past ↦ ap (sum_at p) (rest l past) ∙ sym (none_at (at_place ps p) l p refl past)
  ];
  known = λ l. elim (cases_lt (code l) low) [
    | inl below ↦ subst (λ (n : ℕ). All (λ (o : Occurrence). o.place < n) (list_at lists l)) (length-map ps terms_in) (known l below)
    | inr past ↦ subst (All (λ (o : Occurrence). o.place < length ps)) (sym (rest l past)) (All-nil (λ (o : Occurrence). o.place < length ps))
  ];
}
  where
    none_at : (o : Option Constraint) (l : Lit) (p : ℕ) → at_place ps p ≡ o → low ≤ code l → coef_of (terms_in o) l ≡ 0
    none_at None l p e past = refl
    none_at (Some c) l p e past = beyond_none vars c.terms l (within p c e) (omega (arith, all, past))
