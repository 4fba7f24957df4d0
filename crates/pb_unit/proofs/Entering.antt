-- Terms that come into the index.
use Rattle.std.proofs.Common.{◌≡◌, ◌≤◌, ◌<◌, ◌+◌, ◌*◌, ◌^◌, inl, inr, ℕ, zero, suc, Bool, true, false, cond, List, [], ◌∷◌, ◌++◌, Option, None, arith, length, get_or, set, take, drop, refl, ap, sym, ◌∙◌, subst, length-append}
use Rattle.std.specs.Prelude.{All, sum_by}
use Rattle.std.proofs.lemmas.Bool.{cases_Bool, cases_eq, both_ways}
use Rattle.std.proofs.lemmas.List.{get_or-set_same, get_or-set_other, length-set, take_more, map-append, take-append-drop}
use Rattle.std.proofs.lemmas.List.Elements.{All-cons, All-append, All-push, All-weaker}
use Rattle.std.proofs.lemmas.List.Sums.{sum_by-cons, sum_by-append, sum_by-le-sum_by}
use Rattle.pb_base.specs.declared.literal.Lit.{Lit}
use Rattle.pb_base.specs.Literals.{is_same}
use Rattle.pb_base.proofs.LiteralLemmas.{same_lit, is_same-refl}
use Rattle.pb_norm.specs.Constraints.{Weighted, Constraint, weight, weighted, weights}
use Rattle.pb_base.specs.declared.literal.Term.{Term}
use Rattle.pb_norm.specs.Propagation.{room}
use Rattle.pb_unit.specs.declared.index.Occurrence.{Occurrence}
use Rattle.pb_unit.specs.declared.kept.Counters.{Counters}
use Rattle.pb_unit.specs.States.{at_place}
use Rattle.pb_unit.specs.Steps.{IsAlert}
use Rattle.pb_unit.specs.Index.{Lists, coef_of, sum_at, code, list_at, terms_at, room_at, IsPushed, AreSame, IsCounted, IsEntered, AreLowered}
use Rattle.pb_unit.proofs.Telling.{parts_all, sum_at-here, sum_at-elsewhere, sum_at-append}
use Rattle.pb_unit.proofs.Queueing.{room-nil}

-- two literals with one number are the same
pub same_code : (k l : Lit) → code k ≡ code l → k ≡ l
same_code k l e = by_signs k.positive l.positive e
  where
    lit : ℕ → Bool → Lit
    lit v p = record { var = v; positive = p }

    by_signs : (p q : Bool) → 2 * k.var + cond p 1 0 ≡ 2 * l.var + cond q 1 0 → lit k.var p ≡ lit l.var q
    by_signs true true h = let e : k.var ≡ l.var = omega (arith, h) in ap (λ (v : ℕ). lit v true) e
    by_signs true false h = absurd (omega (arith, h))
    by_signs false true h = absurd (omega (arith, h))
    by_signs false false h = let e : k.var ≡ l.var = omega (arith, h) in ap (λ (v : ℕ). lit v false) e

coef_of-one : (t : Weighted) (l : Lit) → coef_of (t ∷ []) l ≡ cond (is_same t.lit l) t.coef 0
coef_of-one t l =
    let f : Weighted → ℕ = λ t. cond (is_same t.lit l) t.coef 0 in
    let one : sum_by f (t ∷ []) ≡ f t + 0 = sum_by-cons f t [] in
    let result : sum_by f (t ∷ []) ≡ f t = omega (arith, one) in
    result

pub coef_of-push : (ts : List Weighted) (t : Weighted) (l : Lit) → coef_of (ts ++ t ∷ []) l ≡ coef_of ts l + cond (is_same t.lit l) t.coef 0
coef_of-push ts t l = sum_by-append (λ (t : Weighted). cond (is_same t.lit l) t.coef 0) ts (t ∷ []) ∙ ap (λ (n : ℕ). coef_of ts l + n) (coef_of-one t l)

pub weight-push : (ts : List Weighted) (t : Weighted) → weight (ts ++ t ∷ []) ≡ weight ts + t.coef
weight-push ts t =
    let f : Weighted → ℕ = λ t. t.coef in
    let one : sum_by f (t ∷ []) ≡ f t + 0 = sum_by-cons f t [] in
    let all : sum_by f (ts ++ t ∷ []) ≡ sum_by f ts + sum_by f (t ∷ []) = sum_by-append f ts (t ∷ []) in
    omega (arith, one, all)

pub code-within : (vars : ℕ) (l : Lit) → l.var ≤ vars → code l < 2 * vars + 2
code-within vars l h = by_sign l.positive
  where
    by_sign : (b : Bool) → 2 * l.var + cond b 1 0 < 2 * vars + 2
    by_sign true = omega (arith, h)
    by_sign false = omega (arith, h)

-- ---- the list of one literal with an occurrence more

pub other_code : (k l : Lit) → is_same k l ≡ false → code l ≡ code k → ⊥
other_code k l e h = both_ways (is_same k l) e (ap (is_same k) (same_code l k h) ∙ is_same-refl k)

pub sums_more : (lists lists' : Lists) (o : Occurrence) (t : Weighted) (l : Lit) (p : ℕ) → IsPushed t.lit o lists lists' → sum_at p (list_at lists' l) ≡ sum_at p (list_at lists l) + cond (is_same t.lit l) (sum_at p (o ∷ [])) 0
sums_more lists lists' o t l p pushed = elim (cases_Bool (is_same t.lit l)) [
  | inl same ↦
      let here : sum_at p (list_at lists' t.lit) ≡ sum_at p (list_at lists t.lit) + sum_at p (o ∷ []) = omega (arith, ap (sum_at p) pushed.was, ap (sum_at p) pushed.is, sum_at-append p pushed.front pushed.back, sum_at-append p pushed.front (o ∷ pushed.back), sum_at-append p (o ∷ []) pushed.back) in
      subst (λ (m : Lit). sum_at p (list_at lists' m) ≡ sum_at p (list_at lists m) + cond (is_same t.lit l) (sum_at p (o ∷ [])) 0) (same_lit t.lit l same)
      (here ∙ ap (λ (b : Bool). sum_at p (list_at lists t.lit) + cond b (sum_at p (o ∷ [])) 0) (sym same))
  | inr other ↦
      ap (sum_at p) (pushed.elsewhere l (other_code t.lit l other)) ∙
      (plain (sum_at p (list_at lists l)) ∙
      ap (λ (b : Bool). sum_at p (list_at lists l) + cond b (sum_at p (o ∷ [])) 0) (sym other))
]
  where
    plain : (n : ℕ) → n ≡ n + 0
    plain n = omega arith

known_more : (Q : Occurrence → Type 0) (lists lists' : Lists) (o : Occurrence) (l m : Lit) → IsPushed l o lists lists' → Q o → ((k : Lit) → All Q (list_at lists k)) → All Q (list_at lists' m)
known_more Q lists lists' o l m pushed here all = elim (cases_Bool (is_same l m)) [
  | inl same ↦
      let parts = parts_all Q pushed.front pushed.back (subst (All Q) pushed.was (all l)) in
      let there : All Q (list_at lists' l) = subst (All Q) (sym pushed.is) (All-append Q pushed.front (o ∷ pushed.back) parts.0 (All-cons Q o pushed.back here parts.1)) in
      subst (λ (k : Lit). All Q (list_at lists' k)) (same_lit l m same) there
  | inr other ↦ subst (All Q) (sym (pushed.elsewhere m (other_code l m other))) (all m)
]

-- one term more was entered
pub entered_more : (vars : ℕ) (ps : List (Option Constraint)) (lists lists' : Lists) (kept kept' : List Counters) (place : ℕ) (ts : List Weighted) (o : Occurrence) (t : Weighted) → IsPushed t.lit o lists lists' → o.place ≡ place → o.coef ≡ t.coef → t.lit.var ≤ vars → at_place ps place ≡ None → place < length kept → room_at kept place + t.coef ≤ 2 ^ 126 → AreLowered (o ∷ []) kept' kept → IsEntered vars ps lists kept place ts → IsEntered vars ps lists' kept' place (ts ++ t ∷ [])
entered_more vars ps lists lists' kept kept' place ts o t pushed at coef within empty below fits low h = record {
  counts = record {
    inner = set h.counts.inner place (ts ++ t ∷ []);
    size = sym low.size ∙ (h.counts.size ∙ sym (length-set h.counts.inner place (ts ++ t ∷ [])));
    longer = omega (arith, h.counts.longer, low.size);
    same = λ p c stands. elim (cases_eq p place) [
      | inl e ↦ let no : ⊥ = cc (ap (at_place ps) e, stands, empty) in absurd no
      | inr ne ↦ get_or-set_other h.counts.inner place p (ts ++ t ∷ []) [] ne ∙ h.counts.same p c stands
    ];
    narrow = λ p. elim (cases_eq p place) [
      | inl e ↦ omega (arith, ap weight (terms_here p e), weight-push ts t, full, fits)
      | inr ne ↦ omega (arith, ap weight (terms_other p ne), h.counts.narrow p)
    ];
    width = pushed.size ∙ h.counts.width;
    sums = λ l p. elim (cases_eq p place) [
      | inl e ↦ sums_here l p e
      | inr ne ↦ sums_other l p ne
    ];
    known = λ l. known_more (λ (o : Occurrence). o.place < length kept') lists lists' o t.lit l pushed (omega (arith, at, below, low.size)) wider;
    rooms = λ p. elim (cases_eq p place) [
      | inl e ↦ room_here p e
      | inr ne ↦ omega (arith, ap (room []) (terms_other p ne), h.counts.rooms p, low.rooms p, sum_at-elsewhere p o (λ e. ne (sym e ∙ at)))
    ];
    alerts = λ p c stands. subst (λ (a : ℕ). IsAlert a c) (low.alerts p) (h.counts.alerts p c stands);
  };
  terms = terms_here place refl;
}
  where
    wider : (l : Lit) → All (λ (o : Occurrence). o.place < length kept') (list_at lists l)
    wider l k d lt = omega (arith, h.counts.known l k d lt, low.size)

    terms_here : (p : ℕ) → p ≡ place → terms_at (set h.counts.inner place (ts ++ t ∷ [])) p ≡ ts ++ t ∷ []
    terms_here p e = ap (terms_at (set h.counts.inner place (ts ++ t ∷ []))) e ∙ get_or-set_same h.counts.inner place (ts ++ t ∷ []) [] (omega (arith, h.counts.size, below))

    terms_other : (p : ℕ) → (p ≡ place → ⊥) → terms_at (set h.counts.inner place (ts ++ t ∷ [])) p ≡ terms_at h.counts.inner p
    terms_other p ne = get_or-set_other h.counts.inner place p (ts ++ t ∷ []) [] ne

    full : room_at kept place ≡ weight ts
    full = h.counts.rooms place ∙ (ap (room []) h.terms ∙ room-nil ts)

    room_here : (p : ℕ) → p ≡ place → room_at kept' p ≡ room [] (terms_at (set h.counts.inner place (ts ++ t ∷ [])) p)
    room_here p e =
        let e' : o.place ≡ p = at ∙ sym e in
        let new : sum_at p (o ∷ []) ≡ t.coef = ap (λ (i : ℕ). sum_at i (o ∷ [])) (sym e') ∙ (sum_at-here o ∙ coef) in
        let before : room_at kept p ≡ weight ts = ap (room_at kept) e ∙ full in
        let all : room_at kept' p ≡ weight (ts ++ t ∷ []) = omega (arith, low.rooms p, new, before, weight-push ts t) in
        all ∙ sym (ap (room []) (terms_here p e) ∙ room-nil (ts ++ t ∷ []))

    sums_here : (l : Lit) (p : ℕ) → p ≡ place → sum_at p (list_at lists' l) ≡ coef_of (terms_at (set h.counts.inner place (ts ++ t ∷ [])) p) l
    sums_here l p e =
        let e' : o.place ≡ p = at ∙ sym e in
        let new : sum_at p (o ∷ []) ≡ t.coef = ap (λ (i : ℕ). sum_at i (o ∷ [])) (sym e') ∙ (sum_at-here o ∙ coef) in
        let before : sum_at p (list_at lists l) ≡ coef_of ts l = h.counts.sums l p ∙ ap (λ (us : List Weighted). coef_of us l) (ap (terms_at h.counts.inner) e ∙ h.terms) in
        sums_more lists lists' o t l p pushed ∙
        (ap (λ (n : ℕ). sum_at p (list_at lists l) + cond (is_same t.lit l) n 0) new ∙
        (ap (λ (n : ℕ). n + cond (is_same t.lit l) t.coef 0) before ∙
        (sym (coef_of-push ts t l) ∙ ap (λ (us : List Weighted). coef_of us l) (sym (terms_here p e)))))

    sums_other : (l : Lit) (p : ℕ) → (p ≡ place → ⊥) → sum_at p (list_at lists' l) ≡ coef_of (terms_at (set h.counts.inner place (ts ++ t ∷ [])) p) l
    sums_other l p ne =
        sums_more lists lists' o t l p pushed ∙
        (ap (λ (n : ℕ). sum_at p (list_at lists l) + cond (is_same t.lit l) n 0) (sum_at-elsewhere p o (λ e. ne (sym e ∙ at))) ∙
        (nothing (sum_at p (list_at lists l)) (is_same t.lit l) ∙
        (h.counts.sums l p ∙ ap (λ (us : List Weighted). coef_of us l) (sym (terms_other p ne)))))
      where
        nothing : (n : ℕ) (b : Bool) → n + cond b 0 0 ≡ n
        nothing n true = omega arith
        nothing n false = omega arith

-- ---- terms as the code keeps them

pub weights-more : (ts : List Term) (i : ℕ) (t : Term) → i < length ts → t ≡ get_or ts i t → weights (take (i + 1) ts) ≡ weights (take i ts) ++ weighted t ∷ []
weights-more ts i t below at =
    ap weights (take_more ts i t below ∙ ap (λ (x : Term). take i ts ++ x ∷ []) (sym at)) ∙ map-append weighted (take i ts) (t ∷ [])

front_fits : (ts : List Term) (i : ℕ) (t : Term) → i < length ts → t ≡ get_or ts i t → weight (weights (take i ts)) + (weighted t).coef ≤ weight (weights ts)
front_fits ts i t below at =
    let f : Weighted → ℕ = λ t. t.coef in
    let all : weights ts ≡ weights (take (i + 1) ts) ++ weights (drop (i + 1) ts) = ap weights (sym (take-append-drop (i + 1) ts)) ∙ map-append weighted (take (i + 1) ts) (drop (i + 1) ts) in
    let parts : sum_by f (weights ts) ≡ sum_by f (weights (take (i + 1) ts)) + sum_by f (weights (drop (i + 1) ts)) = ap (sum_by f) all ∙ sum_by-append f (weights (take (i + 1) ts)) (weights (drop (i + 1) ts)) in
    let front : sum_by f (weights (take (i + 1) ts)) ≡ sum_by f (weights (take i ts)) + (weighted t).coef = ap (sum_by f) (weights-more ts i t below at) ∙ weight-push (weights (take i ts)) (weighted t) in
    let result : sum_by f (weights (take i ts)) + (weighted t).coef ≤ sum_by f (weights ts) = omega (arith, parts, front) in
    result

pub coef_fits : (ts : List Term) (i : ℕ) (t : Term) → i < length ts → t ≡ get_or ts i t → weight (weights ts) ≤ 2 ^ 126 → (weighted t).coef ≤ 2 ^ 126
coef_fits ts i t below at fits = omega (arith, front_fits ts i t below at, fits)

pub entered_fits : (vars : ℕ) (ps : List (Option Constraint)) (lists : Lists) (kept : List Counters) (place : ℕ) (ts : List Term) (i : ℕ) (t : Term) → i < length ts → t ≡ get_or ts i t → IsEntered vars ps lists kept place (weights (take i ts)) → weight (weights ts) ≤ 2 ^ 126 → room_at kept place + (weighted t).coef ≤ 2 ^ 126
entered_fits vars ps lists kept place ts i t below at h fits =
    let full : room_at kept place ≡ weight (weights (take i ts)) = h.counts.rooms place ∙ (ap (room []) h.terms ∙ room-nil (weights (take i ts))) in
    omega (arith, full, front_fits ts i t below at, fits)

pub greatest_more : (ts : List Term) (i : ℕ) (t : Term) (greatest g : ℕ) → i < length ts → t ≡ get_or ts i t → greatest ≤ g → (weighted t).coef ≤ g → All (λ (t : Weighted). t.coef ≤ greatest) (weights (take i ts)) → All (λ (t : Weighted). t.coef ≤ g) (weights (take (i + 1) ts))
greatest_more ts i t greatest g below at more here all =
    subst (All (λ (t : Weighted). t.coef ≤ g)) (sym (weights-more ts i t below at))
    (All-push (λ (t : Weighted). t.coef ≤ g) (weights (take i ts)) (weighted t) (All-weaker (λ (t : Weighted). t.coef ≤ greatest) (λ (t : Weighted). t.coef ≤ g) (λ u h. omega (arith, h, more)) (weights (take i ts)) all) here)

pub alert_all : (c : Constraint) (ts : List Weighted) (greatest alert : ℕ) → ts ≡ c.terms → c.degree + greatest ≡ alert → All (λ (t : Weighted). t.coef ≤ greatest) ts → IsAlert alert c
alert_all c ts greatest alert same e all = record {
  degree = omega (arith, e);
  terms = subst (All (λ (t : Weighted). t.coef + c.degree ≤ alert)) same (All-weaker (λ (t : Weighted). t.coef ≤ greatest) (λ (t : Weighted). t.coef + c.degree ≤ alert) (λ u h. omega (arith, h, e)) ts all);
}

-- ---- an entry more, and terms from none

pub get_or-push_default : {X : Type 0} (xs : List X) (d : X) (p : ℕ) → get_or (xs ++ d ∷ []) p d ≡ get_or xs p d
get_or-push_default [] d zero = refl
get_or-push_default [] d (suc p) = refl
get_or-push_default (x ∷ xs) d zero = refl
get_or-push_default (x ∷ xs) d (suc p) = get_or-push_default xs d p

pub counted_wider : (vars : ℕ) (ps : List (Option Constraint)) (lists : Lists) (kept : List Counters) → IsCounted vars ps lists kept [] → IsCounted vars ps lists (kept ++ record { room = 0; alert = 0 } ∷ []) []
counted_wider vars ps lists kept h = record {
  inner = h.inner ++ [] ∷ [];
  size = omega (arith, length-append kept (none ∷ []), length-append h.inner (empty ∷ []), h.size);
  longer = omega (arith, length-append kept (none ∷ []), h.longer);
  same = λ p c at. terms p ∙ h.same p c at;
  narrow = λ p. omega (arith, ap weight (terms p), h.narrow p);
  width = h.width;
  sums = λ l p. h.sums l p ∙ ap (λ (ts : List Weighted). coef_of ts l) (sym (terms p));
  known = λ l k d below. omega (arith, h.known l k d below, length-append kept (none ∷ []));
  rooms = λ p. ap (λ (x : Counters). x.room) (get_or-push_default kept none p) ∙ (h.rooms p ∙ ap (room []) (sym (terms p)));
  alerts = λ p c at. subst (λ (a : ℕ). IsAlert a c) (ap (λ (x : Counters). x.alert) (sym (get_or-push_default kept none p))) (h.alerts p c at);
}
  where
    none : Counters
    none = record { room = 0; alert = 0 }

    empty : List Weighted
    empty = []

    terms : (p : ℕ) → terms_at (h.inner ++ [] ∷ []) p ≡ terms_at h.inner p
    terms p = get_or-push_default h.inner [] p

pub coef_of-le : (ts : List Weighted) (l : Lit) → coef_of ts l ≤ weight ts
coef_of-le ts l = sum_by-le-sum_by (λ (t : Weighted). cond (is_same t.lit l) t.coef 0) (λ (t : Weighted). t.coef) ts (λ t. compare t.coef (is_same t.lit l))
  where
    compare : (n : ℕ) (b : Bool) → cond b n 0 ≤ n
    compare n true = omega arith
    compare n false = omega arith

-- terms without weight are as none
pub entered_none : (vars : ℕ) (ps : List (Option Constraint)) (lists : Lists) (kept : List Counters) (place : ℕ) → IsCounted vars ps lists kept [] → room_at kept place ≡ 0 → at_place ps place ≡ None → place < length kept → IsEntered vars ps lists kept place []
entered_none vars ps lists kept place h unused empty below = record {
  counts = record {
    inner = set h.inner place [];
    size = h.size ∙ sym (length-set h.inner place []);
    longer = h.longer;
    same = λ p c stands. elim (cases_eq p place) [
      | inl e ↦ let no : ⊥ = cc (ap (at_place ps) e, stands, empty) in absurd no
      | inr ne ↦ get_or-set_other h.inner place p [] [] ne ∙ h.same p c stands
    ];
    narrow = λ p. elim (cases_eq p place) [
      | inl e ↦ omega (arith, ap weight (here p e))
      | inr ne ↦ omega (arith, ap weight (get_or-set_other h.inner place p [] [] ne), h.narrow p)
    ];
    width = h.width;
    sums = λ l p. elim (cases_eq p place) [
      | inl e ↦
          let nothing : coef_of (terms_at h.inner p) l ≡ 0 = omega (arith, coef_of-le (terms_at h.inner p) l, weightless p e) in
          h.sums l p ∙ (nothing ∙ sym (ap (λ (ts : List Weighted). coef_of ts l) (here p e)))
      | inr ne ↦ h.sums l p ∙ ap (λ (ts : List Weighted). coef_of ts l) (sym (get_or-set_other h.inner place p [] [] ne))
    ];
    known = h.known;
    rooms = λ p. elim (cases_eq p place) [
      | inl e ↦ ap (room_at kept) e ∙ (unused ∙ sym (ap (room []) (here p e)))
      | inr ne ↦ h.rooms p ∙ ap (room []) (sym (get_or-set_other h.inner place p [] [] ne))
    ];
    alerts = h.alerts;
  };
  terms = here place refl;
}
  where
    here : (p : ℕ) → p ≡ place → terms_at (set h.inner place []) p ≡ []
    here p e = ap (terms_at (set h.inner place [])) e ∙ get_or-set_same h.inner place [] [] (omega (arith, h.size, below))

    weightless : (p : ℕ) → p ≡ place → weight (terms_at h.inner p) ≡ 0
    weightless p e = sym (room-nil (terms_at h.inner p)) ∙ (sym (h.rooms p) ∙ (ap (room_at kept) e ∙ unused))

pub counted_pushed : (b : Bool) (vars : ℕ) (ps : List (Option Constraint)) (lists : Lists) (kept : List Counters) → IsCounted vars ps lists kept [] → IsCounted vars ps lists (cond b (kept ++ record { room = 0; alert = 0 } ∷ []) kept) []
counted_pushed true vars ps lists kept h = counted_wider vars ps lists kept h
counted_pushed false vars ps lists kept h = h

-- the same occurrences
pub counted_same : (vars : ℕ) (ps : List (Option Constraint)) (lists lists' : Lists) (kept : List Counters) (counted : List Lit) → AreSame lists lists' → IsCounted vars ps lists kept counted → IsCounted vars ps lists' kept counted
counted_same vars ps lists lists' kept counted same h = record {
  inner = h.inner;
  size = h.size;
  longer = h.longer;
  same = h.same;
  narrow = h.narrow;
  width = same.size ∙ h.width;
  sums = λ l p. ap (sum_at p) (same.lists l) ∙ h.sums l p;
  known = λ l. subst (All (λ (o : Occurrence). o.place < length kept)) (sym (same.lists l)) (h.known l);
  rooms = h.rooms;
  alerts = h.alerts;
}
