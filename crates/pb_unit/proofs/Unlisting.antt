-- Occurrences that are taken out of the index.
use Rattle.std.proofs.Common.{◌≡◌, ◌≤◌, ◌<◌, ◌+◌, inl, inr, ℕ, zero, suc, Bool, true, false, cond, List, [], ◌∷◌, ◌++◌, Option, Some, None, arith, length, get_or, set, take, drop, map, append_assoc, refl, ap, sym, ◌∙◌, subst}
use Rattle.std.specs.Prelude.{All, Contains, IfSome}
use Rattle.std.specs.List.{remove}
use Rattle.std.proofs.Math.Seq.{split_at}
use Rattle.std.proofs.lemmas.Bool.{cases_Bool, cases_eq}
use Rattle.std.proofs.lemmas.List.{get_or-set_same, get_or-set_other, length-set}
use Rattle.std.proofs.lemmas.List.Elements.{All-append}
use Rattle.std.proofs.lemmas.List.Sums.{sum_by-cons}
use Rattle.pb_base.specs.declared.literal.Lit.{Lit}
use Rattle.pb_base.specs.Literals.{is_same}
use Rattle.pb_base.proofs.LiteralLemmas.{same_lit, is_same-refl}
use Rattle.pb_norm.specs.Constraints.{Weighted, Constraint, weight}
use Rattle.pb_norm.specs.Propagation.{room}
use Rattle.pb_unit.specs.declared.index.Occurrence.{Occurrence}
use Rattle.pb_unit.specs.declared.kept.Counters.{Counters}
use Rattle.pb_unit.specs.States.{at_place}
use Rattle.pb_unit.specs.Steps.{IsAlert}
use Rattle.pb_unit.specs.Index.{Lists, code, size_of, units_at, others_at, unit_at, HasOneMore, coef_of, sum_at, list_at, terms_at, room_at, alert_at, IsPushed, IsCounted, IsStore, AreLowered}
use Rattle.pb_unit.proofs.Entering.{other_code, sums_more}
use Rattle.pb_unit.proofs.Queueing.{room-nil}
use Rattle.pb_unit.proofs.Standing.{contains_head, contains_tail, contains_cases}
use Rattle.pb_unit.proofs.Telling.{parts_all, sum_at-here, sum_at-elsewhere}

-- ---- terms of which one literal has less

-- the terms of other literals
abbrev rest : Lit → List Weighted → List Weighted
rest l [] = []
rest l (t ∷ ts) = cond (is_same t.lit l) (rest l ts) (t ∷ rest l ts)

coef_of-cons : (t : Weighted) (ts : List Weighted) (m : Lit) → coef_of (t ∷ ts) m ≡ cond (is_same t.lit m) t.coef 0 + coef_of ts m
coef_of-cons t ts m = sum_by-cons (λ (u : Weighted). cond (is_same u.lit m) u.coef 0) t ts

weight-cons : (t : Weighted) (ts : List Weighted) → weight (t ∷ ts) ≡ t.coef + weight ts
weight-cons t ts = sum_by-cons (λ (u : Weighted). u.coef) t ts

rest-same : (l : Lit) (ts : List Weighted) → coef_of (rest l ts) l ≡ 0
rest-same l [] = refl
rest-same l (t ∷ ts) = by_test (is_same t.lit l) refl (rest-same l ts)
  where
    by_test : (b : Bool) → is_same t.lit l ≡ b → coef_of (rest l ts) l ≡ 0 → coef_of (cond b (rest l ts) (t ∷ rest l ts)) l ≡ 0
    by_test true e h = h
    by_test false e h =
        let first : coef_of (t ∷ rest l ts) l ≡ cond false t.coef 0 + coef_of (rest l ts) l = coef_of-cons t (rest l ts) l ∙ ap (λ (b : Bool). cond b t.coef 0 + coef_of (rest l ts) l) e in
        omega (arith, first, h)

rest-other : (l m : Lit) (ts : List Weighted) → is_same l m ≡ false → coef_of (rest l ts) m ≡ coef_of ts m
rest-other l m [] ne = refl
rest-other l m (t ∷ ts) ne = by_test (is_same t.lit l) refl (rest-other l m ts ne)
  where
    by_test : (b : Bool) → is_same t.lit l ≡ b → coef_of (rest l ts) m ≡ coef_of ts m → coef_of (cond b (rest l ts) (t ∷ rest l ts)) m ≡ coef_of (t ∷ ts) m
    by_test true e h =
        let other : is_same t.lit m ≡ false = ap (λ (k : Lit). is_same k m) (same_lit t.lit l e) ∙ ne in
        let first : coef_of (t ∷ ts) m ≡ cond false t.coef 0 + coef_of ts m = coef_of-cons t ts m ∙ ap (λ (b : Bool). cond b t.coef 0 + coef_of ts m) other in
        omega (arith, first, h)
    by_test false e h = coef_of-cons t (rest l ts) m ∙ (ap (λ (n : ℕ). cond (is_same t.lit m) t.coef 0 + n) h ∙ sym (coef_of-cons t ts m))

rest-weight : (l : Lit) (ts : List Weighted) → weight (rest l ts) + coef_of ts l ≡ weight ts
rest-weight l [] = refl
rest-weight l (t ∷ ts) = by_test (is_same t.lit l) refl (rest-weight l ts)
  where
    own : (b : Bool) → is_same t.lit l ≡ b → coef_of (t ∷ ts) l ≡ cond b t.coef 0 + coef_of ts l
    own b e = coef_of-cons t ts l ∙ ap (λ (c : Bool). cond c t.coef 0 + coef_of ts l) e

    by_test : (b : Bool) → is_same t.lit l ≡ b → weight (rest l ts) + coef_of ts l ≡ weight ts → weight (cond b (rest l ts) (t ∷ rest l ts)) + coef_of (t ∷ ts) l ≡ weight (t ∷ ts)
    by_test true e h = omega (arith, own true e, weight-cons t ts, h)
    by_test false e h = omega (arith, own false e, weight-cons t ts, weight-cons t (rest l ts), h)

-- the literal has just a number
abbrev with_coef : ℕ → Lit → List Weighted → List Weighted
with_coef n l ts = record { coef = n; lit = l } ∷ rest l ts

coef_less : (n c : ℕ) (l m : Lit) (ts : List Weighted) → n + c ≡ coef_of ts l → coef_of (with_coef n l ts) m + cond (is_same l m) c 0 ≡ coef_of ts m
coef_less n c l m ts e = elim (cases_Bool (is_same l m)) [
  | inl same ↦ subst (λ (k : Lit). coef_of (with_coef n l ts) k + cond (is_same l k) c 0 ≡ coef_of ts k) (same_lit l m same)
      (itself (is_same-refl l) (own true (is_same-refl l)))
  | inr other ↦ omega (arith, ap (λ (b : Bool). cond b c 0) other, own_other other, rest-other l m ts other)
]
  where
    own : (b : Bool) → is_same l l ≡ b → coef_of (with_coef n l ts) l ≡ cond b n 0 + coef_of (rest l ts) l
    own a h = coef_of-cons (record { coef = n; lit = l }) (rest l ts) l ∙ ap (λ (b : Bool). cond b n 0 + coef_of (rest l ts) l) h

    own_other : is_same l m ≡ false → coef_of (with_coef n l ts) m ≡ coef_of (rest l ts) m
    own_other h =
        let first : coef_of (with_coef n l ts) m ≡ cond false n 0 + coef_of (rest l ts) m = coef_of-cons (record { coef = n; lit = l }) (rest l ts) m ∙ ap (λ (b : Bool). cond b n 0 + coef_of (rest l ts) m) h in
        omega (arith, first)

    itself : is_same l l ≡ true → coef_of (with_coef n l ts) l ≡ n + coef_of (rest l ts) l → coef_of (with_coef n l ts) l + cond (is_same l l) c 0 ≡ coef_of ts l
    itself h k = omega (arith, ap (λ (b : Bool). cond b c 0) h, k, rest-same l ts, e)

weight_less : (n c : ℕ) (l : Lit) (ts : List Weighted) → n + c ≡ coef_of ts l → weight (with_coef n l ts) + c ≡ weight ts
weight_less n c l ts e = omega (arith, weight-cons (record { coef = n; lit = l }) (rest l ts), rest-weight l ts, e)

-- ---- an occurrence that is taken out

abbrev term_of : Occurrence → Lit → Weighted
term_of o l = record { coef = o.coef; lit = l }

-- what held of all holds of it
pub taken_known : (Q : Occurrence → Type 0) (lists lists' : Lists) (o : Occurrence) (l : Lit) → IsPushed l o lists' lists → All Q (list_at lists l) → Q o
taken_known Q lists lists' o l pushed all =
    let parts = parts_all Q pushed.front (o ∷ pushed.back) (subst (All Q) pushed.is all) in
    parts.1 0 o (omega arith)

known_less : (Q : Occurrence → Type 0) (lists lists' : Lists) (o : Occurrence) (l m : Lit) → IsPushed l o lists' lists → ((k : Lit) → All Q (list_at lists k)) → All Q (list_at lists' m)
known_less Q lists lists' o l m pushed all = elim (cases_Bool (is_same l m)) [
  | inl same ↦
      let parts = parts_all Q pushed.front (o ∷ pushed.back) (subst (All Q) pushed.is (all l)) in
      let back : All Q pushed.back = λ k d below. parts.1 (suc k) d (omega (arith, below)) in
      let there : All Q (list_at lists' l) = subst (All Q) (sym pushed.was) (All-append Q pushed.front pushed.back parts.0 back) in
      subst (λ (k : Lit). All Q (list_at lists' k)) (same_lit l m same) there
  | inr other ↦ subst (All Q) (pushed.elsewhere m (other_code l m other)) (all m)
]

-- its place has at least its coefficient, of which so much is left
left_at : (lists lists' : Lists) (o : Occurrence) (l : Lit) → IsPushed l o lists' lists → sum_at o.place (list_at lists l) ≡ sum_at o.place (list_at lists' l) + o.coef
left_at lists lists' o l pushed =
    sums_more lists' lists o (term_of o l) l o.place pushed ∙
    (ap (λ (b : Bool). sum_at o.place (list_at lists' l) + cond b (sum_at o.place (o ∷ [])) 0) (is_same-refl l) ∙
    ap (λ (n : ℕ). sum_at o.place (list_at lists' l) + n) (sum_at-here o))

pub taken_enough : (vars : ℕ) (ps : List (Option Constraint)) (lists lists' : Lists) (kept : List Counters) (o : Occurrence) (l : Lit) → IsPushed l o lists' lists → IsCounted vars ps lists kept [] → o.coef ≤ room_at kept o.place
taken_enough vars ps lists lists' kept o l pushed h =
    omega (arith, left_at lists lists' o l pushed, h.sums l o.place, rest-weight l (terms_at h.inner o.place), h.rooms o.place, room-nil (terms_at h.inner o.place))

pub counted_taken : (vars : ℕ) (ps : List (Option Constraint)) (lists lists' : Lists) (kept kept' : List Counters) (o : Occurrence) (l : Lit) → IsPushed l o lists' lists → at_place ps o.place ≡ None → AreLowered (o ∷ []) kept kept' → IsCounted vars ps lists kept [] → IsCounted vars ps lists' kept' []
counted_taken vars ps lists lists' kept kept' o l pushed empty low h = record {
  inner = inner;
  size = low.size ∙ (h.size ∙ sym (length-set h.inner o.place less));
  longer = omega (arith, h.longer, low.size);
  same = λ p c stands. elim (cases_eq p o.place) [
    | inl e ↦ let no : ⊥ = cc (ap (at_place ps) e, stands, empty) in absurd no
    | inr ne ↦ terms_other p ne ∙ h.same p c stands
  ];
  narrow = λ p. elim (cases_eq p o.place) [
    | inl e ↦ omega (arith, ap weight (terms_here p e), weight_less left o.coef l ts parted, h.narrow o.place)
    | inr ne ↦ omega (arith, ap weight (terms_other p ne), h.narrow p)
  ];
  width = sym pushed.size ∙ h.width;
  sums = λ m p. elim (cases_eq p o.place) [
    | inl e ↦ sums_here m p e
    | inr ne ↦ sums_other m p ne
  ];
  known = λ m. subst (λ (n : ℕ). All (λ (x : Occurrence). x.place < n) (list_at lists' m)) (sym low.size) (known_less (λ (x : Occurrence). x.place < length kept) lists lists' o l m pushed h.known);
  rooms = λ p. elim (cases_eq p o.place) [
    | inl e ↦ room_here p e
    | inr ne ↦ omega (arith, ap (room []) (terms_other p ne), h.rooms p, low.rooms p, sum_at-elsewhere p o (λ f. ne (sym f)))
  ];
  alerts = λ p c stands. subst (λ (a : ℕ). IsAlert a c) (sym (low.alerts p)) (h.alerts p c stands);
}
  where
    ts : List Weighted
    ts = terms_at h.inner o.place

    left : ℕ
    left = sum_at o.place (list_at lists' l)

    parted : left + o.coef ≡ coef_of ts l
    parted = sym (left_at lists lists' o l pushed) ∙ h.sums l o.place

    less : List Weighted
    less = with_coef left l ts

    inner : List (List Weighted)
    inner = set h.inner o.place less

    below : o.place < length h.inner
    below = omega (arith, taken_known (λ (x : Occurrence). x.place < length kept) lists lists' o l pushed (h.known l), h.size)

    terms_here : (p : ℕ) → p ≡ o.place → terms_at inner p ≡ less
    terms_here p e = ap (terms_at inner) e ∙ get_or-set_same h.inner o.place less [] below

    terms_other : (p : ℕ) → (p ≡ o.place → ⊥) → terms_at inner p ≡ terms_at h.inner p
    terms_other p ne = get_or-set_other h.inner o.place p less [] ne

    room_here : (p : ℕ) → p ≡ o.place → room_at kept' p ≡ room [] (terms_at inner p)
    room_here p e =
        let now : sum_at p (o ∷ []) ≡ o.coef = ap (λ (i : ℕ). sum_at i (o ∷ [])) e ∙ sum_at-here o in
        let before : room_at kept p ≡ weight ts = ap (room_at kept) e ∙ (h.rooms o.place ∙ room-nil ts) in
        let all : room_at kept' p ≡ weight less = omega (arith, low.rooms p, now, before, weight_less left o.coef l ts parted) in
        all ∙ sym (ap (room []) (terms_here p e) ∙ room-nil less)

    sums_here : (m : Lit) (p : ℕ) → p ≡ o.place → sum_at p (list_at lists' m) ≡ coef_of (terms_at inner p) m
    sums_here m p e =
        let now : sum_at p (o ∷ []) ≡ o.coef = ap (λ (i : ℕ). sum_at i (o ∷ [])) e ∙ sum_at-here o in
        let more : sum_at p (list_at lists m) ≡ sum_at p (list_at lists' m) + cond (is_same l m) o.coef 0 =
        sums_more lists' lists o (term_of o l) m p pushed ∙ ap (λ (n : ℕ). sum_at p (list_at lists' m) + cond (is_same l m) n 0) now in
        let was : sum_at p (list_at lists m) ≡ coef_of ts m = h.sums m p ∙ ap (λ (us : List Weighted). coef_of us m) (ap (terms_at h.inner) e) in
        let is : sum_at p (list_at lists' m) ≡ coef_of less m = omega (arith, more, was, coef_less left o.coef l m ts parted) in
        is ∙ ap (λ (us : List Weighted). coef_of us m) (sym (terms_here p e))

    sums_other : (m : Lit) (p : ℕ) → (p ≡ o.place → ⊥) → sum_at p (list_at lists' m) ≡ coef_of (terms_at inner p) m
    sums_other m p ne =
        let more : sum_at p (list_at lists m) ≡ sum_at p (list_at lists' m) + cond (is_same l m) 0 0 =
        sums_more lists' lists o (term_of o l) m p pushed ∙ ap (λ (n : ℕ). sum_at p (list_at lists' m) + cond (is_same l m) n 0) (sum_at-elsewhere p o (λ f. ne (sym f))) in
        let same : sum_at p (list_at lists' m) ≡ sum_at p (list_at lists m) = sym (more ∙ nothing (sum_at p (list_at lists' m)) (is_same l m)) in
        same ∙ (h.sums m p ∙ ap (λ (us : List Weighted). coef_of us m) (sym (terms_other p ne)))
      where
        nothing : (n : ℕ) (b : Bool) → n + cond b 0 0 ≡ n
        nothing n true = omega arith
        nothing n false = omega arith

pub store_unlisted : (vars : ℕ) (ps : List (Option Constraint)) (lists lists' : Lists) (kept kept' : List Counters) (tight : List ℕ) → length kept' ≡ length kept → IsCounted vars ps lists' kept' [] → ((p : ℕ) → alert_at kept' p ≡ alert_at kept p) → IsStore vars ps lists kept tight → IsStore vars ps lists' kept' tight
store_unlisted vars ps lists lists' kept kept' tight size counts alerts s = record {
  counts = counts;
  listed = λ p c at. elim (s.listed p c at) [
    | inl enough ↦ inl (omega (arith, enough, alerts p))
    | inr there ↦ inr there
  ];
  even = size ∙ s.even;
}

-- ---- a place that is taken out of a list

pub contains_remove : {X : Type 0} (xs : List X) (i : ℕ) (x y : X) → i < length xs → get_or xs i x ≡ x → (y ≡ x → ⊥) → Contains xs y → Contains (remove xs i) y
contains_remove [] i x y below at ne h = absurd (omega (arith, below))
contains_remove (z ∷ xs) zero x y below at ne h = elim (contains_cases z xs y h) [
  | inl e ↦ absurd (ne (sym e ∙ at))
  | inr more ↦ more
]
contains_remove (z ∷ xs) (suc i) x y below at ne h = elim (contains_cases z xs y h) [
  | inl e ↦ subst (Contains (z ∷ remove xs i)) e (contains_head z (remove xs i))
  | inr more ↦ contains_tail z (remove xs i) y (contains_remove xs i x y (omega (arith, below)) at ne more)
]

-- where an item was taken out of a list
pub one_more : (xs ys : List Occurrence) (i : ℕ) (x : Occurrence) → i < length xs → x ≡ get_or xs i x → ys ≡ remove xs i → HasOneMore x ys xs
one_more xs ys i x below at e = record {
  front = take i xs;
  back = drop (suc i) xs;
  was = e;
  is = split_at xs i x below ∙ ap (λ (z : Occurrence). take i xs ++ z ∷ drop (suc i) xs) (sym at);
}

-- an occurrence less in the list of one literal
pub taken_other : (x y : Lists) (l : Lit) (n : ℕ) (o : Occurrence) → n ≡ code l → size_of y ≡ size_of x → ((k : ℕ) → units_at y k ≡ units_at x k) → HasOneMore o (others_at y n) (others_at x n) → ((k : ℕ) → (k ≡ n → ⊥) → others_at y k ≡ others_at x k) → IsPushed l o y x
taken_other x y l n o at size units here elsewhere = record {
  size = sym size;
  front = map unit_at (units_at x (code l)) ++ h.front;
  back = h.back;
  was =
      ap (λ (us : List ℕ). map unit_at us ++ others_at y (code l)) (units (code l)) ∙
      (ap (λ (os : List Occurrence). map unit_at (units_at x (code l)) ++ os) h.was ∙ sym (append_assoc (map unit_at (units_at x (code l))) h.front h.back));
  is = ap (λ (os : List Occurrence). map unit_at (units_at x (code l)) ++ os) h.is ∙ sym (append_assoc (map unit_at (units_at x (code l))) h.front (o ∷ h.back));
  elsewhere = λ m ne. sym
      (ap (λ (us : List ℕ). map unit_at us ++ others_at y (code m)) (units (code m)) ∙
      ap (λ (os : List Occurrence). map unit_at (units_at x (code m)) ++ os) (elsewhere (code m) (λ e. ne (e ∙ at))));
}
  where
    h : HasOneMore o (others_at y (code l)) (others_at x (code l))
    h = subst (λ (k : ℕ). HasOneMore o (others_at y k) (others_at x k)) at here

pub taken_if : (x y : Lists) (l : Lit) (n : ℕ) (r : Option Occurrence) → n ≡ code l → size_of y ≡ size_of x → ((k : ℕ) → units_at y k ≡ units_at x k) → IfSome r (λ o. HasOneMore o (others_at y n) (others_at x n)) → ((k : ℕ) → (k ≡ n → ⊥) → others_at y k ≡ others_at x k) → IfSome r (λ o. IsPushed l o y x)
taken_if x y l n None at size units here elsewhere = tt
taken_if x y l n (Some o) at size units here elsewhere = taken_other x y l n o at size units here elsewhere
