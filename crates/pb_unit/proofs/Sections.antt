-- Sections of one list.
use Rattle.std.proofs.Common.{◌≡◌, ◌≤◌, ◌<◌, ◌+◌, ◌-◌, ◌⊎◌, inl, inr, ℕ, List, [], ◌∷◌, ◌++◌, arith, length, get_or, set, take, drop, ap, sym, ◌∙◌, length-append, subst}
use Rattle.std.specs.Prelude.{slice_range, slice_index}
use Rattle.std.proofs.lemmas.Bool.{cases_lt}
use Rattle.std.proofs.lemmas.List.{get_or-set_same, get_or-set_other, drop-set-lt, drop-set-add, take-set-le, take_more_set, length-drop, get_or_append_left, get_or_push, get_or_past, get_or-take, length-take, length-take-le}
use Rattle.std.proofs.lemmas.Slice.{between_is, take-put_mid_below, drop-put_mid}
use borrow.Rule.Slice.PartMut.{put_mid}
use Rattle.pb_unit.specs.Index.{section, IsAscending, IsSectioned}

-- ---- parts of a list

-- a write outside a part leaves it
part_kept : (xs : List ℕ) (e v a b : ℕ) → (e < a) ⊎ (b ≤ e) → slice_range (set xs e v) a b ≡ slice_range xs a b
part_kept xs e v a b (inl before) = ap (take (b - a)) (drop-set-lt a xs e v before)
part_kept xs e v a b (inr after) = elim (cases_lt e a) [
  | inl before ↦ ap (take (b - a)) (drop-set-lt a xs e v before)
  | inr from ↦
      let at : e ≡ a + (e - a) = omega (arith, from) in
      ap (λ (i : ℕ). take (b - a) (drop a (set xs i v))) at ∙ (ap (take (b - a)) (drop-set-add a xs (e - a) v) ∙ take-set-le (b - a) (drop a xs) (e - a) v (omega (arith, after, from)))
]

part_pushed : (xs : List ℕ) (e v a : ℕ) → a ≤ e → e < length xs → slice_range (set xs e v) a (e + 1) ≡ slice_range xs a e ++ v ∷ []
part_pushed xs e v a from below =
    let at : e ≡ a + (e - a) = omega (arith, from) in
    let count : e + 1 - a ≡ (e - a) + 1 = omega (arith, from) in
    ap (λ (i : ℕ). take (e + 1 - a) (drop a (set xs i v))) at ∙
    (ap (take (e + 1 - a)) (drop-set-add a xs (e - a) v) ∙
    (ap (λ (n : ℕ). take n (set (drop a xs) (e - a) v)) count ∙
    take_more_set (drop a xs) (e - a) v (omega (arith, length-drop a xs, from, below))))

-- ---- sections

-- another section lies before or behind
before_or_behind : (starts ends units : List ℕ) (n k : ℕ) → IsSectioned starts ends units → n < length ends → (k ≡ n → ⊥) → (slice_index ends k ≤ slice_index starts n) ⊎ (slice_index starts (n + 1) ≤ slice_index starts k)
before_or_behind starts ends units n k h below ne = elim (cases_lt k n) [
  | inl less ↦ inl (omega (arith, h.limits k (omega (arith, less, below)), h.ascending (k + 1) n (omega (arith, less)) (omega (arith, below, h.size))))
  | inr more ↦ elim (cases_lt k (length ends)) [
    | inl known ↦ inr (h.ascending (n + 1) k (omega (arith, more, ne)) (omega (arith, known, h.size)))
    | inr past ↦ inl (omega (arith, get_or_past ends k 0 past))
  ]
]

pub end_within : (starts ends units : List ℕ) (n : ℕ) → IsSectioned starts ends units → n < length ends → slice_index starts (n + 1) ≤ length units
end_within starts ends units n h below = omega (arith, h.within, h.ascending (n + 1) (length ends) (omega (arith, below)) (omega (arith, h.size)))

pub unit_here : (starts ends units : List ℕ) (n v : ℕ) → IsSectioned starts ends units → n < length ends → slice_index ends n < slice_index starts (n + 1) → section starts (set ends n (slice_index ends n + 1)) (set units (slice_index ends n) v) n ≡ section starts ends units n ++ v ∷ []
unit_here starts ends units n v h below room =
    ap (slice_range (set units (slice_index ends n) v) (slice_index starts n)) (get_or-set_same ends n (slice_index ends n + 1) 0 below) ∙
    part_pushed units (slice_index ends n) v (slice_index starts n) (h.begins n below) (omega (arith, room, end_within starts ends units n h below))

pub unit_elsewhere : (starts ends units : List ℕ) (n v : ℕ) → IsSectioned starts ends units → n < length ends → slice_index ends n < slice_index starts (n + 1) → (k : ℕ) → (k ≡ n → ⊥) → section starts (set ends n (slice_index ends n + 1)) (set units (slice_index ends n) v) k ≡ section starts ends units k
unit_elsewhere starts ends units n v h below room k ne =
    ap (slice_range (set units (slice_index ends n) v) (slice_index starts k)) (get_or-set_other ends n k (slice_index ends n + 1) 0 ne) ∙
    part_kept units (slice_index ends n) v (slice_index starts k) (slice_index ends k)
    (elim (before_or_behind starts ends units n k h below ne) [
      | inl before ↦ inr (omega (arith, before, h.begins n below))
      | inr behind ↦ inl (omega (arith, behind, room))
    ])

-- ---- sections that are swept: the part of one is written, and its end moves back

start_within : (starts ends units : List ℕ) (n : ℕ) → IsSectioned starts ends units → n < length ends → slice_index starts n ≤ length units
start_within starts ends units n h below = omega (arith, end_within starts ends units n h below, h.begins n below, h.limits n below)

pub length_part : (starts ends units : List ℕ) (n : ℕ) → IsSectioned starts ends units → n < length ends → length (take (slice_index ends n - slice_index starts n) (drop (slice_index starts n) units)) ≡ slice_index ends n - slice_index starts n
length_part starts ends units n h below = length-take-le (slice_index ends n - slice_index starts n) (drop (slice_index starts n) units) (omega (arith, length-drop (slice_index starts n) units, h.begins n below, h.limits n below, end_within starts ends units n h below))

pub swept_elsewhere : (starts ends units ys : List ℕ) (n count : ℕ) → IsSectioned starts ends units → n < length ends → length ys ≡ slice_index ends n - slice_index starts n → (k : ℕ) → (k ≡ n → ⊥) → section starts (set ends n (slice_index starts n + count)) (put_mid (slice_index starts n) (slice_index ends n - slice_index starts n) units ys) k ≡ section starts ends units k
swept_elsewhere starts ends units ys n count h below same k ne =
    ap (slice_range us (slice_index starts k)) (get_or-set_other ends n k (s + count) 0 ne) ∙
    elim (before_or_behind starts ends units n k h below ne) [
      | inl before ↦
          between_is us (slice_index starts k) (slice_index ends k) ∙
          (ap (drop (slice_index starts k)) (take-put_mid_below s l units ys (slice_index ends k) before low) ∙
          sym (between_is units (slice_index starts k) (slice_index ends k)))
      | inr behind ↦ ap (take (slice_index ends k - slice_index starts k)) (drop-put_mid s l units ys (slice_index starts k) (omega (arith, behind, h.begins n below, h.limits n below)) low same)
    ]
  where
    s : ℕ
    s = slice_index starts n

    l : ℕ
    l = slice_index ends n - s

    us : List ℕ
    us = put_mid s l units ys

    low : s ≤ length units
    low = start_within starts ends units n h below

-- ---- where sections begin

pub ascending_push : (ns : List ℕ) (n x : ℕ) → length ns ≡ n + 1 → slice_index ns n ≤ x → IsAscending ns → IsAscending (ns ++ x ∷ [])
ascending_push ns n x size last h j k up known = elim (cases_lt k (length ns)) [
  | inl old ↦ omega (arith, h j k up old, get_or_append_left ns (x ∷ []) 0 j (omega (arith, up, old)), get_or_append_left ns (x ∷ []) 0 k old)
  | inr new ↦
      let is : length ns ≡ k = omega (arith, new, known, length-append ns (x ∷ [])) in
      let there : get_or (ns ++ x ∷ []) k 0 ≡ x = get_or_push ns x 0 k is in
      elim (cases_lt j (length ns)) [
        | inl old ↦ omega (arith, there, get_or_append_left ns (x ∷ []) 0 j old, h j n (omega (arith, old, size)) (omega (arith, size)), last)
        | inr here ↦ let same : j ≡ k = omega (arith, here, up, is) in omega (arith, ap (get_or_0 (ns ++ x ∷ [])) same)
      ]
]
  where
    get_or_0 : List ℕ → ℕ → ℕ
    get_or_0 xs i = get_or xs i 0

-- ---- sections with nothing in them

-- at each number the section ends where it begins, or there is none
ends_early : (starts : List ℕ) (n k : ℕ) → slice_index (take n starts) k ≤ slice_index starts k
ends_early starts n k = elim (cases_lt k n) [
  | inl less ↦ omega (arith, get_or-take n starts k 0 less)
  | inr past ↦ omega (arith, get_or_past (take n starts) k 0 (omega (arith, past, length-take n starts)))
]

pub sectioned_none : (starts units : List ℕ) (n : ℕ) → length starts ≡ n + 1 → IsAscending starts → slice_index starts n ≤ length units → IsSectioned starts (take n starts) units
sectioned_none starts units n size ascending room =
    let count : length (take n starts) ≡ n = length-take-le n starts (omega (arith, size)) in
    record {
      size = omega (arith, size, count);
      ascending = ascending;
      begins = λ k below. omega (arith, get_or-take n starts k 0 (omega (arith, below, count)));
      limits = λ k below. omega (arith, get_or-take n starts k 0 (omega (arith, below, count)), ascending k (k + 1) (omega arith) (omega (arith, below, count, size)));
      within = subst (λ (m : ℕ). slice_index starts m ≤ length units) (sym count) room;
    }

pub section_none : (starts units : List ℕ) (n k : ℕ) → section starts (take n starts) units k ≡ []
section_none starts units n k =
    let none : slice_index (take n starts) k - slice_index starts k ≡ 0 = omega (arith, ends_early starts n k) in
    ap (λ (m : ℕ). take m (drop (slice_index starts k) units)) none
