-- Intervals from the last to the first: what is found among them, and what they are after an insertion.
use Rattle.std.proofs.Common.{◌≡◌, ◌∙◌, ◌<◌, ◌≤◌, ◌-◌, ◌⊎◌, ◌++◌, ℕ, true, false, leb, ltb, List, [], ◌∷◌, length, take, drop, get_or, reverse, refl, sym, ap, subst, arith, inl, inr, zero, suc}
use Rattle.std.specs.Prelude.{Contains}
use Rattle.std.specs.List.{insert}
use Rattle.std.specs.List.Sorted.{IsPartitionedBy, IsPartitionPoint, IsPermutation}
use Rattle.std.proofs.lemmas.Bool.{cases_lt, cases_order, lt-ltb, ltb-true, ltb-false}
use Rattle.std.proofs.lemmas.List.{get_or-reverse, length-drop, length-reverse, length-take-le, reverse-append, take-append-drop}
use Rattle.std.proofs.lemmas.List.Elements.{Contains-append_cases, Contains-append_left, Contains-append_right, Contains-get_or}
use Rattle.std.proofs.lemmas.List.Sorted.{Contains-permutation, IsPermutation-cons, IsPermutation-insert, IsPermutation-reverse, IsPermutation-sym, IsPermutation-trans, length_permutation}
use Rattle.pb_base.proofs.Members.{Contains-nil, Contains-here, Contains-there, Contains-cons_cases}
use Rattle.pb_diagram.specs.declared.interval.Interval.{Interval}
use Rattle.pb_diagram.specs.inner.Known.{AreKnown, AreParts, IsPlaceOf, begins_by}
use Rattle.pb_diagram.specs.Intervals.{AreApart}
use Rattle.pb_diagram.specs.laws.Search.{IsGrown, IsUnknown}

-- each begins not below the end of each later one
abbrev AreFalling : List Interval → Type 0
AreFalling [] = Unit {0}
AreFalling (g ∷ gs) = ((h : Interval) → Contains gs h → h.top ≤ g.low) × AreFalling gs

-- ---- a list and its reverse

pub turned : (gs : List Interval) (g : Interval) → Contains gs g → Contains (reverse gs) g
turned gs g among = Contains-permutation gs (reverse gs) g (IsPermutation-reverse gs) among

pub back : (gs : List Interval) (g : Interval) → Contains (reverse gs) g → Contains gs g
back gs g among = Contains-permutation (reverse gs) gs g (IsPermutation-sym gs (reverse gs) (IsPermutation-reverse gs)) among

-- ---- two lists, one after the other

pub apart_parts : (xs ys : List Interval) → AreApart (xs ++ ys) → AreApart xs × AreApart ys × ((x y : Interval) → Contains xs x → Contains ys y → x.top ≤ y.low)
apart_parts [] ys apart = (tt, apart, λ x y in_x in_y. absurd (Contains-nil x in_x))
apart_parts (g ∷ xs) ys apart =
    let rest = apart_parts xs ys apart.1 in (
      ((λ h among. apart.0 h (Contains-append_left xs ys h among)), rest.0),
      rest.1,
      (λ x y in_x in_y.
          elim (Contains-cons_cases g xs x in_x) as (λ _. x.top ≤ y.low) [
            | inl is_g ↦ subst (λ (j : Interval). j.top ≤ y.low) is_g (apart.0 y (Contains-append_right xs ys y in_y))
            | inr later ↦ rest.2 x y later in_y
          ]),
    )

pub apart_append : (xs ys : List Interval) → AreApart xs → AreApart ys → ((x y : Interval) → Contains xs x → Contains ys y → x.top ≤ y.low) → AreApart (xs ++ ys)
apart_append [] ys left right order = right
apart_append (g ∷ xs) ys left right order = (
  (λ h among.
      elim (Contains-append_cases xs ys h among) as (λ _. g.top ≤ h.low) [
        | inl early ↦ left.0 h early
        | inr late ↦ order g h (Contains-here g xs) late
      ]),
  apart_append xs ys left.1 right (λ x y in_x in_y. order x y (Contains-there g xs x in_x) in_y),
)

falling_of : (gs : List Interval) → AreApart (reverse gs) → AreFalling gs
falling_of [] apart = tt
falling_of (g ∷ gs) apart =
    let parts = apart_parts (reverse gs) (g ∷ []) (subst AreApart (reverse-append (g ∷ []) gs) apart) in
    ((λ h among. parts.2 h g (turned gs h among) (Contains-here g [])), falling_of gs parts.0)

apart_of : (gs : List Interval) → AreFalling gs → AreApart (reverse gs)
apart_of [] falling = tt
apart_of (g ∷ gs) falling =
    let alone : AreApart (g ∷ []) = ((λ h among. absurd (Contains-nil h among)), tt) in
    subst AreApart (sym (reverse-append (g ∷ []) gs)) (apart_append (reverse gs) (g ∷ []) (apart_of gs falling.1) alone (λ x y in_x in_y.
    elim (Contains-cons_cases g [] y in_y) as (λ _. x.top ≤ y.low) [
      | inl is_g ↦ subst (λ (j : Interval). x.top ≤ j.low) is_g (falling.0 x (back gs x in_x))
      | inr none ↦ absurd (Contains-nil y none)
    ]))

-- ---- find

falling_at : (gs : List Interval) (i j : ℕ) (d : Interval) → AreFalling gs → i < j → j < length gs → (get_or gs j d).top ≤ (get_or gs i d).low
falling_at [] i j d falling below within = absurd (omega arith)
falling_at (g ∷ gs) i zero d falling below within = absurd (omega arith)
falling_at (g ∷ gs) zero (suc j) d falling below within = falling.0 (get_or gs j d) (Contains-get_or gs j d (omega arith))
falling_at (g ∷ gs) (suc i) (suc j) d falling below within = falling_at gs i j d falling.1 (omega arith) (omega arith)

module _ (gs : List Interval) (residue : ℕ) (known : AreKnown gs) where
  pub begins_part : IsPartitionedBy (λ g. ltb residue g.low) gs
  begins_part i j d le within above =
      elim (cases_lt i j) as (λ _. ltb residue (get_or gs i d).low ≡ true) [
        | inl below ↦
            let order = falling_at gs i j d (falling_of gs known.apart) below within in
            let up = known.rise (get_or gs j d) (Contains-get_or gs j d within) in
            let begins = ltb-true residue (get_or gs j d).low above in
            lt-ltb residue (get_or gs i d).low (omega arith)
        | inr past ↦ let same : j ≡ i = omega arith in subst (λ (k : ℕ). ltb residue (get_or gs k d).low ≡ true) same above
      ]

  -- no interval holds the residue, where the one at its place does not
  pub not_found : (place : ℕ) → IsPlaceOf gs residue place → ((d : Interval) → place < length gs → (get_or gs place d).top ≤ residue) → IsUnknown (reverse gs) residue
  not_found place is ended h among inside =
      let here = back gs h among in
      let k = here.0 in
      let low : (get_or gs k h).low ≡ h.low = ap (λ (j : Interval). j.low) here.2 in
      let top : (get_or gs k h).top ≡ h.top = ap (λ (j : Interval). j.top) here.2 in
      elim (cases_order k place) as (λ _. ⊥) [
        | inl same ↦
            let over = ended h (omega (arith, here.1)) in
            let at : (get_or gs k h).top ≡ (get_or gs place h).top = ap (λ (n : ℕ). (get_or gs n h).top) same in
            omega (arith, inside.1)
        | inr other ↦ elim other as (λ _. ⊥) [
          | inl before ↦ let above = is.above k h before in omega (arith, inside.0)
          | inr after ↦
              let order = falling_at gs place k h (falling_of gs known.apart) after here.1 in
              let begins = is.others place h (omega arith) (omega (arith, here.1)) in
              omega (arith, inside.1)
        ]
      ]

pub place_found : (gs : List Interval) (residue place : ℕ) → place ≤ length gs → IsPartitionPoint (λ g. ltb residue g.low ≡ true) (λ g. ltb residue g.low ≡ false) gs place → IsPlaceOf gs residue place
place_found gs residue place bound point = record {
  bound = bound;
  above = λ k d below. ltb-true residue (get_or gs k d).low (point.0 k d (omega arith) below);
  others = λ k d from within. ltb-false residue (get_or gs k d).low (point.1 k d from within);
}

-- ---- insert

falling_insert : (gs : List Interval) (place : ℕ) (g : Interval) → AreFalling gs → place ≤ length gs
    → ((k : ℕ) (d : Interval) → k < place → k < length gs → g.top ≤ (get_or gs k d).low) → ((k : ℕ) (d : Interval) → place ≤ k → k < length gs → (get_or gs k d).top ≤ g.low)
    → AreFalling (insert gs place g)
falling_insert [] zero g falling within before after = ((λ h among. absurd (Contains-nil h among)), tt)
falling_insert [] (suc place) g falling within before after = absurd (omega arith)
falling_insert (k ∷ gs) zero g falling within before after =
    ((λ h among. let d : h.top ≤ g.low = subst (λ (j : Interval). j.top ≤ g.low) among.2 (after among.0 h (omega arith) among.1) in d), falling)
falling_insert (k ∷ gs) (suc place) g falling within before after =
    let rest = falling_insert gs place g falling.1 (omega arith) (λ i d below inside. before (suc i) d (omega arith) (omega arith)) (λ i d from inside. after (suc i) d (omega arith) (omega arith)) in (
      (λ h among.
          elim (Contains-cons_cases g gs h (Contains-permutation (insert gs place g) (g ∷ gs) h (IsPermutation-sym (g ∷ gs) (insert gs place g) (IsPermutation-insert gs place g)) among)) as (λ _. h.top ≤ k.low) [
            | inl is_g ↦ subst (λ (j : Interval). j.top ≤ k.low) is_g (before 0 k (omega arith) (omega arith))
            | inr old ↦ falling.0 h old
          ]),
      rest,
    )

module _ (gs : List Interval) (g : Interval) (place : ℕ) where
  grown : IsPermutation (g ∷ reverse gs) (reverse (insert gs place g))
  grown =
      let now = insert gs place g in
      IsPermutation-trans (g ∷ reverse gs) (g ∷ gs) (reverse now) (IsPermutation-cons g (reverse gs) gs (IsPermutation-sym gs (reverse gs) (IsPermutation-reverse gs)))
      (IsPermutation-trans (g ∷ gs) now (reverse now) (IsPermutation-insert gs place g) (IsPermutation-reverse now))

  -- an interval was put at its place
  pub inserted : AreKnown gs → g.low < g.top → IsPlaceOf gs g.low place → ((h : Interval) → Contains (reverse gs) h → (h.top ≤ g.low) ⊎ (g.top ≤ h.low)) → IsGrown (reverse gs) g (reverse (insert gs place g))
  inserted known rises is elsewhere =
      let now = reverse (insert gs place g) in
      let side : (k : ℕ) (d : Interval) → k < length gs → ((get_or gs k d).top ≤ g.low) ⊎ (g.top ≤ (get_or gs k d).low) = λ k d within. elsewhere (get_or gs k d) (turned gs (get_or gs k d) (Contains-get_or gs k d within)) in
      let up : (k : ℕ) (d : Interval) → k < length gs → (get_or gs k d).low < (get_or gs k d).top = λ k d within. known.rise (get_or gs k d) (Contains-get_or gs k d within) in
      record {
        here = Contains-permutation (g ∷ reverse gs) now g grown (Contains-here g (reverse gs));
        keeps = λ h among. Contains-permutation (g ∷ reverse gs) now h grown (Contains-there g (reverse gs) h among);
        cases = λ h among. Contains-cons_cases g (reverse gs) h (Contains-permutation now (g ∷ reverse gs) h (IsPermutation-sym (g ∷ reverse gs) now grown) among);
        apart = apart_of (insert gs place g) (falling_insert gs place g (falling_of gs known.apart) is.bound
            (λ k d below within. elim (side k d within) as (λ _. g.top ≤ (get_or gs k d).low) [
              | inl under ↦ let above = is.above k d below in let rises_k = up k d within in absurd (omega arith)
              | inr over ↦ over
            ])
            (λ k d from within. elim (side k d within) as (λ _. (get_or gs k d).top ≤ g.low) [
              | inl under ↦ under
              | inr over ↦ let begins = is.others k d from within in absurd (omega arith)
            ]));
        longer = let count = length_permutation (g ∷ reverse gs) now grown in omega arith;
      }

  -- and all are known again
  pub known_inserted : AreKnown gs → g.low < g.top → IsGrown (reverse gs) g (reverse (insert gs place g)) → AreKnown (insert gs place g)
  known_inserted known rises more = record {
    apart = more.apart;
    rise = λ h among. elim (more.cases h (turned (insert gs place g) h among)) as (λ _. h.low < h.top) [
      | inl is_g ↦ subst (λ (j : Interval). j.low < j.top) is_g rises
      | inr old ↦ known.rise h (back gs h old)
    ];
  }

-- as the code puts it
pub run_inserted : (gs seen now : List Interval) (g : Interval) (place : ℕ) → AreKnown gs → seen ≡ gs → reverse gs ≡ now → g.low < g.top → IsPlaceOf seen g.low place
    → ((h : Interval) → Contains now h → (h.top ≤ g.low) ⊎ (g.top ≤ h.low)) → IsGrown (reverse gs) g (reverse (insert gs place g))
run_inserted gs seen now g place known same view rises is elsewhere =
    inserted gs g place known rises (subst (λ (l : List Interval). IsPlaceOf l g.low place) same is) (λ h among. elsewhere h (subst (λ (l : List Interval). Contains l h) view among))

-- ---- the first ones

turned_parts : (gs : List Interval) (n : ℕ) → reverse (drop n gs) ++ reverse (take n gs) ≡ reverse gs
turned_parts gs n = sym (reverse-append (take n gs) (drop n gs)) ∙ ap reverse (take-append-drop n gs)

module _ (gs : List Interval) (n : ℕ) (known : AreKnown gs) where
  apart : AreApart (reverse (drop n gs)) × AreApart (reverse (take n gs))
  apart =
      let parts = apart_parts (reverse (drop n gs)) (reverse (take n gs)) (subst AreApart (sym (turned_parts gs n)) known.apart) in
      (parts.0, parts.1)

  pub known_taken : AreKnown (take n gs)
  known_taken = record { apart = apart.1; rise = λ g among. known.rise g (subst (λ (l : List Interval). Contains l g) (take-append-drop n gs) (Contains-append_left (take n gs) (drop n gs) g among)) }

  pub known_dropped : AreKnown (drop n gs)
  known_dropped = record { apart = apart.0; rise = λ g among. known.rise g (subst (λ (l : List Interval). Contains l g) (take-append-drop n gs) (Contains-append_right (take n gs) (drop n gs) g among)) }

pub parts_of : (gs rest front whole : List Interval) (n : ℕ) → 0 < n → n < length whole → rest ≡ drop n gs → front ≡ take n gs → reverse gs ≡ whole → AreParts whole (reverse rest) (reverse front)
parts_of gs rest front whole n some more rest_is front_is view =
    let long : n < length gs = omega (arith, ap length view, length-reverse gs) in
    record {
      joined = sym view ∙ sym (turned_parts gs n) ∙ sym (λ x. reverse (rest_is x) ++ reverse (front_is x));
      some = omega (arith, length-reverse rest, ap length rest_is, length-drop n gs);
      others = omega (arith, length-reverse front, ap length front_is, length-take-le n gs (omega arith));
    }

-- ---- where the first begins

by_first : (l : List Interval) (residue : ℕ) (d : Interval) → 0 < length l → leb (get_or l 0 d).low residue ≡ begins_by l residue
by_first [] residue d some = absurd (omega arith)
by_first (g ∷ gs) residue d some = refl

pub begins_last : (gs whole : List Interval) (count residue : ℕ) (d : Interval) → reverse gs ≡ whole → count ≡ length gs → 0 < count → leb (get_or gs (count - 1) d).low residue ≡ begins_by whole residue
begins_last gs whole count residue d view is some =
    let place : length gs - 1 - 0 ≡ count - 1 = omega arith in
    let first : get_or (reverse gs) 0 d ≡ get_or gs (count - 1) d = get_or-reverse gs 0 d (omega arith) ∙ ap (λ (k : ℕ). get_or gs k d) place in
    ap (λ (g : Interval). leb g.low residue) (sym first) ∙ by_first (reverse gs) residue d (omega (arith, length-reverse gs)) ∙ ap (λ (l : List Interval). begins_by l residue) view

pub begins_none : (gs whole : List Interval) (count residue : ℕ) → reverse gs ≡ whole → count ≡ length gs → count ≤ 0 → ltb 0 count ≡ begins_by whole residue
begins_none [] whole count residue view is none = ap (λ (n : ℕ). ltb 0 n) is ∙ ap (λ (l : List Interval). begins_by l residue) view
begins_none (g ∷ gs) whole count residue view is none = absurd (omega arith)
