-- The values of a node, as they are gathered: with the same members as all sums so far.
use Rattle.std.proofs.Common.{◌≡◌, ◌<◌, ◌≤◌, ◌+◌, ◌++◌, min, ℕ, List, [], ◌∷◌, length, get_or, take, sym, ap, ◌∙◌, subst, arith, inl, inr, append_assoc, append-nil}
use Rattle.std.specs.Prelude.{Contains, All, map}
use Rattle.std.specs.List.{flat_map, dedup}
use Rattle.std.specs.List.Sorted.{IsPermutation}
use Rattle.std.proofs.Math.Dec.{eqb}
use Rattle.std.proofs.lemmas.List.Elements.{All-take, All-contains, All-contains_itself, Contains-append_left, Contains-append_right, Contains-append_cases}
use Rattle.std.proofs.lemmas.List.Kept.{Contains-dedup_nat, Contains-from_dedup}
use Rattle.std.proofs.lemmas.List.Sorted.{Contains-permutation, IsPermutation-sym}
use Rattle.std.proofs.lemmas.Grind.{flat_map-append}
use Rattle.std.proofs.lemmas.List.{take_more, take_all}
use Rattle.pb_base.proofs.Members.{Contains-nil, Contains-here, Contains-there, Contains-cons_cases}
use Rattle.pb_tree.proofs.Lists.{Contains-flat_map, Contains-flat_map_cases}
use Rattle.pb_gentot.specs.Generalized.{sums, ascending}
use Rattle.pb_gentot.specs.laws.GeneralizedLaws.{ascending_has, ascending_cases}
use Rattle.pb_gentot.specs.inner.Members.{SameMembers}
use Rattle.pb_gentot.specs.Rising.{Rising}
use Rattle.pb_gentot.proofs.RisingLists.{rising_same, rising_ascending, sums_within}

pub same_then : (xs ys zs : List ℕ) → SameMembers xs ys → SameMembers ys zs → SameMembers xs zs
same_then xs ys zs one two = record { to = λ n h. two.to n (one.to n h); from = λ n h. one.from n (two.from n h) }

pub same_turned : (xs ys : List ℕ) → SameMembers xs ys → SameMembers ys xs
same_turned xs ys one = record { to = one.from; from = one.to }

-- lists that are joined to ones with the same members
pub same_joined : (xs ys zs : List ℕ) → SameMembers xs ys → SameMembers (xs ++ zs) (ys ++ zs)
same_joined xs ys zs one =
    let joined : (ks ms : List ℕ) → ((n : ℕ) → Contains ks n → Contains ms n) → (n : ℕ) → Contains (ks ++ zs) n → Contains (ms ++ zs) n = λ ks ms each n h.
    elim (Contains-append_cases ks zs n h) as (λ _. Contains (ms ++ zs) n) [ inl left ↦ Contains-append_left ms zs n (each n left) | inr right ↦ Contains-append_right ms zs n right ] in
    record { to = joined xs ys one.to; from = joined ys xs one.from }

-- the order of two lists does not matter
same_swapped : (xs ys : List ℕ) → SameMembers (xs ++ ys) (ys ++ xs)
same_swapped xs ys =
    let turn : (ks ms : List ℕ) (n : ℕ) → Contains (ks ++ ms) n → Contains (ms ++ ks) n = λ ks ms n h.
    elim (Contains-append_cases ks ms n h) as (λ _. Contains (ms ++ ks) n) [
      | inl left ↦ Contains-append_right ms ks n left
      | inr right ↦ Contains-append_left ms ks n right
    ] in
    record { to = turn xs ys; from = turn ys xs }

-- sorted, and each once
pub same_tidied : (xs ys : List ℕ) → IsPermutation xs ys → SameMembers xs (dedup eqb ys)
same_tidied xs ys moved = record {
  to = λ n h. Contains-dedup_nat ys n (Contains-permutation xs ys n moved h);
  from = λ n h. Contains-permutation ys xs n (IsPermutation-sym xs ys moved) (Contains-from_dedup eqb ys n h);
}

-- a value and its sums with the values of the right
abbrev pub row_of : ℕ → List ℕ → ℕ → List ℕ
row_of cap vs u = u ∷ map (λ v. min (u + v) cap) vs

-- the right's values, and the rows of the first values of the left
abbrev pub gathered : ℕ → List ℕ → List ℕ → ℕ → List ℕ
gathered cap us vs i = vs ++ flat_map (row_of cap vs) (take i us)

pub gathered_all : (cap : ℕ) (us vs : List ℕ) → SameMembers (vs ++ flat_map (row_of cap vs) us) (sums cap us vs)
gathered_all cap us vs = same_swapped vs (flat_map (row_of cap vs) us)

-- before the first row
pub gathered_first : (cap : ℕ) (us vs made : List ℕ) → made ≡ vs → SameMembers made (gathered cap us vs 0)
gathered_first cap us vs made is = subst (SameMembers made) (is ∙ sym (append-nil vs)) (record { to = λ n h. h; from = λ n h. h })

-- what was gathered so far stands among all sums
pub gathered_within : (cap : ℕ) (us vs : List ℕ) (i n : ℕ) → Contains (gathered cap us vs i) n → Contains (sums cap us vs) n
gathered_within cap us vs i n h =
    (gathered_all cap us vs).to n (elim (Contains-append_cases vs (flat_map (row_of cap vs) (take i us)) n h) as (λ _. Contains (vs ++ flat_map (row_of cap vs) us) n) [
      | inl right ↦ Contains-append_left vs (flat_map (row_of cap vs) us) n right
      | inr rows ↦
          let row = Contains-flat_map_cases (row_of cap vs) (take i us) n rows in
          Contains-append_right vs (flat_map (row_of cap vs) us) n (Contains-flat_map (row_of cap vs) us row.0 n (All-contains (Contains us) (take i us) row.0 (All-take (Contains us) i us (All-contains_itself us)) row.1) row.2)
    ])

-- one row more
pub gathered_next : (cap : ℕ) (us vs made after : List ℕ) (i : ℕ) → i < length us → SameMembers made (gathered cap us vs i) → SameMembers (made ++ row_of cap vs (get_or us i 0)) after → SameMembers after (gathered cap us vs (i + 1))
gathered_next cap us vs made after i within same row =
    let f = row_of cap vs in
    let more : gathered cap us vs i ++ f (get_or us i 0) ≡ gathered cap us vs (i + 1) =
    append_assoc vs (flat_map f (take i us)) (f (get_or us i 0))
    ∙ ap (λ (xs : List ℕ). (vs ++ (flat_map f (take i us) ++ xs))) (sym (append-nil (f (get_or us i 0))))
    ∙ ap (λ (xs : List ℕ). vs ++ xs) (sym (flat_map-append f (take i us) (get_or us i 0 ∷ [])))
    ∙ ap (λ (xs : List ℕ). vs ++ flat_map f xs) (sym (take_more us i 0 within)) in
    same_then after (made ++ f (get_or us i 0)) (gathered cap us vs (i + 1)) (same_turned (made ++ f (get_or us i 0)) after row)
    (subst (λ (xs : List ℕ). SameMembers (made ++ f (get_or us i 0)) xs) more (same_joined made (gathered cap us vs i) (f (get_or us i 0)) same))

-- after the last
pub gathered_last : (cap : ℕ) (us vs made tidied : List ℕ) (i : ℕ) → length us ≤ i → SameMembers made (gathered cap us vs i) → SameMembers made tidied → SameMembers tidied (sums cap us vs)
gathered_last cap us vs made tidied i passed same tidy =
    same_then tidied made (sums cap us vs) (same_turned made tidied tidy)
    (same_then made (gathered cap us vs i) (sums cap us vs) same
    (subst (λ (xs : List ℕ). SameMembers (vs ++ flat_map (row_of cap vs) xs) (sums cap us vs)) (sym (take_all i us passed)) (gathered_all cap us vs)))

-- rising lists of fewer members are shorter
pub rising_shorter : (xs ys : List ℕ) → Rising xs → Rising ys → ((n : ℕ) → Contains xs n → Contains ys n) → length xs ≤ length ys
rising_shorter [] ys rx ry to = omega arith
rising_shorter (x ∷ xs) [] rx ry to = absurd (Contains-nil x (to x (Contains-here x xs)))
rising_shorter (x ∷ xs) (y ∷ ys) rx ry to =
    let tail : ((n : ℕ) → Contains xs n → Contains ys n) = λ n h.
    elim (Contains-cons_cases y ys n (to n (Contains-there x xs n h))) as (λ _. Contains ys n) [
      | inl same ↦ absurd (
          let above = rx.0 n h in
          elim (Contains-cons_cases y ys x (to x (Contains-here x xs))) as (λ _. ⊥) [
            | inl also ↦ omega arith
            | inr later ↦ let low = ry.0 x later in omega arith
          ])
      | inr rest ↦ rest
    ] in
    let rest = rising_shorter xs ys rx.1 ry.1 tail in
    omega arith

-- the values, where each sum was gathered
pub values_of : (cap : ℕ) (us vs made : List ℕ) → All (λ u. u ≤ cap) us → All (λ v. v ≤ cap) vs → Rising made → SameMembers made (sums cap us vs) → made ≡ ascending cap (sums cap us vs)
values_of cap us vs made left right rising same =
    rising_same made (ascending cap (sums cap us vs)) rising (rising_ascending cap (sums cap us vs))
    (λ n h. let inside = same.to n h in ascending_has cap (sums cap us vs) n inside (sums_within cap us vs left right n inside))
    (λ n h. same.from n (ascending_cases cap (sums cap us vs) n h).0)

-- there are no fewer values than what was gathered so far
pub values_more : (cap : ℕ) (us vs made : List ℕ) → All (λ u. u ≤ cap) us → All (λ v. v ≤ cap) vs → Rising made → ((n : ℕ) → Contains made n → Contains (sums cap us vs) n)
    → length made ≤ length (ascending cap (sums cap us vs))
values_more cap us vs made left right rising within =
    rising_shorter made (ascending cap (sums cap us vs)) rising (rising_ascending cap (sums cap us vs))
    (λ n h. let inside = within n h in ascending_has cap (sums cap us vs) n inside (sums_within cap us vs left right n inside))
