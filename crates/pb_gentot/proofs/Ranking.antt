-- The places of values, as they are written into a table.
use Rattle.std.proofs.Common.{◌≡◌, ◌<◌, ◌≤◌, ◌+◌, ℕ, List, length, get_or, set, sym, ap, ◌∙◌, subst, arith, inl, inr, get_or-set_other, get_or-set_same, length-set}
use Rattle.std.proofs.lemmas.Bool.{cases_lt}
use Rattle.std.proofs.lemmas.List.{get_or_default}
use Rattle.pb_tree.specs.Places.{place_of}
use Rattle.pb_gentot.specs.declared.ranks.Ranks.{Ranks}
use Rattle.pb_gentot.specs.inner.Ranked.{AreRanks}
use Rattle.pb_gentot.specs.Rising.{Rising}
use Rattle.pb_gentot.proofs.RisingLists.{place_at, found_is}

-- the first values' places are written
pub record PlacesOf (us : List ℕ) (places : List ℕ) (i : ℕ) : Type 0 where
  pub each : (k : ℕ) → k < i → get_or us k 0 < length places → get_or places (get_or us k 0) 0 ≡ k

-- values at two places differ
rising_differ : (us : List ℕ) (k i : ℕ) → Rising us → k < i → i < length us → get_or us k 0 ≡ get_or us i 0 → ⊥
rising_differ us k i rising less within same =
    let one = place_at us k 0 rising (omega arith) in
    let two = place_at us i 0 rising within in
    let both = ap (λ (u : ℕ). place_of u us) same in
    omega arith

-- one place is written
pub places_more : (us places : List ℕ) (i : ℕ) → Rising us → i < length us → PlacesOf us places i → PlacesOf us (set places (get_or us i 0) i) (i + 1)
places_more us places i rising within before = record {
  each = λ k less inside.
      let long = length-set places (get_or us i 0) i in
      elim (cases_lt k i) as (λ _. get_or (set places (get_or us i 0) i) (get_or us k 0) 0 ≡ k) [
        | inl earlier ↦ get_or-set_other places (get_or us i 0) (get_or us k 0) i 0 (rising_differ us k i rising earlier within) ∙ before.each k earlier (omega arith)
        | inr last ↦
            let is : i ≡ k = omega arith in
            subst (λ (n : ℕ). get_or (set places (get_or us i 0) i) (get_or us n 0) 0 ≡ n) is
            (get_or-set_same places (get_or us i 0) i 0 (let e = ap (λ (n : ℕ). get_or us n 0) is in omega arith))
      ];
}

-- a value past the table is passed over
pub places_passed : (us places : List ℕ) (i : ℕ) → length places ≤ get_or us i 0 → PlacesOf us places i → PlacesOf us places (i + 1)
places_passed us places i past before = record {
  each = λ k less inside. elim (cases_lt k i) as (λ _. get_or places (get_or us k 0) 0 ≡ k) [
    | inl earlier ↦ before.each k earlier inside
    | inr last ↦
        let is : k ≡ i = omega arith in
        let e = ap (λ (n : ℕ). get_or us n 0) is in
        absurd (omega arith)
  ];
}

-- all places are written
pub places_all : (us : List ℕ) (ranks : Ranks) (i : ℕ) → Rising us → length us ≤ i → PlacesOf us ranks.places.items i → AreRanks ranks us
places_all us ranks i rising passed written = record {
  place = λ u there inside.
      let k = there.0 in
      let is : get_or us k 0 ≡ u = get_or_default us k 0 u there.1 ∙ there.2 in
      let at : get_or us k 0 < length ranks.places.items = omega arith in
      ap (λ (n : ℕ). get_or ranks.places.items n 0) (sym is) ∙ written.each k (omega (arith, there.1)) at ∙ found_is us u k rising there.1 is;
}
