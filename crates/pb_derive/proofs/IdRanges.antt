-- Neighbouring ids, and those outside.
use Rattle.std.proofs.Common.{◌≡◌, ◌≢◌, ◌≤◌, ◌<◌, ◌+◌, ◌-◌, ◌⊎◌, inl, inr, ◌++◌, ℕ, zero, suc, List, arith, get_or}
use Rattle.std.specs.Prelude.{All, AllPairs}
use Rattle.std.specs.List.{range_with_len}
use Rattle.std.proofs.lemmas.Bool.{cases_lt}
use Rattle.std.proofs.lemmas.List.Elements.{All-nil, All-cons, All-append}
use Rattle.std.proofs.lemmas.List.FromFn.{length-range_with_len, get_or-range_with_len}
use Rattle.std.proofs.lemmas.List.Kept.{AllPairs-cons}
use Rattle.pb_base.proofs.Pairs.{AllPairs-nil}

-- the id is none of these
abbrev pub IsOff : List ℕ → ℕ → Type 0
IsOff ids i = All (λ j. j ≢ i) ids

-- an id that is outside neighbouring ones
pub outside : (a n i : ℕ) → IsOff (range_with_len a n) i → (i < a) ⊎ (a + n ≤ i)
outside a n i off =
    elim (cases_lt i a) as (λ _. (i < a) ⊎ (a + n ≤ i)) [
      | inl below ↦ inl below
      | inr from ↦ elim (cases_lt i (a + n)) as (λ _. (i < a) ⊎ (a + n ≤ i)) [
        | inr above ↦ inr above
        | inl within ↦
            let k : ℕ = i - a in
            let inside : k < n = omega (arith, from, within) in
            let here : get_or (range_with_len a n) k i ≡ a + k = get_or-range_with_len a n k i inside in
            absurd (off k i (omega (arith, inside, length-range_with_len a n)) (omega (arith, here, from)))
      ]
    ]

-- and neighbouring ids that are outside
pub off-range : (a n i : ℕ) → ((i < a) ⊎ (a + n ≤ i)) → IsOff (range_with_len a n) i
off-range a zero i out = All-nil (λ (j : ℕ). j ≢ i)
off-range a (suc n) i out =
    All-cons (λ (j : ℕ). j ≢ i) a (range_with_len (a + 1) n) (λ same. elim out as (λ _. ⊥) [ inl below ↦ omega (arith, same, below) | inr above ↦ omega (arith, same, above) ])
    (off-range (a + 1) n i (elim out as (λ _. (i < a + 1) ⊎ (a + 1 + n ≤ i)) [ inl below ↦ inl (omega (arith, below)) | inr above ↦ inr (omega (arith, above)) ]))

-- what holds of each id between holds of all
pub each_between : (Q : ℕ → Type 0) (a n : ℕ) → ((i : ℕ) → a ≤ i → i < a + n → Q i) → All Q (range_with_len a n)
each_between Q a zero each = All-nil Q
each_between Q a (suc n) each = All-cons Q a (range_with_len (a + 1) n) (each a (omega arith) (omega arith)) (each_between Q (a + 1) n (λ i low high. each i (omega (arith, low)) (omega (arith, high))))

-- neighbouring ids are different
pub range-apart : (a n : ℕ) → AllPairs (λ i j. i ≢ j) (range_with_len a n)
range-apart a zero = AllPairs-nil (λ (i j : ℕ). i ≢ j)
range-apart a (suc n) =
    AllPairs-cons (λ (i j : ℕ). i ≢ j) a (range_with_len (a + 1) n) (each_between (λ j. a ≢ j) (a + 1) n (λ j low high same. omega (arith, low, same))) (range-apart (a + 1) n)

-- and so are those of two ranges, one behind the other
pub ranges-apart : (a n b m : ℕ) → a + n ≤ b → AllPairs (λ i j. i ≢ j) (range_with_len a n ++ range_with_len b m)
ranges-apart a zero b m le = range-apart b m
ranges-apart a (suc n) b m le =
    AllPairs-cons (λ (i j : ℕ). i ≢ j) a (range_with_len (a + 1) n ++ range_with_len b m)
    (All-append (λ (j : ℕ). a ≢ j) (range_with_len (a + 1) n) (range_with_len b m) (each_between (λ j. a ≢ j) (a + 1) n (λ j low high same. omega (arith, low, same))) (each_between (λ j. a ≢ j) b m (λ j low high same. omega (arith, low, same, le))))
    (ranges-apart (a + 1) n b m (omega (arith, le)))
