-- An assignment that counts the true literals.
use Rattle.std.proofs.Common.{◌≡◌, ◌<◌, ◌≤◌, ◌+◌, ◌*◌, ◌-◌, ◌/◌, ◌%◌, ℕ, Bool, true, false, not, ltb, List, length, sym, ap, ◌∙◌, arith, inl, inr}
use Rattle.std.specs.Prelude.{All, count_by}
use Rattle.std.proofs.lemmas.Bool.{cases_Bool, lt-ltb, le-ltb, ltb-true}
use Rattle.std.proofs.lemmas.List.Elements.{All-map}
use Rattle.std.proofs.lemmas.Nat.{div-mul-add, mod-mul-add}
use Rattle.pb_base.specs.declared.literal.Lit.{Lit}
use Rattle.pb_base.specs.Literals.{negated, lit_value, clause_value, IsModel}
use Rattle.pb_base.proofs.LiteralLemmas.{lit_value-negated}
use Rattle.pb_family.specs.Fresh.{positive_of, literal_at}
use Rattle.pb_family.proofs.ShortClauses.{unless_one, when_one, when_two}
use Rattle.pb_family.proofs.Extended.{extended, extended_fresh, extended_literal}
use Rattle.pb_counter.specs.declared.place.Place.{Place}
use Rattle.pb_counter.specs.declared.place.Place.TheVariants.{Start, Below, One, Keep, More, Stop}
use Rattle.pb_counter.specs.Counter.{count_bit, clause_at, places, counter_clauses}
use Rattle.pb_counter.specs.inner.Order.{IsPlace}
use Rattle.pb_counter.specs.laws.CounterPlaces.{each_place, seen, seen_none, seen_yes, seen_no, seen_within}

-- the variable at (i, j) is true where more than j literals are true up to place i
pub counting : (ℕ → Bool) → List Lit → ℕ → ℕ → Bool
counting v ms width k = ltb (k % width) (seen (lit_value v) ms (k / width + 1))

counting_bit : (v : ℕ → Bool) (ms : List Lit) (width first i j : ℕ) → j < width → lit_value (extended v first (counting v ms width)) (count_bit first width i j) ≡ ltb j (seen (lit_value v) ms (i + 1))
unfolding counting
counting_bit v ms width first i j low =
    extended_fresh v first (counting v ms width) (i * width + j)
    ∙ ap (λ (n : ℕ). ltb ((i * width + j) % width) (seen (lit_value v) ms (n + 1))) (div-mul-add i width j low)
    ∙ ap (λ (n : ℕ). ltb n (seen (lit_value v) ms (i + 1))) (mod-mul-add i width j low)

-- each clause is true under it
module _ (v : ℕ → Bool) (ms : List Lit) (width first : ℕ) (below : All (λ m. m.var < first) ms) where
  abbrev w : ℕ → Bool
  w = extended v first (counting v ms width)

  abbrev true_before : ℕ → ℕ
  true_before k = seen (lit_value v) ms k

  -- the literals keep their values
  kept : (k : ℕ) → k < length ms → lit_value w (literal_at ms k) ≡ true → lit_value v (literal_at ms k) ≡ true
  kept k within h = extended_literal v first (counting v ms width) (literal_at ms k) (below k (positive_of 0) within) ∙ h

  bit_on : (i j : ℕ) → j < width → j < true_before (i + 1) → lit_value w (count_bit first width i j) ≡ true
  bit_on i j low h = counting_bit v ms width first i j low ∙ lt-ltb j (true_before (i + 1)) h

  bit_off : (i j : ℕ) → j < width → true_before (i + 1) ≤ j → lit_value w (count_bit first width i j) ≡ false
  bit_off i j low h = counting_bit v ms width first i j low ∙ le-ltb j (true_before (i + 1)) h

  bit_says : (i j : ℕ) → j < width → lit_value w (count_bit first width i j) ≡ true → j < true_before (i + 1)
  bit_says i j low h = ltb-true j (true_before (i + 1)) (sym (counting_bit v ms width first i j low) ∙ h)

  counts : (k : ℕ) → k < length ms → lit_value w (literal_at ms k) ≡ true → true_before (k + 1) ≡ true_before k + 1
  counts k within h = seen_yes (lit_value v) ms k within (kept k within h)

  grows : (k : ℕ) → k < length ms → (true_before k ≤ true_before (k + 1)) × (true_before (k + 1) ≤ true_before k + 1)
  grows k within =
      elim (cases_Bool (lit_value v (literal_at ms k))) as (λ _. (true_before k ≤ true_before (k + 1)) × (true_before (k + 1) ≤ true_before k + 1)) [
        | inl here ↦ let one = seen_yes (lit_value v) ms k within here in (omega arith, omega arith)
        | inr fails ↦ let same = seen_no (lit_value v) ms k within fails in (omega arith, omega arith)
      ]

  pub satisfied : 1 ≤ width → 2 ≤ length ms → count_by (lit_value v) ms ≤ width → IsModel w (counter_clauses ms width first)
  satisfied some two few =
      let none = seen_none (lit_value v) ms in
      All-map (λ (c : List Lit). clause_value w c ≡ true) (clause_at ms width first) (places (length ms) width) (each_place (λ p. clause_value w (clause_at ms width first p) ≡ true) (length ms) width some two (holds none))
    where
      holds : seen (lit_value v) ms 0 ≡ 0 → (p : Place) → IsPlace (length ms) width p → clause_value w (clause_at ms width first p) ≡ true
      holds none Start h = when_one w (literal_at ms 0) (count_bit first width 0 0) (λ here. let one = counts 0 (omega arith) here in bit_on 0 0 (omega arith) (omega arith))
      holds none (Below j) h = let one = grows 0 (omega arith) in unless_one w (count_bit first width 0 j) (bit_off 0 j (omega (arith, h.1)) (omega (arith, h.0)))
      holds none (One i) h = when_one w (literal_at ms (i + 1)) (count_bit first width (i + 1) 0) (λ here. let one = counts (i + 1) (omega arith) here in bit_on (i + 1) 0 (omega arith) (omega arith))
      holds none (Keep i j) h = when_one w (count_bit first width i j) (count_bit first width (i + 1) j) (λ counted.
          let before = bit_says i j h.1 counted in
          let more = grows (i + 1) (omega (arith, h.0)) in
          bit_on (i + 1) j h.1 (omega arith))
      holds none (More i j) h = when_two w (literal_at ms (i + 1)) (count_bit first width i j) (count_bit first width (i + 1) (j + 1)) (λ here counted.
          let one = counts (i + 1) (omega (arith, h.0)) here in
          let before = bit_says i j (omega (arith, h.1)) counted in
          bit_on (i + 1) (j + 1) h.1 (omega arith))
      holds none (Stop i) h = when_one w (literal_at ms (i + 1)) (negated (count_bit first width i (width - 1))) (λ here.
          let one = counts (i + 1) (omega arith) here in
          let within = seen_within (lit_value v) ms ((i + 1) + 1) in
          lit_value-negated w (count_bit first width i (width - 1)) ∙ ap not (bit_off i (width - 1) (omega arith) (omega arith)))
