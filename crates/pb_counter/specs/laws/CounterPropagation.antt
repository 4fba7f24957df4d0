-- What unit propagation derives over the clauses of a sequential counter.
use Rattle.std.proofs.Common.{◌≡◌, ◌<◌, ◌≤◌, ◌+◌, ◌-◌, ℕ, true, false, List, length, get_or, refl, sym, ap, subst, arith, inl, inr}
use Rattle.std.specs.Prelude.{Contains, count_by}
use Rattle.std.proofs.lemmas.Bool.{cases_Bool, cases_lt, cases_eq}
use Rattle.pb_base.specs.declared.literal.Lit.{Lit}
use Rattle.pb_base.specs.Literals.{negated, is_among}
use Rattle.pb_norm.proofs.Derived.{Derived, Refuted, second_of, first_of_two, refuted_pair}
use Rattle.pb_norm.proofs.Derived.Derived.{by_given}
use Rattle.std.proofs.lemmas.List.Elements.{Contains-get_or}
use Rattle.pb_base.proofs.Members.{from_among, Contains-map}
use Rattle.pb_family.specs.Fresh.{literal_at}
use Rattle.pb_family.proofs.FlatRanges.{counting_up, counting_down}
use Rattle.pb_family.proofs.ShortClauses.{left_over, derived_left, twice}
use Rattle.pb_counter.specs.declared.place.Place.{Place}
use Rattle.pb_counter.specs.declared.place.Place.TheVariants.{Start, One, Keep, More, Stop}
use Rattle.pb_counter.specs.Counter.{count_bit, clause_at, places, counter_clauses}
use Rattle.pb_counter.specs.inner.Order.{IsPlace}
use Rattle.pb_counter.specs.laws.CounterPlaces.{at_place, seen, seen_none, seen_yes, seen_no, seen_all}

module _ (ms : List Lit) (width first : ℕ) (given : List Lit) where
  abbrev cs : List (List Lit)
  cs = counter_clauses ms width first

  abbrev bit : ℕ → ℕ → Lit
  bit i j = count_bit first width i j

  abbrev at : ℕ → Lit
  at k = literal_at ms k

  abbrev so_far : ℕ → ℕ
  so_far k = seen (is_among given) ms k

  abbrev total : ℕ
  total = count_by (is_among given) ms

  listed : (p : Place) → IsPlace (length ms) width p → Contains cs (clause_at ms width first p)
  listed = at_place (λ (p : Place). Contains cs (clause_at ms width first p)) (length ms) width (λ i d within. Contains-map (clause_at ms width first) (places (length ms) width) (get_or (places (length ms) width) i d) (Contains-get_or (places (length ms) width) i d within))

  held : (k : ℕ) → is_among given (at k) ≡ true → Derived cs given (negated (negated (at k)))
  held k h = twice cs given (at k) (by_given (from_among given (at k) h))

  -- what is counted among the given literals is derived
  up : (i : ℕ) → (j : ℕ) → i + 1 < length ms → j < width → j < so_far (i + 1) → Derived cs given (bit i j)
  up = counting_up (λ i. (j : ℕ) → i + 1 < length ms → j < width → j < so_far (i + 1) → Derived cs given (bit i j))
      (λ j within low counted.
      let none = seen_none (is_among given) ms in
      elim (cases_Bool (is_among given (at 0))) as (λ _. Derived cs given (bit 0 j)) [
        | inl here ↦
            let one = seen_yes (is_among given) ms 0 (omega arith) here in
            subst (λ (k : ℕ). Derived cs given (bit 0 k)) (let e : 0 ≡ j = omega arith in e)
            (second_of cs given (negated (at 0)) (bit 0 0) (listed Start tt) (held 0 here))
        | inr fails ↦ let same = seen_no (is_among given) ms 0 (omega arith) fails in absurd (omega arith)
      ])
      (λ i before j within low counted.
      elim (cases_Bool (is_among given (at (i + 1)))) as (λ _. Derived cs given (bit (i + 1) j)) [
        | inl here ↦
            let one = seen_yes (is_among given) ms (i + 1) (omega arith) here in
            elim (cases_eq j 0) as (λ _. Derived cs given (bit (i + 1) j)) [
              | inl none ↦ subst (λ (k : ℕ). Derived cs given (bit (i + 1) k)) (sym none) (second_of cs given (negated (at (i + 1))) (bit (i + 1) 0) (listed (One i) (omega arith)) (held (i + 1) here))
              | inr some ↦
                  subst (λ (k : ℕ). Derived cs given (bit (i + 1) k)) (let e : (j - 1) + 1 ≡ j = omega arith in e)
                  (derived_left cs given _ (left_over cs given (clause_at ms width first (More i (j - 1))) (bit (i + 1) ((j - 1) + 1)) (listed (More i (j - 1)) (omega arith, omega arith))
                  (2, omega arith, refl)
                  (inr (held (i + 1) here), (inr (twice cs given (bit i (j - 1)) (before (j - 1) (omega arith) (omega arith) (omega arith))), (inl refl, tt)))))
            ]
        | inr fails ↦
            let same = seen_no (is_among given) ms (i + 1) (omega arith) fails in
            second_of cs given (negated (bit i j)) (bit (i + 1) j) (listed (Keep i j) (omega arith, low)) (twice cs given (bit i j) (before j (omega arith) low (omega arith)))
      ])

  pub refuted : width < total → 1 ≤ width → Refuted cs given
  refuted above some =
      let whole = seen_all (is_among given) ms in
      counting_up (λ k. k ≤ length ms → width < so_far k → Refuted cs given)
      (λ within more. let none = seen_none (is_among given) ms in absurd (omega arith))
      (λ k before within more.
      elim (cases_Bool (is_among given (at k))) as (λ _. Refuted cs given) [
        | inr fails ↦ let same = seen_no (is_among given) ms k (omega arith) fails in before (omega arith) (omega arith)
        | inl here ↦
            let one = seen_yes (is_among given) ms k (omega arith) here in
            let none = seen_none (is_among given) ms in
            elim (cases_eq k 0) as (λ _. Refuted cs given) [
              | inl zero_k ↦ let same = ap so_far zero_k in absurd (omega arith)
              | inr some_k ↦
                  let place : k ≡ (k - 1) + 1 = omega arith in
                  let same = ap so_far place in
                  refuted_pair cs given (negated (at ((k - 1) + 1))) (negated (bit (k - 1) (width - 1))) (listed (Stop (k - 1)) (omega arith))
                  (held ((k - 1) + 1) (subst (λ (n : ℕ). is_among given (at n) ≡ true) place here))
                  (twice cs given (bit (k - 1) (width - 1)) (up (k - 1) (width - 1) (omega arith) (omega arith) (omega arith)))
            ]
      ])
      (length ms) (omega arith) (omega arith)

  -- no more can be counted than leaves room for the given literals after it
  down : (i : ℕ) → i + 1 < length ms → (j : ℕ) → j < width → width + so_far (i + 1) ≤ j + total → Derived cs given (negated (bit i j))
  down i within =
      let whole = seen_all (is_among given) ms in
      counting_down (λ i. (j : ℕ) → j < width → width + so_far (i + 1) ≤ j + total → Derived cs given (negated (bit i j))) (length ms - 1)
      (λ i within after j low tight.
      elim (cases_Bool (is_among given (at (i + 1)))) as (λ _. Derived cs given (negated (bit i j))) [
        | inl here ↦
            let one = seen_yes (is_among given) ms (i + 1) (omega arith) here in
            elim (cases_lt (j + 1) width) as (λ _. Derived cs given (negated (bit i j))) [
              | inr end ↦
                  subst (λ (k : ℕ). Derived cs given (negated (bit i k))) (let e : width - 1 ≡ j = omega arith in e)
                  (second_of cs given (negated (at (i + 1))) (negated (bit i (width - 1))) (listed (Stop i) (omega arith)) (held (i + 1) here))
              | inl inside ↦ elim (cases_lt (i + 2) (length ms)) as (λ _. Derived cs given (negated (bit i j))) [
                | inr end ↦ let last = ap so_far (let e : (i + 1) + 1 ≡ length ms = omega arith in e) in absurd (omega arith)
                | inl more ↦
                    derived_left cs given _ (left_over cs given (clause_at ms width first (More i j)) (negated (bit i j)) (listed (More i j) (more, inside))
                    (1, omega arith, refl)
                    (inr (held (i + 1) here), (inl refl, (inr (after (omega arith) (j + 1) inside (omega arith)), tt))))
              ]
            ]
        | inr fails ↦
            let same = seen_no (is_among given) ms (i + 1) (omega arith) fails in
            elim (cases_lt (i + 2) (length ms)) as (λ _. Derived cs given (negated (bit i j))) [
              | inr end ↦ let last = ap so_far (let e : (i + 1) + 1 ≡ length ms = omega arith in e) in absurd (omega arith)
              | inl more ↦ first_of_two cs given (negated (bit i j)) (bit (i + 1) j) (listed (Keep i j) (more, low)) (after (omega arith) j low (omega arith))
            ]
      ])
      i (omega arith)

  -- a literal that is not given is false where the given ones reach the bound
  pub pushed : (p : ℕ) → p < length ms → 2 ≤ length ms → 1 ≤ width → is_among given (at p) ≡ false → width ≤ total → Derived cs given (negated (at p))
  pushed p within two some new tight =
      let none = seen_none (is_among given) ms in
      let whole = seen_all (is_among given) ms in
      elim (cases_eq p 0) as (λ _. Derived cs given (negated (at p))) [
        | inl start ↦
            let new_0 = subst (λ (n : ℕ). is_among given (at n) ≡ false) start new in
            let same = seen_no (is_among given) ms 0 (omega arith) new_0 in
            subst (λ (n : ℕ). Derived cs given (negated (at n))) (sym start)
            (first_of_two cs given (negated (at 0)) (bit 0 0) (listed Start tt) (down 0 (omega arith) 0 (omega arith) (omega arith)))
        | inr later ↦
            let i = p - 1 in
            let place : i + 1 ≡ p = omega arith in
            let new_i = subst (λ (n : ℕ). is_among given (at n) ≡ false) (sym place) new in
            let same = seen_no (is_among given) ms (i + 1) (omega arith) new_i in
            subst (λ (n : ℕ). Derived cs given (negated (at n))) place
            (elim (cases_lt (so_far (i + 1)) width) as (λ _. Derived cs given (negated (at (i + 1)))) [
              | inr full ↦
                  first_of_two cs given (negated (at (i + 1))) (negated (bit i (width - 1))) (listed (Stop i) (omega arith))
                  (twice cs given (bit i (width - 1)) (up i (width - 1) (omega arith) (omega arith) (omega arith)))
              | inl room ↦ elim (cases_lt (i + 2) (length ms)) as (λ _. Derived cs given (negated (at (i + 1)))) [
                | inr end ↦ let last = ap so_far (let e : (i + 1) + 1 ≡ length ms = omega arith in e) in absurd (omega arith)
                | inl more ↦
                    let off = down (i + 1) (omega arith) (so_far (i + 1)) room (omega arith) in
                    elim (cases_eq (so_far (i + 1)) 0) as (λ _. Derived cs given (negated (at (i + 1)))) [
                      | inl empty ↦ first_of_two cs given (negated (at (i + 1))) (bit (i + 1) 0) (listed (One i) more) (subst (λ (n : ℕ). Derived cs given (negated (bit (i + 1) n))) empty off)
                      | inr counted ↦
                          let j = so_far (i + 1) - 1 in
                          let next : so_far (i + 1) ≡ j + 1 = omega arith in
                          derived_left cs given _ (left_over cs given (clause_at ms width first (More i j)) (negated (at (i + 1))) (listed (More i j) (more, omega arith)) (0, omega arith, refl)
                          (inl refl, (inr (twice cs given (bit i j) (up i j (omega arith) (omega arith) (omega arith))), (inr (subst (λ (n : ℕ). Derived cs given (negated (bit (i + 1) n))) next off), tt))))
                    ]
              ]
            ])
      ]
