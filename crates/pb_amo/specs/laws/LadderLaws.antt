-- The laws of a ladder.
use Rattle.std.proofs.Common.{◌≡◌, ◌<◌, ◌≤◌, ◌+◌, ◌*◌, ◌-◌, ◌||◌, ℕ, Bool, true, false, not, List, [], ◌∷◌, length, drop, refl, sym, ap, ◌∙◌, subst, arith, inl, inr, zero, suc}
use Rattle.std.specs.Prelude.{Contains, All, count_by}
use Rattle.std.specs.List.{list_any}
use Rattle.std.proofs.lemmas.Bool.{cases_Bool, cases_order, or_left, or_right, or_from}
use Rattle.std.proofs.lemmas.List.{length-map}
use Rattle.std.proofs.Math.Seq.{drop-cons}
use Rattle.std.proofs.lemmas.List.Elements.{All-map, All-from_recursion}
use Rattle.pb_base.specs.declared.literal.Lit.{Lit}
use Rattle.pb_base.specs.Literals.{Assignment, negated, lit_value, clause_value, IsModel, AgreeBelow}
use Rattle.pb_base.proofs.LiteralLemmas.{lit_value-negated}
use Rattle.pb_base.proofs.Members.{Contains-map}
use Rattle.pb_norm.specs.Constraints.{Weighted}
use Rattle.pb_norm.specs.BoundedSums.{BoundedSum, StaysWithin, IsOverDistinct}
use Rattle.pb_norm.specs.Reduction.{lits_of, all_weigh}
use Rattle.pb_norm.specs.ClausePropagation.{ClausesPropagate}
use Rattle.pb_norm.proofs.Derived.{Derived, second_of, first_of_two}
use Rattle.pb_family.specs.Families.{VarsBelow, NamesOnly, IsNamed}
use Rattle.pb_family.specs.Fresh.{positive_of, literal_at, fresh_at}
use Rattle.pb_family.proofs.Extended.{extended, extended_below, extended_fresh, extended_literal}
use Rattle.pb_family.proofs.TermVars.{named_at}
use Rattle.pb_family.proofs.UnitSums.{count_by-cons_true, count_by-cons_false, unit_sum}
use Rattle.pb_family.proofs.FlatRanges.{All-itself, counting_up}
use Rattle.pb_family.proofs.ShortClauses.{LeftOver, twice, when_one}
use Rattle.pb_family.proofs.Pushes.{Pushes, first_left, sound_from_pushes, propagates_from_pushes}
use Rattle.pb_amo.specs.declared.rung.Place.{Place}
use Rattle.pb_amo.specs.declared.rung.Place.TheVariants.{Link, NoneAfter, SomeAfter}
use Rattle.pb_amo.specs.Ladder.{link, none_after, some_after, ladder_clauses}
use Rattle.pb_amo.specs.LadderSteps.{clause_at, places}
use Rattle.pb_amo.specs.inner.LadderOrder.{IsPlace}
use Rattle.pb_amo.specs.laws.LadderPlaces.{each_place, at_place, ladder_by_places, count_places}

-- ---- the clauses by their places

ladder_each : (P : List Lit → Type 0) (ms : List Lit) (first : ℕ) → ((p : Place) → IsPlace (length ms) p → P (clause_at ms first p)) → All P (ladder_clauses ms first)
ladder_each P ms first each =
    subst (All P) (ladder_by_places ms first) (All-map P (clause_at ms first) (places (length ms)) (each_place (λ p. P (clause_at ms first p)) (length ms) each))

-- the clauses are listed
listed : (ms : List Lit) (first : ℕ) (p : Place) → IsPlace (length ms) p → Contains (ladder_clauses ms first) (clause_at ms first p)
listed ms first p h =
    subst (λ (cs : List (List Lit)). Contains cs (clause_at ms first p)) (ladder_by_places ms first)
    (Contains-map (clause_at ms first) (places (length ms)) p (at_place (Contains (places (length ms))) (length ms) (All-itself (places (length ms))) p h))

-- ---- extends

-- whether some literal after a place is true
later : Assignment → List Lit → ℕ → Bool
later v ms k = list_any (lit_value v) (drop (k + 1) ms)

next_true : (v : Assignment) (ms : List Lit) (k : ℕ) → k + 1 < length ms → later v ms k ≡ (lit_value v (literal_at ms (k + 1)) || later v ms (k + 1))
unfolding later
next_true v ms k within = ap (list_any (lit_value v)) (drop-cons ms (k + 1) (positive_of 0) within ∙ ap (λ (n : ℕ). literal_at ms (k + 1) ∷ drop n ms) (let e : suc (k + 1) ≡ (k + 1) + 1 = omega arith in e))

none_any : (p : Lit → Bool) (xs : List Lit) → count_by p xs ≡ 0 → list_any p xs ≡ false
none_any p [] none = refl
none_any p (x ∷ xs) none =
    elim (cases_Bool (p x)) as (λ _. list_any p (x ∷ xs) ≡ false) [
      | inl here ↦ let one = count_by-cons_true p x xs here in absurd (omega arith)
      | inr fails ↦ let same = count_by-cons_false p x xs fails in or_from (p x) (list_any p xs) fails (none_any p xs (omega arith))
    ]

none_later : (v : Assignment) (ms : List Lit) (k : ℕ) → k < length ms → count_by (lit_value v) ms ≤ 1 → lit_value v (literal_at ms k) ≡ true → later v ms k ≡ false
unfolding later
none_later v [] k within few here = absurd (omega arith)
none_later v (m ∷ ms) zero within few here =
    let one = count_by-cons_true (lit_value v) m ms here in
    none_any (lit_value v) ms (omega arith)
none_later v (m ∷ ms) (suc k) within few here =
    let fewer : count_by (lit_value v) ms ≤ 1 =
    elim (cases_Bool (lit_value v m)) as (λ _. count_by (lit_value v) ms ≤ 1) [
      | inl head ↦ let one = count_by-cons_true (lit_value v) m ms head in omega arith
      | inr fails ↦ let same = count_by-cons_false (lit_value v) m ms fails in omega arith
    ] in
    ap (λ (n : ℕ). list_any (lit_value v) (drop n (m ∷ ms))) (let e : suc k + 1 ≡ suc (k + 1) = omega arith in e) ∙ none_later v ms k (omega arith) fewer here

-- each clause is true where each fresh variable says so
module _ (v : Assignment) (ms : List Lit) (first : ℕ) (low : All (λ m. m.var < first) ms) (few : count_by (lit_value v) ms ≤ 1) where
  abbrev w : Assignment
  w = extended v first (later v ms)

  fresh : (k : ℕ) → lit_value w (fresh_at first k) ≡ later v ms k
  fresh k = extended_fresh v first (later v ms) k

  same : (k : ℕ) → k < length ms → lit_value v (literal_at ms k) ≡ lit_value w (literal_at ms k)
  same k h = extended_literal v first (later v ms) (literal_at ms k) (low k (positive_of 0) h)

  holds : (p : Place) → IsPlace (length ms) p → clause_value w (clause_at ms first p) ≡ true
  holds (Link k) h = when_one w (fresh_at first (k + 1)) (fresh_at first k) (λ up.
      fresh k ∙ next_true v ms k (omega (arith, h)) ∙ or_right (lit_value v (literal_at ms (k + 1))) (later v ms (k + 1)) (sym (fresh (k + 1)) ∙ up))
  holds (NoneAfter k) h = when_one w (literal_at ms k) (negated (fresh_at first k)) (λ here.
      lit_value-negated w (fresh_at first k) ∙ ap not (fresh k ∙ none_later v ms k (omega (arith, h)) few (same k (omega (arith, h)) ∙ here)))
  holds (SomeAfter k) h = when_one w (literal_at ms (k + 1)) (fresh_at first k) (λ here.
      fresh k ∙ next_true v ms k h ∙ or_left (lit_value v (literal_at ms (k + 1))) (later v ms (k + 1)) (same (k + 1) h ∙ here))

pub ladder_extends : (c : BoundedSum) → c.bound ≡ 1 → all_weigh 1 c.terms ≡ true → (first : ℕ) → VarsBelow first c.terms → (v : Assignment) → StaysWithin v c
    → (w : Assignment) × AgreeBelow first v w × IsModel w (ladder_clauses (lits_of c.terms) first)
ladder_extends c one units first below v holds_within =
    let ms = lits_of c.terms in
    let count = unit_sum (lit_value v) c.terms units in
    let low = All-map (λ (m : Lit). m.var < first) (λ (t : Weighted). t.lit) c.terms below in (
      extended v first (later v ms),
      extended_below v first (later v ms),
      ladder_each (λ d. clause_value (extended v first (later v ms)) d ≡ true) ms first (holds v ms first low (omega arith)),
    )

-- ---- names and counts

module _ (ts : List Weighted) (first : ℕ) where
  abbrev Named : Lit → Type 0
  Named = IsNamed ts first (length ts - 1)

  size : length (lits_of ts) ≡ length ts
  size = length-map ts (λ t. t.lit)

  own : (k : ℕ) → k < length ts → Named (negated (literal_at (lits_of ts) k))
  own k h = named_at ts first (length ts - 1) k (omega (arith, size, h))

  bit : (k : ℕ) → k + 1 < length ts → Named (fresh_at first k)
  bit k h = inr (omega arith, omega (arith, h))

  pub named : (p : Place) → IsPlace (length ts) p → All Named (clause_at (lits_of ts) first p)
  named (Link k) h = All-from_recursion Named (link first k) (bit (k + 1) (omega (arith, h)), (bit k (omega (arith, h)), tt))
  named (NoneAfter k) h = All-from_recursion Named (none_after (lits_of ts) first k) (own k (omega (arith, h)), (bit k h, tt))
  named (SomeAfter k) h = All-from_recursion Named (some_after (lits_of ts) first k) (own (k + 1) h, (bit k h, tt))

  pub ladder_names : NamesOnly ts first (length ts - 1) (ladder_clauses (lits_of ts) first)
  ladder_names = ladder_each (All Named) (lits_of ts) first (λ p h. named p (subst (λ (n : ℕ). IsPlace n p) size h))

  pub ladder_counts : 3 ≤ length ts → length (ladder_clauses (lits_of ts) first) ≡ 3 * length ts - 4
  ladder_counts three =
      sym (ap (λ (cs : List (List Lit)). length cs) (ladder_by_places (lits_of ts) first))
      ∙ length-map (places (length (lits_of ts))) (clause_at (lits_of ts) first) ∙ count_places (length (lits_of ts)) ∙ ap (λ (n : ℕ). 3 * n - 4) size

-- ---- what unit propagation derives

module _ (ms : List Lit) (first : ℕ) (given : List Lit) where
  abbrev cs : List (List Lit)
  cs = ladder_clauses ms first

  -- a literal makes the fresh variables before it true
  reaches : (d k : ℕ) → k + d + 1 < length ms → Derived cs given (literal_at ms (k + d + 1)) → Derived cs given (fresh_at first k)
  reaches d = counting_up (λ d. (k : ℕ) → k + d + 1 < length ms → Derived cs given (literal_at ms (k + d + 1)) → Derived cs given (fresh_at first k))
      (λ k within held. second_of cs given (negated (literal_at ms (k + 1))) (fresh_at first k) (listed ms first (SomeAfter k) (omega arith))
      (twice cs given (literal_at ms (k + 1)) (subst (λ (n : ℕ). Derived cs given (literal_at ms (n + 1))) (let e : k + 0 ≡ k = omega arith in e) held)))
      (λ d rest k within held. second_of cs given (negated (fresh_at first (k + 1))) (fresh_at first k) (listed ms first (Link k) (omega arith))
      (twice cs given (fresh_at first (k + 1)) (rest (k + 1) (omega arith) (subst (λ (n : ℕ). Derived cs given (literal_at ms (n + 1))) (let e : k + (d + 1) ≡ (k + 1) + d = omega arith in e) held))))
      d

  -- and those from it on false
  clears : (d k : ℕ) → k + d + 1 < length ms → Derived cs given (literal_at ms k) → Derived cs given (negated (fresh_at first (k + d)))
  clears d = counting_up (λ d. (k : ℕ) → k + d + 1 < length ms → Derived cs given (literal_at ms k) → Derived cs given (negated (fresh_at first (k + d))))
      (λ k within held. subst (λ (n : ℕ). Derived cs given (negated (fresh_at first n))) (let e : k ≡ k + 0 = omega arith in e)
      (second_of cs given (negated (literal_at ms k)) (negated (fresh_at first k)) (listed ms first (NoneAfter k) (omega arith)) (twice cs given (literal_at ms k) held)))
      (λ d rest k within held. subst (λ (n : ℕ). Derived cs given (negated (fresh_at first n))) (let e : (k + d) + 1 ≡ k + (d + 1) = omega arith in e)
      (first_of_two cs given (negated (fresh_at first ((k + d) + 1))) (fresh_at first (k + d)) (listed ms first (Link (k + d)) (omega arith)) (rest k (omega arith) held)))
      d

  ladder_pushes : Pushes cs given ms
  ladder_pushes i j hi hj other d =
      elim (cases_order i j) as (λ _. LeftOver cs given (negated (literal_at ms j))) [
        | inl same ↦ absurd (other same)
        | inr apart ↦ elim apart as (λ _. LeftOver cs given (negated (literal_at ms j))) [
          | inl before ↦
              let gap = j - (i + 1) in
              subst (λ (n : ℕ). LeftOver cs given (negated (literal_at ms n))) (let e : i + gap + 1 ≡ j = omega arith in e)
              (first_left cs given (negated (literal_at ms (i + gap + 1))) (fresh_at first (i + gap)) (listed ms first (SomeAfter (i + gap)) (omega arith)) (clears gap i (omega arith) d))
          | inr after ↦
              first_left cs given (negated (literal_at ms j)) (negated (fresh_at first j)) (listed ms first (NoneAfter j) (omega arith))
              (twice cs given (fresh_at first j) (reaches (i - (j + 1)) j (omega arith) (subst (λ (n : ℕ). Derived cs given (literal_at ms n)) (let e : i ≡ j + (i - (j + 1)) + 1 = omega arith in e) d)))
        ]
      ]

-- ---- sound and propagates

module _ (c : BoundedSum) (one : c.bound ≡ 1) (units : all_weigh 1 c.terms ≡ true) (first : ℕ) where
  abbrev lits : List Lit
  lits = lits_of c.terms

  pub ladder_sound : (v : Assignment) → IsModel v (ladder_clauses lits first) → StaysWithin v c
  ladder_sound v model = sound_from_pushes (ladder_clauses lits first) c one units (ladder_pushes lits first) v model

  pub ladder_propagates : IsOverDistinct c.terms → ClausesPropagate (ladder_clauses lits first) (λ a. StaysWithin a c)
  ladder_propagates distinct = propagates_from_pushes (ladder_clauses lits first) c one units (ladder_pushes lits first) distinct
