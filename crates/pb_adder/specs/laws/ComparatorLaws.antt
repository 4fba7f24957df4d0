-- The rows of a comparator have a false bit each exactly where the number is within the bound.
use Rattle.std.proofs.Common.{◌≡◌, ◌≢◌, ◌≤◌, ◌+◌, ◌*◌, ◌/◌, ◌%◌, ◌==◌, ◌⊎◌, ℕ, Bool, true, false, cond, not, List, [], ◌∷◌, refl, sym, ap, ◌∙◌, subst, arith, inl, inr}
use Rattle.std.specs.Prelude.{All, Option, Some, None, is_some}
use Rattle.std.specs.List.{list_any}
use Rattle.std.proofs.lemmas.Bool.{cases_Bool, cases_lt, eqb-true, eqb-false, false≢true, cond-true, cond-false, or_left, or_right, or_from, or_parts, not-false, eq-eqb, both_ways}
use Rattle.std.proofs.lemmas.List.Elements.{All-cons, All-nil, All-head, All-tail, All-append}
use Rattle.pb_base.proofs.Members.{All-append_both}
use Rattle.pb_adder.specs.declared.gate.Wire.{Wire}
use Rattle.pb_adder.specs.laws.GateTables.{one}
use Rattle.pb_adder.specs.laws.NetworkLaws.{end_value, number}
use Rattle.pb_adder.specs.Comparator.{is_odd, with_end, covering, row_of, comparator_rows}

abbrev pub AllSet : (Wire → Bool) → List Wire → Type 0
AllSet p ws = All (λ w. p w ≡ true) ws

-- some bit of the row is false
abbrev pub RowTrue : (Wire → Bool) → List Wire → Type 0
RowTrue p row = list_any (λ w. not (p w)) row ≡ true

odd_cases : (k : ℕ) → ((is_odd k ≡ true) × (k ≡ 1 + 2 * (k / 2))) ⊎ ((is_odd k ≡ false) × (k ≡ 2 * (k / 2)))
odd_cases k =
    elim (cases_Bool (is_odd k)) as (λ _. ((is_odd k ≡ true) × (k ≡ 1 + 2 * (k / 2))) ⊎ ((is_odd k ≡ false) × (k ≡ 2 * (k / 2)))) [
      | inl odd ↦ let bit = eqb-true (k % 2) 1 odd in inl (odd, omega arith)
      | inr even ↦ let bit : k % 2 ≢ 1 = eqb-false (k % 2) 1 even in inr (even, omega arith)
    ]

found_items : Option (List Wire) → List Wire
found_items None = []
found_items (Some ws) = ws

found_parts : (e : Option Wire) (rest : Option (List Wire)) (ws : List Wire) → with_end e rest ≡ Some ws
    → (w : Wire) × (vs : List Wire) × (e ≡ Some w) × (rest ≡ Some vs) × (Some (w ∷ vs) ≡ Some ws)
found_parts None rest ws found = absurd (false≢true (ap is_some found))
found_parts (Some w) None ws found = absurd (false≢true (ap is_some found))
found_parts (Some w) (Some vs) ws found = (w, vs, refl, refl, found)

-- where the bits cover the bound, the number reaches it
cover_le : (p : Wire → Bool) (k : ℕ) (es : List (Option Wire)) (ws : List Wire) → covering k es ≡ Some ws → AllSet p ws → k ≤ number p es
unfolding found_items
cover_le p k [] ws found all =
    elim (cases_Bool (k == 0)) as (λ _. k ≤ 0) [
      | inl none ↦ let is_zero = eqb-true k 0 none in omega arith
      | inr some ↦ absurd (false≢true (ap is_some (sym (cond-false (k == 0) (Some []) None some) ∙ found)))
    ]
cover_le p k (e ∷ es) ws found all =
    elim (odd_cases k) as (λ _. k ≤ number p (e ∷ es)) [
      | inl odd ↦
          let parts = found_parts e (covering (k / 2) es) ws (sym (cond-true (is_odd k) (with_end e (covering (k / 2) es)) (covering (k / 2) es) odd.0) ∙ found) in
          let both : AllSet p (parts.0 ∷ parts.1) = subst (AllSet p) (sym (ap found_items parts.4)) all in
          let value : end_value p e ≡ 1 = ap (end_value p) parts.2 ∙ ap one (All-head (λ w. p w ≡ true) parts.0 parts.1 both) in
          omega (arith, odd.1, cover_le p (k / 2) es parts.1 parts.3 (All-tail (λ w. p w ≡ true) parts.0 parts.1 both))
      | inr even ↦
          omega (arith, even.1, cover_le p (k / 2) es ws (sym (cond-false (is_odd k) (with_end e (covering (k / 2) es)) (covering (k / 2) es) even.0) ∙ found) all)
    ]

-- an end whose value is one
end_true : (p : Wire → Bool) (e : Option Wire) → end_value p e ≡ 1 → (w : Wire) × (e ≡ Some w) × (p w ≡ true)
end_true p None h = absurd (omega arith)
end_true p (Some w) h =
    elim (cases_Bool (p w)) as (λ _. (x : Wire) × (Some w ≡ Some x) × (p x ≡ true)) [
      | inl here ↦ (w, refl, here)
      | inr fails ↦ let none : one (p w) ≡ 0 = ap one fails in absurd (omega arith)
    ]

end_le : (p : Wire → Bool) (e : Option Wire) → end_value p e ≤ 1
end_le p None = omega arith
end_le p (Some w) = bit_le (p w)
  where
    bit_le : (b : Bool) → one b ≤ 1
    bit_le true = omega arith
    bit_le false = omega arith

-- where the number is the bound, its bits cover it
cover_eq : (p : Wire → Bool) (k : ℕ) (es : List (Option Wire)) → number p es ≡ k → (ws : List Wire) × (covering k es ≡ Some ws) × AllSet p ws
cover_eq p k [] same = ([], cond-true (k == 0) (Some []) None (eq-eqb k 0 (sym same)), All-nil (λ w. p w ≡ true))
cover_eq p k (e ∷ es) same =
    let few = end_le p e in
    elim (odd_cases k) as (λ _. (ws : List Wire) × (covering k (e ∷ es) ≡ Some ws) × AllSet p ws) [
      | inl odd ↦
          let rest = cover_eq p (k / 2) es (omega (arith, odd.1)) in
          let here = end_true p e (omega (arith, odd.1)) in (
            here.0 ∷ rest.0,
            cond-true (is_odd k) (with_end e (covering (k / 2) es)) (covering (k / 2) es) odd.0 ∙ ap (λ x. with_end x (covering (k / 2) es)) here.1 ∙ ap (with_end (Some here.0)) rest.1,
            All-cons (λ w. p w ≡ true) here.0 rest.0 here.2 rest.2,
          )
      | inr even ↦
          let rest = cover_eq p (k / 2) es (omega (arith, even.1)) in
          (rest.0, cond-false (is_odd k) (with_end e (covering (k / 2) es)) (covering (k / 2) es) even.0 ∙ rest.1, rest.2)
    ]

none_false : (p : Wire → Bool) (ws : List Wire) → AllSet p ws → list_any (λ w. not (p w)) ws ≡ false
none_false p [] all = refl
none_false p (w ∷ ws) all =
    or_from (not (p w)) (list_any (λ w. not (p w)) ws) (ap not (All-head (λ w. p w ≡ true) w ws all)) (none_false p ws (All-tail (λ w. p w ≡ true) w ws all))

all_true : (p : Wire → Bool) (ws : List Wire) → list_any (λ w. not (p w)) ws ≡ false → AllSet p ws
all_true p [] none = All-nil (λ w. p w ≡ true)
all_true p (w ∷ ws) none =
    let parts = or_parts (not (p w)) (list_any (λ w. not (p w)) ws) none in
    All-cons (λ w. p w ≡ true) w ws (not-false (p w) parts.0) (all_true p ws parts.1)

pub rows_bound : (p : Wire → Bool) (k : ℕ) (es : List (Option Wire)) → All (RowTrue p) (comparator_rows k es) → number p es ≤ k
rows_bound p k [] all = omega arith
rows_bound p k (None ∷ es) all = let rest = rows_bound p (k / 2) es all in omega arith
rows_bound p k (Some w ∷ es) all =
    let here = cond (is_odd k) [] (row_of w (covering (k / 2) es)) in
    let parts = All-append_both (RowTrue p) here (comparator_rows (k / 2) es) all in
    let rest = rows_bound p (k / 2) es parts.1 in
    elim (odd_cases k) as (λ _. one (p w) + 2 * number p es ≤ k) [
      | inl odd ↦ let few = end_le p (Some w) in omega (arith, odd.1)
      | inr even ↦ elim (cases_Bool (p w)) as (λ _. one (p w) + 2 * number p es ≤ k) [
        | inr fails ↦ let none : one (p w) ≡ 0 = ap one fails in omega (arith, even.1)
        | inl holds ↦
            let some : one (p w) ≡ 1 = ap one holds in
            elim (cases_lt (number p es) (k / 2)) as (λ _. one (p w) + 2 * number p es ≤ k) [
              | inl below ↦ omega (arith, even.1)
              | inr above ↦
                  let cover = cover_eq p (k / 2) es (omega arith) in
                  let row : here ≡ (w ∷ cover.0) ∷ [] = cond-false (is_odd k) [] (row_of w (covering (k / 2) es)) even.0 ∙ ap (row_of w) cover.1 in
                  let true_row : RowTrue p (w ∷ cover.0) = All-head (RowTrue p) (w ∷ cover.0) [] (subst (All (RowTrue p)) row parts.0) in
                  absurd (both_ways (list_any (λ w. not (p w)) (w ∷ cover.0)) (none_false p (w ∷ cover.0) (All-cons (λ w. p w ≡ true) w cover.0 holds cover.2)) true_row)
            ]
      ]
    ]

row_holds : (p : Wire → Bool) (w : Wire) (o : Option (List Wire)) → ((ws : List Wire) → o ≡ Some ws → RowTrue p (w ∷ ws)) → All (RowTrue p) (row_of w o)
row_holds p w None each = All-nil (RowTrue p)
row_holds p w (Some ws) each = All-cons (RowTrue p) (w ∷ ws) [] (each ws refl) (All-nil (RowTrue p))

pub bound_rows : (p : Wire → Bool) (k : ℕ) (es : List (Option Wire)) → number p es ≤ k → All (RowTrue p) (comparator_rows k es)
bound_rows p k [] within = All-nil (RowTrue p)
bound_rows p k (None ∷ es) within = bound_rows p (k / 2) es (omega arith)
bound_rows p k (Some w ∷ es) within =
    let row = row_of w (covering (k / 2) es) in
    let few = end_le p (Some w) in
    All-append (RowTrue p) (cond (is_odd k) [] row) (comparator_rows (k / 2) es)
    (elim (odd_cases k) as (λ _. All (RowTrue p) (cond (is_odd k) [] row)) [
      | inl odd ↦ subst (All (RowTrue p)) (sym (cond-true (is_odd k) [] row odd.0)) (All-nil (RowTrue p))
      | inr even ↦ subst (All (RowTrue p)) (sym (cond-false (is_odd k) [] row even.0)) (row_holds p w (covering (k / 2) es) (λ ws found.
          elim (cases_Bool (p w)) as (λ _. RowTrue p (w ∷ ws)) [
            | inr fails ↦ or_left (not (p w)) (list_any (λ w. not (p w)) ws) (ap not fails)
            | inl holds ↦ elim (cases_Bool (list_any (λ w. not (p w)) ws)) as (λ _. RowTrue p (w ∷ ws)) [
              | inl some ↦ or_right (not (p w)) (list_any (λ w. not (p w)) ws) some
              | inr none ↦
                  let some : one (p w) ≡ 1 = ap one holds in
                  let reached = cover_le p (k / 2) es ws found (all_true p ws none) in
                  absurd (omega (arith, even.1))
            ]
          ]))
    ])
    (bound_rows p (k / 2) es (omega arith))
