-- An assignment under which at most one literal is true extends over the fresh variables of a grid.
use Rattle.std.proofs.Common.{◌≡◌, ◌<◌, ◌≤◌, ◌+◌, ◌/◌, ◌%◌, ◌==◌, ℕ, Bool, true, false, cond, ltb, List, [], ◌∷◌, length, refl, sym, ap, ◌∙◌, arith, inl, inr, zero, suc}
use Rattle.std.specs.Prelude.{count_by}
use Rattle.std.proofs.lemmas.Bool.{cases_Bool, cond-true, cond-false, lt-ltb, le-ltb, eqb-true, eq-eqb, both_ways}
use Rattle.std.proofs.lemmas.List.Elements.{All-append}
use Rattle.std.proofs.lemmas.List.Sums.{get_or-le-sum_by}
use Rattle.pb_base.specs.declared.literal.Lit.{Lit}
use Rattle.pb_base.specs.Literals.{Assignment, lit_value, clause_value}
use Rattle.pb_norm.proofs.Agreement.{lit_value-agree, IsModel-agree}
use Rattle.pb_family.specs.Families.{ExtendsToModel}
use Rattle.pb_family.specs.Fresh.{positive_of, literal_at, fresh_at}
use Rattle.pb_family.proofs.UnitSums.{count_by-cons_true, count_by-cons_false}
use Rattle.pb_family.proofs.Ranges.{one_by_places}
use Rattle.pb_family.proofs.ShortClauses.{when_one}
use Rattle.pb_family.proofs.Extended.{extended, extended_below, extended_fresh}
use Rattle.pb_amo.specs.Pairwise.{pairwise_clauses}
use Rattle.pb_steps.specs.declared.step.Step.{Step}
use Rattle.pb_amo.specs.Product.{columns, rows, line, cells, fresh_within, clauses_within}
use Rattle.pb_amo.specs.laws.GridCases.{by_grids}
use Rattle.pb_amo.specs.laws.GridClauses.{cells_each}
use Rattle.pb_amo.specs.laws.GridNames.{names_within}
use Rattle.pb_amo.specs.laws.GridSides.{columns_positive, row_within}
use Rattle.pb_amo.specs.laws.LineLaws.{length-line, line_at}
use Rattle.pb_amo.specs.laws.PairwiseLaws.{all_pairs}

place_counts : (p : Lit → Bool) (ms : List Lit) (i : ℕ) → i < length ms → p (literal_at ms i) ≡ true → 1 ≤ count_by p ms
place_counts p ms i within h =
    let one : cond {A = ℕ} (p (literal_at ms i)) 1 0 ≡ 1 = cond-true (p (literal_at ms i)) 1 0 h in
    let bound : cond {A = ℕ} (p (literal_at ms i)) 1 0 ≤ count_by p ms = get_or-le-sum_by (λ m. cond (p m) 1 0) ms i (positive_of 0) within in
    omega arith

head_only : (p : Lit → Bool) (m : Lit) (ms : List Lit) → count_by p ms ≡ 0 → (i : ℕ) → i < length (m ∷ ms) → p (literal_at (m ∷ ms) i) ≡ true → i ≡ 0
head_only p m ms none zero within h = refl
head_only p m ms none (suc i) within h = let some = place_counts p ms i (omega arith) h in absurd (omega arith)

tail_only : (p : Lit → Bool) (m : Lit) (ms : List Lit) (e : ℕ) → ((i : ℕ) → i < length ms → p (literal_at ms i) ≡ true → i ≡ e) → p m ≡ false
    → (i : ℕ) → i < length (m ∷ ms) → p (literal_at (m ∷ ms) i) ≡ true → i ≡ suc e
tail_only p m ms e only fails zero within h = absurd (both_ways (p m) fails h)
tail_only p m ms e only fails (suc i) within h = ap suc (only i (omega arith) h)

-- a place at which the one literal that passes stands, if any does
only_place : (p : Lit → Bool) (ms : List Lit) → count_by p ms ≤ 1 → (e : ℕ) × ((i : ℕ) → i < length ms → p (literal_at ms i) ≡ true → i ≡ e)
only_place p [] few = (0, λ i within h. absurd (omega arith))
only_place p (m ∷ ms) few =
    elim (cases_Bool (p m)) as (λ _. (e : ℕ) × ((i : ℕ) → i < length (m ∷ ms) → p (literal_at (m ∷ ms) i) ≡ true → i ≡ e)) [
      | inl here ↦ let one = count_by-cons_true p m ms here in (0, head_only p m ms (omega arith))
      | inr fails ↦
          let same = count_by-cons_false p m ms fails in
          let rest = only_place p ms (omega arith) in
          (suc rest.0, tail_only p m ms rest.0 rest.1 fails)
    ]

-- at most one of a line is true where only one place can be
one_of_line : (w : Assignment) (first n e : ℕ) → ((k : ℕ) → k < n → lit_value w (fresh_at first k) ≡ true → k ≡ e) → count_by (lit_value w) (line first n) ≤ 1
one_of_line w first n e only =
    one_by_places (lit_value w) (positive_of 0) (line first n) (λ i j below within hi hj.
    let size = length-line first n in
    let at_i = only i (omega arith) (sym (ap (lit_value w) (line_at first n i (omega arith))) ∙ hi) in
    let at_j = only j (omega arith) (sym (ap (lit_value w) (line_at first n j (omega arith))) ∙ hj) in
    omega arith)

-- the row and the column of one place are true
gridded : ℕ → ℕ → ℕ → ℕ → Bool
gridded r q e k = cond (ltb k r) (k == e / q) (k == r + e % q)

gridded_row : (v : Assignment) (first r q e k : ℕ) → k < r → lit_value (extended v first (gridded r q e)) (fresh_at first k) ≡ (k == e / q)
unfolding gridded
gridded_row v first r q e k h = extended_fresh v first (gridded r q e) k ∙ cond-true (ltb k r) (k == e / q) (k == r + e % q) (lt-ltb k r h)

gridded_column : (v : Assignment) (first r q e k : ℕ) → lit_value (extended v first (gridded r q e)) (fresh_at (first + r) k) ≡ (r + k == r + e % q)
unfolding gridded
gridded_column v first r q e k =
    ap (λ (n : ℕ). extended v first (gridded r q e) n) (let e : first + r + k ≡ first + (r + k) = omega arith in e)
    ∙ extended_fresh v first (gridded r q e) (r + k)
    ∙ cond-false (ltb (r + k) r) (r + k == e / q) (r + k == r + e % q) (le-ltb (r + k) r (omega arith))

extends_leaf : (ms : List Lit) (first : ℕ) (v : Assignment) → count_by (lit_value v) ms ≤ 1 → ExtendsToModel first v (pairwise_clauses ms)
extends_leaf ms first v few = (v, (λ n h. refl), all_pairs v ms few)

-- a literal that is true stays so where the values of its variable are not changed
still : (w1 w2 w3 : Assignment) (l : Lit) (b : Bool) → w1 l.var ≡ w2 l.var → w2 l.var ≡ w3 l.var → lit_value w1 l ≡ b → b ≡ true → lit_value w3 l ≡ true
still w1 w2 w3 l b one two is on = sym (lit_value-agree w1 w3 l (one ∙ two)) ∙ is ∙ on

-- an assignment under which at most one is true extends
abbrev Extends : List Lit → ℕ → ℕ → (ℕ → List (List Lit)) → (ℕ → ℕ → ℕ → List Step) → Type 0
Extends ms fresh count clauses steps = (first : ℕ) → ((e : ℕ) → e < length ms → (literal_at ms e).var < first) → (v : Assignment) → count_by (lit_value v) ms ≤ 1 → ExtendsToModel first v (clauses first)

pub extends_within : (k : ℕ) (ms : List Lit) (first : ℕ) → ((e : ℕ) → e < length ms → (literal_at ms e).var < first) → (v : Assignment) → count_by (lit_value v) ms ≤ 1 → ExtendsToModel first v (clauses_within k ms first)
extends_within = by_grids Extends (λ ms first low v few. extends_leaf ms first v few) (λ more below ms many first low v few.
    let n = length ms in
    let r = rows n in
    let q = columns n in
    let some = columns_positive n (omega arith) in
    let inner = first + r + q in
    let last = inner + fresh_within more r in
    let only = only_place (lit_value v) ms few in
    let e = only.0 in
    let w1 = extended v first (gridded r q e) in
    let row_only = λ (k : ℕ) (h : k < r) (on : lit_value w1 (fresh_at first k) ≡ true). let same = eqb-true k (e / q) (sym (gridded_row v first r q e k h) ∙ on) in let place : k ≡ e / q = omega arith in place in
    let size_r = length-line first r in
    let size_q = length-line (first + r) q in
    let by_rows = below (line first r) inner (λ k h. let at_k = ap (λ (l : Lit). l.var) (line_at first r k (omega arith)) in omega arith) w1 (one_of_line w1 first r (e / q) row_only) in
    let w2 = by_rows.0 in
    let column_same = λ (k : ℕ) (h : k < q). lit_value-agree w1 w2 (fresh_at (first + r) k) (by_rows.1 (first + r + k) (omega arith)) in
    let column_only = λ (k : ℕ) (h : k < q) (on : lit_value w2 (fresh_at (first + r) k) ≡ true). let same = eqb-true (r + k) (r + e % q) (sym (gridded_column v first r q e k) ∙ column_same k h ∙ on) in let place : k ≡ e % q = omega arith in place in
    let by_columns = below (line (first + r) q) last (λ k h. let at_k = ap (λ (l : Lit). l.var) (line_at (first + r) q k (omega arith)) in omega arith) w2 (one_of_line w2 (first + r) q (e % q) column_only) in
    let w3 = by_columns.0 in
    let agree = λ (x : ℕ) (h : x < first). extended_below v first (gridded r q e) x h ∙ by_rows.1 x (omega arith) ∙ by_columns.1 x (omega arith) in
    let own = λ (k : ℕ) (h : k < n) (on : lit_value w3 (literal_at ms k) ≡ true). only.1 k h (lit_value-agree v w3 (literal_at ms k) (agree (literal_at ms k).var (low k h)) ∙ on) in
    let fresh_r = ap (fresh_within more) size_r in
    let named = names_within (λ l. l.var < last) more (line first r) inner
    (λ k h. let at_k = ap (λ (l : Lit). l.var) (line_at first r k (omega arith)) in omega arith)
    (λ x s low high. omega arith) in
    let here = cells_each (λ c. clause_value w3 c ≡ true) ms first r q (λ k h. (
      when_one w3 (literal_at ms k) (fresh_at first (k / q)) (λ on.
          let row = row_within n k h in
          let same = ap (λ (x : ℕ). x / q) (own k h on) in
          still w1 w2 w3 (fresh_at first (k / q)) (k / q == e / q) (by_rows.1 (first + k / q) (omega arith)) (by_columns.1 (first + k / q) (omega arith)) (gridded_row v first r q e (k / q) row) (eq-eqb (k / q) (e / q) same)),
      when_one w3 (literal_at ms k) (fresh_at (first + r) (k % q)) (λ on.
          let same = ap (λ (x : ℕ). x % q) (own k h on) in
          still w1 w2 w3 (fresh_at (first + r) (k % q)) (r + k % q == r + e % q) (by_rows.1 (first + r + k % q) (omega arith)) (by_columns.1 (first + r + k % q) (omega arith)) (gridded_column v first r q e (k % q)) (eq-eqb (r + k % q) (r + e % q) (ap (λ (x : ℕ). r + x) same))),
    )) in (
      w3,
      agree,
      All-append (λ c. clause_value w3 c ≡ true) (cells ms first r q) _ here
          (All-append (λ c. clause_value w3 c ≡ true) (clauses_within more (line first r) inner) (clauses_within more (line (first + r) q) last)
          (IsModel-agree last w2 w3 by_columns.1 (clauses_within more (line first r) inner) named by_rows.2)
          by_columns.2),
    ))
