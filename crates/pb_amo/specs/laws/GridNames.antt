-- The literals of a grid, and how many clauses it has.
use Rattle.std.proofs.Common.{◌≡◌, ◌<◌, ◌≤◌, ◌+◌, ◌/◌, ◌%◌, ◌++◌, ℕ, Bool, true, false, List, length, refl, sym, ap, ◌∙◌, subst, arith, length-append}
use Rattle.std.specs.Prelude.{All}
use Rattle.std.proofs.lemmas.List.{get_or_default}
use Rattle.std.proofs.lemmas.List.Elements.{All-append, All-from_recursion}
use Rattle.pb_base.specs.declared.literal.Lit.{Lit}
use Rattle.pb_base.specs.Literals.{negated}
use Rattle.pb_family.specs.Fresh.{positive_of, literal_at}
use Rattle.pb_family.proofs.FlatRanges.{length-flat_range}
use Rattle.pb_steps.specs.declared.step.Step.{Step}
use Rattle.pb_amo.specs.Pairwise.{pairwise_clauses}
use Rattle.pb_amo.specs.Product.{columns, rows, line, in_row, in_column, cell, cells, fresh_within, count_within, clauses_within}
use Rattle.pb_amo.specs.ProductSteps.{steps_within}
use Rattle.pb_amo.specs.laws.GridCases.{by_grids}
use Rattle.pb_amo.specs.laws.GridClauses.{cells_each}
use Rattle.pb_amo.specs.laws.GridSides.{columns_positive, row_within}
use Rattle.pb_amo.specs.laws.LineLaws.{length-line, line_at}
use Rattle.pb_amo.specs.laws.PairwiseLaws.{pairwise_all, pairs_count}

module _ (P : Lit → Type 0) where
  pairs_name : (ms : List Lit) → ((e : ℕ) → e < length ms → P (negated (literal_at ms e))) → All (All P) (pairwise_clauses ms)
  pairs_name ms own =
      pairwise_all P ms (λ m h. subst (λ (l : Lit). P (negated l)) (get_or_default ms h.0 (positive_of 0) m h.1 ∙ h.2) (own h.0 h.1))

  -- the clauses have the negations of the literals, and fresh variables
  abbrev Named : List Lit → ℕ → ℕ → (ℕ → List (List Lit)) → (ℕ → ℕ → ℕ → List Step) → Type 0
  Named ms fresh count clauses steps =
      (first : ℕ) → ((e : ℕ) → e < length ms → P (negated (literal_at ms e))) → ((x : ℕ) (s : Bool) → first ≤ x → x < first + fresh → (let l : Lit = record { var = x; positive = s } in P l)) → All (All P) (clauses first)

  pub names_within : (k : ℕ) (ms : List Lit) → Named ms (fresh_within k (length ms)) (count_within k (length ms)) (clauses_within k ms) (steps_within k ms)
  names_within = by_grids Named (λ ms first own new. pairs_name ms own) (λ more below ms many first own new.
      let n = length ms in
      let r = rows n in
      let q = columns n in
      let size_r = length-line first r in
      let size_q = length-line (first + r) q in
      let fresh_r = ap (fresh_within more) size_r in
      let fresh_q = ap (fresh_within more) size_q in
      let some = columns_positive n (omega arith) in
      All-append (All P) (cells ms first r q) _
      (cells_each (All P) ms first r q (λ e h.
      let row = row_within n e h in (
        All-from_recursion P (in_row ms first q e) (own e h, (new (first + e / q) true (omega arith) (omega arith), tt)),
        All-from_recursion P (in_column ms first r q e) (own e h, (new (first + r + e % q) true (omega arith) (omega arith), tt)),
      )))
      (All-append (All P) (clauses_within more (line first r) (first + r + q)) (clauses_within more (line (first + r) q) (first + r + q + fresh_within more r))
      (below (line first r) (first + r + q)
      (λ e h. subst (λ (l : Lit). P (negated l)) (sym (line_at first r e (omega arith))) (new (first + e) false (omega arith) (omega arith)))
      (λ x s low high. new x s (omega arith) (omega arith)))
      (below (line (first + r) q) (first + r + q + fresh_within more r)
      (λ e h. subst (λ (l : Lit). P (negated l)) (sym (line_at (first + r) q e (omega arith))) (new (first + r + e) false (omega arith) (omega arith)))
      (λ x s low high. new x s (omega arith) (omega arith)))))

-- ---- counts

abbrev Counted : List Lit → ℕ → ℕ → (ℕ → List (List Lit)) → (ℕ → ℕ → ℕ → List Step) → Type 0
Counted ms fresh count clauses steps = (first : ℕ) → length (clauses first) ≡ count

pub counts_within : (k : ℕ) (ms : List Lit) (first : ℕ) → length (clauses_within k ms first) ≡ count_within k (length ms)
counts_within = by_grids Counted (λ ms first. pairs_count ms) (λ more below ms many first.
    let n = length ms in
    let r = rows n in
    let q = columns n in
    let by_rows = clauses_within more (line first r) (first + r + q) in
    let by_columns = clauses_within more (line (first + r) q) (first + r + q + fresh_within more r) in
    omega (
      arith,
      length-append (cells ms first r q) (by_rows ++ by_columns),
      length-append by_rows by_columns,
      length-flat_range (cell ms first r q) 2 0 n (λ e. refl),
      below (line first r) (first + r + q),
      ap (count_within more) (length-line first r),
      below (line (first + r) q) (first + r + q + fresh_within more r),
      ap (count_within more) (length-line (first + r) q),
    ))
