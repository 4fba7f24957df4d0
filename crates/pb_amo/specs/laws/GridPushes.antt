-- What unit propagation derives from the clauses of a grid.
use Rattle.std.proofs.Common.{◌≢◌, ◌<◌, ◌+◌, ◌/◌, ◌%◌, ◌++◌, ℕ, List, [], ◌∷◌, length, sym, subst, arith, inl, inr}
use Rattle.std.specs.Prelude.{Contains, All}
use Rattle.pb_base.specs.declared.literal.Lit.{Lit}
use Rattle.pb_base.specs.Literals.{negated}
use Rattle.pb_norm.proofs.Derived.{Derived, second_of}
use Rattle.pb_base.proofs.Members.{All-append_both}
use Rattle.pb_family.specs.Fresh.{literal_at, fresh_at}
use Rattle.pb_family.proofs.ShortClauses.{LeftOver, derived_left, twice}
use Rattle.pb_family.proofs.Pushes.{Pushes, first_left}
use Rattle.pb_steps.specs.declared.step.Step.{Step}
use Rattle.pb_amo.specs.Product.{columns, rows, line, cells, fresh_within, clauses_within}
use Rattle.pb_amo.specs.laws.GridCases.{by_grids}
use Rattle.pb_amo.specs.laws.GridClauses.{at_cells}
use Rattle.pb_amo.specs.laws.GridSides.{columns_positive, places_differ, row_within}
use Rattle.pb_amo.specs.laws.LineLaws.{length-line, line_at}
use Rattle.pb_amo.specs.laws.PairwiseLaws.{pairs_push}

module _ (cs : List (List Lit)) (given : List Lit) where
  -- where a line pushes, two literals whose places in it differ push each other
  by_line : (first n i j : ℕ) (a b : Lit) → i < n → j < n → i ≢ j → Pushes cs given (line first n)
      → Contains cs (negated a ∷ fresh_at first i ∷ []) → Contains cs (negated b ∷ fresh_at first j ∷ []) → Derived cs given a → LeftOver cs given (negated b)
  by_line first n i j a b hi hj other pushes in_i in_j d =
      let size = length-line first n in
      let here = second_of cs given (negated a) (fresh_at first i) in_i (twice cs given a d) in
      let there = derived_left cs given (negated (literal_at (line first n) j)) (pushes i j (omega arith) (omega arith) other (subst (λ (l : Lit). Derived cs given l) (sym (line_at first n i hi)) here)) in
      first_left cs given (negated b) (fresh_at first j) in_j (subst (λ (l : Lit). Derived cs given (negated l)) (line_at first n j hj) there)

  -- clauses that are listed push
  abbrev Push : List Lit → ℕ → ℕ → (ℕ → List (List Lit)) → (ℕ → ℕ → ℕ → List Step) → Type 0
  Push ms fresh count clauses steps = (first : ℕ) → All (Contains cs) (clauses first) → Pushes cs given ms

  pub pushes_within : (k : ℕ) (ms : List Lit) (first : ℕ) → All (Contains cs) (clauses_within k ms first) → Pushes cs given ms
  pushes_within = by_grids Push (λ ms first listed. pairs_push cs given ms listed) (λ more below ms many first listed i j hi hj other d.
      let n = length ms in
      let r = rows n in
      let q = columns n in
      let by_rows = clauses_within more (line first r) (first + r + q) in
      let by_columns = clauses_within more (line (first + r) q) (first + r + q + fresh_within more r) in
      let front = All-append_both (Contains cs) (cells ms first r q) (by_rows ++ by_columns) listed in
      let back = All-append_both (Contains cs) by_rows by_columns front.1 in
      let some = columns_positive n (omega arith) in
      let cell_i = at_cells (Contains cs) ms first r q front.0 i hi in
      let cell_j = at_cells (Contains cs) ms first r q front.0 j hj in
      elim (places_differ q i j other) as (λ _. LeftOver cs given (negated (literal_at ms j))) [
        | inl apart ↦
            by_line first r (i / q) (j / q) (literal_at ms i) (literal_at ms j) (row_within n i hi) (row_within n j hj) apart
            (below (line first r) (first + r + q) back.0) cell_i.0 cell_j.0 d
        | inr apart ↦
            by_line (first + r) q (i % q) (j % q) (literal_at ms i) (literal_at ms j) (omega arith) (omega arith) apart
            (below (line (first + r) q) (first + r + q + fresh_within more r) back.1) cell_i.1 cell_j.1 d
      ])
