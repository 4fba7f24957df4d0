-- What is made up by grids inside grids: of literals without a grid, and of a grid beside its rows and its columns.
use Rattle.std.proofs.Common.{◌≡◌, ◌<◌, ◌≤◌, ◌-◌, ℕ, sym, ap, ◌∙◌, arith, inl, inr, zero, suc}
use Rattle.std.proofs.lemmas.Bool.{cases_lt}
use Rattle.pb_amo.specs.Product.{columns, rows}
use Rattle.pb_amo.specs.laws.GridSides.{columns_positive, sides_fit, rows_positive}

-- of what has a size, with so many grids at most, where these are enough
pub record IsByGrids {A Y : Type 0} (size : A → ℕ) (row column : A → A) (f : ℕ → A → Y) (leaf : A → Y) (own : A → Y → Y → Y) : Type 0 where
  pub last : (a : A) → f zero a ≡ leaf a
  pub few : (more : ℕ) (a : A) → size a ≤ 4 → f (suc more) a ≡ leaf a
  pub many : (more : ℕ) (a : A) → 4 < size a → size a ≤ suc more → f (suc more) a ≡ own a (f more (row a)) (f more (column a))
  pub of_rows : (a : A) → size (row a) ≡ rows (size a)
  pub of_columns : (a : A) → size (column a) ≡ columns (size a)

module _ {A Y : Type 0} {size : A → ℕ} {row column : A → A} {f : ℕ → A → Y} {leaf : A → Y} {own : A → Y → Y → Y} (made : IsByGrids size row column f leaf own) where
  pub leaf_at : (k : ℕ) (a : A) → size a ≤ 4 → f k a ≡ leaf a
  leaf_at zero a small = made.last a
  leaf_at (suc more) a small = made.few more a small

  -- as many grids as there are literals are enough
  pub enough : (k j : ℕ) (a : A) → size a ≤ k → size a ≤ j → f k a ≡ f j a
  enough zero j a hk hj = made.last a ∙ sym (leaf_at j a (omega (arith, hk)))
  enough (suc k) zero a hk hj = made.few k a (omega (arith, hj)) ∙ sym (made.last a)
  enough (suc k) (suc j) a hk hj =
      elim (cases_lt 4 (size a)) as (λ _. f (suc k) a ≡ f (suc j) a) [
        | inr few ↦ made.few k a few ∙ sym (made.few j a few)
        | inl many ↦
            let n : ℕ = size a in
            let fit = sides_fit n many in
            let some = columns_positive n (omega (arith, many)) in
            let some_rows = rows_positive n (omega (arith, many)) in
            let r = made.of_rows a in
            let q = made.of_columns a in
            let by_rows = enough k j (row a) (omega (arith, r, fit, some, hk)) (omega (arith, r, fit, some, hj)) in
            let by_columns = enough k j (column a) (omega (arith, q, fit, some_rows, hk)) (omega (arith, q, fit, some_rows, hj)) in
            made.many k a many hk ∙ (λ x. own a (by_rows x) (by_columns x)) ∙ sym (made.many j a many hj)
      ]

  pub step : (a : A) → 4 < size a → f (size a) a ≡ own a (f (size (row a)) (row a)) (f (size (column a)) (column a))
  step a many =
      let n : ℕ = size a in
      let more : ℕ = n - 1 in
      let fit = sides_fit n many in
      let some = columns_positive n (omega (arith, many)) in
      let some_rows = rows_positive n (omega (arith, many)) in
      let r = made.of_rows a in
      let q = made.of_columns a in
      let by_rows = enough more (size (row a)) (row a) (omega (arith, r, fit, some)) (omega arith) in
      let by_columns = enough more (size (column a)) (column a) (omega (arith, q, fit, some_rows)) (omega arith) in
      ap (λ (k : ℕ). f k a) (let e : n ≡ suc more = omega (arith, many) in e) ∙ made.many more a many (omega (arith, many)) ∙ (λ x. own a (by_rows x) (by_columns x))
