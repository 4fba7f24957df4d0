-- How many fresh variables and clauses there are.
use Rattle.std.proofs.Common.{◌≡◌, ◌<◌, ◌≤◌, ◌+◌, ◌*◌, ◌^◌, ◌-◌, ℕ, leb, arith, inl, inr, zero, suc, refl}
use Rattle.std.proofs.Math.Nat.{mul-le-mul_right, mul-le-mul_left}
use Rattle.std.proofs.lemmas.Bool.{cases_lt, le-leb, lt-leb}
use Rattle.pb_amo.specs.Pairwise.{pair_count}
use Rattle.pb_amo.specs.Product.{columns, rows, fresh_within, count_within, product_fresh, product_count}
use Rattle.pb_amo.specs.laws.ByGrids.{IsByGrids, leaf_at, enough, step}
use Rattle.pb_amo.specs.laws.GridSides.{columns_positive, rows_are, sides_fit, sides_half, rows_positive}
use Rattle.pb_amo.specs.laws.Choice.{chosen_true, chosen_false}

pub fresh_last : (n : ℕ) → fresh_within zero n ≡ 0
unfolding fresh_within
fresh_last n = refl

pub fresh_few : (more n : ℕ) → n ≤ 4 → fresh_within (suc more) n ≡ 0
unfolding fresh_within
fresh_few more n few = chosen_true (leb n 4) 0 _ (le-leb n 4 few)

pub fresh_many : (more n : ℕ) → 4 < n → fresh_within (suc more) n ≡ rows n + columns n + fresh_within more (rows n) + fresh_within more (columns n)
unfolding fresh_within
fresh_many more n many = chosen_false (leb n 4) 0 _ (lt-leb n 4 many)

pub count_last : (n : ℕ) → count_within zero n ≡ pair_count n
unfolding count_within
count_last n = refl

pub count_few : (more n : ℕ) → n ≤ 4 → count_within (suc more) n ≡ pair_count n
unfolding count_within
count_few more n few = chosen_true (leb n 4) (pair_count n) _ (le-leb n 4 few)

pub count_many : (more n : ℕ) → 4 < n → count_within (suc more) n ≡ 2 * n + count_within more (rows n) + count_within more (columns n)
unfolding count_within
count_many more n many = chosen_false (leb n 4) (pair_count n) _ (lt-leb n 4 many)

square_of_sum : (r q n : ℕ) → r + q ≤ n → n ≤ r * q → r * r + q * q + 2 * n ≤ n * n
square_of_sum r q n fit covers =
    let one = mul-le-mul_right (r + q) fit in
    let two = mul-le-mul_left n fit in
    omega arith

-- a number that is made up by grids, however many there are at most
record IsNumber (f : ℕ → ℕ → ℕ) (leaf own : ℕ → ℕ) : Type 0 where
  last : (n : ℕ) → f zero n ≡ leaf n
  few : (more n : ℕ) → n ≤ 4 → f (suc more) n ≡ leaf n
  many : (more n : ℕ) → 4 < n → f (suc more) n ≡ own n + f more (rows n) + f more (columns n)

fresh_is : IsNumber fresh_within (λ n. 0) (λ n. rows n + columns n)
fresh_is = record { last = fresh_last; few = fresh_few; many = fresh_many }

count_is : IsNumber count_within pair_count (λ n. 2 * n)
count_is = record { last = count_last; few = count_few; many = count_many }

module _ {f : ℕ → ℕ → ℕ} {leaf own : ℕ → ℕ} (made : IsNumber f leaf own) where
  by_grids : IsByGrids (λ n. n) rows columns f leaf (λ n x y. own n + x + y)
  by_grids = record { last = made.last; few = made.few; many = λ more n h k. made.many more n h; of_rows = λ n. refl; of_columns = λ n. refl }

  -- no more than the square, where that is so of what is added
  square : ((n : ℕ) → leaf n ≤ n * n) → ((n : ℕ) → 4 < n → own n ≤ 2 * n) → (k n : ℕ) → f k n ≤ n * n
  square small least zero n = omega (arith, made.last n, small n)
  square small least (suc k) n =
      elim (cases_lt 4 n) as (λ _. f (suc k) n ≤ n * n) [
        | inr few ↦ omega (arith, made.few k n few, small n)
        | inl many ↦
            let grid = rows_are n (omega arith) in
            omega (arith, made.many k n many, square_of_sum (rows n) (columns n) n (sides_fit n many) grid.covers, square small least k (rows n), square small least k (columns n), least n many)
      ]

pub fresh_leaf : (k n : ℕ) → n ≤ 4 → fresh_within k n ≡ 0
fresh_leaf = leaf_at (by_grids fresh_is)

pub count_leaf : (k n : ℕ) → n ≤ 4 → count_within k n ≡ pair_count n
count_leaf = leaf_at (by_grids count_is)

pub fresh_enough : (k j n : ℕ) → n ≤ k → n ≤ j → fresh_within k n ≡ fresh_within j n
fresh_enough = enough (by_grids fresh_is)

-- F(n) = r + q + F(r) + F(q), and 0 up to four
pub fresh_step : (n : ℕ) → 4 < n → product_fresh n ≡ rows n + columns n + product_fresh (rows n) + product_fresh (columns n)
fresh_step = step (by_grids fresh_is)

-- A(n) = 2n + A(r) + A(q), and n(n - 1)/2 up to four
pub count_step : (n : ℕ) → 4 < n → product_count n ≡ 2 * n + product_count (rows n) + product_count (columns n)
count_step = step (by_grids count_is)

pub fresh_within_square : (k n : ℕ) → fresh_within k n ≤ n * n
fresh_within_square = square fresh_is (λ n. omega arith) (λ n many. omega (arith, sides_fit n many))

pairs_square : (n : ℕ) → pair_count n ≤ n * n
pairs_square zero = omega arith
pairs_square (suc n) =
    let below : suc n - 1 ≡ n = omega arith in
    rw below (omega arith)

pub count_within_square : (k n : ℕ) → count_within k n ≤ n * n
count_within_square = square count_is pairs_square (λ n many. omega arith)

-- ---- what a grid gives

square_small : (n : ℕ) → n < 2 ^ 31 → n * n < 2 ^ 62
square_small n h =
    let one = mul-le-mul_right n (let e : n ≤ 2 ^ 31 = omega arith in e) in
    omega arith

pub record IsGrid (n : ℕ) : Type 0 where
  pub some : 0 < columns n
  pub covered : n ≤ rows n * columns n
  pub fit : rows n + columns n ≤ n
  pub fewer_rows : rows n < n
  pub fewer_columns : columns n < n
  pub fresh : product_fresh n ≡ rows n + columns n + product_fresh (rows n) + product_fresh (columns n)
  pub fresh_small : product_fresh n < 2 ^ 62
  pub clauses : product_count n ≡ 2 * n + product_count (rows n) + product_count (columns n)
  pub clauses_small : product_count n < 2 ^ 62

pub is_grid : (n : ℕ) → 4 < n → n < 2 ^ 31 → IsGrid n
is_grid n many few =
    let sides = sides_fit n many in
    let r = rows_positive n (omega arith) in
    let q = columns_positive n (omega arith) in
    let square = square_small n few in
    let fresh_square = fresh_within_square n n in
    let count_square = count_within_square n n in
    record {
      some = q;
      covered = (rows_are n (omega arith)).covers;
      fit = sides;
      fewer_rows = omega arith;
      fewer_columns = omega arith;
      fresh = fresh_step n many;
      fresh_small = omega arith;
      clauses = count_step n many;
      clauses_small = omega arith;
    }

-- the clauses grow with the literals
pub count_linear : (k n : ℕ) → n ≤ k → count_within k n ≤ 16 * n
count_linear zero n within = omega (arith, count_within_square zero n, mul-le-mul_left n (let none : n ≤ 16 = omega (arith, within) in none))
count_linear (suc more) n within =
    elim (cases_lt 16 n) as (λ _. count_within (suc more) n ≤ 16 * n) [
      | inr small ↦ omega (arith, count_within_square (suc more) n, mul-le-mul_left n small)
      | inl many ↦
          let r = rows n in
          let q = columns n in
          let half = sides_half n (omega (arith, many)) in
          omega (arith, count_many more n (omega (arith, many)), half, many, count_linear more r (omega (arith, half, many, within)), count_linear more q (omega (arith, half, many, within)))
    ]
