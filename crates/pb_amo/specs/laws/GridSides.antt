-- The sides of a grid.
use Rattle.std.proofs.Common.{◌≡◌, ◌≢◌, ◌<◌, ◌≤◌, ◌+◌, ◌*◌, ◌-◌, ◌/◌, ◌%◌, ◌⊎◌, ℕ, leb, sym, ap, ◌∙◌, subst, arith, inl, inr, zero, suc, refl}
use Rattle.std.specs.Int.{div_ceil}
use Rattle.std.proofs.Math.Nat.{mul-le-mul_right, mul-le-mul_left}
use Rattle.std.proofs.lemmas.Bool.{cases_Bool, cases_lt, cases_eq, cases_order, leb-true, leb-false}
use Rattle.std.proofs.lemmas.Grind.{div_ceil_times}
use Rattle.std.proofs.lemmas.Nat.{div-add-mod', div_below}
use Rattle.pb_amo.specs.Product.{root_from, root, columns, rows}
use Rattle.pb_amo.specs.laws.Choice.{chosen_true, chosen_false}

record IsRoot (n p q : ℕ) : Type 0 where
  covers : n ≤ p * p
  least : (r : ℕ) → q ≤ r → r < p → r * r < n

root_from_is : (more q n : ℕ) → n ≤ (q + more) * (q + more) → IsRoot n (root_from more q n) q
unfolding root_from
root_from_is zero q n enough = record { covers = (let e : q + 0 ≡ q = omega arith in rw e at enough); least = λ r low high. absurd (omega arith) }
root_from_is (suc more) q n enough =
    elim (cases_Bool (leb n (q * q))) as (λ _. IsRoot n (root_from (suc more) q n) q) [
      | inl stop ↦ rw (chosen_true (leb n (q * q)) q (root_from more (q + 1) n) stop) (record { covers = leb-true n (q * q) stop; least = λ r low high. absurd (omega arith) })
      | inr go ↦
          let shift : q + suc more ≡ (q + 1) + more = omega arith in
          let rest = root_from_is more (q + 1) n (rw (← shift) enough) in
          let small : q * q < n = leb-false n (q * q) go in
          rw (chosen_false (leb n (q * q)) q (root_from more (q + 1) n) go) (record {
            covers = rest.covers;
            least = λ r low high.
                elim (cases_eq q r) as (λ _. r * r < n) [
                  | inl same ↦ subst (λ (k : ℕ). k * k < n) same small
                  | inr other ↦ rest.least r (omega arith) high
                ];
          })
    ]

square_grows : (n : ℕ) → n ≤ (0 + n) * (0 + n)
square_grows zero = omega arith
square_grows (suc n) = omega arith

root_is : (n : ℕ) → IsRoot n (root n) 0
root_is n = root_from_is n 0 n (square_grows n)

pub root_covers : (n : ℕ) → n ≤ root n * root n
root_covers n = (root_is n).covers

pub root_least : (n p : ℕ) → p < root n → p * p < n
root_least n p below = (root_is n).least p (omega arith) below

pub columns_by_root : (n : ℕ) → columns n ≡ div_ceil n (root n)
unfolding columns
columns_by_root n = refl

pub rows_by_columns : (n : ℕ) → rows n ≡ div_ceil n (columns n)
unfolding rows
rows_by_columns n = refl

-- it is the only such number
pub root_same : (n p : ℕ) → n ≤ p * p → ((r : ℕ) → r < p → r * r < n) → p ≡ root n
root_same n p covers least =
    elim (cases_order p (root n)) as (λ _. p ≡ root n) [
      | inl same ↦ same
      | inr apart ↦ elim apart as (λ _. p ≡ root n) [
        | inl below ↦ let small = (root_is n).least p (omega arith) below in absurd (omega arith)
        | inr above ↦ let small = least (root n) above in let large = (root_is n).covers in absurd (omega arith)
      ]
    ]

product_large : (a b : ℕ) → 2 ≤ a → 2 ≤ b → a + b ≤ a * b
product_large a b ha hb =
    let ea : a ≡ (a - 2) + 2 = omega arith in
    let eb : b ≡ (b - 2) + 2 = omega arith in
    rw (ea, eb) (omega arith)

root_at_least : (n k : ℕ) → k * k < n → k < root n
root_at_least n k h =
    elim (cases_lt k (root n)) as (λ _. k < root n) [
      | inl above ↦ above
      | inr within ↦
          let large = (root_is n).covers in
          let one = mul-le-mul_right (root n) within in
          let two = mul-le-mul_left k within in
          absurd (omega arith)
    ]

root_below : (n : ℕ) → 4 < n → root n < n
root_below n h =
    elim (cases_lt (root n) n) as (λ _. root n < n) [
      | inl below ↦ below
      | inr above ↦
          let small = (root_is n).least (n - 1) (omega arith) (omega arith) in
          let large = product_large (n - 1) (n - 1) (omega arith) (omega arith) in
          absurd (omega arith)
    ]

record Columns (n : ℕ) : Type 0 where
  covers : n ≤ columns n * root n
  close : columns n * root n < n + root n

columns_are : (n : ℕ) → 0 < n → Columns n
unfolding columns
columns_are n h =
    let times = div_ceil_times n (root n) (root_at_least n 0 (omega arith)) in
    record { covers = times.0; close = times.1 }

-- a factor of what covers something is something
factor_positive : (k m n : ℕ) → 0 < n → n ≤ k * m → 0 < k
factor_positive zero m n some covers = absurd (omega (arith, some, covers))
factor_positive (suc k) m n some covers = omega arith

pub columns_positive : (n : ℕ) → 0 < n → 0 < columns n
columns_positive n h = factor_positive (columns n) (root n) n h (columns_are n h).covers

pub record Rows (n : ℕ) : Type 0 where
  pub covers : n ≤ rows n * columns n
  pub close : rows n * columns n < n + columns n

pub rows_are : (n : ℕ) → 0 < n → Rows n
unfolding rows
rows_are n h =
    let times = div_ceil_times n (columns n) (columns_positive n h) in
    record { covers = times.0; close = times.1 }

two_columns : (n : ℕ) → 4 < n → 2 ≤ columns n
two_columns n h =
    let sides = columns_are n (omega arith) in
    let below = root_below n h in
    elim (cases_lt (columns n) 2) as (λ _. 2 ≤ columns n) [
      | inr enough ↦ enough
      | inl few ↦ let small = mul-le-mul_right (root n) (let e : columns n ≤ 1 = omega arith in e) in let covers = sides.covers in absurd (omega arith)
    ]

three_rows : (n : ℕ) → 4 < n → 3 ≤ rows n
three_rows n h =
    let q = columns n in
    let sides = columns_are n (omega arith) in
    let grid = rows_are n (omega arith) in
    let some = two_columns n h in
    let three : 3 ≤ root n = root_at_least n 2 (omega arith) in
    elim (cases_lt (rows n) 3) as (λ _. 3 ≤ rows n) [
      | inr enough ↦ enough
      | inl few ↦
          let wide = mul-le-mul_right q (let e : rows n ≤ 2 = omega arith in e) in
          let high = mul-le-mul_left (q - 1) three in
          let less : (q - 1) * root n + root n ≡ q * root n = (let e : q ≡ (q - 1) + 1 = omega arith in sym (ap (λ (k : ℕ). k * root n) e ∙ (omega arith))) in
          let covers = grid.covers in
          let close = sides.close in
          absurd (omega arith)
    ]

fits : (r q n : ℕ) → 3 ≤ r → 2 ≤ q → r * q < n + q → r + q ≤ n
fits r q n three two close =
    let er : r ≡ (r - 3) + 3 = omega arith in
    let eq : q ≡ (q - 2) + 2 = omega arith in
    let product : r * q ≡ (r - 3) * (q - 2) + 2 * (r - 3) + 3 * (q - 2) + 6 = ap (λ (k : ℕ). k * q) er ∙ ap (λ (k : ℕ). ((r - 3) + 3) * k) eq ∙ (omega arith) in
    omega arith

-- the sides together are no more than the literals
pub sides_fit : (n : ℕ) → 4 < n → rows n + columns n ≤ n
sides_fit n h =
    let grid = rows_are n (omega arith) in
    let close = grid.close in
    let two = two_columns n h in
    let three = three_rows n h in
    fits (rows n) (columns n) n (omega arith) (omega arith) close

-- and little more than half of them
half : (x y n : ℕ) → (x + 3) * (y + 2) < n + (y + 2) → 2 * (x + 3 + (y + 2)) ≤ n + 5
half x y n h = omega (arith, h)

pub sides_half : (n : ℕ) → 4 < n → 2 * (rows n + columns n) ≤ n + 5
sides_half n h =
    let close = (rows_are n (omega arith)).close in
    let two = two_columns n h in
    let three = three_rows n h in
    at_least (rows n) (columns n) three two close
  where
    at_least : (r q : ℕ) → 3 ≤ r → 2 ≤ q → r * q < n + q → 2 * (r + q) ≤ n + 5
    at_least r q three two close =
        let r_is : r - 3 + 3 ≡ r = omega (arith, three) in
        let q_is : q - 2 + 2 ≡ q = omega (arith, two) in
        let all = half (r - 3) (q - 2) n (subst (λ (m : ℕ). m * (q - 2 + 2) < n + (q - 2 + 2)) (sym r_is) (subst (λ (m : ℕ). r * m < n + m) (sym q_is) close)) in
        omega (arith, all, r_is, q_is)

-- two places differ in their rows or in their columns
pub places_differ : (q i j : ℕ) → i ≢ j → (i / q ≢ j / q) ⊎ (i % q ≢ j % q)
places_differ q i j other =
    elim (cases_eq (i / q) (j / q)) as (λ _. (i / q ≢ j / q) ⊎ (i % q ≢ j % q)) [
      | inr rows_differ ↦ inl rows_differ
      | inl same ↦ inr (λ columns_same. other (sym (div-add-mod' i q) ∙ ap (λ (k : ℕ). k * q + i % q) same ∙ ap (λ (k : ℕ). j / q * q + k) columns_same ∙ div-add-mod' j q))
    ]

pub row_within : (n e : ℕ) → e < n → e / columns n < rows n
row_within n e h =
    let grid = rows_are n (omega arith) in
    let covers = grid.covers in
    div_below e (columns n) (rows n) (columns_positive n (omega arith)) (omega arith)

pub rows_positive : (n : ℕ) → 0 < n → 0 < rows n
rows_positive n h = factor_positive (rows n) (columns n) n h (rows_are n h).covers
