-- The items at places that a test passes, gathered one after another.
use Rattle.std.proofs.Common.{◌≡◌, ◌≢◌, ◌≤◌, ◌<◌, ◌+◌, ◌*◌, ◌/◌, ◌%◌, ◌++◌, ◌∙◌, ℕ, inl, inr, zero, suc, Bool, true, false, cond, List, [], ◌∷◌, length, take, take_all, refl, ap, sym, subst, arith, get_or}
use Rattle.std.proofs.Math.Nat.{mul-le-mul_right, div-add-mod'}
use Rattle.std.proofs.Math.Seq.{take-nil}
use Rattle.std.proofs.lemmas.Bool.{eq-eqb, ne_eqb, cases_lt}
use Rattle.std.proofs.lemmas.Nat.{div-mul-add, mod-mul-add, mod_below}
use Rattle.pb_base.specs.declared.literal.Lit.{Lit}
use Rattle.pb_norm.specs.Constraints.{Weighted, weight}
use Rattle.pb_derive.specs.Ones.{ones}
use Rattle.pb_amo.specs.Passing.{passing, in_line, Visits}
use Rattle.pb_amo.specs.ProductSteps.{row_of, column_of}

-- none passes in between
skip : {X : Type 0} (p : ℕ → Bool) (e j k : ℕ) (xs : List X) → j ≤ k → ((i : ℕ) → e + j ≤ i → i < e + k → p i ≡ false) → passing p e (take k xs) ≡ passing p e (take j xs)
skip {X} p e j k [] le h = ap (passing {X = X} p e) (take-nil k ∙ sym (take-nil j))
skip p e zero zero (x ∷ xs) le h = refl
skip {X} p e zero (suc k) (x ∷ xs) le h =
    ap (λ (b : Bool). cond {A = List X} b (x ∷ passing p (e + 1) (take k xs)) (passing p (e + 1) (take k xs))) (h e (omega arith) (omega arith))
    ∙ skip p (e + 1) zero k xs (omega arith) (λ i low high. h i (omega (arith, low)) (omega (arith, high)))
skip p e (suc j) zero (x ∷ xs) le h = absurd (omega (arith, le))
skip {X} p e (suc j) (suc k) (x ∷ xs) le h =
    ap (λ (ys : List X). cond {A = List X} (p e) (x ∷ ys) ys) (skip p (e + 1) j k xs (omega (arith, le)) (λ i low high. h i (omega (arith, low)) (omega (arith, high))))

-- the next one passes
push : {X : Type 0} (p : ℕ → Bool) (e j i : ℕ) (xs : List X) (d : X) → j < length xs → i ≡ e + j → p i ≡ true → passing p e (take (suc j) xs) ≡ passing p e (take j xs) ++ get_or xs j d ∷ []
push p e j i [] d within at h = absurd (omega (arith, within))
push {X} p e zero i (x ∷ xs) d within at h =
    ap (λ (b : Bool). cond {A = List X} b (x ∷ []) []) (subst (λ (k : ℕ). p k ≡ true) (let same : i ≡ e = omega (arith, at) in same) h)
push {X} p e (suc j) i (x ∷ xs) d within at h = by_test (p e) (push p (e + 1) j i xs d (omega (arith, within)) (omega (arith, at)) h)
  where
    by_test : (b : Bool) → passing p (e + 1) (take (suc j) xs) ≡ passing p (e + 1) (take j xs) ++ get_or xs j d ∷ []
        → cond {A = List X} b (x ∷ passing p (e + 1) (take (suc j) xs)) (passing p (e + 1) (take (suc j) xs)) ≡ cond {A = List X} b (x ∷ passing p (e + 1) (take j xs)) (passing p (e + 1) (take j xs)) ++ get_or xs j d ∷ []
    by_test true ih = ap (λ (ys : List X). x ∷ ys) ih
    by_test false ih = ih

module _ {X : Type 0} (p : ℕ → Bool) (xs : List X) (from step count : ℕ) (v : Visits p (length xs) from step count) where
  abbrev so_far : ℕ → List X
  so_far i = passing p 0 (take (from + i * step) xs)

  pub visits_start : so_far 0 ≡ []
  visits_start =
      ap (λ (k : ℕ). passing p 0 (take k xs)) (let same : from + 0 * step ≡ from = omega arith in same)
      ∙ skip p 0 0 from xs (omega arith) (λ i low high. v.before i (omega (arith, high)))

  pub visits_kept : (i : ℕ) (d : X) → i < count → 1 ≤ step → from + i * step < length xs → so_far (i + 1) ≡ so_far i ++ get_or xs (from + i * step) d ∷ []
  visits_kept i d turn far within =
      let place : ℕ = from + i * step in
      skip p 0 (suc place) (from + (i + 1) * step) xs (omega (arith, far)) (λ j low high. v.between i j turn (omega (arith, low)) (omega (arith, high)))
      ∙ push p 0 place place xs d within (omega arith) (v.met i turn within)

  pub visits_out : (i : ℕ) → length xs ≤ from + i * step → so_far (i + 1) ≡ so_far i
  visits_out i out = ap (passing p 0) (take_all (from + (i + 1) * step) xs (omega (arith, out)) ∙ sym (take_all (from + i * step) xs out))

  pub visits_end : so_far count ≡ passing p 0 xs
  visits_end =
      let last : ℕ = from + count * step in
      elim (cases_lt last (length xs)) as (λ _. so_far count ≡ passing p 0 xs) [
        | inl within ↦ sym (skip p 0 last (length xs) xs (omega (arith, within)) (λ j low high. v.behind j (omega (arith, low)) (omega (arith, high)))) ∙ ap (passing p 0) (take_all (length xs) xs (omega arith))
        | inr out ↦ ap (passing p 0) (take_all last xs out)
      ]

-- as many literals as turns at most, those of the places so far
pub record Gathered (xs : List Lit) (from step count turn : ℕ) (ts : List Weighted) : Type 0 where
  pub light : weight ts ≤ turn
  pub met : (p : ℕ → Bool) → Visits p (length xs) from step count → ts ≡ ones (passing p 0 (take (from + turn * step) xs))

-- ---- the lines of a side

record Lies (side : ℕ → ℕ) (k size from step count : ℕ) : Type 0 where
  before : (j : ℕ) → j < from → side j ≢ k
  met : (i : ℕ) → i < count → side (from + i * step) ≡ k
  between : (i j : ℕ) → i < count → from + i * step < j → j < from + (i + 1) * step → side j ≢ k
  behind : (j : ℕ) → from + count * step ≤ j → j < size → side j ≢ k

line_visits : (side : ℕ → ℕ) (k size from step count : ℕ) → Lies side k size from step count → Visits (in_line side k) size from step count
line_visits side k size from step count h = record {
  before = λ j low. ne_eqb (side j) k (h.before j low);
  met = λ i turn within. eq-eqb (side (from + i * step)) k (h.met i turn);
  between = λ i j turn low high. ne_eqb (side j) k (h.between i j turn low high);
  behind = λ j low within. ne_eqb (side j) k (h.behind j low within);
}

row_lies : (q k size : ℕ) → 0 < q → Lies (row_of q) k size (k * q) 1 q
row_lies q k size some = record {
  before = λ j low e. omega (arith, div-add-mod' j q, ap (λ (i : ℕ). i * q) e, low);
  met = λ i turn. ap (λ (m : ℕ). m / q) (let same : k * q + i * 1 ≡ k * q + i = omega arith in same) ∙ div-mul-add k q i turn;
  between = λ i j turn low high e. omega (arith, low, high);
  behind = λ j low within e. omega (arith, div-add-mod' j q, ap (λ (i : ℕ). i * q) e, mod_below j q some, low);
}

column_lies : (q r k size : ℕ) → 0 < q → k < q → size ≤ r * q → Lies (column_of q) k size k q r
column_lies q r k size some within covered = record {
  before = λ j low e. omega (arith, div-add-mod' j q, e, low);
  met = λ i turn. ap (λ (m : ℕ). m % q) (let same : k + i * q ≡ i * q + k = omega arith in same) ∙ mod-mul-add i q k within;
  between = λ i j turn low high e.
      let whole = div-add-mod' j q in
      elim (cases_lt i (j / q)) as (λ _. ⊥) [
        | inl above ↦ let up : (i + 1) * q ≤ j / q * q = mul-le-mul_right q (omega (arith, above)) in omega (arith, whole, e, up, high)
        | inr under ↦ let up : j / q * q ≤ i * q = mul-le-mul_right q under in omega (arith, whole, e, up, low)
      ];
  behind = λ j low inside e. omega (arith, low, inside, covered);
}

pub row_line : (q k size : ℕ) → 0 < q → Visits (in_line (row_of q) k) size (k * q) 1 q
row_line q k size some = line_visits (row_of q) k size (k * q) 1 q (row_lies q k size some)

pub column_line : (q r k size : ℕ) → 0 < q → k < q → size ≤ r * q → Visits (in_line (column_of q) k) size k q r
column_line q r k size some within covered = line_visits (column_of q) k size k q r (column_lies q r k size some within covered)
