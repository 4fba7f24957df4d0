-- Rows of variables that count in unary: each says that one more is reached (the order encoding, as in Bailleux and Boufkhad 2003).
use Rattle.std.proofs.Common.{◌≡◌, ◌≢◌, ◌≤◌, ◌<◌, ◌+◌, ◌*◌, ℕ, zero, suc, Bool, true, false, not, cond, List, [], ◌∷◌, ◌++◌, refl, ap, ◌∙◌, arith}
use Rattle.std.specs.Prelude.{All, map}
use Rattle.std.proofs.Math.Nat.{mul-add}
use Rattle.std.proofs.lemmas.List.Elements.{All-nil, All-cons, All-head, All-tail, All-append, All-weaker}
use Rattle.std.proofs.lemmas.List.Kept.{AllPairs-cons}
use Rattle.pb_base.specs.declared.literal.Lit.{Lit}
use Rattle.pb_base.specs.Literals.{Assignment, lit_value}
use Rattle.pb_base.proofs.Pairs.{AllPairs-nil, AllPairs-head, AllPairs-tail}
use Rattle.pb_norm.specs.Constraints.{Weighted, Constraint, AllPositive, weight, value, term_value}
use Rattle.pb_norm.specs.Addition.{sum_of}
use Rattle.pb_norm.proofs.AdditionSizes.{weight-cons}
use Rattle.pb_norm.proofs.AdditionValues.{value-cons}
use Rattle.pb_steps.specs.Operations.{scaled, multiple}
use Rattle.pb_derive.specs.Forms.{AreApartTerms, IsFormOf}
use Rattle.pb_derive.proofs.FormOperations.{form_sum, form_multiple}

-- ---- terms, and what is said of a row whose variables start at a number

abbrev pub weighing : ℕ → Lit → Weighted
weighing n l = record { coef = n; lit = l }

abbrev pub reached : ℕ → ℕ → Weighted
reached n v = record { coef = n; lit = record { var = v; positive = true } }

abbrev pub missed : ℕ → ℕ → Weighted
missed n v = record { coef = n; lit = record { var = v; positive = false } }

-- the first places of a row, the last of them first
abbrev pub places_of : Bool → ℕ → ℕ → ℕ → List Weighted
places_of sign coef var zero = []
places_of sign coef var (suc j) = record { coef = coef; lit = record { var = var + j; positive = sign } } ∷ places_of sign coef var j

-- each place reached, the one before it is
abbrev pub order_of : ℕ → ℕ → Constraint
order_of p j = record { terms = missed 1 (p + suc j) ∷ reached 1 (p + j) ∷ []; degree = 1 }

-- all places before it are
abbrev pub front_of : ℕ → ℕ → Constraint
front_of p zero = record { terms = []; degree = 0 }
front_of p (suc j) = record { terms = missed (suc j) (p + suc j) ∷ places_of true 1 p (suc j); degree = suc j }

-- ---- values

module _ (a : Assignment) where
  abbrev pub bit : ℕ → ℕ
  bit v = cond (a v) 1 0

  pub reached-value : (n v : ℕ) → term_value a (reached n v) ≡ n * bit v
  reached-value n v = by_value (a v)
    where
      by_value : (b : Bool) → cond b n 0 ≡ n * cond b 1 0
      by_value true = omega arith
      by_value false = omega arith

  pub missed-value : (n v : ℕ) → term_value a (missed n v) + n * bit v ≡ n
  missed-value n v = by_value (a v)
    where
      by_value : (b : Bool) → cond (not b) n 0 + n * cond b 1 0 ≡ n
      by_value true = omega arith
      by_value false = omega arith

  -- of the places of a row, and how many are not reached
  abbrev pub count : ℕ → ℕ → ℕ
  count p zero = 0
  count p (suc j) = bit (p + j) + count p j

  pub places-true : (n p j : ℕ) → value a (places_of true n p j) ≡ n * count p j
  places-true n p zero = omega arith
  places-true n p (suc j) = omega (arith, value-cons a (reached n (p + j)) (places_of true n p j), reached-value n (p + j), places-true n p j, mul-add n (bit (p + j)) (count p j))

  pub places-false : (n p j : ℕ) → value a (places_of false n p j) + n * count p j ≡ n * j
  places-false n p zero = omega arith
  places-false n p (suc j) = omega (arith, value-cons a (missed n (p + j)) (places_of false n p j), missed-value n (p + j), places-false n p j, mul-add n (bit (p + j)) (count p j), mul-add n 1 j)

  pub scaled-value : (n : ℕ) (ts : List Weighted) → value a (map (scaled n) ts) ≡ n * value a ts
  scaled-value n [] = omega arith
  scaled-value n (t ∷ ts) =
      omega (arith, value-cons a (scaled n t) (map (scaled n) ts), by_value (lit_value a t.lit), scaled-value n ts, ap (λ (k : ℕ). n * k) (value-cons a t ts) ∙ mul-add n (term_value a t) (value a ts))
    where
      by_value : (b : Bool) → cond b (n * t.coef) 0 ≡ n * cond b t.coef 0
      by_value true = refl
      by_value false = omega arith

  pub front-value : (p j : ℕ) → value a (front_of p j).terms + j * bit (p + j) ≡ j + count p j
  front-value p zero = omega arith
  front-value p (suc j) = omega (arith, value-cons a (missed (suc j) (p + suc j)) (places_of true 1 p (suc j)), missed-value (suc j) (p + suc j), places-true 1 p (suc j))

-- ---- no variable stands twice

abbrev pub Other : Weighted → Weighted → Type 0
Other s t = s.lit.var ≢ t.lit.var

pub places_within : (sign : Bool) (n p j m : ℕ) → j ≤ m → All (λ t. (p ≤ t.lit.var) × (t.lit.var < p + m)) (places_of sign n p j)
places_within sign n p zero m le = All-nil (λ (t : Weighted). (p ≤ t.lit.var) × (t.lit.var < p + m))
places_within sign n p (suc j) m le =
    All-cons (λ (t : Weighted). (p ≤ t.lit.var) × (t.lit.var < p + m)) (record { coef = n; lit = record { var = p + j; positive = sign } }) (places_of sign n p j) (omega arith, omega (arith, le)) (places_within sign n p j m (omega (arith, le)))

pub places_apart : (sign : Bool) (n p j : ℕ) → AreApartTerms (places_of sign n p j)
places_apart sign n p zero = AllPairs-nil Other
places_apart sign n p (suc j) =
    let t : Weighted = record { coef = n; lit = record { var = p + j; positive = sign } } in
    AllPairs-cons Other t (places_of sign n p j)
    (All-weaker (λ (u : Weighted). (p ≤ u.lit.var) × (u.lit.var < p + j)) (Other t) (λ u h e. omega (arith, h.1, e)) (places_of sign n p j) (places_within sign n p j j (omega arith))) (places_apart sign n p j)

pub apart_append : (ts us : List Weighted) (m : ℕ) → AreApartTerms ts → AreApartTerms us → All (λ t. t.lit.var < m) ts → All (λ u. m ≤ u.lit.var) us → AreApartTerms (ts ++ us)
apart_append [] us m h k low high = k
apart_append (t ∷ ts) us m h k low high =
    AllPairs-cons Other t (ts ++ us)
    (All-append (Other t) ts us (AllPairs-head Other t ts h) (All-weaker (λ (u : Weighted). m ≤ u.lit.var) (Other t) (λ u above e. omega (arith, above, e, All-head (λ (x : Weighted). x.lit.var < m) t ts low)) us high))
    (apart_append ts us m (AllPairs-tail Other t ts h) k (All-tail (λ (x : Weighted). x.lit.var < m) t ts low) high)

pub places_positive : (sign : Bool) (n p j : ℕ) → 0 < n → AllPositive (places_of sign n p j)
places_positive sign n p zero some = All-nil (λ (t : Weighted). 0 < t.coef)
places_positive sign n p (suc j) some = All-cons (λ (t : Weighted). 0 < t.coef) (record { coef = n; lit = record { var = p + j; positive = sign } }) (places_of sign n p j) some (places_positive sign n p j some)

pub front_of-apart : (p j : ℕ) → AreApartTerms (front_of p (suc j)).terms
front_of-apart p j =
    AllPairs-cons Other (missed (suc j) (p + suc j)) (places_of true 1 p (suc j))
    (All-weaker (λ (t : Weighted). (p ≤ t.lit.var) × (t.lit.var < p + suc j)) (Other (missed (suc j) (p + suc j))) (λ t h e. omega (arith, h.1, e)) (places_of true 1 p (suc j)) (places_within true 1 p (suc j) (suc j) (omega arith))) (places_apart true 1 p (suc j))

pub front_of-positive : (p j : ℕ) → AllPositive (front_of p (suc j)).terms
front_of-positive p j = All-cons (λ (t : Weighted). 0 < t.coef) (missed (suc j) (p + suc j)) (places_of true 1 p (suc j)) (omega arith) (places_positive true 1 p (suc j) (omega arith))

-- ---- the front of a row, from the one before it and the order

pub front_step_form : (p j : ℕ) (c d : Constraint) → IsFormOf (front_of p j) c → IsFormOf (order_of p j) d → IsFormOf (front_of p (suc j)) (sum_of c (multiple (suc j) d))
front_step_form p j c d hc hd =
    let u : Constraint = front_of p (suc j) in
    let n : ℕ = suc j in
    form_sum (front_of p j) (multiple n (order_of p j)) u c (multiple n d) j hc (form_multiple n (order_of p j) d (omega arith) hd)
    (AllPairs-cons Other (missed n (p + n)) (places_of true 1 p n)
    (All-weaker (λ (t : Weighted). (p ≤ t.lit.var) × (t.lit.var < p + n)) (Other (missed n (p + n))) (λ t h e. omega (arith, h.1, e)) (places_of true 1 p n) (places_within true 1 p n n (omega arith))) (places_apart true 1 p n))
    (All-cons (λ (t : Weighted). 0 < t.coef) (missed n (p + n)) (places_of true 1 p n) (omega arith) (places_positive true 1 p n (omega arith)))
    (λ a. omega (
      arith,
      front-value a p j,
      front-value a p n,
      scaled-value a n (order_of p j).terms,
      ap (λ (k : ℕ). n * k) (let e : value a (order_of p j).terms + bit a (p + n) ≡ 1 + bit a (p + j) = omega (arith, value-cons a (missed 1 (p + n)) (reached 1 (p + j) ∷ []), value-cons a (reached 1 (p + j)) [], missed-value a 1 (p + n), reached-value a 1 (p + j)) in e),
      mul-add n (value a (order_of p j).terms) (bit a (p + n)),
      mul-add n 1 (bit a (p + j)),
    ))
    (by_degree j)
  where
    by_degree : (k : ℕ) → (front_of p k).degree + suc k * 1 ≡ suc k + k
    by_degree zero = refl
    by_degree (suc k) = omega arith

-- ---- more of variables that do not stand twice

pub below_all : (t : Weighted) (sign : Bool) (n p j : ℕ) → t.lit.var < p → All (Other t) (places_of sign n p j)
below_all t sign n p j under = All-weaker (λ (u : Weighted). (p ≤ u.lit.var) × (u.lit.var < p + j)) (Other t) (λ u h e. omega (arith, h.0, e, under)) (places_of sign n p j) (places_within sign n p j j (omega arith))

pub above_all : (t : Weighted) (sign : Bool) (n p j : ℕ) → p + j ≤ t.lit.var → All (Other t) (places_of sign n p j)
above_all t sign n p j over = All-weaker (λ (u : Weighted). (p ≤ u.lit.var) × (u.lit.var < p + j)) (Other t) (λ u h e. omega (arith, h.1, e, over)) (places_of sign n p j) (places_within sign n p j j (omega arith))

pub rows_apart : (m n p q i j : ℕ) → p + i ≤ q → AreApartTerms (places_of true m p i ++ places_of false n q j)
rows_apart m n p q i j le =
    apart_append (places_of true m p i) (places_of false n q j) q (places_apart true m p i) (places_apart false n q j)
    (All-weaker (λ (u : Weighted). (p ≤ u.lit.var) × (u.lit.var < p + i)) (λ (u : Weighted). u.lit.var < q) (λ u h. omega (arith, h.1, le)) (places_of true m p i) (places_within true m p i i (omega arith)))
    (All-weaker (λ (u : Weighted). (q ≤ u.lit.var) × (u.lit.var < q + j)) (λ (u : Weighted). q ≤ u.lit.var) (λ u h. omega (arith, h.0)) (places_of false n q j) (places_within false n q j j (omega arith)))

pub rows_positive : (m n p q i j : ℕ) → 0 < m → 0 < n → AllPositive (places_of true m p i ++ places_of false n q j)
rows_positive m n p q i j some more = All-append (λ (t : Weighted). 0 < t.coef) (places_of true m p i) (places_of false n q j) (places_positive true m p i some) (places_positive false n q j more)

-- ---- multiples

pub weighing-value : (a : Assignment) (n : ℕ) (l : Lit) → term_value a (weighing n l) ≡ n * term_value a (weighing 1 l)
weighing-value a n l = by_value (lit_value a l)
  where
    by_value : (b : Bool) → cond b n 0 ≡ n * cond b 1 0
    by_value true = omega arith
    by_value false = omega arith

pub more-times : (n k : ℕ) → suc n * k ≡ k + n * k
more-times n k = omega arith

-- ---- weights

pub places-weight : (sign : Bool) (n p j : ℕ) → weight (places_of sign n p j) ≡ n * j
places-weight sign n p zero = omega arith
places-weight sign n p (suc j) =
    omega (arith, weight-cons (record { coef = n; lit = record { var = p + j; positive = sign } }) (places_of sign n p j), places-weight sign n p j, (let e : n * suc j ≡ n + n * j = omega arith in e))

-- twice the place, and the place as the degree
pub front-size : (p j : ℕ) → weight (front_of p j).terms + (front_of p j).degree ≡ 3 * j
front-size p zero = refl
front-size p (suc j) = omega (arith, weight-cons (missed (suc j) (p + suc j)) (places_of true 1 p (suc j)), places-weight true 1 p (suc j))
