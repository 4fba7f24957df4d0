-- What the lines about blocks of outputs leave.
use Rattle.std.proofs.Common.{◌≡◌, ◌≤◌, ◌<◌, ◌+◌, ◌-◌, ◌*◌, ℕ, suc, true, List, [], ◌∷◌, ◌++◌, refl, ap, sym, ◌∙◌, arith}
use Rattle.std.specs.Prelude.{All, map, sum_by}
use Rattle.std.proofs.Math.Nat.{mul-add}
use Rattle.std.proofs.lemmas.List.Elements.{All-cons, All-append, All-weaker}
use Rattle.std.proofs.lemmas.List.Kept.{AllPairs-cons}
use Rattle.pb_base.specs.Literals.{Assignment}
use Rattle.pb_norm.specs.Constraints.{Weighted, Constraint, AllPositive, weight, value}
use Rattle.pb_norm.specs.Addition.{sum_of}
use Rattle.pb_norm.specs.Reduction.{opposite}
use Rattle.pb_norm.proofs.AdditionValues.{value-cons}
use Rattle.pb_steps.specs.Operations.{axiom_of, multiple}
use Rattle.pb_derive.specs.Forms.{AreApartTerms, IsFormOf}
use Rattle.pb_derive.proofs.Appends.{value-append}
use Rattle.pb_derive.proofs.FormOperations.{form_sum, form_multiple}
use Rattle.pb_derive.proofs.Opposites.{value-opposite}
use Rattle.pb_derive.proofs.UnaryRows.{Other, reached, missed, places_of, order_of, front_of, bit, count, reached-value, missed-value, scaled-value, places-true, front-value, places_within, places_apart, places_positive, more-times}
use Rattle.pb_family.specs.Fresh.{positive_of}
use Rattle.pb_totalizer.specs.laws.CountForms.{both-apart}
use Rattle.pb_totalizer.specs.laws.OutputForms.{Some, axiom-form, count-first, count-split, front-degree, front-apart, front-positive, front-below}

-- The constraint narrows terms to others: as much as it adds to those gives these, and its degree beside.
abbrev pub Narrows : List Weighted → List Weighted → Constraint → Type 0
Narrows ts us s = (a : Assignment) → value a s.terms + value a us ≡ s.degree + value a ts

-- it does so in a constraint over the negated terms
pub narrowed : (front ts us rest : List Weighted) (d e : ℕ) (s x y : Constraint) → Narrows ts us s → d + weight us ≡ e + weight ts → AreApartTerms (front ++ (map opposite us ++ rest)) → AllPositive (front ++ (map opposite us ++ rest)) → weight us ≤ weight ts + s.degree
    → IsFormOf (record { terms = front ++ (map opposite ts ++ rest); degree = d }) x → IsFormOf s y → IsFormOf (record { terms = front ++ (map opposite us ++ rest); degree = e }) (sum_of x y)
narrowed front ts us rest d e s x y law degree apart positive fits hx hy =
    form_sum (record { terms = front ++ (map opposite ts ++ rest); degree = d }) s (record { terms = front ++ (map opposite us ++ rest); degree = e }) x y (weight ts + s.degree - weight us) hx hy apart positive
    (λ a. omega (
      arith,
      law a,
      fits,
      value-append a front (map opposite ts ++ rest),
      value-append a (map opposite ts) rest,
      value-opposite a ts,
      value-append a front (map opposite us ++ rest),
      value-append a (map opposite us) rest,
      value-opposite a us,
    ))
    (omega (arith, degree, fits))

-- ---- the terms of a block, of which the first stands for all before it too: from the place u on, so many more

abbrev pub block_of : ℕ → ℕ → ℕ → List Weighted
block_of p u n = reached (suc u) (p + u) ∷ places_of true 1 (p + suc u) n

pub block-value : (a : Assignment) (p u n : ℕ) → value a (block_of p u n) ≡ suc u * bit a (p + u) + count a (p + suc u) n
block-value a p u n = omega (arith, value-cons a (reached (suc u) (p + u)) (places_of true 1 (p + suc u) n), reached-value a (suc u) (p + u), places-true a 1 (p + suc u) n)

pub block-apart : (p u n : ℕ) → AreApartTerms (block_of p u n)
block-apart p u n =
    AllPairs-cons Other (reached (suc u) (p + u)) (places_of true 1 (p + suc u) n)
    (All-weaker (λ (t : Weighted). (p + suc u ≤ t.lit.var) × (t.lit.var < p + suc u + n)) (Other (reached (suc u) (p + u))) (λ t h e. omega (arith, h.0, e)) (places_of true 1 (p + suc u) n) (places_within true 1 (p + suc u) n n (omega arith)))
    (places_apart true 1 (p + suc u) n)

pub block-within : (p u n : ℕ) → All (λ t. (p + u ≤ t.lit.var) × (t.lit.var < p + suc u + n)) (block_of p u n)
block-within p u n =
    All-cons (λ (t : Weighted). (p + u ≤ t.lit.var) × (t.lit.var < p + suc u + n)) (reached (suc u) (p + u)) (places_of true 1 (p + suc u) n) (omega arith, omega arith)
    (All-weaker (λ (t : Weighted). (p + suc u ≤ t.lit.var) × (t.lit.var < p + suc u + n)) (λ (t : Weighted). (p + u ≤ t.lit.var) × (t.lit.var < p + suc u + n)) (λ t h. (omega (arith, h.0), h.1)) (places_of true 1 (p + suc u) n) (places_within true 1 (p + suc u) n n (omega arith)))

pub block-positive : (p u n : ℕ) → AllPositive (block_of p u n)
block-positive p u n = All-cons Some (reached (suc u) (p + u)) (places_of true 1 (p + suc u) n) (omega arith) (places_positive true 1 (p + suc u) n (omega arith))

-- ---- those of a block before a place, n places behind the first one and one more

abbrev pub block_front : ℕ → ℕ → ℕ → Constraint
block_front p u n = record { terms = missed (suc (u + n)) (p + suc (u + n)) ∷ block_of p u n; degree = suc (u + n) }

pub block_front-value : (a : Assignment) (p u n : ℕ) → value a (block_front p u n).terms + suc (u + n) * bit a (p + suc (u + n)) ≡ suc (u + n) + (suc u * bit a (p + u) + count a (p + suc u) n)
block_front-value a p u n = omega (arith, value-cons a (missed (suc (u + n)) (p + suc (u + n))) (block_of p u n), missed-value a (suc (u + n)) (p + suc (u + n)), block-value a p u n)

pub block_front-apart : (p u n : ℕ) → AreApartTerms (block_front p u n).terms
block_front-apart p u n =
    AllPairs-cons Other (missed (suc (u + n)) (p + suc (u + n))) (block_of p u n)
    (All-weaker (λ (t : Weighted). (p + u ≤ t.lit.var) × (t.lit.var < p + suc u + n)) (Other (missed (suc (u + n)) (p + suc (u + n)))) (λ t h e. omega (arith, h.1, e)) (block_of p u n) (block-within p u n)) (block-apart p u n)

pub block_front-positive : (p u n : ℕ) → AllPositive (block_front p u n).terms
block_front-positive p u n = All-cons Some (missed (suc (u + n)) (p + suc (u + n))) (block_of p u n) (omega arith) (block-positive p u n)

order-value : (a : Assignment) (p x : ℕ) → value a (order_of p x).terms + bit a (p + suc x) ≡ 1 + bit a (p + x)
order-value a p x = omega (arith, value-cons a (missed 1 (p + suc x)) (reached 1 (p + x) ∷ []), value-cons a (reached 1 (p + x)) [], missed-value a 1 (p + suc x), reached-value a 1 (p + x))

-- the first one by the order alone
pub block_front-first : (p u : ℕ) (d : Constraint) → IsFormOf (order_of p u) d → IsFormOf (block_front p u 0) (multiple (suc u) d)
block_front-first p u d h =
    let m = form_multiple (suc u) (order_of p u) d (omega arith) h in
    let e : u + 0 ≡ u = omega arith in
    let low : suc u * 1 ≡ suc u = omega arith in
    let terms : (multiple (suc u) (order_of p u)).terms ≡ (block_front p u 0).terms = λ i. missed (both u low e i) (p + suc (sym e i)) ∷ reached (low i) (p + u) ∷ [] in
    record { terms = λ f. m.terms f ∙ ap (λ (ts : List Weighted). sum_by f ts) terms; degree = m.degree ∙ low ∙ ap suc (sym e); positive = m.positive; ascending = m.ascending }
  where
    both : (u : ℕ) → suc u * 1 ≡ suc u → u + 0 ≡ u → suc u * 1 ≡ suc (u + 0)
    both u low e = low ∙ ap suc (sym e)

-- each next one by the one before
pub block_front-step : (p u n : ℕ) (c d : Constraint) → IsFormOf (block_front p u n) c → IsFormOf (order_of p (suc (u + n))) d → IsFormOf (block_front p u (suc n)) (sum_of c (multiple (suc (suc (u + n))) d))
block_front-step p u n c d hc hd =
    let x : ℕ = suc (u + n) in
    let k : ℕ = suc x in
    let same : suc (u + suc n) ≡ k = omega arith in
    let here : p + suc (u + suc n) ≡ p + suc x = omega arith in
    form_sum (block_front p u n) (multiple k (order_of p x)) (block_front p u (suc n)) c (multiple k d) x hc (form_multiple k (order_of p x) d (omega arith) hd) (block_front-apart p u (suc n)) (block_front-positive p u (suc n))
    (λ a.
    let v : ℕ = value a (order_of p x).terms in
    let scaled : k * v + k * bit a (p + suc x) ≡ k * 1 + k * bit a (p + x) = sym (mul-add k v (bit a (p + suc x))) ∙ ap (λ (j : ℕ). k * j) (order-value a p x) ∙ mul-add k 1 (bit a (p + x)) in
    omega (
      arith,
      scaled-value a k (order_of p x).terms,
      scaled,
      block_front-value a p u n,
      block_front-value a p u (suc n),
      ap (λ (j : ℕ). j * bit a (p + suc (u + suc n))) same,
      ap (λ (w : ℕ). k * bit a w) here,
      more-times x (bit a (p + x)),
      ap (bit a) (let e : p + suc u + n ≡ p + x = omega arith in e),
    ))
    (omega arith)

-- ---- those of a block behind a place

-- n of them, the first of which is q
abbrev pub places_behind : ℕ → ℕ → Constraint
places_behind q n = record { terms = places_of true 1 q n; degree = 0 }

pub behind-step : (v n : ℕ) (c : Constraint) → IsFormOf (places_behind (suc v) n) c → IsFormOf (places_behind v (suc n)) (sum_of c (axiom_of (positive_of v)))
behind-step v n c h =
    form_sum (places_behind (suc v) n) (record { terms = reached 1 v ∷ []; degree = 0 }) (places_behind v (suc n)) c (axiom_of (positive_of v)) 0 h (axiom-form (positive_of v)) (places_apart true 1 v (suc n)) (places_positive true 1 v (suc n) (omega arith))
    (λ a. omega (arith, places-true a 1 (suc v) n, places-true a 1 v (suc n), value-cons a (reached 1 v) [], reached-value a 1 v, count-first a v n)) refl

-- ---- all but one of a block

-- of the first place: those behind
-- of another, n places behind the first and one more, with k behind it: those before and those behind
abbrev pub block_others : ℕ → ℕ → ℕ → ℕ → Constraint
block_others p u n k = record { terms = (block_front p u n).terms ++ places_of true 1 (p + suc (suc (u + n))) k; degree = suc (u + n) }

pub block_others-apart : (p u n k : ℕ) → AreApartTerms (block_others p u n k).terms
block_others-apart p u n k =
    both-apart (block_front p u n).terms (places_of true 1 (p + suc (suc (u + n))) k) (block_front-apart p u n) (places_apart true 1 (p + suc (suc (u + n))) k)
    (All-cons (λ (t : Weighted). All (Other t) tail) (missed (suc (u + n)) (p + suc (u + n))) (block_of p u n) (All-weaker Behind (Other (missed (suc (u + n)) (p + suc (u + n)))) (λ t h e. omega (arith, h.0, e)) tail behind)
    (All-weaker (λ (t : Weighted). (p + u ≤ t.lit.var) × (t.lit.var < p + suc u + n)) (λ (t : Weighted). All (Other t) tail) (λ t low. All-weaker Behind (Other t) (λ s h e. omega (arith, h.0, low.1, e)) tail behind) (block_of p u n) (block-within p u n)))
  where
    tail : List Weighted
    tail = places_of true 1 (p + suc (suc (u + n))) k

    Behind : Weighted → Type 0
    Behind t = (p + suc (suc (u + n)) ≤ t.lit.var) × (t.lit.var < p + suc (suc (u + n)) + k)

    behind : All Behind (places_of true 1 (p + suc (suc (u + n))) k)
    behind = places_within true 1 (p + suc (suc (u + n))) k k (omega arith)

pub block_others-form : (p u n k : ℕ) (c d : Constraint) → IsFormOf (block_front p u n) c → IsFormOf (places_behind (p + suc (suc (u + n))) k) d → IsFormOf (block_others p u n k) (sum_of c d)
block_others-form p u n k c d hc hd =
    form_sum (block_front p u n) (places_behind (p + suc (suc (u + n))) k) (block_others p u n k) c d 0 hc hd (block_others-apart p u n k)
    (All-append Some (block_front p u n).terms (places_of true 1 (p + suc (suc (u + n))) k) (block_front-positive p u n) (places_positive true 1 (p + suc (suc (u + n))) k (omega arith)))
    (λ a. omega (arith, value-append a (block_front p u n).terms (places_of true 1 (p + suc (suc (u + n))) k))) (omega arith)

-- as often as a place says, its literal
abbrev pub alone : ℕ → ℕ → List Weighted
alone p x = reached (suc x) (p + x) ∷ []

pub first-narrows : (p u k : ℕ) → Narrows (block_of p u k) (alone p u) (places_behind (p + suc u) k)
first-narrows p u k a = omega (arith, block-value a p u k, places-true a 1 (p + suc u) k, value-cons a (reached (suc u) (p + u)) [], reached-value a (suc u) (p + u))

pub others-narrows : (p u n k : ℕ) → Narrows (block_of p u (n + suc k)) (alone p (suc (u + n))) (block_others p u n k)
others-narrows p u n k a =
    let x : ℕ = suc (u + n) in
    omega (
      arith,
      value-append a (block_front p u n).terms (places_of true 1 (p + suc x) k),
      block_front-value a p u n,
      places-true a 1 (p + suc x) k,
      block-value a p u (n + suc k),
      count-split a (p + suc u) n (suc k),
      count-first a (p + suc u + n) k,
      ap (bit a) (let e : p + suc u + n ≡ p + x = omega arith in e),
      ap (λ (q : ℕ). count a q k) (let e : suc (p + suc u + n) ≡ p + suc x = omega arith in e),
      value-cons a (reached (suc x) (p + x)) [],
      reached-value a (suc x) (p + x),
      more-times x (bit a (p + x)),
    )

-- none of the first block is alone
pub none-narrows : (p k : ℕ) → Narrows (block_of p 0 k) [] (places_behind p (suc k))
none-narrows p k a =
    omega (
      arith,
      block-value a p 0 k,
      places-true a 1 p (suc k),
      count-first a p k,
      ap (bit a) (let e : p + 0 ≡ p = omega arith in e),
      ap (λ (q : ℕ). count a q k) (let e : suc p ≡ p + 1 = omega arith in e),
    )

-- ---- all outside a block, whose first place is u and behind whose n further ones k are

abbrev pub outside_of : ℕ → ℕ → ℕ → ℕ → Constraint
outside_of p u n k = record { terms = (front_of p u).terms ++ places_of true 1 (p + suc (u + n)) k; degree = (front_of p u).degree }

pub outside-form : (p u n k : ℕ) (c d : Constraint) → IsFormOf (front_of p u) c → IsFormOf (places_behind (p + suc (u + n)) k) d → IsFormOf (outside_of p u n k) (sum_of c d)
outside-form p u n k c d hc hd =
    let tail : List Weighted = places_of true 1 (p + suc (u + n)) k in
    let behind = places_within true 1 (p + suc (u + n)) k k (omega arith) in
    form_sum (front_of p u) (places_behind (p + suc (u + n)) k) (outside_of p u n k) c d 0 hc hd
    (both-apart (front_of p u).terms tail (front-apart p u) (places_apart true 1 (p + suc (u + n)) k)
    (All-weaker (λ (t : Weighted). t.lit.var < p + suc u) (λ (t : Weighted). All (Other t) tail) (λ t low. All-weaker (λ (s : Weighted). (p + suc (u + n) ≤ s.lit.var) × (s.lit.var < p + suc (u + n) + k)) (Other t) (λ s h e. omega (arith, h.0, low, e)) tail behind) (front_of p u).terms (front-below p u)))
    (All-append Some (front_of p u).terms tail (front-positive p u) (places_positive true 1 (p + suc (u + n)) k (omega arith)))
    (λ a. omega (arith, value-append a (front_of p u).terms tail)) (omega arith)

pub outside-narrows : (p u n k : ℕ) (ts : List Weighted) → ((a : Assignment) → value a ts ≡ count a p (u + suc (n + k))) → Narrows ts (block_of p u n) (outside_of p u n k)
outside-narrows p u n k ts counted a =
    omega (
      arith,
      counted a,
      value-append a (front_of p u).terms (places_of true 1 (p + suc (u + n)) k),
      front-value a p u,
      front-degree p u,
      places-true a 1 (p + suc (u + n)) k,
      block-value a p u n,
      count-split a p u (suc (n + k)),
      count-first a (p + u) (n + k),
      count-split a (suc (p + u)) n k,
      ap (λ (q : ℕ). count a q n) (let e : suc (p + u) ≡ p + suc u = omega arith in e),
      ap (λ (q : ℕ). count a q k) (let e : suc (p + u) + n ≡ p + suc (u + n) = omega arith in e),
      more-times u (bit a (p + u)),
    )
