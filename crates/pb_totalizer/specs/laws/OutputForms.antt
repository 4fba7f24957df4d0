-- What the lines about a row of outputs leave: those before one, those behind it, and both.
use Rattle.std.proofs.Common.{◌≡◌, ◌≢◌, ◌≤◌, ◌<◌, ◌+◌, ◌-◌, ◌*◌, ℕ, zero, suc, true, List, [], ◌∷◌, ◌++◌, refl, ap, arith}
use Rattle.std.specs.Prelude.{All, map, sum_by}
use Rattle.std.proofs.lemmas.List.Elements.{All-nil, All-cons, All-append, All-weaker}
use Rattle.std.proofs.lemmas.List.Kept.{AllPairs-cons}
use Rattle.pb_base.specs.declared.literal.Lit.{Lit}
use Rattle.pb_base.specs.Literals.{Assignment}
use Rattle.pb_base.proofs.Pairs.{AllPairs-nil}
use Rattle.pb_norm.specs.Constraints.{Weighted, Constraint, AllPositive, weight, value, term_value}
use Rattle.pb_norm.specs.Addition.{sum_of}
use Rattle.pb_norm.specs.Reduction.{opposite, quotient_up}
use Rattle.pb_norm.proofs.AdditionOrder.{Before}
use Rattle.pb_norm.proofs.AdditionValues.{value-cons}
use Rattle.pb_norm.proofs.Opened.{quotient_up-least}
use Rattle.pb_steps.specs.Operations.{axiom_of, division, shrunk}
use Rattle.pb_derive.specs.Forms.{AreApartTerms, IsFormOf}
use Rattle.pb_derive.specs.Reifications.{Reification, spare, forward_of, reverse_of}
use Rattle.pb_derive.proofs.Appends.{value-append}
use Rattle.pb_derive.proofs.FormOperations.{form_sum, form_division, form_as, quotient-positive}
use Rattle.pb_derive.proofs.Opposites.{value-opposite}
use Rattle.pb_derive.proofs.UnaryRows.{Other, weighing, reached, missed, places_of, order_of, front_of, bit, count, reached-value, places-true, front-value, places_within, places_apart, places_positive, apart_append, front_of-apart, front_of-positive, more-times}
use Rattle.pb_family.specs.Fresh.{positive_of}

-- what an output of a row says, which is reified over the same terms as the others
abbrev pub meaning_at : ℕ → List Weighted → ℕ → Reification
meaning_at p ts j = record { var = p + j; sum = ts; least = suc j }

abbrev pub Some : Weighted → Type 0
Some t = 0 < t.coef

pub two-apart : (s t : Weighted) → s.lit.var ≢ t.lit.var → AreApartTerms (s ∷ t ∷ [])
two-apart s t ne = AllPairs-cons Other s (t ∷ []) (All-cons (Other s) t [] ne (All-nil (Other s))) (AllPairs-cons Other t [] (All-nil (Other t)) (AllPairs-nil Other))

pub two-all : (Q : Weighted → Type 0) (s t : Weighted) → Q s → Q t → All Q (s ∷ t ∷ [])
two-all Q s t h k = All-cons Q s (t ∷ []) h (All-cons Q t [] k (All-nil Q))

-- what is at most the divisor becomes 1
pub to-one : (n k : ℕ) → 0 < k → k ≤ n → quotient_up n k ≡ 1
to-one n k some le =
    let up = quotient_up-least n k 1 (omega (arith, some, le)) (omega (arith, le)) in
    omega (arith, up, quotient-positive n k (omega (arith, some, le)) some)

-- ---- an output is true where the next one is

module _ (p : ℕ) (ts : List Weighted) (j m : ℕ) (is : weight ts ≡ m) (within : suc (suc j) ≤ m) where
  abbrev high : Weighted
  high = missed (suc (suc j)) (p + suc j)

  abbrev low : Weighted
  low = reached (spare (meaning_at p ts j)) (p + j)

  abbrev both : Constraint
  both = record { terms = high ∷ low ∷ []; degree = 2 }

  order_summed : (c d : Constraint) → IsFormOf (forward_of (meaning_at p ts (suc j))) c → IsFormOf (reverse_of (meaning_at p ts j)) d → IsFormOf both (sum_of c d)
  order_summed c d hc hd =
      form_sum (forward_of (meaning_at p ts (suc j))) (reverse_of (meaning_at p ts j)) both c d (weight ts) hc hd
      (two-apart high low (λ e. omega (arith, e))) (two-all Some high low (omega arith) (omega (arith, is, within)))
      (λ a. omega (arith, value-cons a high ts, value-cons a low (map opposite ts), value-opposite a ts, value-cons a high (low ∷ []), value-cons a low []))
      (omega (arith, is, within))

  pub order_form : (c d : Constraint) → IsFormOf (forward_of (meaning_at p ts (suc j))) c → IsFormOf (reverse_of (meaning_at p ts j)) d → IsFormOf (order_of p j) (division m (sum_of c d))
  order_form c d hc hd =
      let one : quotient_up m (suc (suc j)) ≡ 1 = to-one m (suc (suc j)) (omega arith) within in
      let other : quotient_up m (spare (meaning_at p ts j)) ≡ 1 = to-one m (spare (meaning_at p ts j)) (omega (arith, is, within)) (omega (arith, is)) in
      let same : map (shrunk m) (high ∷ low ∷ []) ≡ (order_of p j).terms = λ i. missed (one i) (p + suc j) ∷ reached (other i) (p + j) ∷ [] in
      form_as (division m both) (order_of p j) (division m (sum_of c d)) (λ f. ap (λ (us : List Weighted). sum_by f us) same) (to-one m 2 (omega arith) (omega (arith, within)))
      (form_division m both (sum_of c d) (omega (arith, within)) (order_summed c d hc hd))

-- ---- those behind

abbrev pub tail_of : ℕ → ℕ → ℕ → Constraint
tail_of p last k = record { terms = places_of true 1 (p + (suc last - k)) k; degree = 0 }

pub axiom-form : (l : Lit) → IsFormOf (record { terms = weighing 1 l ∷ []; degree = 0 }) (axiom_of l)
axiom-form l = record {
  terms = λ f. refl;
  degree = refl;
  positive = All-cons Some (weighing 1 l) [] (omega arith) (All-nil Some);
  ascending = AllPairs-cons Before (weighing 1 l) [] (All-nil (Before (weighing 1 l))) (AllPairs-nil Before);
}

module _ (a : Assignment) where
  pub count-first : (q k : ℕ) → count a q (suc k) ≡ bit a q + count a (suc q) k
  count-first q zero = omega (arith, ap (bit a) (let e : q + 0 ≡ q = omega arith in e))
  count-first q (suc k) = omega (arith, ap (bit a) (let e : q + suc k ≡ suc q + k = omega arith in e), count-first q k)

  pub count-split : (p i k : ℕ) → count a p (i + k) ≡ count a p i + count a (p + i) k
  count-split p i zero = omega (arith, ap (count a p) (let e : i + 0 ≡ i = omega arith in e))
  count-split p i (suc k) =
      omega (arith, ap (count a p) (let e : i + suc k ≡ suc (i + k) = omega arith in e), ap (bit a) (let e : p + (i + k) ≡ p + i + k = omega arith in e), count-split p i k)

pub tail_form : (p last k : ℕ) (c : Constraint) → k ≤ last → IsFormOf (tail_of p last k) c → IsFormOf (tail_of p last (suc k)) (sum_of c (axiom_of (positive_of (p + (last - k)))))
tail_form p last k c le h =
    let v : ℕ = p + (last - k) in
    let q : ℕ = p + (suc last - k) in
    let start : ℕ = p + (suc last - suc k) in
    let next : q ≡ suc v = omega (arith, le) in
    let same : start ≡ v = omega (arith, le) in
    form_sum (tail_of p last k) (record { terms = reached 1 v ∷ []; degree = 0 }) (tail_of p last (suc k)) c (axiom_of (positive_of v)) 0 h (axiom-form (positive_of v))
    (places_apart true 1 start (suc k)) (places_positive true 1 start (suc k) (omega arith))
    (λ a. omega (
      arith,
      places-true a 1 q k,
      places-true a 1 start (suc k),
      value-cons a (reached 1 v) [],
      reached-value a 1 v,
      count-first a v k,
      ap (λ (n : ℕ). count a n k) next,
      ap (λ (n : ℕ). count a n (suc k)) same,
    ))
    refl

-- ---- all but one

abbrev pub others_of : ℕ → ℕ → ℕ → Constraint
others_of p last zero = tail_of p last (suc last)
others_of p last (suc j) = record { terms = (front_of p j).terms ++ places_of true 1 (p + suc j) (last - j); degree = (front_of p j).degree }

pub front-degree : (p j : ℕ) → (front_of p j).degree ≡ j
front-degree p zero = refl
front-degree p (suc j) = refl

pub front-below : (p j : ℕ) → All (λ t. t.lit.var < p + suc j) (front_of p j).terms
front-below p zero = All-nil (λ (t : Weighted). t.lit.var < p + 1)
front-below p (suc j) =
    All-cons (λ (t : Weighted). t.lit.var < p + suc (suc j)) (missed (suc j) (p + suc j)) (places_of true 1 p (suc j)) (omega arith)
    (All-weaker (λ (t : Weighted). (p ≤ t.lit.var) × (t.lit.var < p + suc j)) (λ (t : Weighted). t.lit.var < p + suc (suc j)) (λ t h. omega (arith, h.1)) (places_of true 1 p (suc j)) (places_within true 1 p (suc j) (suc j) (omega arith)))

pub front-apart : (p j : ℕ) → AreApartTerms (front_of p j).terms
front-apart p zero = AllPairs-nil Other
front-apart p (suc j) = front_of-apart p j

pub front-positive : (p j : ℕ) → AllPositive (front_of p j).terms
front-positive p zero = All-nil Some
front-positive p (suc j) = front_of-positive p j

pub others-apart : (p last j : ℕ) → AreApartTerms (others_of p last (suc j)).terms
others-apart p last j =
    apart_append (front_of p j).terms (places_of true 1 (p + suc j) (last - j)) (p + suc j) (front-apart p j) (places_apart true 1 (p + suc j) (last - j)) (front-below p j)
    (All-weaker (λ (t : Weighted). (p + suc j ≤ t.lit.var) × (t.lit.var < p + suc j + (last - j))) (λ (t : Weighted). p + suc j ≤ t.lit.var) (λ t h. h.0) (places_of true 1 (p + suc j) (last - j)) (places_within true 1 (p + suc j) (last - j) (last - j) (omega arith)))

pub others-positive : (p last j : ℕ) → AllPositive (others_of p last (suc j)).terms
others-positive p last j = All-append Some (front_of p j).terms (places_of true 1 (p + suc j) (last - j)) (front-positive p j) (places_positive true 1 (p + suc j) (last - j) (omega arith))

pub others_form : (p last j : ℕ) (c d : Constraint) → j ≤ last → IsFormOf (front_of p j) c → IsFormOf (tail_of p last (last - j)) d → IsFormOf (others_of p last (suc j)) (sum_of c d)
others_form p last j c d le hc hd =
    let start : p + (suc last - (last - j)) ≡ p + suc j = omega (arith, le) in
    form_sum (front_of p j) (tail_of p last (last - j)) (others_of p last (suc j)) c d 0 hc hd (others-apart p last j) (others-positive p last j)
    (λ a. omega (arith, value-append a (front_of p j).terms (places_of true 1 (p + suc j) (last - j)), ap (λ (q : ℕ). value a (places_of true 1 q (last - j))) start))
    (omega arith)

-- What the outputs of a part but one say, where the terms say how many are true: where the i-th is, which has the literal, i - 1 others are.
pub record IsOthers (ts : List Weighted) (l : Lit) (i : ℕ) (s : Constraint) : Type 0 where
  pub law : (a : Assignment) → value a s.terms + i * term_value a (weighing 1 l) ≡ i - 1 + value a ts
  pub degree : s.degree ≡ i - 1

module _ (p last : ℕ) (ts : List Weighted) (counted : (a : Assignment) → value a ts ≡ count a p (suc last)) where
  others-law : (i : ℕ) → i ≤ suc last → (a : Assignment) → value a (others_of p last i).terms + i * bit a (p + (i - 1)) ≡ i - 1 + value a ts
  others-law zero le a =
      let start : p + (suc last - suc last) ≡ p = omega arith in
      omega (arith, counted a, places-true a 1 (p + (suc last - suc last)) (suc last), ap (λ (q : ℕ). count a q (suc last)) start)
  others-law (suc j) le a =
      let rest : ℕ = last - j in
      let whole : suc j + rest ≡ suc last = omega (arith, le) in
      omega (
        arith,
        counted a,
        value-append a (front_of p j).terms (places_of true 1 (p + suc j) rest),
        front-value a p j,
        places-true a 1 (p + suc j) rest,
        count-split a p (suc j) rest,
        ap (count a p) whole,
        more-times j (bit a (p + j)),
        ap (λ (v : ℕ). suc j * bit a v) (let e : p + (suc j - 1) ≡ p + j = omega arith in e),
      )

  others-degree : (i : ℕ) → (others_of p last i).degree ≡ i - 1
  others-degree zero = refl
  others-degree (suc j) = omega (arith, front-degree p j)

  pub row_others : (i : ℕ) → i ≤ suc last → IsOthers ts (positive_of (p + (i - 1))) i (others_of p last i)
  row_others i le = record {
    law = λ a. omega (arith, others-law i le a, ap (λ (k : ℕ). i * k) (let e : term_value a (weighing 1 (positive_of (p + (i - 1)))) ≡ bit a (p + (i - 1)) = omega (arith, reached-value a 1 (p + (i - 1))) in e));
    degree = others-degree i;
  }

-- of a leaf, whose one output is its own literal
abbrev pub leaf_others : Lit → ℕ → Constraint
leaf_others l zero = record { terms = weighing 1 l ∷ []; degree = 0 }
leaf_others l (suc i) = record { terms = []; degree = 0 }

pub leaf-is-others : (l : Lit) (i : ℕ) → i ≤ 1 → IsOthers (weighing 1 l ∷ []) l i (leaf_others l i)
leaf-is-others l zero le = record { law = λ a. omega arith; degree = refl }
leaf-is-others l (suc i) le =
    let none : i ≡ 0 = omega (arith, le) in
    record { law = λ a. omega (arith, value-cons a (weighing 1 l) [], ap (λ (k : ℕ). suc k * term_value a (weighing 1 l)) none, none); degree = omega (arith, none) }
