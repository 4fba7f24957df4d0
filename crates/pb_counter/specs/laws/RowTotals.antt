-- Totals: no more than a row is wide are true of some literals and the places of a row; and literals and the places of a row are no fewer than those of a later one.
use Rattle.std.proofs.Common.{◌≡◌, ◌≤◌, ◌<◌, ◌+◌, ℕ, zero, suc, true, false, List, [], ◌∷◌, ◌++◌, refl, subst, arith}
use Rattle.std.specs.Prelude.{All, map}
use Rattle.std.proofs.lemmas.List.Elements.{All-nil, All-cons, All-append, All-map, All-weaker}
use Rattle.std.proofs.lemmas.List.Kept.{AllPairs-cons}
use Rattle.pb_base.specs.declared.literal.Lit.{Lit}
use Rattle.pb_base.specs.Literals.{Assignment, negated}
use Rattle.pb_base.proofs.Pairs.{AllPairs-nil, AllPairs-map}
use Rattle.pb_norm.specs.Constraints.{Weighted, Constraint, AllPositive, weight, value}
use Rattle.pb_norm.specs.Addition.{sum_of}
use Rattle.pb_norm.specs.Reduction.{opposite}
use Rattle.pb_norm.proofs.AdditionValues.{value-cons}
use Rattle.pb_steps.specs.Operations.{division}
use Rattle.pb_derive.specs.Forms.{AreApartTerms, IsFormOf}
use Rattle.pb_derive.proofs.Appends.{value-append, weight-append}
use Rattle.pb_derive.proofs.FormOperations.{form_sum, form_division}
use Rattle.pb_derive.proofs.Opposites.{value-opposite}
use Rattle.pb_derive.proofs.UnaryRows.{Other, weighing, missed, places_of, front_of, bit, missed-value, count, places-true, places-false, front-value, more-times, apart_append, places_within, places_apart, places_positive, rows_apart, rows_positive}
use Rattle.pb_counter.specs.laws.RowParts.{one-quotient}

abbrev pub total_of : List Weighted → ℕ → ℕ → Constraint
total_of us p width = record { terms = map opposite us ++ places_of false 1 p width; degree = weight us }

abbrev pub climb_of : List Weighted → ℕ → ℕ → ℕ → Constraint
climb_of us p q width = record { terms = us ++ (places_of true 1 p width ++ places_of false 1 q width); degree = width }

-- terms whose variables are different, and below a number
pub record AreLow (us : List Weighted) (p : ℕ) : Type 0 where
  pub apart : AreApartTerms us
  pub positive : AllPositive us
  pub below : All (λ t. t.lit.var < p) us

abbrev Some : Weighted → Type 0
Some t = 0 < t.coef

-- ---- values

total-value : (a : Assignment) (us : List Weighted) (p width : ℕ) → value a (total_of us p width).terms + value a us + count a p width ≡ weight us + width
total-value a us p width = omega (arith, value-append a (map opposite us) (places_of false 1 p width), value-opposite a us, places-false a 1 p width)

climb-value : (a : Assignment) (us : List Weighted) (p q width : ℕ) → value a (climb_of us p q width).terms + count a q width ≡ value a us + count a p width + width
climb-value a us p q width =
    let ps = places_of true 1 p width in
    let qs = places_of false 1 q width in
    omega (arith, value-append a us (ps ++ qs), value-append a ps qs, places-true a 1 p width, places-false a 1 q width)

-- ---- no variable stands twice

pub total-apart : (us : List Weighted) (p width : ℕ) → AreLow us p → AreApartTerms (total_of us p width).terms
total-apart us p width h =
    apart_append (map opposite us) (places_of false 1 p width) p (AllPairs-map Other Other opposite (λ s t ne. ne) us h.apart) (places_apart false 1 p width) (All-map (λ (t : Weighted). t.lit.var < p) opposite us h.below)
    (All-weaker (λ (u : Weighted). (p ≤ u.lit.var) × (u.lit.var < p + width)) (λ (u : Weighted). p ≤ u.lit.var) (λ u k. k.0) (places_of false 1 p width) (places_within false 1 p width width (omega arith)))

pub total-positive : (us : List Weighted) (p width : ℕ) → AreLow us p → AllPositive (total_of us p width).terms
total-positive us p width h = All-append Some (map opposite us) (places_of false 1 p width) (All-map Some opposite us h.positive) (places_positive false 1 p width (omega arith))

pub climb-apart : (us : List Weighted) (p q width : ℕ) → AreLow us p → p + width ≤ q → AreApartTerms (climb_of us p q width).terms
climb-apart us p q width h le =
    let ps = places_of true 1 p width in
    let qs = places_of false 1 q width in
    apart_append us (ps ++ qs) p h.apart (rows_apart 1 1 p q width width le) h.below
    (All-append (λ (u : Weighted). p ≤ u.lit.var) ps qs
    (All-weaker (λ (u : Weighted). (p ≤ u.lit.var) × (u.lit.var < p + width)) (λ (u : Weighted). p ≤ u.lit.var) (λ u k. k.0) ps (places_within true 1 p width width (omega arith)))
    (All-weaker (λ (u : Weighted). (q ≤ u.lit.var) × (u.lit.var < q + width)) (λ (u : Weighted). p ≤ u.lit.var) (λ u k. omega (arith, k.0, le)) qs (places_within false 1 q width width (omega arith))))

pub climb-positive : (us : List Weighted) (p q width : ℕ) → AreLow us p → AllPositive (climb_of us p q width).terms
climb-positive us p q width h = All-append Some us (places_of true 1 p width ++ places_of false 1 q width) h.positive (rows_positive 1 1 p q width width (omega arith) (omega arith))

-- ---- sums

-- from one row to a later one: the literals between them are left out
pub total_step : (us vs : List Weighted) (p q width : ℕ) (c d : Constraint) → AreLow vs q → IsFormOf (total_of (us ++ vs) p width) c → IsFormOf (climb_of us p q width) d → IsFormOf (total_of vs q width) (sum_of c d)
total_step us vs p q width c d low hc hd =
    form_sum (total_of (us ++ vs) p width) (climb_of us p q width) (total_of vs q width) c d (weight us + width) hc hd (total-apart vs q width low) (total-positive vs q width low)
    (λ a. omega (arith, total-value a (us ++ vs) p width, climb-value a us p q width, total-value a vs q width, value-append a us vs, weight-append us vs))
    (omega (arith, weight-append us vs))

-- over two parts of the rows
pub climb_step : (us vs : List Weighted) (p q r width : ℕ) (c d : Constraint) → AreLow (us ++ vs) p → p + width ≤ r → IsFormOf (climb_of us p q width) c → IsFormOf (climb_of vs q r width) d → IsFormOf (climb_of (us ++ vs) p r width) (sum_of c d)
climb_step us vs p q r width c d low le hc hd =
    form_sum (climb_of us p q width) (climb_of vs q r width) (climb_of (us ++ vs) p r width) c d width hc hd (climb-apart (us ++ vs) p r width low le) (climb-positive (us ++ vs) p r width low)
    (λ a. omega (arith, climb-value a us p q width, climb-value a vs q r width, climb-value a (us ++ vs) p r width, value-append a us vs))
    (omega arith)

-- ---- the clause that stops the counting

-- where the last place is reached, the literal is not true
abbrev pub stop_of : Lit → ℕ → ℕ → Constraint
stop_of l p k = record { terms = missed 1 (p + k) ∷ weighing 1 (negated l) ∷ []; degree = 1 }

-- the total of one literal with the last front
abbrev stop_sum : Lit → ℕ → ℕ → Constraint
stop_sum l p k = record { terms = missed (suc k) (p + k) ∷ weighing 1 (negated l) ∷ []; degree = 1 }

pub stop_form : (l : Lit) (p k : ℕ) (c d : Constraint) → l.var < p → IsFormOf (total_of (weighing 1 l ∷ []) p (suc k)) c → IsFormOf (front_of p k) d → IsFormOf (stop_of l p k) (division (suc k) (sum_of c d))
stop_form l p k c d low hc hd =
    let one = one-quotient (suc k) 1 (omega arith) (omega arith) in
    let whole = one-quotient (suc k) (suc k) (omega arith) (omega arith) in
    let last : Weighted = missed (suc k) (p + k) in
    let x : Weighted = weighing 1 (negated l) in
    let sum = form_sum (total_of (weighing 1 l ∷ []) p (suc k)) (front_of p k) (stop_sum l p k) c d k hc hd
    (AllPairs-cons Other last (x ∷ []) (All-cons (Other last) x [] (λ e. omega (arith, low, e)) (All-nil (Other last))) (AllPairs-cons Other x [] (All-nil (Other x)) (AllPairs-nil Other)))
    (All-cons Some last (x ∷ []) (omega arith) (All-cons Some x [] (omega arith) (All-nil Some)))
    (λ a. omega (
      arith,
      total-value a (weighing 1 l ∷ []) p (suc k),
      value-opposite a (weighing 1 l ∷ []),
      front-value a p k,
      value-cons a last (x ∷ []),
      missed-value a (suc k) (p + k),
      more-times k (bit a (p + k)),
    ))
    (by_degree k) in
    subst (λ (s : Constraint). IsFormOf s (division (suc k) (sum_of c d))) (λ i. record { terms = missed (whole i) (p + k) ∷ weighing (one i) (negated l) ∷ []; degree = one i }) (form_division (suc k) (stop_sum l p k) (sum_of c d) (omega arith) sum)
  where
    by_degree : (j : ℕ) → 1 + (front_of p j).degree ≡ 1 + j
    by_degree zero = refl
    by_degree (suc j) = refl
