-- What the first constraints of a row of outputs give together: no fewer terms are true than outputs. And outputs that give way to leaves.
use Rattle.std.proofs.Common.{◌≡◌, ◌≤◌, ◌<◌, ◌+◌, ◌-◌, ◌*◌, inl, inr, ℕ, zero, suc, Bool, false, List, [], ◌∷◌, ◌++◌, refl, ap, sym, ◌∙◌, arith}
use Rattle.std.specs.Prelude.{All, map, sum_by}
use Rattle.std.proofs.Math.Nat.{mul-add, mul-le-mul_left, mul_comm}
use Rattle.std.proofs.lemmas.Bool.{cases_lt}
use Rattle.std.proofs.lemmas.List.{map-append}
use Rattle.std.proofs.lemmas.List.Elements.{All-nil, All-cons, All-head, All-tail, All-append, All-map, All-weaker}
use Rattle.std.proofs.lemmas.List.Kept.{AllPairs-cons}
use Rattle.pb_base.specs.Literals.{Assignment, negated}
use Rattle.pb_base.proofs.Pairs.{AllPairs-nil, AllPairs-head, AllPairs-tail, AllPairs-map}
use Rattle.pb_norm.specs.Constraints.{Weighted, Constraint, AllPositive, weight, value}
use Rattle.pb_norm.specs.Addition.{sum_of}
use Rattle.pb_norm.specs.Reduction.{opposite, quotient_up}
use Rattle.pb_norm.proofs.AdditionValues.{value-cons}
use Rattle.pb_norm.proofs.Opened.{quotient_up-least, quotient_up-enough}
use Rattle.pb_steps.specs.Operations.{scaled, multiple, division, shrunk}
use Rattle.pb_derive.specs.Forms.{AreApartTerms, IsFormOf}
use Rattle.pb_derive.specs.Reifications.{forward_of}
use Rattle.pb_derive.proofs.Appends.{value-append}
use Rattle.pb_derive.proofs.ClauseClaims.{claim_of}
use Rattle.pb_derive.proofs.FormOperations.{form_sum, form_multiple, form_division, form_as}
use Rattle.pb_derive.proofs.Opposites.{value-opposite}
use Rattle.pb_derive.proofs.UnaryRows.{Other, missed, places_of, count, places-false, scaled-value, places_within, places_apart, places_positive, above_all, more-times}
use Rattle.pb_family.specs.Fresh.{positive_of}
use Rattle.pb_totalizer.specs.laws.OutputForms.{Some, meaning_at, to-one}

-- ---- numbers that are divided

pub quotient-times : (n k : ℕ) → 0 < n → quotient_up n (n * k) ≡ k
quotient-times n k some =
    let up : quotient_up n (n * k) ≤ k = quotient_up-least n (n * k) k some (omega arith) in
    let enough : n * k ≤ n * quotient_up n (n * k) = quotient_up-enough n (n * k) some in
    elim (cases_lt (quotient_up n (n * k)) k) as (λ _. quotient_up n (n * k) ≡ k) [
      | inl less ↦
          let more : n * suc (quotient_up n (n * k)) ≤ n * k = mul-le-mul_left n (omega (arith, less)) in
          let whole : n * suc (quotient_up n (n * k)) ≡ n + n * quotient_up n (n * k) = omega arith in
          absurd (omega (arith, more, enough, whole, some))
      | inr from ↦ omega (arith, from, up)
    ]

shrunk-scaled : (n : ℕ) (ts : List Weighted) → 0 < n → map (shrunk n) (map (scaled n) ts) ≡ ts
shrunk-scaled n [] some = refl
shrunk-scaled n (t ∷ ts) some = λ i. record { coef = quotient-times n t.coef some i; lit = t.lit } ∷ shrunk-scaled n ts some i

shrunk-places : (sign : Bool) (n k p j : ℕ) → 0 < k → k ≤ n → map (shrunk n) (places_of sign k p j) ≡ places_of sign 1 p j
shrunk-places sign n k p zero some le = refl
shrunk-places sign n k p (suc j) some le = λ i. record { coef = to-one n k some le i; lit = record { var = p + j; positive = sign } } ∷ shrunk-places sign n k p j some le i

degree-quotient : (n : ℕ) → quotient_up (suc (suc n)) (suc n * suc n + suc (suc n)) ≡ suc (suc n)
degree-quotient n =
    let m : ℕ = suc (suc n) in
    let k : ℕ = suc n * suc n + m in
    let whole : m * m ≡ m + suc n * m = more-times (suc n) m in
    let square : suc n * m ≡ suc n * suc n + suc n = ap (λ (i : ℕ). suc n * i) (let e : m ≡ 1 + suc n = omega arith in e) ∙ mul-add (suc n) 1 (suc n) ∙ (let e : suc n * 1 + suc n * suc n ≡ suc n * suc n + suc n = omega arith in e) in
    let up : quotient_up m k ≤ m = quotient_up-least m k m (omega arith) (omega (arith, square, whole)) in
    let enough : k ≤ m * quotient_up m k = quotient_up-enough m k (omega arith) in
    by_quotient (quotient_up m k) up enough square
  where
    by_quotient : (q : ℕ) → q ≤ suc (suc n) → suc n * suc n + suc (suc n) ≤ suc (suc n) * q → suc n * suc (suc n) ≡ suc n * suc n + suc n → q ≡ suc (suc n)
    by_quotient q up enough square =
        elim (cases_lt q (suc (suc n))) as (λ _. q ≡ suc (suc n)) [
          | inl less ↦
              let most : suc (suc n) * q ≤ suc (suc n) * suc n = mul-le-mul_left (suc (suc n)) (omega (arith, less)) in
              let turn : suc (suc n) * suc n ≡ suc n * suc (suc n) = mul_comm (suc (suc n)) (suc n) in
              absurd (omega (arith, most, turn, enough, square))
          | inr same ↦ omega (arith, same, up)
        ]

-- ---- terms with no variable in common

pub both-apart : (ts us : List Weighted) → AreApartTerms ts → AreApartTerms us → All (λ t. All (Other t) us) ts → AreApartTerms (ts ++ us)
both-apart [] us h k cross = k
both-apart (t ∷ ts) us h k cross =
    AllPairs-cons Other t (ts ++ us) (All-append (Other t) ts us (AllPairs-head Other t ts h) (All-head (λ (x : Weighted). All (Other x) us) t ts cross))
    (both-apart ts us (AllPairs-tail Other t ts h) k (All-tail (λ (x : Weighted). All (Other x) us) t ts cross))

-- those of a row and lower ones
pub row-low-apart : (sign : Bool) (n p j : ℕ) (ts : List Weighted) → AreApartTerms ts → All (λ t. t.lit.var < p) ts → AreApartTerms (places_of sign n p j ++ ts)
row-low-apart sign n p j ts apart low =
    both-apart (places_of sign n p j) ts (places_apart sign n p j) apart
    (All-weaker (λ (t : Weighted). (p ≤ t.lit.var) × (t.lit.var < p + j)) (λ (t : Weighted). All (Other t) ts) (λ t h. All-weaker (λ (u : Weighted). u.lit.var < p) (Other t) (λ u under e. omega (arith, h.0, under, e)) ts low) (places_of sign n p j) (places_within sign n p j j (omega arith)))

-- ---- no fewer terms are true than outputs, of which there are so many and one more

abbrev pub counted_of : ℕ → List Weighted → ℕ → Constraint
counted_of p ts n = record { terms = places_of false 1 p (suc n) ++ ts; degree = suc n }

times-positive : (n k : ℕ) → 0 < n → 0 < k → 0 < n * k
times-positive n k h l = grind arith

module _ (p n : ℕ) (ts : List Weighted) (apart : AreApartTerms ts) (positive : AllPositive ts) (low : All (λ t. t.lit.var < p) ts) where
  abbrev m : ℕ
  m = suc (suc n)

  abbrev head : Weighted
  head = missed m (p + suc n)

  abbrev rest : List Weighted
  rest = places_of false (suc n) p (suc n) ++ map (scaled m) ts

  abbrev wide : Constraint
  wide = record { terms = head ∷ rest; degree = suc n * suc n + m }

  scaled-apart : AreApartTerms (map (scaled m) ts)
  scaled-apart = AllPairs-map Other Other (scaled m) (λ t u ne. ne) ts apart

  scaled-low : All (λ t. t.lit.var < p) (map (scaled m) ts)
  scaled-low = All-map (λ (t : Weighted). t.lit.var < p) (scaled m) ts low

  wide-apart : AreApartTerms (head ∷ rest)
  wide-apart =
      AllPairs-cons Other head rest
      (All-append (Other head) (places_of false (suc n) p (suc n)) (map (scaled m) ts) (above_all head false (suc n) p (suc n) (omega arith)) (All-weaker (λ (t : Weighted). t.lit.var < p) (Other head) (λ t under e. omega (arith, under, e)) (map (scaled m) ts) scaled-low))
      (row-low-apart false (suc n) p (suc n) (map (scaled m) ts) scaled-apart scaled-low)

  wide-positive : AllPositive (head ∷ rest)
  wide-positive =
      All-cons Some head rest (omega arith)
      (All-append Some (places_of false (suc n) p (suc n)) (map (scaled m) ts) (places_positive false (suc n) p (suc n) (omega arith)) (All-map Some (scaled m) ts (All-weaker Some (λ (t : Weighted). 0 < m * t.coef) (λ t k. times-positive m t.coef (omega arith) k) ts positive)))

  counted_summed : (c d : Constraint) → IsFormOf (counted_of p ts n) c → IsFormOf (forward_of (meaning_at p ts (suc n))) d → IsFormOf wide (sum_of (multiple (suc n) c) d)
  counted_summed c d hc hd =
      form_sum (multiple (suc n) (counted_of p ts n)) (forward_of (meaning_at p ts (suc n))) wide (multiple (suc n) c) d 0 (form_multiple (suc n) (counted_of p ts n) c (omega arith) hc) hd wide-apart wide-positive
      (λ a.
      let v : ℕ = value a (places_of false 1 p (suc n)) in
      let w : ℕ = value a ts in
      let k : ℕ = count a p (suc n) in
      let row : suc n * v + suc n * k ≡ suc n * suc n = sym (mul-add (suc n) v k) ∙ ap (λ (x : ℕ). suc n * x) (let e : v + k ≡ suc n = omega (arith, places-false a 1 p (suc n)) in e) in
      let spread : suc n * value a (places_of false 1 p (suc n) ++ ts) ≡ suc n * v + suc n * w = ap (λ (x : ℕ). suc n * x) (value-append a (places_of false 1 p (suc n)) ts) ∙ mul-add (suc n) v w in
      omega (
        arith,
        scaled-value a (suc n) (places_of false 1 p (suc n) ++ ts),
        spread,
        row,
        places-false a (suc n) p (suc n),
        value-cons a head ts,
        value-cons a head rest,
        value-append a (places_of false (suc n) p (suc n)) (map (scaled m) ts),
        scaled-value a m ts,
        more-times (suc n) w,
      ))
      (omega arith)

  divided : map (shrunk m) (head ∷ rest) ≡ places_of false 1 p (suc (suc n)) ++ ts
  divided =
      let top : quotient_up m m ≡ 1 = to-one m m (omega arith) (omega arith) in
      let both = map-append (shrunk m) (places_of false (suc n) p (suc n)) (map (scaled m) ts) in
      let parts : map (shrunk m) rest ≡ places_of false 1 p (suc n) ++ ts = both ∙ (λ i. shrunk-places false m (suc n) p (suc n) (omega arith) (omega arith) i ++ shrunk-scaled m ts (omega arith) i) in
      λ i. missed (top i) (p + suc n) ∷ parts i

  pub counted_form : (c d : Constraint) → IsFormOf (counted_of p ts n) c → IsFormOf (forward_of (meaning_at p ts (suc n))) d → IsFormOf (counted_of p ts (suc n)) (division m (sum_of (multiple (suc n) c) d))
  counted_form c d hc hd =
      form_as (division m wide) (counted_of p ts (suc n)) (division m (sum_of (multiple (suc n) c) d)) (λ f. ap (λ (us : List Weighted). sum_by f us) divided) (degree-quotient n)
      (form_division m wide (sum_of (multiple (suc n) c) d) (omega arith) (counted_summed c d hc hd))

-- ---- outputs give way to leaves

-- no more of the first are true than of the others
pub record GivesWay (ts us : List Weighted) (s : Constraint) : Type 0 where
  pub law : (a : Assignment) → value a s.terms + value a ts ≡ weight ts + value a us
  pub degree : s.degree ≡ weight ts

pub way_given : (front ts us rest : List Weighted) (k : ℕ) (s c d : Constraint) → GivesWay ts us s → AreApartTerms (front ++ (us ++ rest)) → AllPositive (front ++ (us ++ rest))
    → IsFormOf (record { terms = front ++ (ts ++ rest); degree = k }) c → IsFormOf s d → IsFormOf (record { terms = front ++ (us ++ rest); degree = k }) (sum_of c d)
way_given front ts us rest k s c d way apart positive hc hd =
    form_sum (record { terms = front ++ (ts ++ rest); degree = k }) s (record { terms = front ++ (us ++ rest); degree = k }) c d (weight ts) hc hd apart positive
    (λ a. omega (
      arith,
      way.law a,
      value-append a front (ts ++ rest),
      value-append a ts rest,
      value-append a front (us ++ rest),
      value-append a us rest,
    ))
    (omega (arith, way.degree))

-- what a node's outputs say of its leaves does so
pub counted_gives : (p last : ℕ) (ts us : List Weighted) → ((a : Assignment) → value a ts ≡ count a p (suc last)) → weight ts ≡ suc last → GivesWay ts us (counted_of p us last)
counted_gives p last ts us counted size = record {
  law = λ a. omega (arith, counted a, size, value-append a (places_of false 1 p (suc last)) us, places-false a 1 p (suc last));
  degree = sym size;
}

-- ---- the root: where more leaves were true than may be, the last output says so

module _ (v bound : ℕ) (us : List Weighted) (le : bound ≤ weight us) where
  abbrev over : Constraint
  over = record { terms = missed (suc bound) v ∷ []; degree = 1 }

  over_summed : (c d : Constraint) → IsFormOf (record { terms = missed (suc bound) v ∷ us; degree = suc bound }) c → IsFormOf (record { terms = map opposite us; degree = weight us - bound }) d → IsFormOf over (sum_of c d)
  over_summed c d hc hd =
      form_sum (record { terms = missed (suc bound) v ∷ us; degree = suc bound }) (record { terms = map opposite us; degree = weight us - bound }) over c d (weight us) hc hd
      (AllPairs-cons Other (missed (suc bound) v) [] (All-nil (Other (missed (suc bound) v))) (AllPairs-nil Other)) (All-cons Some (missed (suc bound) v) [] (omega arith) (All-nil Some))
      (λ a. omega (arith, value-cons a (missed (suc bound) v) us, value-cons a (missed (suc bound) v) [], value-opposite a us))
      (omega (arith, le))

  pub root_form : (c d : Constraint) → IsFormOf (record { terms = missed (suc bound) v ∷ us; degree = suc bound }) c → IsFormOf (record { terms = map opposite us; degree = weight us - bound }) d
      → IsFormOf (claim_of (negated (positive_of v) ∷ [])) (division (suc bound) (sum_of c d))
  root_form c d hc hd =
      let top : quotient_up (suc bound) (suc bound) ≡ 1 = to-one (suc bound) (suc bound) (omega arith) (omega arith) in
      let same : map (shrunk (suc bound)) over.terms ≡ missed 1 v ∷ [] = λ i. missed (top i) v ∷ [] in
      form_as (division (suc bound) over) (claim_of (negated (positive_of v) ∷ [])) (division (suc bound) (sum_of c d)) (λ f. ap (λ (ts : List Weighted). sum_by f ts) same) (to-one (suc bound) 1 (omega arith) (omega arith))
      (form_division (suc bound) over (sum_of c d) (omega arith) (over_summed c d hc hd))
