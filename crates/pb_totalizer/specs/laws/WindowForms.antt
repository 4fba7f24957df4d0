-- What an output's second constraint leaves once it is narrowed to a block of each part, and a clause by that.
use Rattle.std.proofs.Common.{◌≡◌, ◌≤◌, ◌<◌, ◌+◌, ◌-◌, ℕ, zero, suc, List, [], ◌∷◌, ◌++◌, refl, ap, ◌∙◌, arith}
use Rattle.std.specs.Prelude.{All, map, sum_by}
use Rattle.std.proofs.lemmas.List.{map-append}
use Rattle.std.proofs.lemmas.List.Elements.{All-cons, All-append, All-map, All-weaker}
use Rattle.std.proofs.lemmas.List.Kept.{AllPairs-cons}
use Rattle.std.proofs.lemmas.List.Sums.{sum_by-cons, sum_by-append}
use Rattle.pb_base.specs.declared.literal.Lit.{Lit}
use Rattle.pb_base.specs.Literals.{Assignment, negated}
use Rattle.pb_base.proofs.Pairs.{AllPairs-map}
use Rattle.pb_norm.specs.Addition.{sum_of}
use Rattle.pb_norm.specs.Constraints.{Weighted, Constraint, AllPositive, weight, value}
use Rattle.pb_norm.specs.Reduction.{opposite}
use Rattle.pb_norm.proofs.AdditionValues.{value-cons}
use Rattle.pb_steps.specs.Operations.{division, shrunk}
use Rattle.pb_derive.specs.Forms.{AreSameTerms, AreApartTerms, IsFormOf}
use Rattle.pb_derive.specs.Ones.{unit_of, ones}
use Rattle.pb_derive.proofs.Appends.{value-append}
use Rattle.pb_derive.proofs.ClauseClaims.{claim_of}
use Rattle.pb_derive.proofs.FormOperations.{form_sum, form_division, form_as}
use Rattle.pb_derive.proofs.Opposites.{value-opposite}
use Rattle.pb_derive.proofs.UnaryRows.{Other, weighing}
use Rattle.pb_tree.specs.Pairs.{unless_none}
use Rattle.pb_totalizer.specs.laws.BlockForms.{Narrows}
use Rattle.pb_totalizer.specs.laws.CountForms.{both-apart}
use Rattle.pb_totalizer.specs.laws.OutputForms.{Some, to-one}

-- ---- terms in a list of others are narrowed

pub narrowed_in : (T : List Weighted → List Weighted) (ts us : List Weighted) (d e : ℕ) (s x y : Constraint) → ((a : Assignment) (xs ys : List Weighted) → value a (T xs) + value a ys ≡ value a (T ys) + value a xs) → Narrows ts us s → d + weight us ≡ e + weight ts
    → weight us ≤ weight ts + s.degree → AreApartTerms (T (map opposite us)) → AllPositive (T (map opposite us)) → IsFormOf (record { terms = T (map opposite ts); degree = d }) x → IsFormOf s y → IsFormOf (record { terms = T (map opposite us); degree = e }) (sum_of x y)
narrowed_in T ts us d e s x y gap law degree fits apart positive hx hy =
    form_sum (record { terms = T (map opposite ts); degree = d }) s (record { terms = T (map opposite us); degree = e }) x y (weight ts + s.degree - weight us) hx hy apart positive
    (λ a. omega (arith, law a, fits, gap a (map opposite ts) (map opposite us), value-opposite a ts, value-opposite a us)) (omega (arith, degree, fits))

-- ---- terms of both parts and of the node

module _ (p c : ℕ) (o : Lit) (some : 1 ≤ c) (above : p ≤ o.var) where
  abbrev own : Weighted
  own = weighing c o

  -- terms of one part
  pub record IsSide (xs : List Weighted) : Type 0 where
    pub apart : AreApartTerms xs
    pub positive : AllPositive xs
    pub low : All (λ t. t.lit.var < p) xs

  pub opposite_side : (xs : List Weighted) → IsSide xs → IsSide (map opposite xs)
  opposite_side xs h = record {
    apart = AllPairs-map Other Other opposite (λ t u ne. ne) xs h.apart;
    positive = All-map Some opposite xs h.positive;
    low = All-map (λ (t : Weighted). t.lit.var < p) opposite xs h.low;
  }

  abbrev pub AreCrossed : List Weighted → List Weighted → Type 0
  AreCrossed xs ys = All (λ t. All (Other t) ys) xs

  pub three-apart : (xs ys : List Weighted) → IsSide xs → IsSide ys → AreCrossed xs ys → AreApartTerms (weighing c o ∷ (xs ++ ys))
  three-apart xs ys hx hy cross =
      AllPairs-cons Other own (xs ++ ys) (All-append (Other own) xs ys (All-weaker (λ (t : Weighted). t.lit.var < p) (Other own) (λ t h e. omega (arith, h, above, e)) xs hx.low) (All-weaker (λ (t : Weighted). t.lit.var < p) (Other own) (λ t h e. omega (arith, h, above, e)) ys hy.low))
      (both-apart xs ys hx.apart hy.apart cross)

  pub three-positive : (xs ys : List Weighted) → IsSide xs → IsSide ys → AllPositive (weighing c o ∷ (xs ++ ys))
  three-positive xs ys hx hy = All-cons Some own (xs ++ ys) some (All-append Some xs ys hx.positive hy.positive)

  -- the literals' signs do not count
  pub crossed_opposite : (xs ys : List Weighted) → AreCrossed xs ys → AreCrossed (map opposite xs) (map opposite ys)
  crossed_opposite xs ys h =
      All-map (λ (t : Weighted). All (Other t) (map opposite ys)) opposite xs
      (All-weaker (λ (t : Weighted). All (Other t) ys) (λ (t : Weighted). All (Other (opposite t)) (map opposite ys)) (λ t k. All-map (Other (opposite t)) opposite ys k) xs h)

  left-gap : (ys : List Weighted) (a : Assignment) (us vs : List Weighted) → value a (own ∷ (us ++ ys)) + value a vs ≡ value a (own ∷ (vs ++ ys)) + value a us
  left-gap ys a us vs = omega (arith, value-cons a own (us ++ ys), value-cons a own (vs ++ ys), value-append a us ys, value-append a vs ys)

  right-gap : (xs : List Weighted) (a : Assignment) (us vs : List Weighted) → value a (own ∷ (xs ++ us)) + value a vs ≡ value a (own ∷ (xs ++ vs)) + value a us
  right-gap xs a us vs = omega (arith, value-cons a own (xs ++ us), value-cons a own (xs ++ vs), value-append a xs us, value-append a xs vs)

  -- ---- two lists of terms, narrowed to two others

  module _ (ls rs ks ms : List Weighted) (s : ℕ) (n q : Constraint) (left : Narrows ls ks n) (right : Narrows rs ms q) (less : weight ks ≤ weight ls + n.degree) (lesser : weight ms ≤ weight rs + q.degree)
      (fits : s ≤ weight ls + weight rs + 1) (middle : s ≤ weight ks + weight rs + 1) (end : s ≤ weight ks + weight ms + 1)
      (hk : IsSide ks) (hr : IsSide rs) (hm : IsSide ms) (first_cross : AreCrossed ks rs) (second_cross : AreCrossed ks ms) where
    abbrev T : List Weighted → List Weighted
    T xs = own ∷ (xs ++ map opposite rs)

    abbrev U : List Weighted → List Weighted
    U xs = own ∷ (map opposite ks ++ xs)

    pub both_narrowed : (x y z : Constraint) → IsFormOf (record { terms = weighing c o ∷ (map opposite ls ++ map opposite rs); degree = weight ls + weight rs + 1 - s }) x → IsFormOf n y → IsFormOf q z
        → IsFormOf (record { terms = weighing c o ∷ (map opposite ks ++ map opposite ms); degree = weight ks + weight ms + 1 - s }) (sum_of (sum_of x y) z)
    both_narrowed x y z hx hy hz =
        narrowed_in U rs ms (weight ks + weight rs + 1 - s) (weight ks + weight ms + 1 - s) q (sum_of x y) z (λ a us vs. right-gap (map opposite ks) a us vs) right (omega (arith, middle, end)) lesser
        (three-apart (map opposite ks) (map opposite ms) (opposite_side ks hk) (opposite_side ms hm) (crossed_opposite ks ms second_cross)) (three-positive (map opposite ks) (map opposite ms) (opposite_side ks hk) (opposite_side ms hm))
        (narrowed_in T ls ks (weight ls + weight rs + 1 - s) (weight ks + weight rs + 1 - s) n x y (λ a us vs. left-gap (map opposite rs) a us vs) left (omega (arith, fits, middle)) less
        (three-apart (map opposite ks) (map opposite rs) (opposite_side ks hk) (opposite_side rs hr) (crossed_opposite ks rs first_cross)) (three-positive (map opposite ks) (map opposite rs) (opposite_side ks hk) (opposite_side rs hr)) hx hy) hz

-- ---- a single literal of a part, for as many as it says; or none

abbrev pub single : (ℕ → Lit) → ℕ → List Weighted
single f zero = []
single f (suc i) = weighing (suc i) (f (suc i)) ∷ []

pub single-weight : (f : ℕ → Lit) (i : ℕ) → weight (single f i) ≡ i
single-weight f zero = refl
single-weight f (suc i) = omega arith

single-one : (m : ℕ) (f : ℕ → Lit) (i : ℕ) → i ≤ m → map (shrunk m) (map opposite (single f i)) ≡ ones (unless_none f i)
single-one m f zero le = refl
single-one m f (suc i) le = λ k. weighing (to-one m (suc i) (omega arith) le k) (negated (f (suc i))) ∷ []

-- what is left of two single literals, divided: a clause
pub clause_left : (m c i j : ℕ) (o : Lit) (f g : ℕ → Lit) (x : Constraint) → 1 ≤ c → c ≤ m → i ≤ m → j ≤ m → IsFormOf (record { terms = weighing c o ∷ (map opposite (single f i) ++ map opposite (single g j)); degree = 1 }) x
    → IsFormOf (claim_of (unless_none f i ++ (unless_none g j ++ o ∷ []))) (division m x)
clause_left m c i j o f g x some top left right h =
    let us = map opposite (single f i) in
    let vs = map opposite (single g j) in
    let s : Constraint = record { terms = weighing c o ∷ (us ++ vs); degree = 1 } in
    let one = to-one m c some top in
    let firsts = single-one m f i left in
    let seconds = single-one m g j right in
    let parts : map (shrunk m) (weighing c o ∷ (us ++ vs)) ≡ unit_of o ∷ (ones (unless_none f i) ++ ones (unless_none g j)) =
    (λ k. weighing (one k) o ∷ (map-append (shrunk m) us vs ∙ (λ t. firsts t ++ seconds t)) k) in
    let clause : ones (unless_none f i ++ (unless_none g j ++ o ∷ [])) ≡ ones (unless_none f i) ++ (ones (unless_none g j) ++ unit_of o ∷ []) =
    map-append unit_of (unless_none f i) (unless_none g j ++ o ∷ []) ∙ ap (λ (ws : List Weighted). ones (unless_none f i) ++ ws) (map-append unit_of (unless_none g j) (o ∷ [])) in
    let same : AreSameTerms (map (shrunk m) s.terms) (ones (unless_none f i ++ (unless_none g j ++ o ∷ []))) = λ h.
    let fs = ones (unless_none f i) in
    let gs = ones (unless_none g j) in
    omega (
      arith,
      ap (λ (ws : List Weighted). sum_by h ws) parts,
      ap (λ (ws : List Weighted). sum_by h ws) clause,
      sum_by-cons h (unit_of o) (fs ++ gs),
      sum_by-append h fs gs,
      sum_by-append h fs (gs ++ unit_of o ∷ []),
      sum_by-append h gs (unit_of o ∷ []),
      sum_by-cons h (unit_of o) [],
    ) in
    form_as (division m s) (claim_of (unless_none f i ++ (unless_none g j ++ o ∷ []))) (division m x) same (to-one m 1 (omega arith) (omega (arith, some, top))) (form_division m s x (omega (arith, some, top)) h)
