-- What an output's second constraint leaves, with what the other outputs of both parts say: a clause of the node.
use Rattle.std.proofs.Common.{◌≡◌, ◌≤◌, ◌+◌, ◌-◌, ◌*◌, ℕ, zero, suc, List, [], ◌∷◌, ◌++◌, refl, ap, sym, ◌∙◌, arith}
use Rattle.std.specs.Prelude.{All, map, sum_by}
use Rattle.std.proofs.lemmas.List.{map-append}
use Rattle.std.proofs.lemmas.List.Elements.{All-nil, All-cons, All-append, All-map}
use Rattle.pb_base.specs.declared.literal.Lit.{Lit}
use Rattle.pb_base.specs.Literals.{Assignment, negated}
use Rattle.pb_norm.specs.Constraints.{Weighted, Constraint, AllPositive, weight, value, term_value}
use Rattle.pb_norm.specs.Addition.{sum_of}
use Rattle.pb_norm.specs.Reduction.{opposite}
use Rattle.pb_norm.proofs.AdditionValues.{value-cons}
use Rattle.pb_steps.specs.Operations.{division, shrunk}
use Rattle.pb_derive.specs.Forms.{AreApartTerms, IsFormOf}
use Rattle.pb_derive.specs.Ones.{unit_of, ones}
use Rattle.pb_derive.proofs.Appends.{value-append, weight-append}
use Rattle.pb_derive.proofs.ClauseClaims.{claim_of}
use Rattle.pb_derive.proofs.FormOperations.{form_sum, form_division, form_as}
use Rattle.pb_derive.proofs.Opposites.{value-opposite}
use Rattle.pb_derive.proofs.UnaryRows.{weighing, weighing-value}
use Rattle.pb_tree.specs.Pairs.{unless_none}
use Rattle.pb_totalizer.specs.laws.OutputForms.{Some, to-one, IsOthers}

-- what is left of a part: as often as it says, the literal's negation
abbrev pub left_with : (ℕ → Lit) → ℕ → List Weighted
left_with f zero = []
left_with f (suc i) = weighing (suc i) (negated (f (suc i))) ∷ []

pub left-value : (a : Assignment) (f : ℕ → Lit) (i : ℕ) → value a (left_with f i) + i * term_value a (weighing 1 (f i)) ≡ i
left-value a f zero = omega arith
left-value a f (suc i) =
    let l : Lit = f (suc i) in
    omega (arith, value-opposite a (weighing (suc i) l ∷ []), value-cons a (weighing (suc i) l) [], weighing-value a (suc i) l)

left-positive : (f : ℕ → Lit) (i : ℕ) → All Some (left_with f i)
left-positive f zero = All-nil Some
left-positive f (suc i) = All-cons Some (weighing (suc i) (negated (f (suc i)))) [] (omega arith) (All-nil Some)

left-one : (m : ℕ) (f : ℕ → Lit) (i : ℕ) → i ≤ m → map (shrunk m) (left_with f i) ≡ ones (unless_none f i)
left-one m f zero le = refl
left-one m f (suc i) le = λ k. weighing (to-one m (suc i) (omega arith) le k) (negated (f (suc i))) ∷ []

module _ (f g : ℕ → Lit) (o : Lit) (lts rts : List Weighted) (i j c m : ℕ)
    (counts : weight lts + weight rts ≡ m) (sum : c + i + j ≡ m + 1) (some : 1 ≤ i + j) (left : i ≤ weight lts) (right : j ≤ weight rts)
    (s t : Constraint) (lefts : IsOthers lts (f i) i s) (rights : IsOthers rts (g j) j t)
    (apart_middle : AreApartTerms (left_with f i ++ (map opposite rts ++ weighing c o ∷ []))) (apart_end : AreApartTerms (left_with f i ++ (left_with g j ++ weighing c o ∷ []))) (positive : AllPositive rts) where
  abbrev pub reverse : Constraint
  reverse = record { terms = weighing c o ∷ map opposite (lts ++ rts); degree = c }

  abbrev pub own : List Weighted
  own = weighing c o ∷ []

  abbrev middle : Constraint
  middle = record { terms = left_with f i ++ (map opposite rts ++ own); degree = weight rts + 1 - j }

  abbrev pub end : Constraint
  end = record { terms = left_with f i ++ (left_with g j ++ own); degree = 1 }

  own-positive : All Some own
  own-positive = All-cons Some (weighing c o) [] (omega (arith, sum, counts, left, right)) (All-nil Some)

  left_added : (x y : Constraint) → IsFormOf reverse x → IsFormOf s y → IsFormOf middle (sum_of x y)
  left_added x y hx hy =
      form_sum reverse s middle x y (weight lts + (i - 1) - i) hx hy apart_middle
      (All-append Some (left_with f i) (map opposite rts ++ own) (left-positive f i) (All-append Some (map opposite rts) own (All-map Some opposite rts positive) own-positive))
      (λ a. omega (
        arith,
        left,
        lefts.law a,
        left-value a f i,
        value-cons a (weighing c o) (map opposite (lts ++ rts)),
        value-opposite a (lts ++ rts),
        value-append a lts rts,
        weight-append lts rts,
        value-append a (left_with f i) (map opposite rts ++ own),
        value-append a (map opposite rts) own,
        value-opposite a rts,
        value-cons a (weighing c o) [],
      ))
      (omega (arith, lefts.degree, sum, counts, left, right))

  right_added : (x y : Constraint) → IsFormOf middle x → IsFormOf t y → IsFormOf end (sum_of x y)
  right_added x y hx hy =
      form_sum middle t end x y (weight rts + (j - 1) - j) hx hy apart_end
      (All-append Some (left_with f i) (left_with g j ++ own) (left-positive f i) (All-append Some (left_with g j) own (left-positive g j) own-positive))
      (λ a. omega (
        arith,
        right,
        rights.law a,
        left-value a g j,
        value-append a (left_with f i) (map opposite rts ++ own),
        value-append a (map opposite rts) own,
        value-opposite a rts,
        value-append a (left_with f i) (left_with g j ++ own),
        value-append a (left_with g j) own,
      ))
      (omega (arith, rights.degree, right))

  pub divided : map (shrunk m) end.terms ≡ ones (unless_none f i ++ (unless_none g j ++ o ∷ []))
  divided =
      let one : ones (unless_none f i ++ (unless_none g j ++ o ∷ [])) ≡ ones (unless_none f i) ++ (ones (unless_none g j) ++ ones (o ∷ [])) =
      map-append unit_of (unless_none f i) (unless_none g j ++ o ∷ []) ∙ ap (λ (us : List Weighted). ones (unless_none f i) ++ us) (map-append unit_of (unless_none g j) (o ∷ [])) in
      let top = to-one m c (omega (arith, sum, counts, left, right)) (omega (arith, sum, some)) in
      let last : map (shrunk m) own ≡ ones (o ∷ []) = λ k. weighing (top k) o ∷ [] in
      let firsts = left-one m f i (omega (arith, counts, left)) in
      let seconds = left-one m g j (omega (arith, counts, right)) in
      map-append (shrunk m) (left_with f i) (left_with g j ++ own) ∙ ap (λ (us : List Weighted). map (shrunk m) (left_with f i) ++ us) (map-append (shrunk m) (left_with g j) own)
      ∙ (λ k. firsts k ++ (seconds k ++ last k)) ∙ sym one

  pub pair_form : (x y z : Constraint) → IsFormOf reverse x → IsFormOf s y → IsFormOf t z → IsFormOf (claim_of (unless_none f i ++ (unless_none g j ++ o ∷ []))) (division m (sum_of (sum_of x y) z))
  pair_form x y z hx hy hz =
      form_as (division m end) (claim_of (unless_none f i ++ (unless_none g j ++ o ∷ []))) (division m (sum_of (sum_of x y) z)) (λ h. ap (λ (us : List Weighted). sum_by h us) divided) (to-one m 1 (omega arith) (omega (arith, counts, left, right, some)))
      (form_division m end (sum_of (sum_of x y) z) (omega (arith, counts, left, right, some)) (right_added (sum_of x y) z (left_added x y hx hy) hz))
