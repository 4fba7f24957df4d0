-- Sums by parts, where a level's nodes reach up in steps and each has a child at a place of the next level.
use Rattle.std.proofs.Common.{◌≡◌, ◌≤◌, ◌<◌, ◌+◌, ◌*◌, ◌-◌, ◌⊎◌, inl, inr, ℕ, zero, suc, Bool, true, false, cond, List, [], ◌∷◌, length, refl, ap, sym, ◌∙◌, arith}
use Rattle.std.specs.Prelude.{Option, None, Some, max}
use Rattle.std.proofs.lemmas.Bool.{le-leb, lt-leb, cases_lt}
use Rattle.pb_diagram.specs.declared.node.Node.{Node}
use Rattle.pb_diagram.specs.Guards.{is_by, reach_by}

-- the numbers at so many places from one on
abbrev pub total : (ℕ → ℕ) → ℕ → ℕ → ℕ
total g j zero = 0
total g j (suc m) = g j + total g (suc j) m

pub total-same : (g k : ℕ → ℕ) (j m : ℕ) → ((i : ℕ) → g i ≡ k i) → total g j m ≡ total k j m
total-same g k j zero same = refl
total-same g k j (suc m) same = omega (arith, same j, total-same g k (suc j) m same)

pub total-add : (g k : ℕ → ℕ) (j m : ℕ) → total (λ i. g i + k i) j m ≡ total g j m + total k j m
total-add g k j zero = refl
total-add g k j (suc m) = omega (arith, total-add g k (suc j) m)

-- what a node adds at the places from its child on
abbrev pub from_child : Option ℕ → ℕ → ℕ → ℕ
from_child f c i = cond (is_by f i) c 0

module _ (h : ℕ → ℕ) where
  abbrev pub at_child : Option ℕ → ℕ
  at_child None = 0
  at_child (Some f) = h f

  -- each node's step, from a number on, times what its child counts
  abbrev pub step_sum : (Node → Option ℕ) → ℕ → List Node → ℕ
  step_sum child o [] = 0
  step_sum child o (n ∷ ns) = (n.top - o) * at_child (child n) + step_sum child (max o n.top) ns

  tele_in : (f c j m : ℕ) → f ≤ j → total (λ i. from_child (Some f) c i * h i) j m + c * h (j + m) ≡ total (λ i. from_child (Some f) c i * h (suc i)) j m + c * h j
  tele_in f c j zero le = ap (λ (i : ℕ). 0 + c * h i) (let e : j + 0 ≡ j = omega arith in e)
  tele_in f c j (suc m) le =
      let here : from_child (Some f) c j ≡ c = ap (λ (b : Bool). cond b c 0) (le-leb f j le) in
      let next : j + suc m ≡ suc j + m = omega arith in
      omega (arith, ap (λ (k : ℕ). k * h j) here, ap (λ (k : ℕ). k * h (suc j)) here, tele_in f c (suc j) m (omega (arith, le)), ap (λ (i : ℕ). c * h i) next)

  tele : (f c j m : ℕ) → j ≤ f → f < j + m → total (λ i. from_child (Some f) c i * h i) j m + c * h (j + m) ≡ total (λ i. from_child (Some f) c i * h (suc i)) j m + c * h f
  tele f c j zero le within = absurd (omega (arith, le, within))
  tele f c j (suc m) le within =
      elim (cases_lt j f) as (λ _. total (λ i. from_child (Some f) c i * h i) j (suc m) + c * h (j + suc m) ≡ total (λ i. from_child (Some f) c i * h (suc i)) j (suc m) + c * h f) [
        | inl before ↦
            let here : from_child (Some f) c j ≡ 0 = ap (λ (b : Bool). cond b c 0) (lt-leb f j before) in
            let next : j + suc m ≡ suc j + m = omega arith in
            omega (arith, ap (λ (k : ℕ). k * h j) here, ap (λ (k : ℕ). k * h (suc j)) here, tele f c (suc j) m (omega (arith, before)) (omega (arith, within)), ap (λ (i : ℕ). c * h i) next)
        | inr after ↦
            let same : j ≡ f = omega (arith, le, after) in
            omega (arith, tele_in f c j (suc m) (omega (arith, after)), ap (λ (i : ℕ). c * h i) same)
      ]

  -- ---- where a place has no child before it, no later node has, or the node's step is none

  abbrev pub IsIn : ℕ → Option ℕ → Type 0
  IsIn count None = Unit {0}
  IsIn count (Some f) = f < count

  abbrev pub AreSteps : (Node → Option ℕ) → ℕ → ℕ → List Node → Type 0
  AreSteps child count o [] = Unit {0}
  AreSteps child count o (n ∷ ns) =
      ((i : ℕ) → is_by (child n) i ≡ false → (reach_by child ns i ≡ 0) ⊎ (n.top ≤ o)) × (IsIn count (child n) × AreSteps child count (max o n.top) ns)

  parted : (b : Bool) (top o r : ℕ) → (b ≡ false → (r ≡ 0) ⊎ (top ≤ o)) → max (cond b top 0) r - o ≡ cond b (top - o) 0 + (r - max o top)
  parted true top o r h = omega arith
  parted false top o r h =
      elim (h refl) as (λ _. max 0 r - o ≡ 0 + (r - max o top)) [
        | inl none ↦ omega (arith, none)
        | inr below ↦ omega (arith, below)
      ]

  add-times : (i j k : ℕ) → (i + j) * k ≡ i * k + j * k
  add-times i j k = grind arith

  nothing : (k : ℕ → ℕ) (o j m : ℕ) → total (λ i. (0 - o) * k i) j m ≡ 0
  nothing k o j zero = refl
  nothing k o j (suc m) =
      let none : 0 - o ≡ 0 = omega arith in
      omega (arith, ap (λ (i : ℕ). i * k j) none, nothing k o (suc j) m)

  one_child : (f : Option ℕ) (c count : ℕ) → IsIn count f → h count ≡ 0 → total (λ i. from_child f c i * h i) 0 count ≡ total (λ i. from_child f c i * h (suc i)) 0 count + c * at_child f
  one_child None c count within end =
      let none : (k : ℕ → ℕ) (j m : ℕ) → total (λ i. 0 * k i) j m ≡ 0 = λ k j m. nothing k 0 j m in
      omega (arith, none h 0 count, none (λ i. h (suc i)) 0 count)
  one_child (Some f) c count within end =
      let last : h (0 + count) ≡ 0 = ap h (let e : 0 + count ≡ count = omega arith in e) ∙ end in
      let none : c * h (0 + count) ≡ 0 = ap (λ (k : ℕ). c * k) last ∙ (omega arith) in
      omega (arith, tele f c 0 count (omega arith) (omega (arith, within)), none)

  pub step_by_parts : (child : Node → Option ℕ) (count o : ℕ) (ns : List Node) → AreSteps child count o ns → h count ≡ 0
      → step_sum child o ns + total (λ i. (reach_by child ns i - o) * h (suc i)) 0 count ≡ total (λ i. (reach_by child ns i - o) * h i) 0 count
  step_by_parts child count o [] steps end = omega (arith, nothing h o 0 count, nothing (λ i. h (suc i)) o 0 count)
  step_by_parts child count o (n ∷ ns) steps end =
      let c : ℕ = n.top - o in
      let base : ℕ = max o n.top in
      let split : (k : ℕ → ℕ) → total (λ i. (reach_by child (n ∷ ns) i - o) * k i) 0 count ≡ total (λ i. from_child (child n) c i * k i) 0 count + total (λ i. (reach_by child ns i - base) * k i) 0 count = λ k.
      total-same (λ i. (reach_by child (n ∷ ns) i - o) * k i) (λ i. from_child (child n) c i * k i + (reach_by child ns i - base) * k i) 0 count
      (λ i. ap (λ (s : ℕ). s * k i) (parted (is_by (child n) i) n.top o (reach_by child ns i) (steps.0 i)) ∙ add-times (from_child (child n) c i) (reach_by child ns i - base) (k i))
      ∙ total-add (λ i. from_child (child n) c i * k i) (λ i. (reach_by child ns i - base) * k i) 0 count in
      omega (arith, split h, split (λ i. h (suc i)), one_child (child n) c count steps.1.0 end, step_by_parts child count base ns steps.1.1 end)

-- ---- the places of the next level

-- so much above what is asked at each place, times what it counts
abbrev pub place_total : (ℕ → ℕ) → (ℕ → ℕ) → ℕ → List Node → ℕ
place_total reach h j [] = 0
place_total reach h j (n ∷ ns) = (n.top - reach j) * h j + place_total reach h (suc j) ns

-- each place's own step
abbrev pub rise_total : (ℕ → ℕ) → ℕ → ℕ → List Node → ℕ
rise_total h low j [] = 0
rise_total h low j (n ∷ ns) = (n.top - low) * h j + rise_total h n.top (suc j) ns

abbrev pub whole_total : (ℕ → ℕ) → ℕ → List Node → ℕ
whole_total h j [] = 0
whole_total h j (n ∷ ns) = n.top * h j + whole_total h (suc j) ns

abbrev pub AreAbove : (ℕ → ℕ) → ℕ → List Node → Type 0
AreAbove reach j [] = Unit {0}
AreAbove reach j (n ∷ ns) = (reach j ≤ n.top) × AreAbove reach (suc j) ns

abbrev pub AreUp : ℕ → List Node → Type 0
AreUp low [] = Unit {0}
AreUp low (n ∷ ns) = (low < n.top) × AreUp n.top ns

minus-times : (i j k : ℕ) → j ≤ i → (i - j) * k + j * k ≡ i * k
minus-times i j k le = let e : i - j + j ≡ i = omega (arith, le) in sym (add-times i j k e)
  where
    add-times : (i j k : ℕ) → i - j + j ≡ i → i * k ≡ (i - j) * k + j * k
    add-times i j k e = grind (arith, e)

pub place-whole : (reach h : ℕ → ℕ) (j : ℕ) (ns : List Node) → AreAbove reach j ns → place_total reach h j ns + total (λ i. reach i * h i) j (length ns) ≡ whole_total h j ns
place-whole reach h j [] above = refl
place-whole reach h j (n ∷ ns) above = omega (arith, minus-times n.top (reach j) (h j) above.0, place-whole reach h (suc j) ns above.1)

pub rise-whole : (h : ℕ → ℕ) (low j : ℕ) (ns : List Node) → AreUp low ns → h (j + length ns) ≡ 0 → rise_total h low j ns + low * h j + whole_total (λ i. h (suc i)) j ns ≡ whole_total h j ns
rise-whole h low j [] up end =
    let here : h j ≡ 0 = ap h (let e : j ≡ j + 0 = omega arith in e) ∙ end in
    omega (arith, ap (λ (k : ℕ). low * k) here)
rise-whole h low j (n ∷ ns) up end =
    let next : suc j + length ns ≡ j + length (n ∷ ns) = omega arith in
    omega (arith, minus-times n.top low (h j) (omega (arith, up.0)), rise-whole h n.top (suc j) ns up.1 (ap h next ∙ end))

-- Where the next level's places are weighed by what they are above the nodes' reach, the steps and these weights are what the places rise.
pub steps_and_places : (h reach : ℕ → ℕ) (child : Node → Option ℕ) (o : ℕ) (ns next : List Node) → AreSteps h child (length next) o ns → AreUp 0 next → ((j : ℕ) → reach_by child ns j - o ≡ reach j) → AreAbove reach 0 next → h (length next) ≡ 0
    → step_sum h child o ns + place_total reach h 0 next ≡ place_total reach (λ i. h (suc i)) 0 next + rise_total h 0 0 next
steps_and_places h reach child o ns next steps up is above end =
    let same : (k : ℕ → ℕ) → total (λ i. (reach_by child ns i - o) * k i) 0 (length next) ≡ total (λ i. reach i * k i) 0 (length next) = λ k.
    total-same (λ i. (reach_by child ns i - o) * k i) (λ i. reach i * k i) 0 (length next) (λ i. ap (λ (s : ℕ). s * k i) (is i)) in
    omega (
      arith,
      step_by_parts h child (length next) o ns steps end,
      same h,
      same (λ i. h (suc i)),
      place-whole reach h 0 next above,
      place-whole reach (λ i. h (suc i)) 0 next above,
      rise-whole h 0 0 next up (ap h (let e : 0 + length next ≡ length next = omega arith in e) ∙ end),
    )
