-- The sums of the parts of a list: which they are, and that they ascend. It serves proofs alone.
use Rattle.std.proofs.Common.{◌≡◌, ◌<◌, ◌≤◌, ◌+◌, ◌⊎◌, ℕ, cond, ltb, List, [], ◌∷◌, get_or, refl, sym, subst, arith, inl, inr}
use Rattle.std.specs.Prelude.{Contains, map, sum}
use Rattle.std.proofs.lemmas.Bool.{ltb-true, ltb-false, cond_both}
use Rattle.std.proofs.lemmas.List.Elements.{All-contains, All-map, Contains-get_or}
use Rattle.std.proofs.lemmas.List.Sums.{sum_by-cons}
use Rattle.pb_base.proofs.Members.{Contains-nil, Contains-here, Contains-there, Contains-cons_cases, Contains-map}
use Rattle.pb_diagram.specs.Sums.{with_sum, merged, sums}

-- each number is below each later one
abbrev pub Ascends : List ℕ → Type 0
Ascends [] = Unit {0}
Ascends (x ∷ xs) = ((y : ℕ) → Contains xs y → x < y) × Ascends xs

-- ---- one more number

record WithSum (s : ℕ) (xs ys : List ℕ) : Type 0 where
  here : Contains ys s
  keeps : (y : ℕ) → Contains xs y → Contains ys y
  cases : (y : ℕ) → Contains ys y → (s ≡ y) ⊎ Contains xs y
  ascends : Ascends xs → Ascends ys

with_sum_is : (s : ℕ) (xs : List ℕ) → WithSum s xs (with_sum s xs)
with_sum_is s [] = record {
  here = Contains-here s [];
  keeps = λ y h. absurd (Contains-nil y h);
  cases = λ y h. Contains-cons_cases s [] y h;
  ascends = λ a. ((λ y h. absurd (Contains-nil y h)), tt);
}
with_sum_is s (x ∷ xs) =
    let other : List ℕ = cond (ltb x s) (x ∷ with_sum s xs) (x ∷ xs) in
    cond_both (ltb s x) (s ∷ x ∷ xs) other (λ ys. WithSum s (x ∷ xs) ys)
    (λ is.
    let before = ltb-true s x is in
    record {
      here = Contains-here s (x ∷ xs);
      keeps = λ y h. Contains-there s (x ∷ xs) y h;
      cases = λ y h. Contains-cons_cases s (x ∷ xs) y h;
      ascends = λ a. (
        (λ y h.
            elim (Contains-cons_cases x xs y h) as (λ _. s < y) [
              | inl e ↦ omega arith
              | inr later ↦ let above = a.0 y later in omega arith
            ]),
        a,
      );
    })
    (λ not_before. cond_both (ltb x s) (x ∷ with_sum s xs) (x ∷ xs) (λ ys. WithSum s (x ∷ xs) ys)
    (λ is.
    let after = ltb-true x s is in
    let rest = with_sum_is s xs in
    record {
      here = Contains-there x (with_sum s xs) s rest.here;
      keeps = λ y h.
          elim (Contains-cons_cases x xs y h) as (λ _. Contains (x ∷ with_sum s xs) y) [
            | inl e ↦ subst (λ (n : ℕ). Contains (x ∷ with_sum s xs) n) e (Contains-here x (with_sum s xs))
            | inr later ↦ Contains-there x (with_sum s xs) y (rest.keeps y later)
          ];
      cases = λ y h.
          elim (Contains-cons_cases x (with_sum s xs) y h) as (λ _. (s ≡ y) ⊎ Contains (x ∷ xs) y) [
            | inl e ↦ inr (subst (λ (n : ℕ). Contains (x ∷ xs) n) e (Contains-here x xs))
            | inr later ↦ elim (rest.cases y later) as (λ _. (s ≡ y) ⊎ Contains (x ∷ xs) y) [
              | inl e ↦ inl e
              | inr old ↦ inr (Contains-there x xs y old)
            ]
          ];
      ascends = λ a. (
        (λ y h.
            elim (rest.cases y h) as (λ _. x < y) [
              | inl e ↦ omega arith
              | inr old ↦ a.0 y old
            ]),
        rest.ascends a.1,
      );
    })
    (λ not_after.
    let same : x ≡ s = omega (arith, ltb-false s x not_before, ltb-false x s not_after) in
    record { here = subst (λ (n : ℕ). Contains (x ∷ xs) n) same (Contains-here x xs); keeps = λ y h. h; cases = λ y h. inr h; ascends = λ a. a }))

record Merged (xs ys zs : List ℕ) : Type 0 where
  left : (y : ℕ) → Contains xs y → Contains zs y
  right : (y : ℕ) → Contains ys y → Contains zs y
  cases : (y : ℕ) → Contains zs y → Contains xs y ⊎ Contains ys y
  ascends : Ascends ys → Ascends zs

merged_is : (xs ys : List ℕ) → Merged xs ys (merged xs ys)
merged_is [] ys = record { left = λ y h. absurd (Contains-nil y h); right = λ y h. h; cases = λ y h. inr h; ascends = λ a. a }
merged_is (x ∷ xs) ys =
    let rest = merged_is xs ys in
    let one = with_sum_is x (merged xs ys) in
    record {
      left = λ y h.
          elim (Contains-cons_cases x xs y h) as (λ _. Contains (with_sum x (merged xs ys)) y) [
            | inl e ↦ subst (λ (n : ℕ). Contains (with_sum x (merged xs ys)) n) e one.here
            | inr later ↦ one.keeps y (rest.left y later)
          ];
      right = λ y h. one.keeps y (rest.right y h);
      cases = λ y h.
          elim (one.cases y h) as (λ _. Contains (x ∷ xs) y ⊎ Contains ys y) [
            | inl e ↦ inl (subst (λ (n : ℕ). Contains (x ∷ xs) n) e (Contains-here x xs))
            | inr old ↦ elim (rest.cases y old) as (λ _. Contains (x ∷ xs) y ⊎ Contains ys y) [
              | inl l ↦ inl (Contains-there x xs y l)
              | inr r ↦ inr r
            ]
          ];
      ascends = λ a. one.ascends (rest.ascends a);
    }

from_map : (f : ℕ → ℕ) (xs : List ℕ) (y : ℕ) → Contains (map f xs) y → (x : ℕ) × Contains xs x × (y ≡ f x)
from_map f xs y h =
    let P : ℕ → Type 0 = λ z. (x : ℕ) × Contains xs x × (z ≡ f x) in
    All-contains P (map f xs) y (All-map P f xs (λ k d within. (get_or xs k d, Contains-get_or xs k d within, refl))) h

-- ---- the sums

pub sums_without : (a : ℕ) (rest : List ℕ) (s : ℕ) → Contains (sums rest) s → Contains (sums (a ∷ rest)) s
sums_without a rest s h = (merged_is (map (λ s. a + s) (sums rest)) (sums rest)).right s h

pub sums_with : (a : ℕ) (rest : List ℕ) (s : ℕ) → Contains (sums rest) s → Contains (sums (a ∷ rest)) (a + s)
sums_with a rest s h = (merged_is (map (λ s. a + s) (sums rest)) (sums rest)).left (a + s) (Contains-map (λ s. a + s) (sums rest) s h)

pub sums_cases : (a : ℕ) (rest : List ℕ) (s : ℕ) → Contains (sums (a ∷ rest)) s → Contains (sums rest) s ⊎ ((u : ℕ) × Contains (sums rest) u × (s ≡ a + u))
sums_cases a rest s h =
    elim ((merged_is (map (λ s. a + s) (sums rest)) (sums rest)).cases s h) as (λ _. Contains (sums rest) s ⊎ ((u : ℕ) × Contains (sums rest) u × (s ≡ a + u))) [
      | inl with_a ↦ inr (from_map (λ s. a + s) (sums rest) s with_a)
      | inr without ↦ inl without
    ]

pub sums_ascend : (rest : List ℕ) → Ascends (sums rest)
sums_ascend [] = ((λ y h. absurd (Contains-nil y h)), tt)
sums_ascend (a ∷ rest) = (merged_is (map (λ s. a + s) (sums rest)) (sums rest)).ascends (sums_ascend rest)

pub sums_none : (rest : List ℕ) → Contains (sums rest) 0
sums_none [] = Contains-here 0 []
sums_none (a ∷ rest) = sums_without a rest 0 (sums_none rest)

pub sum-cons : (a : ℕ) (rest : List ℕ) → sum (a ∷ rest) ≡ a + sum rest
sum-cons a rest = sum_by-cons (λ x. x) a rest

pub sums_all : (rest : List ℕ) → Contains (sums rest) (sum rest)
sums_all [] = Contains-here 0 []
sums_all (a ∷ rest) = subst (λ (s : ℕ). Contains (sums (a ∷ rest)) s) (sym (sum-cons a rest)) (sums_with a rest (sum rest) (sums_all rest))

pub sums-le : (rest : List ℕ) (s : ℕ) → Contains (sums rest) s → s ≤ sum rest
sums-le [] s h =
    elim (Contains-cons_cases 0 [] s h) as (λ _. s ≤ sum []) [
      | inl e ↦ omega arith
      | inr none ↦ absurd (Contains-nil s none)
    ]
sums-le (a ∷ rest) s h =
    let all = sum-cons a rest in
    elim (sums_cases a rest s h) as (λ _. s ≤ sum (a ∷ rest)) [
      | inl without ↦ let le = sums-le rest s without in omega arith
      | inr with_a ↦ let le = sums-le rest with_a.0 with_a.1 in let e = with_a.2 in omega arith
    ]
