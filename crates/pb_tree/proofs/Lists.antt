-- What lists made of lists contain.
use Rattle.std.proofs.Common.{◌≡◌, ◌<◌, ◌≤◌, ◌+◌, ℕ, eqb, List, [], ◌∷◌, ◌++◌, sym, subst, arith, inl, inr, zero, suc}
use Rattle.std.specs.Prelude.{Contains, map}
use Rattle.std.specs.List.{flat_map, range_with_len}
use Rattle.std.proofs.lemmas.Bool.{cases_Bool, eqb-true, eqb-false}
use Rattle.std.proofs.lemmas.List.Elements.{Contains-append_left, Contains-append_right, Contains-append_cases}
use Rattle.pb_base.proofs.Members.{Contains-nil, Contains-here, Contains-there, Contains-cons_cases}

pub Contains-map_cases : {X Y : Type 0} (f : X → Y) (xs : List X) (y : Y) → Contains (map f xs) y → (x : X) × Contains xs x × (f x ≡ y)
Contains-map_cases f [] y h = absurd (Contains-nil y h)
Contains-map_cases {X} f (x ∷ xs) y h =
    elim (Contains-cons_cases (f x) (map f xs) y h) as (λ _. (z : X) × Contains (x ∷ xs) z × (f z ≡ y)) [
      | inl same ↦ (x, Contains-here x xs, same)
      | inr rest ↦ let found = Contains-map_cases f xs y rest in (found.0, Contains-there x xs found.0 found.1, found.2)
    ]

pub Contains-flat_map : {X Y : Type 0} (f : X → List Y) (xs : List X) (x : X) (y : Y) → Contains xs x → Contains (f x) y → Contains (flat_map f xs) y
Contains-flat_map f [] x y h inside = absurd (Contains-nil x h)
Contains-flat_map {X} {Y} f (z ∷ zs) x y h inside =
    elim (Contains-cons_cases z zs x h) as (λ _. Contains (f z ++ flat_map f zs) y) [
      | inl same ↦ Contains-append_left (f z) (flat_map f zs) y (subst (λ (w : X). Contains (f w) y) (sym same) inside)
      | inr rest ↦ Contains-append_right (f z) (flat_map f zs) y (Contains-flat_map f zs x y rest inside)
    ]

pub Contains-flat_map_cases : {X Y : Type 0} (f : X → List Y) (xs : List X) (y : Y) → Contains (flat_map f xs) y → (x : X) × Contains xs x × Contains (f x) y
Contains-flat_map_cases f [] y h = absurd (Contains-nil y h)
Contains-flat_map_cases {X} f (x ∷ xs) y h =
    elim (Contains-append_cases (f x) (flat_map f xs) y h) as (λ _. (z : X) × Contains (x ∷ xs) z × Contains (f z) y) [
      | inl here ↦ (x, Contains-here x xs, here)
      | inr rest ↦ let found = Contains-flat_map_cases f xs y rest in (found.0, Contains-there x xs found.0 found.1, found.2)
    ]

pub Contains-range : (a n i : ℕ) → a ≤ i → i < a + n → Contains (range_with_len a n) i
Contains-range a zero i low high = absurd (omega arith)
Contains-range a (suc n) i low high =
    elim (cases_Bool (eqb a i)) as (λ _. Contains (range_with_len a (suc n)) i) [
      | inl same ↦ subst (λ (k : ℕ). Contains (a ∷ range_with_len (a + 1) n) k) (eqb-true a i same) (Contains-here a (range_with_len (a + 1) n))
      | inr other ↦ let apart = eqb-false a i other in Contains-there a (range_with_len (a + 1) n) i (Contains-range (a + 1) n i (omega arith) (omega arith))
    ]

pub Contains-range_cases : (a n i : ℕ) → Contains (range_with_len a n) i → (a ≤ i) × (i < a + n)
Contains-range_cases a zero i h = absurd (Contains-nil i h)
Contains-range_cases a (suc n) i h =
    elim (Contains-cons_cases a (range_with_len (a + 1) n) i h) as (λ _. (a ≤ i) × (i < a + suc n)) [
      | inl same ↦ (omega arith, omega arith)
      | inr rest ↦ let found = Contains-range_cases (a + 1) n i rest in (omega arith, omega arith)
    ]
