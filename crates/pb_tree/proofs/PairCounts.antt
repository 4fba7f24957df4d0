-- How many elements of lists meet a test.
use Rattle.std.proofs.Common.{◌≡◌, ◌≤◌, ◌+◌, ◌*◌, ℕ, zero, suc, Bool, true, false, cond, List, [], ◌∷◌, ◌++◌, length, refl, ap, ◌∙◌, arith}
use Rattle.std.specs.Prelude.{Contains, map, count_by}
use Rattle.std.specs.List.{filter, flat_map}
use Rattle.std.proofs.lemmas.List.Concat.{flat_map-cons}
use Rattle.std.proofs.lemmas.List.Sums.{sum_by-cons, sum_by-append}
use Rattle.pb_base.proofs.Members.{Contains-here, Contains-there}

-- the number is 0
abbrev pub is_none : ℕ → Bool
is_none zero = true
is_none (suc u) = false

pub is_some : (u : ℕ) → 1 ≤ u → is_none u ≡ false
is_some zero h = absurd (omega arith)
is_some (suc u) h = refl

pub count-cons : {X : Type 0} (p : X → Bool) (x : X) (xs : List X) → count_by p (x ∷ xs) ≡ cond (p x) 1 0 + count_by p xs
count-cons p x xs = sum_by-cons (λ x. cond (p x) 1 0) x xs

pub count-append : {X : Type 0} (p : X → Bool) (xs ys : List X) → count_by p (xs ++ ys) ≡ count_by p xs + count_by p ys
count-append p xs ys = sum_by-append (λ x. cond (p x) 1 0) xs ys

pub count-map : {X Y : Type 0} (p : Y → Bool) (f : X → Y) (xs : List X) → count_by p (map f xs) ≡ count_by (λ x. p (f x)) xs
count-map p f [] = refl
count-map p f (x ∷ xs) = omega (arith, count-cons p (f x) (map f xs), count-cons (λ x. p (f x)) x xs, count-map p f xs)

-- none does
pub count_none : {X : Type 0} (p : X → Bool) (xs : List X) → ((x : X) → Contains xs x → p x ≡ false) → count_by p xs ≡ 0
count_none p [] h = refl
count_none p (x ∷ xs) h =
    let here : cond {A = ℕ} (p x) 1 0 ≡ 0 = ap (λ (b : Bool). cond {A = ℕ} b 1 0) (h x (Contains-here x xs)) in
    omega (arith, count-cons p x xs, here, count_none p xs (λ y k. h y (Contains-there x xs y k)))

-- no more in all rows together than so many in each
pub count_rows : {X Y : Type 0} (p : Y → Bool) (f : X → List Y) (w : ℕ) (xs : List X) → ((x : X) → Contains xs x → count_by p (f x) ≤ w) → count_by p (flat_map f xs) ≤ w * length xs
count_rows p f w [] h = let none : count_by p (flat_map f []) ≡ 0 = refl in omega (arith, none)
count_rows p f w (x ∷ xs) h =
    let here = h x (Contains-here x xs) in
    let rest = count_rows p f w xs (λ y k. h y (Contains-there x xs y k)) in
    let split : count_by p (flat_map f (x ∷ xs)) ≡ count_by p (f x) + count_by p (flat_map f xs) = ap (count_by p) (flat_map-cons f x xs) ∙ count-append p (f x) (flat_map f xs) in
    let grow : w * length (x ∷ xs) ≡ w + w * length xs = (let e : w * suc (length xs) ≡ w + w * length xs = omega arith in e) in
    omega (arith, split, here, rest, grow)

-- a weaker test keeps no fewer
pub filter_weaker : {X : Type 0} (p q : X → Bool) (xs : List X) → ((x : X) → Contains xs x → p x ≡ true → q x ≡ true) → length (filter p xs) ≤ length (filter q xs)
filter_weaker p q [] h = omega arith
filter_weaker p q (x ∷ xs) h =
    by_test (p x) (q x) (h x (Contains-here x xs)) (filter_weaker p q xs (λ y k. h y (Contains-there x xs y k)))
  where
    by_test : (a b : Bool) → (a ≡ true → b ≡ true) → length (filter p xs) ≤ length (filter q xs) → length (cond {A = List _} a (x ∷ filter p xs) (filter p xs)) ≤ length (cond {A = List _} b (x ∷ filter q xs) (filter q xs))
    by_test true true k le = omega arith
    by_test true false k le = absurd (let e : false ≡ true = k refl in cc)
    by_test false true k le = omega arith
    by_test false false k le = le
