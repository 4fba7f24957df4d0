-- Lists that are mapped, row by row.
use Rattle.std.proofs.Common.{◌≡◌, List, [], ◌∷◌, ◌++◌, refl, ap, sym, ◌∙◌}
use Rattle.std.specs.Prelude.{Contains, map}
use Rattle.std.specs.List.{flat_map}
use Rattle.std.proofs.lemmas.List.Concat.{flat_map-cons}
use Rattle.pb_base.proofs.Members.{Contains-here, Contains-there}

pub map_same : {X Y : Type 0} (f g : X → Y) (xs : List X) → ((x : X) → Contains xs x → f x ≡ g x) → map f xs ≡ map g xs
map_same f g [] same = refl
map_same f g (x ∷ xs) same = λ i. same x (Contains-here x xs) i ∷ map_same f g xs (λ y h. same y (Contains-there x xs y h)) i

pub map-append : {X Y : Type 0} (f : X → Y) (xs ys : List X) → map f (xs ++ ys) ≡ map f xs ++ map f ys
map-append f [] ys = refl
map-append f (x ∷ xs) ys = ap (λ (zs : List _). f x ∷ zs) (map-append f xs ys)

pub map-map : {X Y Z : Type 0} (f : Y → Z) (g : X → Y) (xs : List X) → map f (map g xs) ≡ map (λ x. f (g x)) xs
map-map f g [] = refl
map-map f g (x ∷ xs) = ap (λ (zs : List _). f (g x) ∷ zs) (map-map f g xs)

-- rows of one thing are rows of the other, mapped
pub rows_same : {X Y Z : Type 0} (f : Y → Z) (g : X → List Y) (h : X → List Z) (xs : List X) → ((x : X) → Contains xs x → h x ≡ map f (g x)) → flat_map h xs ≡ map f (flat_map g xs)
rows_same f g h [] same = refl
rows_same f g h (x ∷ xs) same =
    flat_map-cons h x xs
    ∙ (λ i. same x (Contains-here x xs) i ++ rows_same f g h xs (λ y m. same y (Contains-there x xs y m)) i)
    ∙ sym (map-append f (g x) (flat_map g xs))
    ∙ ap (map f) (sym (flat_map-cons g x xs))
