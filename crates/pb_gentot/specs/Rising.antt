-- Lists of numbers each of which is below all later ones.
use Rattle.std.specs.Prelude.{◌<◌, ℕ, List, [], ◌∷◌, Contains}

abbrev pub Rising : List ℕ → Type 0
Rising [] = Unit {0}
Rising (x ∷ xs) = ((n : ℕ) → Contains xs n → x < n) × Rising xs
