-- The sums of the parts of a list of numbers (Abío, Nieuwenhuis, Oliveras, Rodríguez-Carbonell and Mayer-Eichberger 2012).
use Rattle.std.specs.Prelude.{ℕ, ◌+◌, if◌then◌else◌, nat_lt, List, [], ◌∷◌, map}

-- one more sum in an ascending list, which has each once
abbrev pub with_sum : ℕ → List ℕ → List ℕ
with_sum s [] = s ∷ []
with_sum s (x ∷ xs) = if nat_lt s x then s ∷ x ∷ xs else (if nat_lt x s then x ∷ with_sum s xs else x ∷ xs)

abbrev pub merged : List ℕ → List ℕ → List ℕ
merged [] ys = ys
merged (x ∷ xs) ys = with_sum x (merged xs ys)

-- the sums of the parts of a list, ascending and each once
abbrev pub sums : List ℕ → List ℕ
sums [] = 0 ∷ []
sums (a ∷ rest) = merged (map (λ s. a + s) (sums rest)) (sums rest)
