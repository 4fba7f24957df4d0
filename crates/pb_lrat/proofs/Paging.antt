-- Values by pages: one page or one value changes.
use Rattle.std.proofs.Common.{◌≡◌, ℕ, zero, suc, Bool, List, [], ◌∷◌, ◌++◌, Option, get_or, refl}

-- one more page, which is empty
pub one_more : (pages : List (List (Option Bool))) (n : ℕ) → get_or (pages ++ [] ∷ []) n [] ≡ get_or pages n []
one_more [] n = alone n
  where
    alone : (n : ℕ) → get_or ([] ∷ []) n [] ≡ get_or {A = List (Option Bool)} [] n []
    alone zero = refl
    alone (suc n) = refl
one_more (p ∷ pages) zero = refl
one_more (p ∷ pages) (suc n) = one_more pages n
