-- The items of a list at places that pass a test (our own).
use Rattle.std.specs.Prelude.{◌≡◌, ◌≤◌, ◌<◌, ℕ, ◌+◌, ◌*◌, ◌==◌, Bool, true, false, List, [], ◌∷◌, if◌then◌else◌}

-- places are counted from e on
abbrev pub passing : {X : Type 0} → (ℕ → Bool) → ℕ → List X → List X
passing p e [] = []
passing p e (x ∷ xs) = if p e then x ∷ passing p (e + 1) xs else passing p (e + 1) xs

-- whether a place is in line k, where each place is in one
abbrev pub in_line : (ℕ → ℕ) → ℕ → ℕ → Bool
in_line side k e = side e == k

-- Of so many places, a test passes those that are met from one on, each so far behind the last.
pub record Visits (p : ℕ → Bool) (size from step count : ℕ) : Type 0 where
  pub before : (j : ℕ) → j < from → p j ≡ false
  pub met : (i : ℕ) → i < count → from + i * step < size → p (from + i * step) ≡ true
  pub between : (i j : ℕ) → i < count → from + i * step < j → j < from + (i + 1) * step → p j ≡ false
  pub behind : (j : ℕ) → from + count * step ≤ j → j < size → p j ≡ false
