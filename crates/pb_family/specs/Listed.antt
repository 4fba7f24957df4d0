-- Ids of constraints, as far as there are any.
use Rattle.std.specs.Prelude.{ℕ, List, [], ◌∷◌, Option, None, Some}

-- one id, or none
abbrev pub listed : Option ℕ → List ℕ
listed None = []
listed (Some id) = id ∷ []
