-- Clauses of a node by pairs of values of its parts.
use Rattle.std.specs.Prelude.{ℕ, zero, suc, ◌+◌, List, [], ◌∷◌, ◌++◌, min}
use Rattle.pb_base.specs.declared.literal.Lit.{Lit}
use Rattle.pb_base.specs.Literals.{negated}

-- values of the parts of a node, where 0 is none
pub record Pair : Type 0 where
  pub left : ℕ
  pub right : ℕ

abbrev pub pair_of : ℕ → ℕ → Pair
pair_of u v = record { left = u; right = v }

-- the negation of the literal at an index, which is left out at 0
abbrev pub unless_none : (ℕ → Lit) → ℕ → List Lit
unless_none f zero = []
unless_none f (suc i) = negated (f (suc i)) ∷ []

-- both values give their sum, cut at the cap
abbrev pub pair_clause : ℕ → (ℕ → Lit) → (ℕ → Lit) → (ℕ → Lit) → Pair → List Lit
pair_clause cap f g h p = unless_none f p.left ++ (unless_none g p.right ++ h (min (p.left + p.right) cap) ∷ [])
