-- Worked examples of words, and of columns: 3 x1 + 2 ~x2 >= 4, and -x2 + x3 <= 0, with the fresh variables from 4 on.
use Rattle.std.specs.Prelude.{◌≡◌, ◌^◌, ◌-◌, ℕ, pos, negsuc, Bool, true, false, [], ◌∷◌, map, Some, None, refl}
use Rattle.std.specs.List.{range_with_len}
use Rattle.pb_base.specs.declared.literal.Term.{Term}
use Rattle.pb_base.specs.declared.problem.Relation.TheVariants.{AtLeast, AtMost, Equal}
use Rattle.pb_base.specs.Statements.{statements_in}
use Rattle.pb_columns.specs.declared.sum.PbcnfSum.{PbcnfSum}
use Rattle.pb_columns.specs.Columns.{coefficient_at, head_of, head_with, relation_of}
use Rattle.pb_columns.specs.Words.{wide}

-- ---- words

-- the greatest word
abbrev ones : ℕ
ones = 2 ^ 64 - 1

pub five : wide 5 0 ≡ pos 5
five = refl

pub minus_one : wide ones ones ≡ negsuc 0
minus_one = refl

pub least : wide 0 (2 ^ 63) ≡ negsuc (2 ^ 127 - 1)
least = refl

-- one word for each literal, and two
pub narrow : map (coefficient_at (3 ∷ 2 ∷ ones ∷ []) 3) (range_with_len 0 3) ≡ pos 3 ∷ pos 2 ∷ negsuc 0 ∷ []
narrow = refl

pub broad : map (coefficient_at (3 ∷ 0 ∷ ones ∷ ones ∷ 0 ∷ 1 ∷ []) 3) (range_with_len 0 3) ≡ pos 3 ∷ negsuc 0 ∷ pos (2 ^ 64) ∷ []
broad = refl

pub relations : map relation_of (0 ∷ 1 ∷ 2 ∷ 3 ∷ []) ≡ Some AtLeast ∷ Some AtMost ∷ Some Equal ∷ None ∷ []
relations = refl

-- ---- columns

abbrev sum : ℕ → ℕ → ℕ → PbcnfSum
sum relation terms right = record { relation = relation; condition = pos 0; terms = terms; right_low = right; right_high = 0 }

abbrev term : ℕ → ℕ → Bool → Term
term n v b = record { coef = pos n; lit = record { var = v; positive = b } }

abbrev less : ℕ → Term
less v = record { coef = negsuc 0; lit = record { var = v; positive = true } }

pub heads : map head_of (sum 0 2 4 ∷ sum 1 2 0 ∷ sum 3 2 0 ∷ []) ≡ Some (head_with (sum 0 2 4) AtLeast) ∷ Some (head_with (sum 1 2 0) AtMost) ∷ None ∷ []
heads = refl

-- each sum has its number of the next terms
pub statements : statements_in (head_with (sum 0 2 4) AtLeast ∷ head_with (sum 1 2 0) AtMost ∷ []) (term 3 1 true ∷ term 2 2 false ∷ less 2 ∷ term 1 3 true ∷ [])
    ≡ record { terms = term 3 1 true ∷ term 2 2 false ∷ []; relation = AtLeast; right = pos 4 } ∷ record { terms = less 2 ∷ term 1 3 true ∷ []; relation = AtMost; right = pos 0 } ∷ []
statements = refl
