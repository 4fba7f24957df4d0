-- Worked examples of statements under conditions.
use Rattle.std.specs.Prelude.{◌≡◌, ℕ, ℤ, pos, negsuc, Bool, true, false, List, [], ◌∷◌, refl}
use Rattle.pb_base.specs.declared.literal.Term.{Term}
use Rattle.pb_base.specs.declared.problem.Raw.{Raw}
use Rattle.pb_base.specs.declared.problem.Relation.{Relation}
use Rattle.pb_base.specs.declared.problem.Relation.TheVariants.{AtLeast, AtMost, Equal}
use Rattle.pb_columns.specs.Conditions.{posed, posed_under}

abbrev term : ℤ → ℕ → Bool → Term
term c v b = record { coef = c; lit = record { var = v; positive = b } }

abbrev said : List Term → Relation → ℤ → Raw
said ts r right = record { terms = ts; relation = r; right = right }

-- 2 x1 - x2
abbrev sum : List Term
sum = term (pos 2) 1 true ∷ term (negsuc 0) 2 true ∷ []

-- 2 x1 - x2 >= 1 where x3 is true: 2 x1 - x2 + 2 ~x3 >= 1
pub lower : posed_under (pos 3) (said sum AtLeast (pos 1)) ≡ said (term (pos 2) 1 true ∷ term (negsuc 0) 2 true ∷ term (pos 2) 3 false ∷ []) AtLeast (pos 1) ∷ []
lower = refl

-- 2 x1 - x2 <= 1 where x3 is false: 2 x1 - x2 - x3 <= 1
pub upper : posed_under (negsuc 2) (said sum AtMost (pos 1)) ≡ said (term (pos 2) 1 true ∷ term (negsuc 0) 2 true ∷ term (negsuc 0) 3 true ∷ []) AtMost (pos 1) ∷ []
upper = refl

-- an equality is its two halves; one that has no condition is as it was
pub both : posed (pos 3 ∷ pos 0 ∷ []) (said sum Equal (pos 1) ∷ said sum Equal (pos 0) ∷ [])
    ≡ said (term (pos 2) 1 true ∷ term (negsuc 0) 2 true ∷ term (pos 2) 3 false ∷ []) AtLeast (pos 1)
    ∷ said (term (pos 2) 1 true ∷ term (negsuc 0) 2 true ∷ term (negsuc 0) 3 false ∷ []) AtMost (pos 1)
    ∷ said sum Equal (pos 0) ∷ []
both = refl
