-- Parts of the operations as the code computes them: a term's share of a restriction, two lists of terms side by side (our own).
use Rattle.std.specs.Prelude.{◌≡◌, ◌≤◌, ◌-◌, ◌==◌, ℕ, Bool, not, cond, List, All}
use Rattle.pb_base.specs.declared.literal.Lit.{Lit}
use Rattle.pb_norm.specs.Constraints.{Weighted}
use Rattle.pb_norm.specs.Addition.{coef_of}
use Rattle.pb_steps.specs.declared.op.Set.{Set}
use Rattle.pb_steps.specs.Substitutions.{is_made_true, is_unset}

-- the coefficient of a literal that becomes true
abbrev pub gained : List Set → Weighted → ℕ
gained sets t = cond (is_made_true sets t.lit) t.coef 0

-- the term's variable is set
abbrev pub is_set : List Set → Weighted → Bool
is_set sets t = not (is_unset sets t)

-- by how much a coefficient is above that of the same literal
abbrev pub exceeding : List Weighted → Weighted → ℕ
exceeding others t = t.coef - coef_of others t.lit

-- a literal, or its negation
abbrev pub turned_lit : Bool → Lit → Lit
turned_lit turn l = record { var = l.var; positive = cond turn (not l.positive) l.positive }

abbrev pub turned : Bool → Weighted → Weighted
turned turn t = record { coef = t.coef; lit = turned_lit turn t.lit }

-- no earlier variable stands
abbrev pub StartsFrom : ℕ → List Weighted → Type 0
StartsFrom var ts = All (λ t. var ≤ t.lit.var) ts

-- literals of these variables and later ones have the same coefficients
abbrev pub SameFrom : ℕ → List Weighted → List Weighted → Type 0
SameFrom var ts us = (l : Lit) → var ≤ l.var → coef_of ts l ≡ coef_of us l

-- the term, with no coefficient where it is of the variable
abbrev pub zeroed : ℕ → Weighted → Weighted
zeroed var t = record { coef = cond (t.lit.var == var) 0 t.coef; lit = t.lit }
