-- What may be made of constraints: the cutting planes rules, negation and implication (Gocht et al. 2022). Addition and saturation of coefficients stand with the constraints.
-- A constraint is live only if the sum of its coefficients and its degree are below 2^126; a product is tested before it is made. A
-- negation may have the degree 2^126, so it can be propagated, but is never live.
use Rattle.std.specs.Prelude.{◌+◌, ◌-◌, ◌*◌, ◌==◌, ◌&&◌, ◌||◌, ◌^◌, nat_lt, nat_le, cond, not, ℕ, Bool, [], ◌∷◌, map, filter, sum_by, IsTrue}
use Rattle.pb_base.specs.declared.literal.Lit.{Lit}
use Rattle.pb_norm.specs.Constraints.{Weighted, Constraint, weight}
use Rattle.pb_norm.specs.Addition.{coef_of}
use Rattle.pb_norm.specs.Halves.{is_positive}
use Rattle.pb_norm.specs.Reduction.{cut_to, quotient_up, opposite}

-- a literal is at least 0
abbrev pub axiom_of : Lit → Constraint
axiom_of l = record { terms = record { coef = 1; lit = l } ∷ []; degree = 0 }

abbrev pub scaled : ℕ → Weighted → Weighted
scaled n t = record { coef = n * t.coef; lit = t.lit }

abbrev pub multiple : ℕ → Constraint → Constraint
multiple n c = record { terms = map (scaled n) c.terms; degree = n * c.degree }

abbrev pub shrunk : ℕ → Weighted → Weighted
shrunk n t = record { coef = quotient_up n t.coef; lit = t.lit }

-- all numbers divided, rounding up
abbrev pub division : ℕ → Constraint → Constraint
division n c = record { terms = map (shrunk n) c.terms; degree = quotient_up n c.degree }

-- each coefficient at most the degree, and none that is 0
abbrev pub saturation : Constraint → Constraint
saturation c = record { terms = filter is_positive (map (cut_to c.degree) c.terms); degree = c.degree }

abbrev pub is_other : ℕ → Weighted → Bool
is_other v t = not (t.lit.var == v)

abbrev pub coef_at : ℕ → Weighted → ℕ
coef_at v t = cond (t.lit.var == v) t.coef 0

-- without a variable, whose coefficient the degree loses
abbrev pub weakening : ℕ → Constraint → Constraint
weakening v c = record { terms = filter (is_other v) c.terms; degree = c.degree - sum_by (coef_at v) c.terms }

-- holds exactly where the constraint does not
abbrev pub negation : Constraint → Constraint
negation c = record { terms = map opposite c.terms; degree = weight c.terms + 1 - c.degree }

-- how much the coefficients are above the other constraint's
abbrev pub excess : Constraint → Constraint → ℕ
excess c d = sum_by (λ t. t.coef - coef_of d.terms t.lit) c.terms

-- the second follows from the first term by term (syntactic implication, as in VeriPB)
abbrev pub implies : Constraint → Constraint → Bool
implies c d = d.degree == 0 || nat_le (d.degree + excess c d) c.degree

abbrev pub Implies : Constraint → Constraint → Type 0
Implies c d = IsTrue (implies c d)

-- its numbers have room
abbrev pub is_narrow : Constraint → Bool
is_narrow c = nat_lt (weight c.terms) (2 ^ 126) && nat_lt c.degree (2 ^ 126)

abbrev pub IsNarrow : Constraint → Type 0
IsNarrow c = IsTrue (is_narrow c)
