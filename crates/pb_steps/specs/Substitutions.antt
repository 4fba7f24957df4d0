-- Substitutions of values for variables (redundance as in Gocht and Nordström 2021).
use Rattle.std.specs.Prelude.{◌-◌, ◌==◌, ℕ, Bool, not, cond, List, [], ◌∷◌, Option, Some, None, is_none, unwrap_or, filter, sum_by, if◌then◌else◌}
use Rattle.std.specs.List.{list_any}
use mathlib.Core.Bool.{beq}
use Rattle.pb_base.specs.declared.literal.Lit.{Lit}
use Rattle.pb_base.specs.Literals.{Assignment}
use Rattle.pb_norm.specs.Constraints.{Weighted, Constraint}
use Rattle.pb_steps.specs.declared.op.Set.{Set}

-- the value that a variable is given
abbrev pub set_value : List Set → ℕ → Option Bool
set_value [] v = None
set_value (s ∷ ss) v = if s.var == v then Some s.value else set_value ss v

-- the assignment with the values written over it
abbrev pub overwritten : List Set → Assignment → Assignment
overwritten sets a v = unwrap_or (set_value sets v) (a v)

abbrev pub is_unset : List Set → Weighted → Bool
is_unset sets t = is_none (set_value sets t.lit.var)

abbrev pub is_made_true : List Set → Lit → Bool
is_made_true sets l = beq (unwrap_or (set_value sets l.var) (not l.positive)) l.positive

-- what is left of the constraint: the terms of set variables are gone, and the degree loses the coefficients of the true ones
abbrev pub restriction : List Set → Constraint → Constraint
restriction sets c = record {
  terms = filter (is_unset sets) c.terms;
  degree = c.degree - sum_by {X = Weighted} (λ t. cond (is_made_true sets t.lit) t.coef 0) c.terms;
}

-- the constraint has a variable that is set
abbrev pub names_set : List Set → Constraint → Bool
names_set sets c = list_any {X = Weighted} (λ t. not (is_unset sets t)) c.terms
