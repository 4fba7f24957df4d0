-- A test for conflicts of unit propagation, along a list of literals. It serves the proofs that derivations run.
use Rattle.std.specs.Prelude.{◌+◌, ◌&&◌, ℕ, Bool, true, not, cond, nat_lt, List, [], ◌∷◌, map, slice_index_or}
use Rattle.std.specs.List.{list_any, list_all}
use Rattle.pb_base.specs.declared.literal.Lit.{Lit}
use Rattle.pb_base.specs.Literals.{negated, is_same, is_among}
use Rattle.pb_norm.specs.Constraints.{Weighted, Constraint}
use Rattle.pb_norm.specs.Propagation.{room}

-- the constraint needs the literal
abbrev pub needs : List Lit → Lit → Constraint → Bool
needs before l c = list_any {X = Weighted} (λ t. is_same t.lit l && nat_lt (room before c.terms) (t.coef + c.degree)) c.terms

-- each literal of the list, the newest first, is needed under those before it
abbrev pub is_trace : List Constraint → List Lit → Bool
is_trace cs [] = true
is_trace cs (l ∷ before) = list_any (needs before l) cs && (not (is_among before l) && (not (is_among before (negated l)) && is_trace cs before))

-- and the list leaves a constraint too little
abbrev pub conflicts : List Constraint → List Lit → Bool
conflicts cs trace = is_trace cs trace && list_any {X = Constraint} (λ c. nat_lt (room trace c.terms) c.degree) cs

-- ---- literals by their numbers

abbrev pub at_number : List Lit → ℕ → Lit
at_number ls n = slice_index_or ls n (record { var = 0; positive = true })

-- the literal that a numbered one stands for
abbrev pub pinned : List Lit → Lit → Lit
pinned ls l = cond l.positive (at_number ls l.var) (negated (at_number ls l.var))

abbrev pub pinned_term : List Lit → Weighted → Weighted
pinned_term ls t = record { coef = t.coef; lit = pinned ls t.lit }

abbrev pub pinned_constraint : List Lit → Constraint → Constraint
pinned_constraint ls c = record { terms = map (pinned_term ls) c.terms; degree = c.degree }

-- all numbers are below one
abbrev pub are_below : ℕ → List Constraint → Bool
are_below n cs = list_all {X = Constraint} (λ c. list_all {X = Weighted} (λ t. nat_lt t.lit.var n) c.terms) cs
