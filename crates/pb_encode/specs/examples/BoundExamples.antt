-- Worked examples of tables of bounds on objectives.
use Rattle.std.specs.Prelude.{◌≡◌, ℕ, ℤ, Bool, true, false, pos, negsuc, Option, Some, None, List, [], ◌∷◌, codes, refl}
use Rattle.std.specs.Fmt.{digits}
use Rattle.pb_base.specs.declared.literal.Lit.{Lit}
use Rattle.pb_base.specs.declared.literal.Term.{Term}
use Rattle.pb_base.specs.declared.problem.Problem.{Problem}
use Rattle.pb_tree.specs.Tree.{split_within}
use Rattle.pb_base.specs.declared.options.Options.{Options}
use Rattle.pb_base.specs.Defaults.{default_options}
use Rattle.pb_encode.specs.BoundLines.{bound_line, bounds_text}
use Rattle.pb_encode.specs.Bounds.{bound_rows}

abbrev literal : ℕ → Bool → Lit
literal v positive = record { var = v; positive = positive }

abbrev term : ℤ → ℕ → Bool → Term
term coef v positive = record { coef = coef; lit = literal v positive }

-- over three variables, without statements
abbrev minimising : Option (List Term) → Problem
minimising o = record { vars = 3; numbered = 3; names = []; products = []; objective = o; statements = [] }

abbrev tabled : Options
tabled = record default_options { table = true }

-- 1 for the second, and 3 for the first, less 1 where the second is false: at least -1, and 1 or 3 more
pub costs_have_rows : bound_rows tabled (minimising (Some (term (negsuc 0) 2 false ∷ term (pos 3) 1 true ∷ [])))
    ≡ ((pos 0, literal 4 true) ∷ (pos 2, literal 5 true) ∷ (pos 3, literal 6 true) ∷ [])
unfolding split_within
costs_have_rows = refl

-- a single cost is its own literal
pub a_gain_has_a_row : bound_rows tabled (minimising (Some (term (negsuc 6) 2 true ∷ []))) ≡ ((pos 0, literal 2 false) ∷ [])
unfolding split_within
a_gain_has_a_row = refl

pub no_objective_no_row : bound_rows tabled (minimising None) ≡ []
unfolding split_within
no_objective_no_row = refl

-- none where none is asked for
pub no_table_no_row : bound_rows default_options (minimising (Some (term (pos 3) 1 true ∷ []))) ≡ []
unfolding split_within
no_table_no_row = refl

pub a_line : bound_line (negsuc 0, literal 3 false) ≡ codes "bound -1 -3\n"
unfolding digits
a_line = refl

pub two_lines : bounds_text ((pos 0, literal 3 true) ∷ (pos 20, literal 4 true) ∷ []) ≡ codes "bound 0 3\nbound 20 4\n"
unfolding digits
two_lines = refl
