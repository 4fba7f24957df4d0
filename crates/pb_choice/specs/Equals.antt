-- Equalities of which a number of literals is asked: so many of them are true, by one totalizer in both directions (Bailleux and Boufkhad 2003). Which they are is our own.
use Rattle.std.specs.Prelude.{ℕ, ◌+◌, ◌*◌, ◌/◌, ◌==◌, ◌&&◌, nat_lt, nat_le, Bool, true, false, List, ◌++◌, length, if◌then◌else◌}
use Rattle.pb_base.specs.declared.literal.Lit.{Lit}
use Rattle.pb_norm.specs.BoundedSums.{BoundedSum}
use Rattle.pb_norm.specs.Constraints.{Constraint}
use Rattle.pb_norm.specs.Reduction.{all_weigh, first_coef, lits_of}
use Rattle.pb_totalizer.specs.Exact.{exact_clauses, exact_fresh, exact_size, literals_within}
use Rattle.pb_base.specs.declared.options.EqualMode.{EqualMode}
use Rattle.pb_base.specs.declared.options.EqualMode.TheVariants as mode
use Rattle.pb_base.specs.declared.options.Options.{Options}
use Rattle.pb_choice.specs.Clauses.{constraint_clauses, constraint_count, constraint_fresh}

-- ---- which they are, by the lower half

-- how many times the degree has the first coefficient
abbrev pub number_asked : Constraint → ℕ
number_asked c = c.degree / first_coef c.terms

-- all coefficients are the first one, and the degree is as many times that
abbrev pub is_counting : Constraint → Bool
is_counting c = all_weigh (first_coef c.terms) c.terms && c.degree == first_coef c.terms * number_asked c

-- of at least three literals some are to be true, but not all
abbrev pub asks_for_some : Constraint → Bool
asks_for_some c = nat_le 3 (length c.terms) && (nat_le 1 (number_asked c) && nat_lt (number_asked c) (length c.terms))

abbrev pub asks_for_number : Constraint → Bool
asks_for_number c = is_counting c && asks_for_some c

-- the literals, and how many of them are to be true
abbrev pub literals_asked : Constraint → BoundedSum
literals_asked c = literals_within (lits_of c.terms) (number_asked c)

-- whether equalities may be encoded as one
abbrev pub is_joining : EqualMode → Bool
is_joining mode.Split = false
is_joining mode.Joint = true

-- an equality with this lower half is encoded as one: it may be, a number of its literals is asked for, and the fresh variables are within the budget
abbrev pub is_joint : Options → Constraint → Bool
is_joint o lower = is_joining o.equal && (asks_for_number lower && nat_le (exact_fresh (literals_asked lower)) o.budget)

-- ---- its clauses: those of both halves at once, or of the lower half and then of the upper one

abbrev pub equality_clauses : Options → Constraint → Constraint → ℕ → List (List Lit)
equality_clauses o lower upper first =
    if is_joint o lower then exact_clauses (literals_asked lower) first
    else constraint_clauses o lower first ++ constraint_clauses o upper (first + constraint_fresh o lower)

-- how many fresh variables they have
abbrev pub equality_fresh : Options → Constraint → Constraint → ℕ
equality_fresh o lower upper = if is_joint o lower then exact_fresh (literals_asked lower) else constraint_fresh o lower + constraint_fresh o upper

-- how many there are
abbrev pub equality_count : Options → Constraint → Constraint → ℕ
equality_count o lower upper = if is_joint o lower then exact_size (literals_asked lower) else constraint_count o lower + constraint_count o upper
