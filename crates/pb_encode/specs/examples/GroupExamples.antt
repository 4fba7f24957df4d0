-- Worked examples of problems by groups: how many variables and clauses, and how many halves are encoded as one.
use Rattle.std.specs.Prelude.{◌≡◌, ℕ, true, pos, None, List, [], ◌∷◌, codes, length, refl}
use Rattle.std.specs.Fmt.{digits}
use Rattle.pb_base.specs.declared.literal.Term.{Term}
use Rattle.pb_base.specs.declared.problem.Problem.{Problem}
use Rattle.pb_base.specs.declared.problem.Raw.{Raw}
use Rattle.pb_base.specs.declared.problem.Relation.{Relation}
use Rattle.pb_base.specs.declared.problem.Relation.TheVariants.{AtLeast, Equal}
use Rattle.pb_tree.specs.Tree.{split_within}
use Rattle.pb_base.specs.declared.options.EqualMode.TheVariants.{Joint}
use Rattle.pb_base.specs.declared.options.Options.{Options}
use Rattle.pb_base.specs.Defaults.{default_options}
use Rattle.pb_encode.specs.Clauses.{clause_total, loaded_vars}
use Rattle.pb_encode.specs.Groups.{groups_of, size_total}
use Rattle.pb_encode.specs.Summaries.{count_of_some, treated}

abbrev term : ℕ → Term
term v = record { coef = pos 1; lit = record { var = v; positive = true } }

-- of the first three variables
abbrev three : Relation → Raw
three r = record { terms = term 1 ∷ term 2 ∷ term 3 ∷ []; relation = r; right = pos 1 }

abbrev posing : List Raw → Problem
posing ss = record { vars = 3; numbered = 3; names = []; products = []; objective = None; statements = ss }

-- exactly one, and at least one
abbrev both : Problem
both = posing (three Equal ∷ three AtLeast ∷ [])

-- the variables, the clauses, and the halves that are encoded as one
abbrev sizes : Options → ℕ × ℕ × ℕ
sizes o = (loaded_vars o both, clause_total o (groups_of both), treated o 11 (groups_of both))

pub half_by_half : sizes default_options ≡ (3, 5, 0)
half_by_half = refl

pub as_one : sizes (record default_options { equal = Joint }) ≡ (7, 16, 2)
unfolding split_within
as_one = refl

-- two groups, of three constraints
pub groups : length (groups_of both) ≡ 2
groups = refl

pub constraints : size_total (groups_of both) ≡ 3
constraints = refl

-- what is said of them
pub two_said : count_of_some (codes " joint ") 2 ≡ codes " joint 2"
unfolding digits
two_said = refl

pub none_said : count_of_some (codes " joint ") 0 ≡ []
none_said = refl
