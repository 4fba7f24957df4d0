-- The clauses that a problem is encoded to: those of its groups of constraints, one after another, and those of a table of bounds. Our own.
use Rattle.std.specs.Prelude.{ℕ, ◌+◌, List, [], ◌∷◌, ◌++◌, sum_by}
use Rattle.pb_base.specs.declared.literal.Lit.{Lit}
use Rattle.pb_base.specs.declared.problem.Problem.{Problem}
use Rattle.pb_base.specs.Problems.{originals}
use Rattle.pb_base.specs.declared.options.Options.{Options}
use Rattle.pb_choice.specs.declared.plans.Counts.{Counts}
use Rattle.pb_gentot.specs.BoundTable.{table_clauses, table_fresh, table_size}
use Rattle.pb_encode.specs.declared.groups.Group.{Group}
use Rattle.pb_encode.specs.Groups.{group_clauses, group_count, group_fresh, groups_of}
use Rattle.pb_encode.specs.Tables.{table_terms}

-- the fresh variables of each group come after those of the groups before it
abbrev pub clauses_from : Options → ℕ → List Group → List (List Lit)
clauses_from o first [] = []
clauses_from o first (g ∷ gs) = group_clauses o g first ++ clauses_from o (first + group_fresh o g) gs

abbrev pub fresh_total : Options → List Group → ℕ
fresh_total o gs = sum_by (group_fresh o) gs

abbrev pub clause_total : Options → List Group → ℕ
clause_total o gs = sum_by (group_count o) gs

-- in the order of the groups of constraints, the fresh variables after those of the problem
abbrev pub loaded_clauses : Options → Problem → List (List Lit)
loaded_clauses o p = clauses_from o (originals p + 1) (groups_of p)

-- the variables of these
abbrev pub loaded_vars : Options → Problem → ℕ
loaded_vars o p = originals p + fresh_total o (groups_of p)

-- the fresh variables of the table come after those of all constraints
abbrev pub table_first : Options → Problem → ℕ
table_first o p = loaded_vars o p + 1

-- and so do its clauses
abbrev pub problem_clauses : Options → Problem → List (List Lit)
problem_clauses o p = loaded_clauses o p ++ table_clauses (table_terms o p) (table_first o p)

-- all fresh variables
abbrev pub problem_fresh : Options → Problem → ℕ
problem_fresh o p = fresh_total o (groups_of p) + table_fresh (table_terms o p)

-- all variables
abbrev pub problem_vars : Options → Problem → ℕ
problem_vars o p = originals p + problem_fresh o p

-- how many clauses there are
abbrev pub problem_count : Options → Problem → ℕ
problem_count o p = clause_total o (groups_of p) + table_size (table_terms o p)

abbrev pub problem_counts : Options → Problem → Counts
problem_counts o p = record { fresh = problem_fresh o p; clauses = problem_count o p }
