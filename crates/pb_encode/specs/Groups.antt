-- Constraints that are encoded together: one by itself, or the two halves of an equality. Our own.
use Rattle.std.specs.Prelude.{ℕ, ◌+◌, List, [], ◌∷◌, ◌++◌, length, map, sum_by}
use Rattle.std.specs.List.{flat_map}
use Rattle.pb_base.specs.declared.literal.Lit.{Lit}
use Rattle.pb_base.specs.declared.problem.Problem.{Problem}
use Rattle.pb_base.specs.declared.problem.Raw.{Raw}
use Rattle.pb_base.specs.declared.problem.Relation.{Relation}
use Rattle.pb_base.specs.declared.problem.Relation.TheVariants.{AtLeast, AtMost, Equal}
use Rattle.pb_norm.specs.declared.halves.Half.TheVariants.{Lower, Upper}
use Rattle.pb_norm.specs.Constraints.{Constraint}
use Rattle.pb_norm.specs.Halves.{half_of}
use Rattle.pb_norm.specs.Products.{defining}
use Rattle.pb_steps.specs.declared.step.Step.{Step}
use Rattle.pb_base.specs.declared.options.Options.{Options}
use Rattle.pb_choice.specs.Clauses.{constraint_clauses, constraint_count, constraint_fresh}
use Rattle.pb_choice.specs.ConstraintSteps.{constraint_steps}
use Rattle.pb_choice.specs.Equals.{equality_clauses, equality_count, equality_fresh}
use Rattle.pb_choice.specs.EqualitySteps.{equality_steps}
use Rattle.pb_encode.specs.declared.groups.Group.{Group}
use Rattle.pb_encode.specs.declared.groups.Group.TheVariants.{Alone, Paired}

-- ---- those of a problem

abbrev pub singles : List Constraint → List Group
singles cs = map Alone cs

-- the halves that a relation has, the lower one first
abbrev pub grouped : Relation → Raw → Group
grouped AtLeast s = Alone (half_of Lower s)
grouped AtMost s = Alone (half_of Upper s)
grouped Equal s = Paired (half_of Lower s) (half_of Upper s)

abbrev pub group_of : Raw → Group
group_of s = grouped s.relation s

abbrev pub statement_groups : List Raw → List Group
statement_groups ss = map group_of ss

-- each constraint of a product is by itself, and then the statements come in their order
abbrev pub groups_of : Problem → List Group
groups_of p = singles (defining (p.vars + 1) p.products) ++ statement_groups p.statements

-- ---- their constraints

abbrev pub members : Group → List Constraint
members (Alone c) = c ∷ []
members (Paired c d) = c ∷ d ∷ []

abbrev pub group_size : Group → ℕ
group_size g = length (members g)

abbrev pub all_members : List Group → List Constraint
all_members gs = flat_map members gs

abbrev pub size_total : List Group → ℕ
size_total gs = sum_by group_size gs

-- ---- how they are encoded

abbrev pub group_clauses : Options → Group → ℕ → List (List Lit)
group_clauses o (Alone c) first = constraint_clauses o c first
group_clauses o (Paired c d) first = equality_clauses o c d first

-- how many fresh variables the clauses have
abbrev pub group_fresh : Options → Group → ℕ
group_fresh o (Alone c) = constraint_fresh o c
group_fresh o (Paired c d) = equality_fresh o c d

-- how many there are
abbrev pub group_count : Options → Group → ℕ
group_count o (Alone c) = constraint_count o c
group_count o (Paired c d) = equality_count o c d

-- The fresh variables are numbered from the first number on, the second is the id of the first constraint, behind which the other one stands, and the third is the next id.
abbrev pub group_steps : Options → Group → ℕ → ℕ → ℕ → List Step
group_steps o (Alone c) first id next = constraint_steps o c first id next
group_steps o (Paired c d) first id next = equality_steps o c d first id (id + 1) next
