-- What is said of an encoded problem, and which problems are encoded. Our own.
use Rattle.std.specs.Prelude.{ℕ, ◌+◌, ◌-◌, ◌≤◌, ◌<◌, ◌^◌, ◌==◌, List, [], ◌++◌, length, sum_by, codes, decimal, if◌then◌else◌, Some, None}
use Rattle.pb_base.specs.declared.limit.LimitKind.{LimitKind}
use Rattle.pb_base.specs.declared.limit.LimitKind.TheVariants as limit
use Rattle.pb_base.specs.declared.problem.Problem.{Problem}
use Rattle.pb_norm.specs.Constraints.{Constraint}
use Rattle.pb_norm.specs.Reduction.{rest_of}
use Rattle.pb_base.specs.declared.options.Options.{Options}
use Rattle.pb_choice.specs.declared.treatment.Treatment.{Treatment}
use Rattle.pb_choice.specs.declared.treatment.Treatment.TheVariants as treatment
use Rattle.pb_choice.specs.Choice.{treatment_of}
use Rattle.pb_choice.specs.Equals.{is_joint}
use Rattle.pb_encode.specs.declared.summary.Treatments.{Treatments}
use Rattle.pb_encode.specs.declared.summary.Summary.{Summary}
use Rattle.pb_gentot.specs.BoundTable.{table_fresh}
use Rattle.pb_encode.specs.Clauses.{problem_count, problem_vars, table_first}
use Rattle.pb_encode.specs.declared.groups.Group.{Group}
use Rattle.pb_encode.specs.Groups.{groups_of}
use Rattle.pb_encode.specs.declared.groups.Group.TheVariants.{Alone, Paired}
use Rattle.pb_encode.specs.Tables.{table_terms}

-- ---- counts

-- the place of a treatment in the summary
abbrev pub place_of : Treatment → ℕ
place_of treatment.Nothing = 0
place_of treatment.Empty = 1
place_of treatment.Clause = 2
place_of treatment.Pairwise = 3
place_of treatment.Ladder = 4
place_of treatment.Product = 5
place_of treatment.Counter = 6
place_of treatment.Totalizer = 7
place_of treatment.Diagram = 8
place_of treatment.Tree = 9
place_of treatment.Adder = 10

abbrev pub counted_at : Options → ℕ → Constraint → ℕ
counted_at o place c = if place_of (treatment_of o (rest_of c)) == place then 1 else 0

-- the place behind the treatments has both halves of an equality that is encoded as one
abbrev pub joint_at : ℕ → ℕ
joint_at place = if 11 == place then 2 else 0

-- how many constraints of a group are treated so
abbrev pub treated_in : Options → ℕ → Group → ℕ
treated_in o place (Alone c) = counted_at o place c
treated_in o place (Paired c d) = if is_joint o c then joint_at place else counted_at o place c + counted_at o place d

abbrev pub treated : Options → ℕ → List Group → ℕ
treated o place gs = sum_by (treated_in o place) gs

abbrev pub treatments_of : Options → List Group → Treatments
treatments_of o gs = record {
  nothing = treated o 0 gs;
  empty = treated o 1 gs;
  clause = treated o 2 gs;
  pairwise = treated o 3 gs;
  ladder = treated o 4 gs;
  product = treated o 5 gs;
  counter = treated o 6 gs;
  totalizer = treated o 7 gs;
  diagram = treated o 8 gs;
  tree = treated o 9 gs;
  adder = treated o 10 gs;
  joint = treated o 11 gs;
}

abbrev pub summary_of : Options → Problem → Summary
summary_of o p = record {
  vars = problem_vars o p;
  original = p.vars;
  products = length p.products;
  clauses = problem_count o p;
  treatments = treatments_of o (groups_of p);
  table = if o.table then Some (table_first o p) else None;
}

-- ---- which problems are encoded

-- its table has no more fresh variables than the budget, and there are not too many variables or clauses
pub record IsEncodable (o : Options) (p : Problem) : Type 0 where
  pub bounds : table_fresh (table_terms o p) ≤ o.budget
  pub vars : problem_vars o p < 2 ^ 31
  pub clauses : problem_count o p ≤ 2 ^ 36

-- what a problem passes that is not encoded: the budget of its table before the variables, and these before the clauses
abbrev pub IsOver : LimitKind → Options → Problem → Type 0
IsOver limit.Bounds o p = o.budget < table_fresh (table_terms o p)
IsOver limit.Variables o p = (table_fresh (table_terms o p) ≤ o.budget) × (2 ^ 31 ≤ problem_vars o p)
IsOver limit.Clauses o p = (table_fresh (table_terms o p) ≤ o.budget) × (problem_vars o p < 2 ^ 31) × (2 ^ 36 < problem_count o p)
IsOver which o p = ⊥

-- ---- the words

-- the variables that are neither the problem's nor its products'
abbrev pub fresh_in : Summary → ℕ
fresh_in s = s.vars - (s.original + s.products)

-- nothing is said of none
abbrev pub count_of_some : List ℕ → ℕ → List ℕ
count_of_some name n = if n == 0 then [] else name ++ decimal n

abbrev pub counts_line : Summary → List ℕ
counts_line s =
    codes "variables " ++ decimal s.vars ++ codes " original " ++ decimal s.original ++ codes " fresh " ++ decimal (fresh_in s) ++ codes " clauses " ++ decimal s.clauses
    ++ count_of_some (codes " products ") s.products ++ codes "\n"

-- without a family, and of at most one literal
abbrev pub simple_counts : Treatments → List ℕ
simple_counts t =
    codes "nothing " ++ decimal t.nothing ++ codes " empty " ++ decimal t.empty ++ codes " clause " ++ decimal t.clause
    ++ codes " pairwise " ++ decimal t.pairwise ++ codes " ladder " ++ decimal t.ladder ++ codes " product " ++ decimal t.product

-- of cardinalities, and of weights
abbrev pub sum_counts : Treatments → List ℕ
sum_counts t =
    codes " counter " ++ decimal t.counter ++ codes " totalizer " ++ decimal t.totalizer
    ++ codes " diagram " ++ decimal t.diagram ++ codes " tree " ++ decimal t.tree ++ codes " adder " ++ decimal t.adder

-- and of equalities that are encoded as one
abbrev pub treatments_line : Treatments → List ℕ
treatments_line t = simple_counts t ++ sum_counts t ++ count_of_some (codes " joint ") t.joint ++ codes "\n"

abbrev pub summary_text : Summary → List ℕ
summary_text s = counts_line s ++ treatments_line s.treatments
