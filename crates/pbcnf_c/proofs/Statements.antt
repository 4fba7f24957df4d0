-- The problem of many statements.
use Rattle.std.proofs.Common.{◌≡◌, ◌≤◌, ◌+◌, ◌-◌, ◌∙◌, ◌++◌, [], ℕ, Bool, true, false, List, Option, None, ap, append-nil, arith, length, refl, subst, sym, take}
use Rattle.std.specs.Prelude.{All, ◌↔◌, if◌then◌else◌}
use Rattle.pb_base.specs.declared.literal.Lit.{Lit}
use Rattle.pb_base.specs.declared.literal.Term.{Term}
use Rattle.pb_base.specs.declared.options.Options.{Options}
use Rattle.pb_base.specs.declared.problem.Problem.{Problem}
use Rattle.pb_base.specs.declared.problem.Raw.{Raw}
use Rattle.pb_base.specs.Literals.{assigned_by}
use Rattle.pb_base.specs.Problems.{originals, widened, IsSolution, IsWithinLimits, Satisfies}
use Rattle.pb_columns.specs.Columns.{problem_of}
use Rattle.pb_norm.specs.Constraints.{Weighted}
use Rattle.pb_norm.specs.Reduction.{by_weight}
use Rattle.pb_tree.specs.Tree.{split_within}
use Rattle.pb_gentot.specs.BoundTable.{table_clauses, table_fresh}
use Rattle.pb_encode.specs.Clauses.{clauses_from, fresh_total, problem_clauses, problem_vars, table_first}
use Rattle.pb_encode.specs.Costs.{objective_form}
use Rattle.pb_encode.specs.Groups.{statement_groups}
use Rattle.pb_encode.specs.Models.{ForceEach, IsModelOver}
use Rattle.pb_encode.specs.Tables.{table_terms}
use Rattle.pb_encode.proofs.ForcedGroups.{problem_forces}
use Rattle.pb_encode.proofs.Solutions.{have_solutions}

-- ---- it has no table

no_terms : (p : Problem) → p.objective ≡ None → (b : Bool) → (if b then by_weight (objective_form p).terms else []) ≡ []
no_terms p none true = ap (λ (o : Option (List Term)). by_weight (objective_form (record p { objective = o })).terms) none
no_terms p none false = refl

nothing : (first at : ℕ) (ss : List Raw) (o : Options) → table_clauses (table_terms o (problem_of first ss)) at ≡ []
unfolding split_within
nothing first at ss o = ap (λ (ts : List Weighted). table_clauses ts at) (no_terms (problem_of first ss) refl o.table)

no_fresh : (first : ℕ) (ss : List Raw) (o : Options) → table_fresh (table_terms o (problem_of first ss)) ≡ 0
unfolding split_within
no_fresh first ss o = ap table_fresh (no_terms (problem_of first ss) refl o.table)

-- ---- its clauses

pub its_clauses : (first : ℕ) (ss : List Raw) (o : Options) → 1 ≤ first → problem_clauses o (problem_of first ss) ≡ clauses_from o first (statement_groups ss)
its_clauses first ss o low =
    let from : originals (problem_of first ss) + 1 ≡ first = omega (arith, low) in
    ap (λ (n : ℕ). clauses_from o n (statement_groups ss) ++ table_clauses (table_terms o (problem_of first ss)) (table_first o (problem_of first ss))) from
    ∙ ap (λ (cs : List (List Lit)). clauses_from o first (statement_groups ss) ++ cs) (nothing first (table_first o (problem_of first ss)) ss o)
    ∙ append-nil (clauses_from o first (statement_groups ss))

pub its_vars : (first : ℕ) (ss : List Raw) (o : Options) → problem_vars o (problem_of first ss) ≡ (first - 1) + fresh_total o (statement_groups ss)
its_vars first ss o = omega (arith, no_fresh first ss o)

-- ---- its solutions

its_solutions : (first : ℕ) (ss : List Raw) (values : List Bool) → length values ≡ first - 1 → IsSolution (problem_of first ss) values ↔ All (Satisfies (assigned_by values)) ss
its_solutions first ss values covers =
    let same : widened (problem_of first ss) values ≡ values = append-nil values in (
      λ solution. subst (λ (xs : List Bool). All (Satisfies (assigned_by xs)) ss) same solution.statements,
      λ holds. record { covers = covers; statements = subst (λ (xs : List Bool). All (Satisfies (assigned_by xs)) ss) (sym same) holds },
    )

abbrev Fronts : ℕ → ℕ → List Bool → List (List Lit) → Type 0
Fronts first vars values cs = (model : List Bool) × IsModelOver vars cs model × (take (first - 1) model ≡ values)

-- the models of its clauses are the values under which all statements hold
pub models_of : (first : ℕ) (ss : List Raw) (o : Options) (clauses : List (List Lit)) → IsWithinLimits (problem_of first ss) → problem_clauses o (problem_of first ss) ≡ clauses → (values : List Bool) → length values ≡ first - 1 → All (Satisfies (assigned_by values)) ss ↔ ((model : List Bool) × IsModelOver (problem_vars o (problem_of first ss)) clauses model × (take (first - 1) model ≡ values))
models_of first ss o clauses within same values covers =
    let solved = have_solutions o (problem_of first ss) within values covers in
    let says = its_solutions first ss values covers in (
      λ holds. subst (Fronts first (problem_vars o (problem_of first ss)) values) same (solved.0 (says.1 holds)),
      λ found. says.0 (solved.1 (subst (Fronts first (problem_vars o (problem_of first ss)) values) (sym same) found)),
    )

-- and unit propagation reaches what each forces
pub forces_of : (first : ℕ) (ss : List Raw) (o : Options) (clauses : List (List Lit)) → 1 ≤ first → IsWithinLimits (problem_of first ss) → problem_clauses o (problem_of first ss) ≡ clauses → ForceEach o clauses first (statement_groups ss)
forces_of first ss o clauses low within same =
    let p = problem_of first ss in
    let from : originals p + 1 ≡ first = omega (arith, low) in
    subst (λ (cs : List (List Lit)). ForceEach o cs first (statement_groups ss)) same (subst (λ (n : ℕ). ForceEach o (problem_clauses o p) n (statement_groups ss)) from (problem_forces o p within))
