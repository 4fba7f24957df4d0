-- A problem with a bound on its objective.
use Rattle.std.proofs.Common.{◌≡◌, ◌<◌, ◌≤◌, ◌^◌, ℕ, List, [], ◌∷◌, length, sym, subst, arith, length-append, Option, Some, None, ℤ}
use Rattle.std.specs.Option.{MatchOption, unwrap_or}
use Rattle.std.proofs.lemmas.List.{length-map}
use Rattle.std.proofs.lemmas.List.Elements.{All-append, All-cons, All-nil}
use Rattle.pb_base.specs.declared.literal.Term.{Term}
use Rattle.pb_base.specs.declared.problem.Problem.{Problem}
use Rattle.pb_base.specs.declared.problem.Raw.{Raw}
use Rattle.pb_base.specs.declared.limit.LimitKind.TheVariants.{Statements}
use Rattle.pb_base.specs.Problems.{IsSumWithin, IsWithinLimits, StaysBelow, magnitude, objective_terms, originals}
use Rattle.pb_named.specs.declared.named.NamedProblem.{NamedProblem}
use Rattle.pb_named.specs.NamedProblems.{all_names, problem_of, products_of, statement_of, table_of}
use Rattle.pb_opb.specs.Bounded.{bound_weight, bounded, sum_at_most}
use Rattle.pb_opb.specs.Faults.{Reads}
use Rattle.pb_opb.specs.FirstLine.{told_vars}
use Rattle.pb_opb.specs.Limits.{Keeps}

-- what holds of the objective holds of its terms
terms_within : (vars : ℕ) (o : Option (List Term)) → MatchOption o (Unit {0}) (λ ts. IsSumWithin vars ts × (magnitude ts < 2 ^ 100)) → IsSumWithin vars (unwrap_or o [])
terms_within vars None h = record { vars_from = All-nil (λ (t : Term). 1 ≤ t.lit.var); vars_within = All-nil (λ (t : Term). t.lit.var ≤ vars); count = omega arith }
terms_within vars (Some ts) h = h.0

-- ---- the limits are kept

pub bounded_within : (p : Problem) (bound : ℤ) → IsWithinLimits p → length p.statements ≤ 2 ^ 24 → bound_weight p bound < 2 ^ 100 → IsWithinLimits (bounded p bound)
bounded_within p bound within room light =
    let last : Raw = sum_at_most (objective_terms p) bound in
    record {
      vars = within.vars;
      named = within.named;
      products = within.products;
      count = omega (arith, length-append p.statements (last ∷ []));
      sums = All-append (λ (s : Raw). IsSumWithin (originals p) s.terms) p.statements (last ∷ []) within.sums
          (All-cons (λ (s : Raw). IsSumWithin (originals p) s.terms) last [] (terms_within (originals p) p.objective within.objective) (All-nil (λ (s : Raw). IsSumWithin (originals p) s.terms)));
      numbers = All-append (StaysBelow (2 ^ 100)) p.statements (last ∷ []) within.numbers (All-cons (StaysBelow (2 ^ 100)) last [] light (All-nil (StaysBelow (2 ^ 100))));
      objective = within.objective;
    }

pub within_same : (p q : Problem) (bound : ℤ) → q ≡ bounded p bound → IsWithinLimits p → length p.statements ≤ 2 ^ 24 → bound_weight p bound < 2 ^ 100 → IsWithinLimits q
within_same p q bound same within room light = subst IsWithinLimits (sym same) (bounded_within p bound within room light)

-- ---- a text has room for one more statement

said_few : (told : ℕ) (w : NamedProblem) → Keeps Statements w → length (problem_of told w).statements ≤ 2 ^ 24
said_few told w keeps = let t = table_of told (all_names w) in omega (arith, keeps.count, length-map w.statements (statement_of t (products_of t w)))

pub reads_few : (text : List ℕ) (p : Problem) → Reads text p → length p.statements ≤ 2 ^ 24
reads_few text p reads = subst (λ (q : Problem). length q.statements ≤ 2 ^ 24) (sym reads.says.means) (said_few (told_vars text) reads.says.written (reads.keeps Statements))
