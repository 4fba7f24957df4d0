use Rattle.std.proofs.Common.{◌≡◌, ◌-◌, ◌∙◌, ℕ, Err, ap, arith}
use Rattle.pb_base.specs.declared.limit.LimitKind.{LimitKind}
use Rattle.pb_base.specs.declared.limit.LimitKind.TheVariants as limit
use Rattle.pb_base.specs.declared.problem.Problem.{Problem}
use Rattle.pb_base.specs.Problems.{originals}
use Rattle.pb_base.specs.declared.options.Options.{Options}
use Rattle.pb_choice.specs.declared.plans.Counts.{Counts}
use Rattle.pb_encode.specs.Clauses.{problem_counts, problem_fresh}
use Rattle.pb_encode.specs.Summaries.{summary_of, IsEncodable, IsOver}
use Rattle.pb_encode.specs.declared.summary.Summary.{Summary}
use Rattle.pb_encode.proofs.whole.counts_of.Goals as goal

-- what is encoded is over no limit
not_over : (which : LimitKind) (o : Options) (p : Problem) → IsEncodable o p → IsOver which o p → ⊥
not_over limit.Bounds o p fits over = omega (arith, fits.bounds, over)
not_over limit.Variables o p fits over = omega (arith, fits.vars, over.1)
not_over limit.Clauses o p fits over = omega (arith, fits.clauses, over.2)
not_over other o p fits over = over

abbrev counts : ℕ → ℕ → Counts
counts fresh clauses = record { fresh = fresh; clauses = clauses }

counts_are : (o : Options) (p : Problem) (s : Summary) (own : ℕ) → s ≡ summary_of o p → own ≡ originals p → counts (s.vars - own) s.clauses ≡ problem_counts o p
counts_are o p s own is same =
    let fresh : s.vars - own ≡ problem_fresh o p = omega (arith, ap (λ (t : Summary). t.vars) is, same) in
    let number = ap (λ (t : Summary). t.clauses) is in
    λ i. counts (fresh i) (number i)

pub returns-in-Ok-clause-counts : goal.returns-in-Ok-clause-counts
returns-in-Ok-clause-counts c = counts_are c.args.options.now c.args.problem.now c.in-Ok.summary c.originals.result c.in-Ok.ensures.summary c.originals.ensures

pub unreachable-requires : goal.unreachable-requires
unreachable-requires c =
    let which = c.in-Err-Limit.field-0-0 in
    not_over which c.args.options.now c.args.problem.now c.requires.encodable (c.measure_telling.ensures.limit which (c.in-Err-Limit.is ∙ ap Err c.in-Err-Limit.field-0-is))
