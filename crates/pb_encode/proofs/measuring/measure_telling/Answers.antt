use Rattle.std.proofs.Common.{◌≡◌, ◌≤◌, ◌<◌, subst}
use Rattle.pb_base.specs.declared.limit.LimitKind.{LimitKind}
use Rattle.pb_base.specs.declared.limit.LimitKind.TheVariants as limit
use Rattle.pb_gentot.specs.BoundTable.{table_fresh}
use Rattle.pb_encode.specs.Summaries.{IsOver}
use Rattle.pb_encode.specs.Tables.{table_terms}
use Rattle.pb_encode.proofs.measuring.measure_telling.Goals as goal

pub measure_with-requires-clause-terms : goal.measure_with-requires-clause-terms
measure_with-requires-clause-terms c = rw c.in-Fits.is at c.in_ok-built.ensures.terms

pub measure_with-requires-clause-bounds : goal.measure_with-requires-clause-bounds
measure_with-requires-clause-bounds c =
    let bounds : table_fresh (table_terms c.args.options.now c.args.problem.now) ≤ c.args.options.now.budget = rw c.in-Fits.is at c.in_ok-built.ensures.over in
    bounds

-- what is passed

pub returns-in-Over-clause-limit : goal.returns-in-Over-clause-limit
returns-in-Over-clause-limit c = λ which is.
    let o = c.args.options.now in
    let p = c.args.problem.now in
    let same : limit.Bounds ≡ which = cc in
    let over : o.budget < table_fresh (table_terms o p) = rw c.in-Over.is at c.in_ok-built.ensures.over in
    subst (λ (k : LimitKind). IsOver k o p) same over
