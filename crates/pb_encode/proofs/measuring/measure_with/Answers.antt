use Rattle.std.proofs.Common.{◌≡◌, arith, ap, subst, ◌∙◌}
use Rattle.pb_base.specs.declared.limit.LimitKind.{LimitKind}
use Rattle.pb_base.specs.declared.limit.LimitKind.TheVariants as limit
use Rattle.pb_gentot.specs.BoundTable.{table_fresh, table_size}
use Rattle.pb_encode.specs.Groups.{groups_of}
use Rattle.pb_encode.specs.Summaries.{IsOver}
use Rattle.pb_encode.proofs.TallyLemmas.{encodable_is, few_groups, over_clauses, over_variables, summary_is, within_variables}
use Rattle.pb_encode.proofs.measuring.measure_with.Goals as goal

pub returns-clause-summary : goal.returns-clause-summary
returns-clause-summary c =
    let o = c.args.options.now in
    let p = c.args.problem.now in
    let tally = c.in_ok-tally.tally in
    let counted = c.in_ok-tally.ensures.counts in
    let few = few_groups p c.requires.within in
    summary_is o p tally c.originals.result c.saturating_add-loaded.result c.saturating_add-vars.result c.saturating_add-clauses.result c.fresh.result c.clauses.result c.len.result c.treatments.result c.table_at.result
    counted c.originals.ensures c.len.ensures (c.fresh.ensures ∙ ap table_fresh c.requires.terms) (c.clauses.ensures ∙ ap table_size c.requires.terms) c.saturating_add-loaded.ensures c.saturating_add-vars.ensures (omega (arith, c.if-vars.false))
    c.saturating_add-clauses.ensures c.if-clauses-gt-MAX_CLAUSES.false (c.treatments.ensures o (groups_of p) (omega (arith, few)) counted) c.table_at.ensures

pub returns-clause-encodable : goal.returns-clause-encodable
returns-clause-encodable c =
    let o = c.args.options.now in
    let p = c.args.problem.now in
    encodable_is o p c.in_ok-tally.tally c.originals.result c.saturating_add-loaded.result c.saturating_add-vars.result c.saturating_add-clauses.result c.fresh.result c.clauses.result
    c.in_ok-tally.ensures.counts c.originals.ensures (c.fresh.ensures ∙ ap table_fresh c.requires.terms) (c.clauses.ensures ∙ ap table_size c.requires.terms) c.saturating_add-loaded.ensures c.saturating_add-vars.ensures (omega (arith, c.if-vars.false))
    c.saturating_add-clauses.ensures c.if-clauses-gt-MAX_CLAUSES.false c.requires.bounds

-- ---- what is passed

pub returns-then-vars-clause-limit : goal.returns-then-vars-clause-limit
returns-then-vars-clause-limit c = λ which is.
    let o = c.args.options.now in
    let p = c.args.problem.now in
    let same : limit.Variables ≡ which = cc in
    let over = over_variables o p c.in_ok-tally.tally c.originals.result c.saturating_add-loaded.result c.saturating_add-vars.result c.fresh.result c.in_ok-tally.ensures.counts c.originals.ensures (c.fresh.ensures ∙ ap table_fresh c.requires.terms) c.saturating_add-loaded.ensures c.saturating_add-vars.ensures (omega (arith, c.if-vars.true)) in
    subst (λ (k : LimitKind). IsOver k o p) same (c.requires.bounds, over)

pub returns-then-clauses-gt-MAX_CLAUSES-clause-limit : goal.returns-then-clauses-gt-MAX_CLAUSES-clause-limit
returns-then-clauses-gt-MAX_CLAUSES-clause-limit c = λ which is.
    let o = c.args.options.now in
    let p = c.args.problem.now in
    let same : limit.Clauses ≡ which = cc in
    let vars = within_variables o p c.in_ok-tally.tally c.originals.result c.saturating_add-loaded.result c.saturating_add-vars.result c.fresh.result c.in_ok-tally.ensures.counts c.originals.ensures (c.fresh.ensures ∙ ap table_fresh c.requires.terms) c.saturating_add-loaded.ensures c.saturating_add-vars.ensures (omega (arith, c.if-vars.false)) in
    let over = over_clauses o p c.in_ok-tally.tally c.saturating_add-clauses.result c.clauses.result c.in_ok-tally.ensures.counts (c.clauses.ensures ∙ ap table_size c.requires.terms) c.saturating_add-clauses.ensures c.if-clauses-gt-MAX_CLAUSES.true in
    subst (λ (k : LimitKind). IsOver k o p) same (c.requires.bounds, vars, over)
