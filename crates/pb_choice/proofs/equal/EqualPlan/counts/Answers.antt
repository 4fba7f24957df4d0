use Rattle.std.proofs.Common.{ap, sym, ◌∙◌}
use Rattle.pb_choice.specs.EqualPlans.{planned_count, planned_fresh}
use Rattle.pb_choice.proofs.equal.EqualPlan.counts.Goals as goal

pub returns-in-Joint-clause-fresh : goal.returns-in-Joint-clause-fresh
returns-in-Joint-clause-fresh c = c.fresh.ensures ∙ ap planned_fresh (sym c.in-Joint.is)

pub returns-in-Joint-clause-clauses : goal.returns-in-Joint-clause-clauses
returns-in-Joint-clause-clauses c = c.clauses.ensures ∙ ap planned_count (sym c.in-Joint.is)

pub returns-in-Split-clause-fresh : goal.returns-in-Split-clause-fresh
returns-in-Split-clause-fresh c = c.count_halves.ensures.fresh ∙ ap planned_fresh (sym c.in-Split.is)

pub returns-in-Split-clause-clauses : goal.returns-in-Split-clause-clauses
returns-in-Split-clause-clauses c = c.count_halves.ensures.clauses ∙ ap planned_count (sym c.in-Split.is)
