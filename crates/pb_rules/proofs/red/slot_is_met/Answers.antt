use Rattle.std.proofs.Common.{◌∙◌, sym}
use Rattle.pb_rules.proofs.Obliged.{goal-some}
use Rattle.pb_rules.proofs.red.slot_is_met.Goals as goal

pub returns-clause-met : goal.returns-clause-met
returns-clause-met c =
    goal-some c.args.db.now c.args.claim.now c.args.sets.now c.args.id c.in-Some.goal c.in_ok-found.found (sym c.in-Some.is ∙ c.in_ok-goal.ensures.goal) c.in_ok-found.ensures.shown
