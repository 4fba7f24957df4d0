use Rattle.std.proofs.Common.{arith}
use Rattle.pb_base.specs.Budgets.{IsBudget}
use Rattle.pbcnf_c.proofs.Chosen.{chosen_at}
use Rattle.pbcnf_c.proofs.options.options_of.Goals as goal

pub returns : goal.returns
returns c =
    let range : IsBudget c.args.chosen.now.budget = (omega (arith, c.from-budget.ensures, c.if-budget-eq0.false), omega (arith, c.from-budget.ensures, c.if-budget-gt-MAX_BUDGET.false)) in
    record { value = chosen_at c.args.chosen.now range c.options_at.result (c.options_at.ensures range) }
