-- Options in numbers.
use Rattle.std.proofs.Common.{◌≡◌, ◌∙◌, Option, Some, ap, option_and_then, refl, sym}
use Rattle.pb_base.specs.Budgets.{IsBudget}
use Rattle.pb_base.specs.declared.options.Options.{Options}
use Rattle.pb_base.proofs.BudgetLemmas.{as_budget-yes, same_options}
use Rattle.pbcnf_c.specs.Choices.{amo_of, card_of, equal_of, general_of, options_at, options_of, table_of}
use Rattle.pbcnf_c.specs.declared.options.PbcnfOptions.{PbcnfOptions}

-- the budget is in its range
pub chosen_at : (chosen : PbcnfOptions) (range : IsBudget chosen.budget) (o : Option Options) → o ≡ options_at chosen range → o ≡ options_of chosen
chosen_at chosen range o is = is ∙ sym (ap (option_and_then (options_at chosen)) (as_budget-yes chosen.budget range))

-- what all numbers choose
pub all_chosen : (chosen : PbcnfOptions) (range : IsBudget chosen.budget) (o : Options) → amo_of chosen.amo ≡ Some o.amo → card_of chosen.card ≡ Some o.card → general_of chosen.general ≡ Some o.general
    → equal_of chosen.equal ≡ Some o.equal → table_of chosen.table ≡ Some o.table → o.budget ≡ chosen.budget → Some o ≡ options_at chosen range
all_chosen chosen range o amo card general equal table budget = rw (amo, card, general, equal, table) (ap Some (same_options o _ refl refl refl refl refl budget))
