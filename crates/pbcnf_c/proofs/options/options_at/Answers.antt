use Rattle.std.proofs.Common.{sym, ◌∙◌}
use Rattle.pbcnf_c.proofs.Chosen.{all_chosen}
use Rattle.pbcnf_c.proofs.options.options_at.Goals as goal

pub returns : goal.returns
returns c = λ range.
    all_chosen c.args.chosen.now range _ (sym c.amo_of.ensures ∙ c.in_ok-amo.was) (sym c.card_of.ensures ∙ c.in_ok-card.was) (sym c.general_of.ensures ∙ c.in_ok-general.was)
    (sym c.equal_of.ensures ∙ c.in_ok-equal.was) (sym c.table_of.ensures ∙ c.in_ok-table.was) c.requires.budget
