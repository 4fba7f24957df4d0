use Rattle.std.proofs.Common.{refl, sym, ◌∙◌}
use Rattle.clap.specs.Words.{found_of, rows_of}
use Rattle.pb_words.proofs.OptionLemmas.{options_read}
use Rattle.pb_words.proofs.options.options_in.Goals as goal

pub returns : goal.returns
returns c = options_read (rows_of (found_of c.args.given.now)) c.default-usual.result _ c.default-usual.ensures
    (sym c.option_in.ensures ∙ c.in_ok-option_in.was) (sym c.option_in-2.ensures ∙ c.in_ok-option_in-2.was)
    (sym c.option_in-3.ensures ∙ c.in_ok-option_in-3.was) (sym c.option_in-4.ensures ∙ c.in_ok-option_in-4.was) (sym c.budget_in.ensures ∙ c.in_ok-budget_in.was) refl
