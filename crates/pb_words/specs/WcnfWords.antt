-- What `wcnf OPB WCNF`, with the options and a bound, asks for. Our own.
use Rattle.std.specs.Prelude.{ℤ, List, [], ◌∷◌, ◌++◌, Option, Some, None, if◌then◌else◌, codes}
use Rattle.clap.specs.Words.{App, Row, Text, first_of}
use Rattle.pb_base.specs.declared.options.Options.{Options}
use Rattle.pb_words.specs.declared.wcnf.WcnfArgs.{WcnfArgs}
use Rattle.pb_words.specs.BoundWords.{bound_in, bound_rules}
use Rattle.pb_words.specs.Names.{are_different}
use Rattle.pb_words.specs.OptionWords.{option_rules, options_in}
use Rattle.pb_words.specs.Rules.{command_of, name_rule}

abbrev pub wcnf_app : App
wcnf_app = command_of (codes "wcnf") (name_rule (codes "opb") ∷ name_rule (codes "wcnf") ∷ (option_rules ++ bound_rules))

pub record WcnfWords : Type 0 where
  pub opb : Text
  pub wcnf : Text
  pub options : Options
  pub bound : Option ℤ

abbrev pub wcnf_from : Option Text → Option Text → Option Options → Option (Option ℤ) → Option WcnfWords
wcnf_from (Some opb) (Some wcnf) (Some options) (Some bound) =
    if are_different (opb ∷ wcnf ∷ []) then Some (record { opb = opb; wcnf = wcnf; options = options; bound = bound }) else None
wcnf_from _ _ _ _ = None

abbrev pub wcnf_in : List Row → Option WcnfWords
wcnf_in given = wcnf_from (first_of (codes "opb") given) (first_of (codes "wcnf") given) (options_in given) (bound_in given)

-- what a `WcnfArgs` says
abbrev pub as_wcnf_words : WcnfArgs → WcnfWords
as_wcnf_words w = record { opb = w.opb.now; wcnf = w.wcnf.now; options = w.options; bound = w.bound }
