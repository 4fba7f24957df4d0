-- What `refute OPB CNF PROOF LRAT`, with a bound, asks for. Our own.
use Rattle.std.specs.Prelude.{◌||◌, List, ◌∷◌, Option, Some, None, if◌then◌else◌, codes}
use Rattle.std.specs.Str.{bytes_eq}
use Rattle.clap.specs.Words.{App, Row, Text, first_of}
use Rattle.pb_words.specs.declared.refute.RefuteArgs.{RefuteArgs}
use Rattle.pb_words.specs.BoundWords.{bound_rules}
use Rattle.pb_words.specs.CheckWords.{as_check_words, check_in, CheckWords}
use Rattle.pb_words.specs.Rules.{command_of, name_rule}

abbrev pub refute_app : App
refute_app = command_of (codes "refute") (name_rule (codes "opb") ∷ name_rule (codes "cnf") ∷ name_rule (codes "proof") ∷ name_rule (codes "lrat") ∷ bound_rules)

pub record RefuteWords : Type 0 where
  pub checked : CheckWords
  pub lrat : Text

-- what `check` is asked for, and one more name, which none of its names equals
abbrev pub refute_from : Option CheckWords → Option Text → Option RefuteWords
refute_from (Some c) (Some lrat) =
    if bytes_eq c.opb lrat || (bytes_eq c.cnf lrat || bytes_eq c.proof lrat) then None else Some (record { checked = c; lrat = lrat })
refute_from _ _ = None

abbrev pub refute_in : List Row → Option RefuteWords
refute_in given = refute_from (check_in given) (first_of (codes "lrat") given)

-- what a `RefuteArgs` says
abbrev pub as_refute_words : RefuteArgs → RefuteWords
as_refute_words r = record { checked = as_check_words r.checking; lrat = r.lrat.now }
