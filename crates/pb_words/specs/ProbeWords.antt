-- What `probe CNF LIT ..` asks for. Our own.
use Rattle.std.specs.Prelude.{List, [], ◌∷◌, Option, Some, None, codes, unwrap_or}
use Rattle.clap.specs.Words.{App, Row, Text, all_of, first_of}
use Rattle.pb_base.specs.declared.literal.Lit.{Lit}
use Rattle.pb_words.specs.declared.probe.ProbeArgs.{ProbeArgs}
use Rattle.pb_words.specs.LitWords.{lits_in}
use Rattle.pb_words.specs.Rules.{command_of, name_rule, words_rule}

abbrev pub probe_app : App
probe_app = command_of (codes "probe") (name_rule (codes "cnf") ∷ words_rule (codes "lits") ∷ [])

pub record ProbeWords : Type 0 where
  pub cnf : Text
  pub lits : List Lit

abbrev pub probe_from : Option Text → Option (List Lit) → Option ProbeWords
probe_from (Some cnf) (Some lits) = Some (record { cnf = cnf; lits = lits })
probe_from _ _ = None

abbrev pub probe_in : List Row → Option ProbeWords
probe_in given = probe_from (first_of (codes "cnf") given) (lits_in (unwrap_or (all_of (codes "lits") given) []))

-- what a `ProbeArgs` says
abbrev pub as_probe_words : ProbeArgs → ProbeWords
as_probe_words p = record { cnf = p.cnf.now; lits = p.lits }
