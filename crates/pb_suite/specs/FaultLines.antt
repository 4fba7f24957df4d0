-- What is told on standard error of how a run ended. Our own.
use Rattle.std.specs.Prelude.{ℕ, ◌≡◌, List, [], ◌++◌, codes, decimal, Option, Some, None, IfSome}
use Rattle.pb_base.specs.declared.file.File.{File}
use Rattle.pb_base.specs.declared.place.Place.{Place}
use Rattle.pb_base.specs.Phrases.{expected_words, file_word, limit_word, place_text}
use Rattle.pb_lrat.specs.Reasons.{lrat_denied_words}
use Rattle.pb_steps.specs.Reasons.{denied_words}
use Rattle.pb_suite.specs.declared.outcome.Outcome.{Outcome}
use Rattle.pb_suite.specs.declared.outcome.Outcome.TheVariants as outcome

-- what passes a limit: a text, at a place of it, or what is made of all
abbrev pub limited_words : Option File → Option Place → List ℕ
limited_words (Some file) (Some place) = file_word file ++ codes " " ++ place_text place
limited_words (Some file) None = file_word file
limited_words None place = codes "totals"

-- the line without its end, and nothing where all was done
abbrev pub outcome_words : Outcome → List ℕ
outcome_words outcome.Done = []
outcome_words (outcome.Refused file place expected) = codes "pbcnf: " ++ file_word file ++ codes " " ++ place_text place ++ codes ": expected " ++ expected_words expected
outcome_words outcome.Usage = codes "pbcnf: usage: encode, check, decode, probe or bench"
outcome_words (outcome.Limit file which place) = codes "pbcnf: " ++ limited_words file place ++ codes ": limit " ++ limit_word which
outcome_words outcome.ReadFault = codes "pbcnf: read fault"
outcome_words outcome.WriteFault = codes "pbcnf: write fault"
outcome_words outcome.NoMemory = codes "pbcnf: out of memory"
outcome_words (outcome.Rejected line denied) = codes "pbcnf: PROOF line " ++ decimal line ++ codes ": " ++ denied_words denied
outcome_words (outcome.NotASolution statement) = codes "pbcnf: statement " ++ decimal statement ++ codes " is violated"
outcome_words outcome.NoModel = codes "pbcnf: no model"
outcome_words outcome.NoObjective = codes "pbcnf: OPB: no objective"
outcome_words (outcome.NotRefuted line why) = codes "pbcnf: LRAT line " ++ decimal line ++ codes ": " ++ lrat_denied_words why

-- the line, and no line where all was done
abbrev pub fault_line : Outcome → List ℕ
fault_line outcome.Done = []
fault_line other = outcome_words other ++ codes "\n"

-- These bytes, and no others, were told since, as far as it is known what was told.
abbrev pub IsToldNext : List ℕ → Option (List ℕ) → Option (List ℕ) → Type 0
IsToldNext bytes old new = IfSome old (λ before. IfSome new (λ now. now ≡ before ++ bytes))
