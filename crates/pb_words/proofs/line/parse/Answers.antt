use Rattle.std.proofs.Common.{map, option_and_then, string_bytes}
use Rattle.clap.specs.Words.{subcommand_rows_of}
use Rattle.pb_words.specs.Parsed.{parsed_of, wanted_in, Tells}
use Rattle.pb_words.proofs.TakenLemmas.{accepted_by, refusal_is, refused_by, told}
use Rattle.pb_words.proofs.line.parse.Goals as goal

pub returns-in-Err-clause-usage : goal.returns-in-Err-clause-usage
returns-in-Err-clause-usage c =
    λ usage. refused_by _ (map string_bytes c.args.words.now) c.in-Err.error c.in_ok-program.ensures.0 c.in-Err.ensures.kinds (c.fault_of.ensures.usage (refusal_is _ usage))

tells : (c : goal.Joined-matches) → Tells (parsed_of (map string_bytes c.args.words.now)) c.request_by.result
tells c =
    told _ (option_and_then wanted_in (subcommand_rows_of c.in-Ok.matches)) c.request_by.result
    (accepted_by _ (map string_bytes c.args.words.now) c.in-Ok.matches c.in_ok-program.ensures.0 c.in-Ok.ensures.kinds c.in-Ok.ensures.matches)
    c.request_by.ensures

pub returns-clause-asked : goal.returns-clause-asked
returns-clause-asked c = (tells c).0

pub returns-clause-usage : goal.returns-clause-usage
returns-clause-usage c = (tells c).1
