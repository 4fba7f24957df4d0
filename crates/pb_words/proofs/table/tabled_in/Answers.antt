use Rattle.std.proofs.Common.{rules, refl}
use Rattle.clap.specs.Words.{found_of, rows_of}
use Rattle.pb_words.proofs.OptionLemmas.{tabled_read}
use Rattle.pb_words.proofs.table.tabled_in.Goals as goal

pub returns : goal.returns
returns c = tabled_read (rows_of (found_of c.args.given.now)) c.in_ok-options.options _ (search rules) refl refl refl refl (search rules) (search rules)
