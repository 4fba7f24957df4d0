use Rattle.std.proofs.Common.{rules}
use Rattle.pb_words.proofs.wcnf.wcnf_args_in.Goals as goal

pub returns : goal.returns
returns c = search rules
