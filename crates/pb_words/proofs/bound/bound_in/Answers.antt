use Rattle.std.proofs.Common.{rules}
use Rattle.pb_words.proofs.bound.bound_in.Goals as goal

pub returns-in-Some-Some : goal.returns-in-Some-Some
returns-in-Some-Some c = search rules
