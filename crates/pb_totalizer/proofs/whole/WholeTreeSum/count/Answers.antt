use Rattle.std.proofs.Common.{sym}
use Rattle.std.proofs.lemmas.List.FromFn.{length-range_with_len}
use Rattle.pb_totalizer.proofs.whole.WholeTreeSum.count.Goals as goal

pub returns : goal.returns
returns c = sym (length-range_with_len 1 c.args.values.now)
