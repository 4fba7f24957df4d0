use Rattle.std.proofs.Common.{arith}
use Rattle.std.proofs.lemmas.List.FromFn.{get_or-range_with_len, length-range_with_len}
use Rattle.pb_totalizer.proofs.whole.WholeTreeSum.value.Goals as goal

pub returns : goal.returns
returns c =
    let count = c.args._values.now in
    omega (arith, get_or-range_with_len 1 count c.args.place 0 (omega (arith, length-range_with_len 1 count, c.requires)))
