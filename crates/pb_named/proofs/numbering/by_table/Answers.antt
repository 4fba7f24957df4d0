use Rattle.std.proofs.Common.{arith}
use Rattle.pb_named.proofs.numbering.by_table.Goals as goal

pub in_numbers-requires-clause-few : goal.in_numbers-requires-clause-few
in_numbers-requires-clause-few c = omega (arith, c.free.ensures, c.numbered_count.ensures.value, c.numbered_count.ensures.bound, c.if-free-numbered_count.false)
