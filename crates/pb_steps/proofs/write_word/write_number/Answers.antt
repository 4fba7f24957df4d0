use Rattle.std.proofs.Common.{arith}
use Rattle.pb_steps.proofs.WordText.{short}
use Rattle.pb_steps.proofs.write_word.write_number.Goals as goal

pub write_digits-requires : goal.write_digits-requires
write_digits-requires c = (omega (arith, short c.args.n c.ranges.n.fits), omega arith)

pub returns-clause-from : goal.returns-clause-from
returns-clause-from c = omega (arith, short c.args.n c.ranges.n.fits)
