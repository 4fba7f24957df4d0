use Rattle.std.proofs.Common.{rules, arith}
use Rattle.pb_steps.proofs.Shorts.{number-is}
use Rattle.pb_steps.proofs.short.long_number_at.Goals as goal

pub returns : goal.returns
returns c = number-is c.args.bytes.now c.more_digits-value.result.0 c.more_digits-value.result.1 (omega arith) c.more_digits-value.ensures.within c.more_digits-value.ensures.digits c.more_digits-value.ensures.value (c.ends_at.ensures (search rules))
