use Rattle.std.proofs.Common.{rules, arith}
use Rattle.pb_steps.proofs.Shorts.{number-is}
use Rattle.pb_steps.proofs.short.number_at.Goals as goal

pub returns : goal.returns
returns c = number-is c.args.bytes.now c.digits_at-value.result.0 c.digits_at-value.result.1 (omega arith) c.digits_at-value.ensures.within c.digits_at-value.ensures.digits c.digits_at-value.ensures.value (c.ends_at.ensures (search rules))
