use Rattle.std.proofs.Common.{arith}
use Rattle.pb_steps.proofs.ShortLines.{all-read}
use Rattle.pb_steps.proofs.quick.quick_step.Goals as goal

pub returns : goal.returns
returns c = all-read c.args.line.now c.split_at.result.0.now c.split_at.result.1.now c.step_behind.result (omega arith) (c.ends_at.ensures c.if-not-ends_at.false) c.split_at.ensures.front c.split_at.ensures.back c.step_behind.ensures
