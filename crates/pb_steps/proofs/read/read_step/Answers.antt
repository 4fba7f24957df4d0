use Rattle.pb_steps.proofs.LineLaws.{all_sayable}
use Rattle.pb_steps.proofs.Spelling.{all_spelled}
use Rattle.pb_steps.proofs.read.read_step.Goals as goal

pub returns-clause-sayable : goal.returns-clause-sayable
returns-clause-sayable c = all_sayable c.read_either.result c.args.line.now c.read_either.ensures.ok

pub returns-clause-spelled : goal.returns-clause-spelled
returns-clause-spelled c = all_spelled c.read_either.result c.args.line.now c.read_either.ensures.ok
