use Rattle.pb_steps.proofs.Sizes.{lines_are_bounded}
use Rattle.pb_steps.proofs.line_laws.lines_are_bounded.Goals as goal

pub returns : goal.returns
returns c = lines_are_bounded
