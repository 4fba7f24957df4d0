use Rattle.std.proofs.Common.{rules}
use Rattle.pb_opb.proofs.stage.Stage.passed_limit.Goals as goal

pub returns-then-weight-ge-WEIGHT : goal.returns-then-weight-ge-WEIGHT
returns-then-weight-ge-WEIGHT c = search rules

pub returns-else-weight-ge-WEIGHT : goal.returns-else-weight-ge-WEIGHT
returns-else-weight-ge-WEIGHT c = search rules
