use Rattle.std.proofs.Common.{rules}
use Rattle.pb_base.proofs.fault_count.FaultCount.rise.Goals as goal

pub returns : goal.returns
returns c = search rules
