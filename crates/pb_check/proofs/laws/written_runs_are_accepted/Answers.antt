use Rattle.pb_check.proofs.Writing.{written_runs_are_accepted}
use Rattle.pb_check.proofs.laws.written_runs_are_accepted.Goals as goal

pub returns : goal.returns
returns c = written_runs_are_accepted
