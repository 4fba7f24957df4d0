use Rattle.pb_steps.proofs.LineColumns.{faults_stand_first}
use Rattle.pb_steps.proofs.line_laws.faults_stand_first.Goals as goal

pub returns : goal.returns
returns c = faults_stand_first
