use Rattle.pb_lrat.proofs.Columns.{lrat_faults_stand_first}
use Rattle.pb_lrat.proofs.line_laws.lrat_faults_stand_first.Goals as goal

pub returns : goal.returns
returns c = lrat_faults_stand_first
