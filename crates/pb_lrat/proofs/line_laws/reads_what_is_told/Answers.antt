use Rattle.pb_lrat.proofs.Spelling.{reads_what_is_told}
use Rattle.pb_lrat.proofs.line_laws.reads_what_is_told.Goals as goal

pub returns : goal.returns
returns c = reads_what_is_told
