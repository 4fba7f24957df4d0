use Rattle.pb_lrat.proofs.Columns.{lines_need_no_memory}
use Rattle.pb_lrat.proofs.line_laws.lines_need_no_memory.Goals as goal

pub returns : goal.returns
returns c = lines_need_no_memory
