use Rattle.pb_dimacs.proofs.WcnfWritten.{written_wcnf_reads}
use Rattle.pb_dimacs.proofs.laws.written_wcnf_reads.Goals as goal

pub returns : goal.returns
returns c = λ offset clauses softs small fits within. written_wcnf_reads offset clauses softs small fits within
