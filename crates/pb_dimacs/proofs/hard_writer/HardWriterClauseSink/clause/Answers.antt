use Rattle.std.proofs.Common.{◌++◌, sym, append-nil}
use Rattle.std.specs.Prelude.{codes}
use Rattle.pb_family.specs.ClauseText.{clause_text}
use Rattle.pb_dimacs.proofs.Holding.{text_last, text_same}
use Rattle.pb_dimacs.proofs.TextChains.{first_stops}
use Rattle.pb_dimacs.proofs.hard_writer.HardWriterClauseSink.clause.Goals as goal

pub returns-in_err-put : goal.returns-in_err-put
returns-in_err-put g c =
    let line = clause_text c.args.clause.now in
    text_same c.from_residual.result _ _ _ _ (sym (append-nil (codes "h " ++ line))) (first_stops c.from_residual.result _ (codes "h ") line _ _ c.from_residual.ensures.1 c.in_err-put.ensures)

pub returns : goal.returns
returns g c =
    let line = clause_text c.args.clause.now in
    text_same c.put_line.result _ _ _ _ (sym (append-nil (codes "h " ++ line))) (text_last c.put_line.result (codes "h ") line _ _ _ c.in_ok-put.ensures c.put_line.ensures)
