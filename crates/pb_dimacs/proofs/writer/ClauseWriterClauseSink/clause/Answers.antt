use Rattle.std.proofs.Common.{sym, append-nil}
use Rattle.pb_family.specs.ClauseText.{clause_text}
use Rattle.pb_dimacs.specs.Outboxes.{held_in}
use Rattle.pb_dimacs.proofs.Holding.{named_hands, text_same}
use Rattle.pb_dimacs.proofs.writer.ClauseWriterClauseSink.clause.Goals as goal

pub returns : goal.returns
returns g c =
    let w = c.args.self.now in
    let line = clause_text c.args.clause.now in
    text_same c.put_clause.result _ _ _ _ (sym (append-nil line))
    (named_hands (w.desk.ghost_name, w.outbox.ghost_name) c.put_clause.result w.slot line (held_in w.outbox.now) (held_in c.put_clause.new.outbox) (g.D.Desk.state w.desk.now) (g.D.Desk.state c.put_clause.new.desk) c.put_clause.ensures.hands)
