use Rattle.pb_dimacs.specs.CnfText.{header_text}
use Rattle.pb_dimacs.specs.Outboxes.{held_in}
use Rattle.pb_dimacs.proofs.Holding.{named_hands}
use Rattle.pb_dimacs.proofs.writer.ClauseWriter.header.Goals as goal

pub returns : goal.returns
returns g c =
    let w = c.args.self.now in
    named_hands (w.desk.ghost_name, w.outbox.ghost_name) c.put_header.result w.slot (header_text c.args.vars c.args.clauses) (held_in w.outbox.now) (held_in c.put_header.new.outbox) (g.D.Desk.state w.desk.now) (g.D.Desk.state c.put_header.new.desk) c.put_header.ensures.hands
