use Rattle.pb_family.specs.ClauseText.{clause_text}
use Rattle.pb_dimacs.specs.Outboxes.{held_in}
use Rattle.pb_dimacs.proofs.Leads.{hard_hands}
use Rattle.pb_dimacs.proofs.hard_writer.HardWriter.put_line.Goals as goal

pub returns : goal.returns
returns g c =
    let w = c.args.self.now in
    hard_hands (w.desk.ghost_name, w.outbox.ghost_name) c.put_clause.result w.slot (clause_text c.args.clause.now) (held_in w.outbox.now) (held_in c.put_clause.new.outbox) (g.D.Desk.state w.desk.now) (g.D.Desk.state c.put_clause.new.desk) c.put_clause.ensures.hands
