use Rattle.pb_dimacs.specs.Outboxes.{held_in}
use Rattle.pb_dimacs.proofs.Leads.{hard_hands}
use Rattle.pb_dimacs.proofs.hard_writer.HardWriter.put.Goals as goal

pub returns : goal.returns
returns g c =
    let w = c.args.self.now in
    hard_hands (w.desk.ghost_name, w.outbox.ghost_name) c.put_text.result w.slot c.args.text.now (held_in w.outbox.now) (held_in c.put_text.new.outbox) (g.D.Desk.state w.desk.now) (g.D.Desk.state c.put_text.new.desk) c.put_text.ensures.hands
