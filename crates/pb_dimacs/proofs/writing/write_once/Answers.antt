use Rattle.pb_dimacs.specs.Outboxes.{held_in}
use Rattle.pb_dimacs.proofs.Holding.{moves_on}
use Rattle.pb_dimacs.proofs.writing.write_once.Goals as goal

pub returns-clause-taken : goal.returns-clause-taken
returns-clause-taken g c =
    moves_on c.args.slot c.in_ok-count.count (held_in c.args.outbox.now) c.as_slice.result.now (held_in c.drop_front.new.self) (g.D.Desk.state c.args.desk.now) (g.D.Desk.state c.write.new.self) c.as_slice.ensures.value c.drop_front.ensures
    (g.met.D.Desk.open_has_file c.args.desk.now c.args.slot c.requires.open) c.in_ok-count.ensures.ok
