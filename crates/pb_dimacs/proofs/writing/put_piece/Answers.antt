use Rattle.std.proofs.Common.{[], refl}
use Rattle.pb_family.proofs.Taking.{takes_nothing}
use Rattle.pb_dimacs.specs.Outboxes.{held_in}
use Rattle.pb_dimacs.proofs.Holding.{holds_next, part_fails}
use Rattle.pb_dimacs.proofs.writing.put_piece.Goals as goal

pub returns-clause-hands : goal.returns-clause-hands
returns-clause-hands g c =
    holds_next c.args.slot c.args.piece.now (held_in c.args.outbox.now) (held_in c.make_room.new.outbox) (held_in c.push_piece.new.self) (g.D.Desk.state c.args.desk.now) (g.D.Desk.state c.make_room.new.desk) c.requires.open (g.met.D.Desk.open_has_file c.make_room.new.desk c.args.slot) c.push_piece.ensures c.in_ok-make_room.ensures.taken

pub returns-in_err-make_room-clause-hands : goal.returns-in_err-make_room-clause-hands
returns-in_err-make_room-clause-hands g c = part_fails c.from_residual.result _ c.args.piece.now [] [] c.args.piece.now _ _ _ refl c.from_residual.ensures.1 (takes_nothing _) c.in_err-make_room.ensures.taken
