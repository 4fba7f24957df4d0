use Rattle.std.proofs.Common.{[], refl}
use Rattle.pb_dimacs.specs.CnfText.{header_text}
use Rattle.pb_family.proofs.Taking.{takes_nothing}
use Rattle.pb_dimacs.specs.Outboxes.{held_in}
use Rattle.pb_dimacs.proofs.Holding.{holds_next, part_fails}
use Rattle.pb_dimacs.proofs.writing.put_header.Goals as goal

pub returns-clause-hands : goal.returns-clause-hands
returns-clause-hands g c =
    holds_next c.args.slot (header_text c.args.vars c.args.clauses) (held_in c.args.outbox.now) (held_in c.make_room.new.outbox) (held_in c.push_header.new.self) (g.D.Desk.state c.args.desk.now) (g.D.Desk.state c.make_room.new.desk) c.requires.open (g.met.D.Desk.open_has_file c.make_room.new.desk c.args.slot) c.push_header.ensures c.in_ok-make_room.ensures.taken

pub returns-in_err-make_room-clause-hands : goal.returns-in_err-make_room-clause-hands
returns-in_err-make_room-clause-hands g c = part_fails c.from_residual.result _ (header_text c.args.vars c.args.clauses) [] [] (header_text c.args.vars c.args.clauses) _ _ _ refl c.from_residual.ensures.1 (takes_nothing _) c.in_err-make_room.ensures.taken
