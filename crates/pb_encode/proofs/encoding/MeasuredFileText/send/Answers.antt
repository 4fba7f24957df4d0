use Rattle.std.proofs.Common.{[], ap}
use Rattle.pb_dimacs.specs.Outboxes.{held_in}
use Rattle.pb_encode.specs.Encodings.{problem_text}
use Rattle.pb_encode.proofs.Handed.{handed_text}
use Rattle.pb_encode.proofs.WholeTexts.{file_sent, none_sent}
use Rattle.pb_encode.proofs.encoding.MeasuredFileText.send.Goals as goal

pub returns-in_err-outbox : goal.returns-in_err-outbox
returns-in_err-outbox g c = none_sent c.args.slot (problem_text c.args.self.now.input.options.now c.args.self.now.input.problem.now) (g.D.Desk.state c.args.desk.now) c.from_residual.result c.from_residual.ensures.1

pub returns : goal.returns
returns g c =
    let slot = c.args.slot in
    let text = problem_text c.args.self.now.input.options.now c.args.self.now.input.problem.now in
    let w = c.hand_cnf-handed.new.writer in
    let desk = c.desk-1.given in
    let outbox = c.outbox-3-1.given in
    let a = g.D.Desk.state c.args.desk.now in
    let handed =
    handed_text [] (c.new-arg-1.given, c.outbox-2-1.given.0) (w.desk.ghost_name, w.outbox.ghost_name) slot w.slot a (g.D.Desk.state w.desk.now) (g.D.Desk.state desk.0) (held_in c.in_ok-outbox.outbox) (held_in w.outbox.now) (held_in outbox.0) text _ c.in_ok-outbox.ensures c.new-writer.ensures
    (λ named. ap g.D.Desk.state (desk.1 named)) (λ named. ap held_in (outbox.1 named)) c.hand_cnf-handed.result c.hand_cnf-handed.ensures in
    file_sent slot a (g.D.Desk.state desk.0) (g.D.Desk.state c.finish.new.desk) (held_in outbox.0) (held_in c.finish.new.outbox) text c.hand_cnf-handed.result c.finish.result (g.met.D.Desk.steady_has_room c.args.desk.now) handed c.finish.ensures
