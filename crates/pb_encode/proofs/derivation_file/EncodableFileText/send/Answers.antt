use Rattle.std.proofs.Common.{[], ap, arith}
use Rattle.pb_dimacs.specs.Outboxes.{held_in}
use Rattle.pb_encode.specs.Encodings.{derivation_text}
use Rattle.pb_encode.specs.Steps.{problem_steps}
use Rattle.pb_encode.proofs.Handed.{handed_text, steps_handed}
use Rattle.pb_encode.proofs.WholeTexts.{file_sent, none_sent}
use Rattle.pb_encode.proofs.derivation_file.EncodableFileText.send.Goals as goal

pub overflow_add-next : goal.overflow_add-next
overflow_add-next g c = omega (arith, c.count_loaded-next.ensures.few)

pub returns-in_err-outbox : goal.returns-in_err-outbox
returns-in_err-outbox g c = none_sent c.args.slot (derivation_text c.args.self.now.options.now c.args.self.now.problem.now) (g.D.Desk.state c.args.desk.now) c.from_residual.result c.from_residual.ensures.1

pub returns : goal.returns
returns g c =
    let slot = c.args.slot in
    let text = derivation_text c.args.self.now.options.now c.args.self.now.problem.now in
    let w = c.stream_told_steps-handed.new.sink in
    let desk = c.desk-1.given in
    let outbox = c.outbox-3-1.given in
    let a = g.D.Desk.state c.args.desk.now in
    let handed =
    handed_text [] (c.new-arg-1.given, c.outbox-2-1.given.0) (w.desk.ghost_name, w.outbox.ghost_name) slot w.slot a (g.D.Desk.state w.desk.now) (g.D.Desk.state desk.0) (held_in c.in_ok-outbox.outbox) (held_in w.outbox.now) (held_in outbox.0) text _ c.in_ok-outbox.ensures c.new-writer.ensures.sink
    (λ named. ap g.D.Desk.state (desk.1 named)) (λ named. ap held_in (outbox.1 named)) c.stream_told_steps-handed.result (steps_handed (problem_steps c.args.self.now.options.now c.args.self.now.problem.now) c.stream_told_steps-handed.result _ _ c.stream_told_steps-handed.ensures) in
    file_sent slot a (g.D.Desk.state desk.0) (g.D.Desk.state c.finish.new.desk) (held_in outbox.0) (held_in c.finish.new.outbox) text c.stream_told_steps-handed.result c.finish.result (g.met.D.Desk.steady_has_room c.args.desk.now) handed c.finish.ensures
