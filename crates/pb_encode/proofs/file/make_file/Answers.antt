use Rattle.std.proofs.Common.{ℕ, Bool, false, ap, ◌∙◌}
use Rattle.std.proofs.lemmas.Result.{IfOk-from_err}
use Rattle.pb_desk.specs.View.{View}
use Rattle.pb_desk.proofs.Readings.{put-same}
use Rattle.pb_encode.specs.inner.Faults.{of_sink}
use Rattle.pb_encode.proofs.MadeFiles.{end_stops, lacks_stops, memory_stops, no_limit, slot_open, write_stops}
use Rattle.pb_encode.proofs.Residuals.{was_handed}
use Rattle.pb_encode.proofs.file.make_file.Goals as goal

pub send-requires-clause-open : goal.send-requires-clause-open
send-requires-clause-open g c = slot_open c.args.slot c.args.name.now (g.D.Desk.state c.args.desk.now) (g.D.Desk.state c.create.new.self) c.in_ok-create.ensures.ok.view

pub send-requires-clause-not_finished : goal.send-requires-clause-not_finished
send-requires-clause-not_finished g c = ap (λ (f : ℕ → Bool). f c.args.slot) c.in_ok-create.ensures.begun ∙ put-same (g.D.Desk.state c.args.desk.now).finished c.args.slot false

pub returns-in_err-send-clause-limit : goal.returns-in_err-send-clause-limit
returns-in_err-send-clause-limit g c =
    no_limit c.args.slot c.args.name.now (g.T.FileText.text c.args.of.now) (g.D.Desk.state c.args.desk.now) (g.D.Desk.state c.create.new.self) (g.D.Desk.state c.send.new.desk) c.in_ok-create.ensures.ok
    c.from_residual-in_err-send.result (of_sink c.in_err-send.field-0.0) c.from_residual-in_err-send.ensures.1 c.in_err-send.ensures.stopped

pub returns-in_err-send-clause-write_fault : goal.returns-in_err-send-clause-write_fault
returns-in_err-send-clause-write_fault g c =
    write_stops c.args.slot c.args.name.now (g.T.FileText.text c.args.of.now) (g.D.Desk.state c.args.desk.now) (g.D.Desk.state c.create.new.self) (g.D.Desk.state c.send.new.desk) c.in_ok-create.ensures.ok
    c.from_residual-in_err-send.result (of_sink c.in_err-send.field-0.0) c.from_residual-in_err-send.ensures.1 c.in_err-send.ensures.stopped

pub returns-in_err-send-clause-no_memory : goal.returns-in_err-send-clause-no_memory
returns-in_err-send-clause-no_memory g c =
    memory_stops c.args.slot c.args.name.now (g.T.FileText.text c.args.of.now) (g.D.Desk.state c.args.desk.now) (g.D.Desk.state c.create.new.self) (g.D.Desk.state c.send.new.desk) c.in_ok-create.ensures.ok
    c.from_residual-in_err-send.result (of_sink c.in_err-send.field-0.0) c.from_residual-in_err-send.ensures.1 c.in_err-send.ensures.stopped

pub returns-in_err-send-clause-steady : goal.returns-in_err-send-clause-steady
returns-in_err-send-clause-steady g c =
    lacks_stops c.args.slot c.args.name.now (g.T.FileText.text c.args.of.now) (g.D.Desk.state c.args.desk.now) (g.D.Desk.state c.create.new.self) (g.D.Desk.state c.send.new.desk) c.in_ok-create.ensures.ok
    c.from_residual-in_err-send.result (of_sink c.in_err-send.field-0.0) c.from_residual-in_err-send.ensures.1 c.in_err-send.ensures.stopped c.in_err-send.ensures.lacks

pub close-requires-clause-open : goal.close-requires-clause-open
close-requires-clause-open g c =
    ap (λ (v : View). v.writing c.args.slot) c.in_ok-send.ensures.whole.view ∙ slot_open c.args.slot c.args.name.now (g.D.Desk.state c.args.desk.now) (g.D.Desk.state c.create.new.self) c.in_ok-create.ensures.ok.view

pub returns-in_err-close : goal.returns-in_err-close
returns-in_err-close g c =
    let given = c.from_residual-in_err-close.ensures.1 in
    let whole = c.in_ok-send.ensures.whole in
    record {
      made = IfOk-from_err _ _ c.from_residual-in_err-close.ensures.0;
      limit = λ k is. let no = was_handed _ _ _ given is in cc;
      write_fault = λ is.
          end_stops c.args.slot c.args.name.now (g.T.FileText.text c.args.of.now) (g.D.Desk.state c.args.desk.now) (g.D.Desk.state c.create.new.self) (g.D.Desk.state c.send.new.desk) c.in_ok-create.ensures.ok
          (g.D.Desk.state c.close.new.self) whole c.in_err-close.ensures.failed;
      no_memory = λ is. let no = was_handed _ _ _ given is in cc;
      steady = λ steady is. absurd (c.in_err-close.ensures.steady (ap (λ (v : View). v.steady) whole.view ∙ ap (λ (v : View). v.steady) c.in_ok-create.ensures.ok.view ∙ steady));
    }
