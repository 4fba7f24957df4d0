use Rattle.std.proofs.Common.{◌++◌, ℕ, List, [], ◌∷◌, ap, ◌∙◌, subst, refl, Ok, Err}
use Rattle.pb_steps.specs.StepText.{step_line}
use base.Fml.{GName}
use Rattle.pb_family.specs.Sinks.{Takes, FailsToTake}
use Rattle.pb_family.specs.StepSinks.{StepState, step_text}
use Rattle.pb_family.specs.declared.sink.SinkFault.TheVariants as fault
use Rattle.pb_family.proofs.Deriving.{deriving_starts, steps_fault, steps_lack_first, stops_step, takes_step}
use Rattle.pb_dimacs.specs.Outboxes.{SlotRest, held_in, slot_sink}
use Rattle.pb_dimacs.proofs.Holding.{named_hands}
use Rattle.pb_dimacs.proofs.step_writer.StepWriterStepSink.step.Goals as goal

pub returns-in_err-write_step-clause-hands : goal.returns-in_err-write_step-clause-hands
returns-in_err-write_step-clause-hands g c = steps_lack_first (c.args.step.now ∷ []) _ c.from_residual.result c.from_residual.ensures.1

pub returns-in_err-put_text-clause-hands : goal.returns-in_err-put_text-clause-hands
returns-in_err-put_text-clause-hands g c =
    let w = c.args.self.now in
    let s = c.args.step.now in
    let held = held_in w.outbox.now in
    let left = held_in c.put_text.new.outbox in
    let a = g.D.Desk.state w.desk.now in
    let b = g.D.Desk.state c.put_text.new.desk in
    let old : StepState (SlotRest (GName × GName)) = record { sink = slot_sink (w.desk.ghost_name, w.outbox.ghost_name) w.slot held a; next = w.next } in
    let now : StepState (SlotRest (GName × GName)) = record { sink = slot_sink (w.desk.ghost_name, w.outbox.ghost_name) w.slot left b; next = w.next } in
    let line = c.as_slice.ensures.value ∙ c.in_ok-write_step.ensures.ok ∙ ap (λ (xs : List ℕ). (xs ++ step_line s) ++ 10 ∷ []) c.clear.ensures.items in
    let fails : FailsToTake (step_text s) old.sink now.sink =
    subst (λ (text : List ℕ). FailsToTake text old.sink now.sink) line (named_hands {T = Unit {0}} (w.desk.ghost_name, w.outbox.ghost_name) (Err c.in_err-put_text.field-0.0) w.slot c.as_slice.result.now held left a b c.in_err-put_text.ensures.hands) in
    steps_fault {all = s ∷ []} c.from_residual-in_err-put_text.result fault.Failed (s ∷ []) [] now c.from_residual-in_err-put_text.ensures.1 (deriving_starts (s ∷ []) old) (stops_step s old now fault.Failed fails refl)

pub returns-clause-hands : goal.returns-clause-hands
returns-clause-hands g c =
    let w = c.args.self.now in
    let s = c.args.step.now in
    let held = held_in w.outbox.now in
    let left = held_in c.put_text.new.outbox in
    let a = g.D.Desk.state w.desk.now in
    let b = g.D.Desk.state c.put_text.new.desk in
    let old : StepState (SlotRest (GName × GName)) = record { sink = slot_sink (w.desk.ghost_name, w.outbox.ghost_name) w.slot held a; next = w.next } in
    let now : StepState (SlotRest (GName × GName)) = record { sink = slot_sink (w.desk.ghost_name, w.outbox.ghost_name) w.slot left b; next = c.next_after-self.result } in
    let line = c.as_slice.ensures.value ∙ c.in_ok-write_step.ensures.ok ∙ ap (λ (xs : List ℕ). (xs ++ step_line s) ++ 10 ∷ []) c.clear.ensures.items in
    let taken : Takes (step_text s) old.sink now.sink =
    subst (λ (text : List ℕ). Takes text old.sink now.sink) line (named_hands {T = Unit {0}} (w.desk.ghost_name, w.outbox.ghost_name) (Ok tt) w.slot c.as_slice.result.now held left a b c.in_ok-put_text.ensures.hands) in
    takes_step s old now taken c.next_after-self.ensures
