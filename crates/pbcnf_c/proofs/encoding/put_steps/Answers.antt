use Rattle.std.proofs.Common.{[], ap}
use Rattle.pb_encode.specs.Encodings.{derivation_text}
use Rattle.pb_family.specs.StepSinks.{StepState}
use Rattle.pbcnf_c.proofs.Endings.{put, wants}
use Rattle.pbcnf_c.proofs.Held.{held}
use Rattle.pbcnf_c.proofs.encoding.put_steps.Goals as goal

pub returns-in-Ok : goal.returns-in-Ok
returns-in-Ok c =
    let r = c.args.ready.now in
    let lines = held _ _ [] c.text.result.now (derivation_text r.options r.problem) (ap (λ (x : StepState (Unit {0})). x.sink.lines) c.new-sink.ensures) c.in-Ok.ensures.taken c.text.ensures in
    put (derivation_text r.options r.problem) c.text.result.now r c.args.proof.now c.delivered.new.room _ _ c.requires lines c.delivered.ensures.room c.delivered.ensures.size

pub returns : goal.returns
returns c = wants (derivation_text c.args.ready.now.options c.args.ready.now.problem) c.args.ready.now c.args.proof.now _ _ c.stopped.ensures.outcome c.stopped.ensures.size
