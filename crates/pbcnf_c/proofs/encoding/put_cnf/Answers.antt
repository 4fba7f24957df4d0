use Rattle.std.proofs.Common.{◌∙◌, ◌++◌, [], ℕ, List, ap}
use Rattle.pb_encode.specs.Clauses.{problem_clauses}
use Rattle.pb_encode.specs.Encodings.{problem_text}
use Rattle.pb_family.specs.ClauseText.{led_text}
use Rattle.pb_family.specs.Sinks.{SinkState}
use Rattle.pbcnf_c.proofs.Encoded.{is_text}
use Rattle.pbcnf_c.proofs.Endings.{put, wants}
use Rattle.pbcnf_c.proofs.Held.{held_lines}
use Rattle.pbcnf_c.proofs.encoding.put_cnf.Goals as goal

pub returns-in_default : goal.returns-in_default
returns-in_default c = wants (problem_text c.args.ready.now.options c.args.ready.now.problem) c.args.ready.now c.args.cnf.now _ _ c.stopped.ensures.outcome c.stopped.ensures.size

pub returns-in-Ok-hand_clauses : goal.returns-in-Ok-hand_clauses
returns-in-Ok-hand_clauses c =
    let r = c.args.ready.now in
    let cs = problem_clauses r.options r.problem in
    let lines = held_lines _ _ c.in-Ok.head.items [] c.into_text.result.items cs (ap (λ (x : SinkState (Unit {0})). x.lines) c.new-sink.ensures) (ap (λ (x : SinkState (Unit {0})). x.lead) c.new-sink.ensures) c.in-Ok-hand_clauses.ensures c.into_text.ensures in
    put (problem_text r.options r.problem) c.as_slice.result.now r c.args.cnf.now c.delivered.new.room _ _ c.requires (is_text r c.as_slice.result.now c.requires (c.as_slice.ensures.value ∙ lines ∙ ap (λ (xs : List ℕ). xs ++ led_text [] cs) c.in-Ok.ensures)) c.delivered.ensures.room c.delivered.ensures.size

pub returns-in-Err : goal.returns-in-Err
returns-in-Err c = wants (problem_text c.args.ready.now.options c.args.ready.now.problem) c.args.ready.now c.args.cnf.now _ _ c.stopped-in-Err.ensures.outcome c.stopped-in-Err.ensures.size
