use Rattle.std.proofs.Common.{[], ap, flat_map}
use Rattle.pb_dimacs.specs.CnfReading.{clause_numbers}
use Rattle.pb_encode.specs.Clauses.{problem_clauses}
use Rattle.pb_family.specs.Sinks.{SinkState}
use Rattle.pbcnf_c.specs.Integers.{integers_text}
use Rattle.pbcnf_c.proofs.Encoded.{are_numbers}
use Rattle.pbcnf_c.proofs.Endings.{put, wants}
use Rattle.pbcnf_c.proofs.Held.{held_lines}
use Rattle.pbcnf_c.proofs.encoding.put_integers.Goals as goal

pub returns-in-Ok : goal.returns-in-Ok
returns-in-Ok c =
    let r = c.args.ready.now in
    let cs = problem_clauses r.options r.problem in
    let zs = c.integers.result.now in
    let lines = held_lines _ _ [] [] (integers_text zs) cs (ap (λ (x : SinkState (Unit {0})). x.lines) c.new-sink.ensures) (ap (λ (x : SinkState (Unit {0})). x.lead) c.new-sink.ensures) c.in-Ok.ensures c.integers.ensures.text in
    put (flat_map clause_numbers cs) zs r c.args.integers.now c.delivered.new.room _ _ c.requires (are_numbers r zs c.requires c.integers.ensures.small lines) c.delivered.ensures.room c.delivered.ensures.size

pub returns : goal.returns
returns c = wants (flat_map clause_numbers (problem_clauses c.args.ready.now.options c.args.ready.now.problem)) c.args.ready.now c.args.integers.now _ _ c.stopped.ensures.outcome c.stopped.ensures.size
