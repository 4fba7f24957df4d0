use Rattle.std.proofs.Common.{ap}
use Rattle.std.specs.Prelude.{codes}
use Rattle.pb_encode.specs.Clauses.{problem_clauses}
use Rattle.pb_family.specs.Sinks.{SinkState}
use Rattle.pbcnf_c.proofs.Held.{held_lines}
use Rattle.pbcnf_c.proofs.Weighed.{three_parts}
use Rattle.pbcnf_c.proofs.weighing.weighted_text.Goals as goal

pub returns : goal.returns
returns c =
    let r = c.args.ready.now in
    let head = c.in_ok-offset_line.field-0.items in
    let held = c.into_text-text.result.items in
    let cs = problem_clauses r.options r.problem in
    let lines = held_lines _ _ head (codes "h ") held cs (ap (λ (x : SinkState (Unit {0})). x.lines) c.new-sink.ensures) (ap (λ (x : SinkState (Unit {0})). x.lead) c.new-sink.ensures) c.in-Ok.ensures c.into_text-text.ensures in
    three_parts r.options r.problem c.args.objective.now c.push_softs.new.out.items held head c.requires.objective c.in_ok-offset_line.ensures lines c.in_ok-push_softs.ensures
