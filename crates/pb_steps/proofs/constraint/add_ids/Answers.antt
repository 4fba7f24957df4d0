use Rattle.pb_steps.specs.LineSteps.{ids_in}
use Rattle.pb_steps.specs.inner.Reading.{with_items}
use Rattle.pb_base.specs.Pieces.{chunk}
use Rattle.pb_steps.proofs.ReadLemmas.{id_more}
use Rattle.pb_steps.proofs.constraint.add_ids.Goals as goal

pub loop-word-preserved : goal.loop-word-preserved
loop-word-preserved c = id_more (with_items c.args.ids.now (ids_in c.args.words)) c.loop-word.ids c.push.new.self c.loop-word.word-iterator c.next.new.self (chunk c.in-Some.word) c.id_in.result c.in_ok-id_in.field-0 c.loop-word.invariant c.in-Some.ensures.steps c.id_in.ensures c.in_ok-id_in.was c.in_ok-push.ensures.ok
