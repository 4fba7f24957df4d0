use Rattle.std.proofs.Common.{[]}
use Rattle.pb_unit.proofs.Telling.{calm_others}
use Rattle.pb_unit.proofs.queue.tell_next.Goals as goal

pub returns-then-tell_one-clause-told : goal.returns-then-tell_one-clause-told
returns-then-tell_one-clause-told c = record {
  lowered = c.tell_one.ensures.lowered;
  advances = c.tell_one.ensures.advances;
  calm = λ _ all. calm_others c.args.places.now c.args.kept.now c.tell_one.new.kept c.args.occurrence.now c.args.held.now.lits c.tell_one.new.held.lits c.tell_one.ensures.lowered (c.tell_one.ensures.advances []).kept c.if-tell_one.ensures.calm all;
  short = tt;
}
