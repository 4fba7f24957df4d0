use Rattle.pb_unit.proofs.Queueing.{all_calm}
use Rattle.pb_unit.proofs.queue.begin.Goals as goal

pub returns-in-Unpropagated-clause-calm : goal.returns-in-Unpropagated-clause-calm
returns-in-Unpropagated-clause-calm c = λ none.
    all_calm c.args.places.now c.args.kept.now c.args.tight.now c.look_all.new.held.lits c.requires.alerts c.requires.listed (c.requires.full c.in-Unpropagated.is) (c.look_all.ensures.calm none)
