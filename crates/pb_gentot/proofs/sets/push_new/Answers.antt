use Rattle.pb_gentot.proofs.Marking.{same_again}
use Rattle.pb_gentot.proofs.sets.push_new.Goals as goal

pub returns-else-insert-clause-same : goal.returns-else-insert-clause-same
returns-else-insert-clause-same c =
    same_again c.args.made.now.items c.args.value (c.requires.marked.stands c.args.value (c.insert.ensures.again c.if-insert.false))
