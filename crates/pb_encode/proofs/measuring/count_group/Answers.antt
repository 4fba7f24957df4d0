use Rattle.pb_encode.proofs.measuring.count_group.Goals as goal

pub returns-clause-counts : goal.returns-clause-counts
returns-clause-counts c = c.add_group.ensures c.args.options.now c.args.group.now c.in_ok-plan.ensures

pub returns-clause-told : goal.returns-clause-told
returns-clause-told c = λ gs rest here before. c.in_ok-note.ensures.told c.args.options.now gs rest c.args.group.now here c.in_ok-plan.ensures before
