use Rattle.std.proofs.Common.{refl}
use Rattle.pb_unit.proofs.Queueing.{calm_ends}
use Rattle.pb_unit.proofs.queue.Queue.propagate.Goals as goal

pub returns-in-None-clause-ends : goal.returns-in-None-clause-ends
returns-in-None-clause-ends c =
    let q = c.go_on.new.self in
    let all = c.in-None.ensures.calm refl in
    calm_ends q.held.vars q.places q.lists q.kept.items q.held.lits q.counted c.go_on.ensures.counts all.0 all.1
