use Rattle.pb_unit.proofs.Laying.{store_laid}
use Rattle.pb_unit.proofs.queue.Queue.over.Goals as goal

pub returns-clause-store : goal.returns-clause-store
returns-clause-store c = store_laid c.args.vars c.args.places _ _ _ c.in_ok-kept.ensures c.in_ok-lists.ensures
