use Rattle.std.proofs.Common.{arith}
use Rattle.pb_database.proofs.Indexing.{loses-none, loses-again}
use Rattle.pb_database.proofs.index.leave.Goals as goal

pub leave_one-requires : goal.leave_one-requires
leave_one-requires g c = omega (arith, c.requires.some, c.loop-item.invariant.size)

pub loop-item-init : goal.loop-item-init
loop-item-init g c = loses-none c.args.id c.args.lists.now.items

pub loop-item-preserved : goal.loop-item-preserved
loop-item-preserved g c = loses-again c.args.id c.args.lists.now.items c.loop-item.lists.items c.leave_one.new.lists.items c.loop-item.invariant c.leave_one.ensures
