use Rattle.std.proofs.Common.{◌∙◌, sym}
use Rattle.pb_desk.proofs.Shelves.{found_at}
use Rattle.pb_desk.proofs.shelf.find.Goals as goal

pub returns-then-eq : goal.returns-then-eq
returns-then-eq c = sym c.loop-i.invariant ∙ found_at c.args.shelf.now c.args.name.now c.loop-i.i c.index-shelf-i.result c.loop-i-test.true c.index-shelf-i.is cc
