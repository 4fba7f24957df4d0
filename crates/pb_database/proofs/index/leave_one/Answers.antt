use Rattle.pb_database.proofs.Indexing.{loses-none}
use Rattle.pb_database.proofs.index.leave_one.Goals as goal

pub returns-then-var-original : goal.returns-then-var-original
returns-then-var-original c = loses-none c.args.id c.args.lists.now.items
