use Rattle.std.proofs.Common.{subst}
use Rattle.pb_database.specs.Ordered.{IsOrdered}
use Rattle.pb_database.proofs.OrderLemmas.{database_of-ordered}
use Rattle.pb_database.proofs.database.Database.next.Goals as goal

pub returns-clause-ordered : goal.returns-clause-ordered
returns-clause-ordered c = subst IsOrdered c.self.view_is (database_of-ordered c.self.inside.original c.self.inside.vars c.self.inside.slots.items)
