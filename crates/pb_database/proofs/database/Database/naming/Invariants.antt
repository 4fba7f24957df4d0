use Rattle.std.proofs.Common.{take}
use Rattle.pb_database.specs.inner.Indexed.{IsLeast, IsNaming}
use Rattle.pb_database.proofs.database.Database.naming.Given as goal

abbrev pub invariant-loop-id : goal.invariant-loop-id
invariant-loop-id l = IsLeast (IsNaming l.self.live l.var l.from) (take l.id-index l.id-items) l.best
