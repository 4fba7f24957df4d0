use Rattle.std.proofs.Common.{◌≡◌, ◌≤◌, ◌<◌, ℕ, false}
use Rattle.pb_database.specs.Naming.{names_at}
use Rattle.pb_database.proofs.database.Database.walked_naming.Given as goal

abbrev pub invariant-loop-id : goal.invariant-loop-id
invariant-loop-id l = (k : ℕ) → l.from ≤ k → k < l.id → names_at l.self.live l.var k ≡ false
