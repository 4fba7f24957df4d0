use Rattle.std.proofs.Common.{◌≡◌, take}
use Rattle.pb_steps.specs.Database.{reduced}
use Rattle.pb_database.proofs.database.Database.remove.Given as goal

abbrev pub invariant-loop-id : goal.invariant-loop-id
invariant-loop-id l = l.self ≡ reduced l.initial.self (take l.id-index l.ids)
