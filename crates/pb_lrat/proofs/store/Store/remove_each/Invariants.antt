use Rattle.std.proofs.Common.{◌≡◌, take}
use Rattle.std.specs.Prelude.{filter}
use Rattle.pb_lrat.proofs.Storing.{is_left}
use Rattle.pb_lrat.proofs.store.Store.remove_each.Given as goal

abbrev pub invariant-loop-id : goal.invariant-loop-id
invariant-loop-id l = l.self ≡ record { last = l.initial.self.last; live = filter (is_left (take l.id-index l.ids)) l.initial.self.live }
