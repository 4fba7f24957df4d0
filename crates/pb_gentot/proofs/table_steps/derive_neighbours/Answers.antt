use Rattle.std.proofs.Common.{◌-◌, length, arith}
use Rattle.std.proofs.lemmas.List.FromFn.{length-map-range_with_len}
use Rattle.pb_family.proofs.Deriving.{takes_no_steps}
use Rattle.pb_gentot.specs.inner.KeptTables.{rise_at}
use Rattle.pb_gentot.proofs.table_steps.derive_neighbours.Goals as goal

pub returns-in-Leaf : goal.returns-in-Leaf
returns-in-Leaf g c = rw c.in-Leaf.is (takes_no_steps (g.T.StepSink.state c.args.sink.now))

pub derive_rises-requires-clause-few : goal.derive_rises-requires-clause-few
derive_rises-requires-clause-few g c =
    let room = rw c.in-Fresh.is at c.requires in
    omega (arith, c.saturating_sub-count.ensures, length-map-range_with_len (rise_at c.in-Fresh.id) 0 (length c.args.root.now.values.items - 1), room)
