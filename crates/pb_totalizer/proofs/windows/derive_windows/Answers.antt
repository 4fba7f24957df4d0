use Rattle.pb_family.proofs.Deriving.{steps_same}
use Rattle.pb_family.proofs.Sequence.{one_each}
use Rattle.pb_totalizer.specs.inner.Larges.{large_of}
use Rattle.pb_totalizer.specs.inner.Windows.{window_in, windows_of}
use Rattle.pb_totalizer.proofs.windows.derive_windows.Goals as goal

pub returns : goal.returns
returns g c =
    let w = large_of c.args.of.now in
    let old = g.T.StepSink.state c.args.sink.now in
    steps_same c.derive_pieces.result _ _ old (g.T.StepSink.state c.derive_pieces.new.sink) (one_each (window_in w c.args.block) old.next 0 (windows_of w)) c.derive_pieces.ensures
