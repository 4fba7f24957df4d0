use Rattle.std.proofs.Common.{length}
use Rattle.pb_norm.specs.Constraints.{weights}
use Rattle.pb_family.proofs.Looping.{Looping}
use Rattle.pb_family.proofs.Sequence.{reification_piece}
use Rattle.pb_tree.proofs.OutputPieces.{output_reification}
use Rattle.pb_tree.proofs.meanings.derive_outputs.Given as goal

abbrev pub invariant-loop-place : goal.invariant-loop-place
invariant-loop-place g l =
    let us = g.V.TreeSum.list l.values in
    Looping (reification_piece (output_reification l.first (weights l.terms) us)) 2 (length us) l.place (g.T.StepSink.state l.fn.sink) (g.T.StepSink.state l.sink)
