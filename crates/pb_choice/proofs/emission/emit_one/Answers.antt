use Rattle.std.proofs.Common.{◌∷◌, []}
use Rattle.pb_family.specs.declared.sink.SinkFault.TheVariants as fault
use Rattle.pb_family.proofs.Emission.{emitting_starts}
use Rattle.pb_family.proofs.Stopping.{stops_fault}
use Rattle.pb_choice.proofs.emission.emit_one.Goals as goal

pub returns-in_err-clause : goal.returns-in_err-clause
returns-in_err-clause g c = stops_fault c.from_residual.result fault.Failed (c.args.clause.now ∷ []) [] _ c.from_residual.ensures.1 (emitting_starts (c.args.clause.now ∷ []) _) c.in_err-clause.ensures
