-- Faults of encoding. Our own.
use Rattle.pb_family.specs.declared.sink.SinkFault.{SinkFault}
use Rattle.pb_family.specs.declared.sink.SinkFault.TheVariants as sink
use Rattle.pb_encode.specs.declared.fault.MeasureFault.{MeasureFault}
use Rattle.pb_encode.specs.declared.fault.MeasureFault.TheVariants as measure
use Rattle.pb_encode.specs.declared.fault.EncodeFault.{EncodeFault}
use Rattle.pb_encode.specs.declared.fault.EncodeFault.TheVariants as encode

abbrev pub as_encode_fault : MeasureFault → EncodeFault
as_encode_fault (measure.Limit which) = encode.Limit which
as_encode_fault measure.NoMemory = encode.NoMemory

abbrev pub of_sink : SinkFault → EncodeFault
of_sink sink.Failed = encode.WriteFault
of_sink sink.NoMemory = encode.NoMemory
