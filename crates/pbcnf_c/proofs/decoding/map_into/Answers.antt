use Rattle.pbcnf_c.specs.Decodings.{AreNamesOf, StopsMapping}
use Rattle.pbcnf_c.proofs.Decoded.{mapped, not_mapped}
use Rattle.pbcnf_c.proofs.Endings.{stops_as}
use Rattle.pbcnf_c.proofs.decoding.map_into.Goals as goal

pub returns-in-Ok : goal.returns-in-Ok
returns-in-Ok c = mapped c.args.opb.now c.in-Ok.problem c.args.room.now c.put_names.new.room _ _ c.in-Ok.ensures.denotes c.put_names.ensures

pub returns-in-Err : goal.returns-in-Err
returns-in-Err c = stops_as (AreNamesOf c.args.opb.now) (StopsMapping c.args.opb.now) 0 c.args.room.now _ _ c.in-Err.outcome (not_mapped c.args.opb.now c.in-Err.outcome c.in-Err.ensures.stopped) c.silent.ensures.outcome c.silent.ensures.length
