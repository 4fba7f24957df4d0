use Rattle.pbcnf_c.proofs.Encoded.{derived}
use Rattle.pbcnf_c.proofs.Endings.{stops_as}
use Rattle.pbcnf_c.proofs.encoding.derive_into.Goals as goal

pub returns-in-Ok : goal.returns-in-Ok
returns-in-Ok c = derived _ _ _ c.in-Ok.ready _ _ _ _ c.in-Ok.ensures.ready c.in-Ok.ensures.denoted c.put_steps.ensures

pub returns-in-Err : goal.returns-in-Err
returns-in-Err c = stops_as _ _ _ _ _ _ c.in-Err.outcome c.in-Err.ensures.stopped c.stopped.ensures.outcome c.stopped.ensures.size
