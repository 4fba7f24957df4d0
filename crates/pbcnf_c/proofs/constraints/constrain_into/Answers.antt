use Rattle.pbcnf_c.proofs.Constrained.{constrained}
use Rattle.pbcnf_c.proofs.Endings.{stops_as}
use Rattle.pbcnf_c.proofs.constraints.constrain_into.Goals as goal

pub returns-in-Ok : goal.returns-in-Ok
returns-in-Ok c = constrained _ _ c.in-Ok.ready _ _ _ _ c.in-Ok.ensures.ready c.in-Ok.ensures.of c.put_integers.ensures

pub returns-in-Err : goal.returns-in-Err
returns-in-Err c = stops_as _ _ _ _ _ _ c.in-Err.blame.outcome c.in-Err.ensures.stopped c.stopped.ensures.outcome c.stopped.ensures.size
