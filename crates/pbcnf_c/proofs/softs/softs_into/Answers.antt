use Rattle.pbcnf_c.specs.Choices.{bound_of}
use Rattle.pbcnf_c.specs.Softs.{no_costs, AreSofts, StopsSofts}
use Rattle.pbcnf_c.proofs.Costed.{not_softened, softened}
use Rattle.pbcnf_c.proofs.Endings.{stops_as}
use Rattle.pbcnf_c.proofs.softs.softs_into.Goals as goal

pub returns-in-Ok : goal.returns-in-Ok
returns-in-Ok c = softened (bound_of c.args.bound.now) c.bound_of.result c.args.opb.now c.in-Ok.problem c.args.room.now c.put_softs.new.room _ _ c.bound_of.ensures c.in-Ok.ensures.within c.in-Ok.ensures.denotes c.put_softs.ensures

pub returns-in-Err : goal.returns-in-Err
returns-in-Err c = stops_as (AreSofts (bound_of c.args.bound.now) c.args.opb.now) (StopsSofts (bound_of c.args.bound.now) c.args.opb.now) no_costs c.args.room.now _ _ c.in-Err.outcome (not_softened (bound_of c.args.bound.now) c.bound_of.result c.args.opb.now c.in-Err.outcome c.bound_of.ensures c.in-Err.ensures.stopped) c.uncosted.ensures.outcome c.uncosted.ensures.costs
