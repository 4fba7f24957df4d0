use Rattle.pb_database.proofs.Fronts.{front-without, front-without_later}
use Rattle.std.proofs.Common.{arith}
use Rattle.pb_database.proofs.entering.leave.Goals as goal

pub returns-then-id-entered : goal.returns-then-id-entered
returns-then-id-entered c = λ vars before after h m.
    front-without vars c.args.entered c.args.id c.args.place before after c.args.engine.now c.remove.new.self c.remove.result c.if-id-entered.true h.hole_left h.at m c.remove.ensures.answer c.remove.ensures.after

pub returns-else-id-entered : goal.returns-else-id-entered
returns-else-id-entered c = λ vars before after h m. front-without_later vars c.args.entered c.args.id before after c.args.engine.now (omega (arith, c.if-id-entered.false)) h.hole_left m
