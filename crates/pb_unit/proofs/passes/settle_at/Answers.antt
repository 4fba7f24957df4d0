use Rattle.std.proofs.Common.{arith}
use Rattle.pb_unit.specs.States.{standing}
use Rattle.pb_unit.proofs.Passing.{looked_calm}
use Rattle.pb_unit.proofs.Visits.{stays}
use Rattle.pb_unit.proofs.passes.settle_at.Goals as goal

pub returns-then-is_easy-clause-advances : goal.returns-then-is_easy-clause-advances
returns-then-is_easy-clause-advances c = λ given. stays (standing c.args.places.now) given c.args.held.now.lits

pub returns-then-is_easy-clause-calm : goal.returns-then-is_easy-clause-calm
returns-then-is_easy-clause-calm c = c.is_easy.ensures c.if-is_easy.true

pub look-requires-clause-bound : goal.look-requires-clause-bound
look-requires-clause-bound c = λ d at. omega (arith, c.room-left.ensures d at)

pub returns-clause-calm : goal.returns-clause-calm
returns-clause-calm c = looked_calm c.look.result c.args.places.now c.args.place c.room-left.result c.args.held.now.lits c.look.new.held.lits c.room-left.ensures c.look.ensures.calm
