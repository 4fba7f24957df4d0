use Rattle.pb_norm.specs.Halves.{halves_of}
use Rattle.pb_norm.proofs.HalvesLoaded.{half_more, halves_done}
use Rattle.pb_norm.proofs.loading.load_statement.Goals as goal

pub loop-half-preserved : goal.loop-half-preserved
loop-half-preserved c = half_more c.args.statement.now c.halves_of-half-items.result.now (halves_of c.args.statement.now.relation) c.loop-half.half-index _ c.args.list.now.items c.loop-half.list.items c.push.new.self.items c.in_ok-constraint.constraint c.halves_of-half-items.ensures c.loop-half-test.true c.in_ok-constraint.ensures.form c.loop-half.invariant c.in_ok-push.ensures.items

pub returns : goal.returns
returns c = halves_done c.args.statement.now c.halves_of-half-items.result.now (halves_of c.args.statement.now.relation) c.loop-half.half-index c.args.list.now.items c.loop-half.list.items c.halves_of-half-items.ensures c.loop-half-test.false c.loop-half.invariant
