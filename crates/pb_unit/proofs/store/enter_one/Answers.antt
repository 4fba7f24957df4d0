use Rattle.std.proofs.Common.{[], refl, arith}
use Rattle.pb_norm.specs.Constraints.{weighted}
use Rattle.pb_unit.proofs.Entering.{code-within, counted_same, entered_more}
use Rattle.pb_unit.proofs.store.enter_one.Goals as goal

pub push-requires : goal.push-requires
push-requires c = omega (arith, c.requires.counts.width, code-within c.args.spot.now.vars c.args.term.now.lit c.requires.within)

pub returns-then-not-push-clause-refused : goal.returns-then-not-push-clause-refused
returns-then-not-push-clause-refused c = counted_same c.args.spot.now.vars c.args.spot.now.places.now c.args.lists.now c.push.new.self c.args.kept.now [] c.if-not-push.ensures.refused c.requires.counts

pub returns-clause-entered : goal.returns-clause-entered
returns-clause-entered c = λ ts h.
    entered_more c.args.spot.now.vars c.args.spot.now.places.now c.args.lists.now c.push.new.self c.args.kept.now c.raise.new.kept c.args.spot.now.place ts (record { place = c.args.spot.now.place; coef = c.weight-coef.result }) (weighted c.args.term.now) c.if-not-push.ensures.pushed refl c.weight-coef.ensures c.requires.within c.args.spot.now.empty c.requires.known c.requires.fits c.raise.ensures h
