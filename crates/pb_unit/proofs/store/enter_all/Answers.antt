use Rattle.std.proofs.Common.{◌∙◌, take, List, sym, subst, arith}
use Rattle.std.proofs.lemmas.List.{take_all}
use Rattle.pb_base.specs.declared.literal.Term.{Term}
use Rattle.pb_norm.specs.Constraints.{weights}
use Rattle.pb_unit.specs.Index.{IsEntered}
use Rattle.pb_unit.proofs.Visits.{within_at}
use Rattle.pb_unit.proofs.Entering.{weights-more, entered_fits}
use Rattle.pb_unit.proofs.store.enter_all.Goals as goal

pub enter_one-requires-clause-within : goal.enter_one-requires-clause-within
enter_one-requires-clause-within c = within_at c.args.spot.now.vars c.args.terms.now c.loop-term.term-index c.term-item.result c.loop-term-test.true c.term-item.is c.requires.within

pub enter_one-requires-clause-fits : goal.enter_one-requires-clause-fits
enter_one-requires-clause-fits c =
    entered_fits c.args.spot.now.vars c.args.spot.now.places.now c.loop-term.lists c.loop-term.kept c.args.spot.now.place c.args.terms.now c.loop-term.term-index c.term-item.result c.loop-term-test.true c.term-item.is c.loop-term.invariant.entered c.requires.fits

pub loop-term-preserved : goal.loop-term-preserved
loop-term-preserved c = record {
  entered = subst (IsEntered c.args.spot.now.vars c.args.spot.now.places.now c.enter_one.new.lists c.enter_one.new.kept c.args.spot.now.place) (sym (weights-more c.args.terms.now c.loop-term.term-index c.term-item.result c.loop-term-test.true c.term-item.is))
      (c.if-not-enter_one.ensures.entered (weights (take c.loop-term.term-index c.args.terms.now)) c.loop-term.invariant.entered);
  alerts = λ p. c.enter_one.ensures.alerts p ∙ c.loop-term.invariant.alerts p;
}

pub returns-clause-entered : goal.returns-clause-entered
returns-clause-entered c =
    subst (λ (ts : List Term). IsEntered c.args.spot.now.vars c.args.spot.now.places.now c.loop-term.lists c.loop-term.kept c.args.spot.now.place (weights ts)) (take_all c.loop-term.term-index c.args.terms.now (omega arith)) c.loop-term.invariant.entered

pub returns-then-not-enter_one-clause-alerts : goal.returns-then-not-enter_one-clause-alerts
returns-then-not-enter_one-clause-alerts c = λ p. c.enter_one.ensures.alerts p ∙ c.loop-term.invariant.alerts p
