use Rattle.std.proofs.Common.{◌∙◌, [], Option, arith, ap, refl}
use Rattle.std.specs.Prelude.{is_some}
use Rattle.pb_norm.specs.Constraints.{Constraint}
use Rattle.pb_unit.specs.States.{standing}
use Rattle.pb_unit.proofs.Passing.{pass_more}
use Rattle.pb_unit.proofs.Sweeping.{stands-below}
use Rattle.pb_unit.proofs.Visits.{stays, then}
use Rattle.pb_unit.proofs.passes.pass.Goals as goal

pub loop-place-init : goal.loop-place-init
loop-place-init c = record {
  vars = refl;
  advances = λ given. stays (standing c.args.places.now) given c.args.held.now.lits;
  calm = λ p d below at. absurd (omega (arith, below));
}

pub settle_at-requires-clause-narrow : goal.settle_at-requires-clause-narrow
settle_at-requires-clause-narrow c = λ d at. c.requires.narrow c.loop-place.place d at

pub returns-then-not-settle_at-clause-advances : goal.returns-then-not-settle_at-clause-advances
returns-then-not-settle_at-clause-advances c = λ given.
    then (standing c.args.places.now) given c.args.held.now.lits c.loop-place.held.lits c.settle_at.new.held.lits (c.loop-place.invariant.advances given) (c.settle_at.ensures.advances given)

pub loop-place-preserved : goal.loop-place-preserved
loop-place-preserved c = record {
  vars = c.settle_at.ensures.vars ∙ c.loop-place.invariant.vars;
  advances = λ given. then (standing c.args.places.now) given c.args.held.now.lits c.loop-place.held.lits c.settle_at.new.held.lits (c.loop-place.invariant.advances given) (c.settle_at.ensures.advances given);
  calm =
      pass_more c.args.places.now c.loop-place.place c.args.held.now.lits c.loop-place.held.lits c.settle_at.new.held.lits
      (c.loop-place.invariant.advances []).kept (c.settle_at.ensures.advances []).kept c.if-not-settle_at.ensures.calm c.loop-place.invariant.calm;
}

pub returns-clause-calm : goal.returns-clause-calm
returns-clause-calm c = λ _ p d at.
    c.loop-place.invariant.calm p d (omega (arith, stands-below c.args.places.now p (ap (λ (o : Option Constraint). is_some o) at), c.loop-place-test.false, c.len-place-end.ensures)) at
