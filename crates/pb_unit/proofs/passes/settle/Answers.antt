use Rattle.std.proofs.Common.{◌≡◌, ◌∙◌, [], length, arith, refl}
use Rattle.pb_unit.specs.States.{standing}
use Rattle.pb_unit.proofs.Passing.{grown, still_fixed, unmoved}
use Rattle.pb_unit.proofs.Queueing.{longer}
use Rattle.pb_unit.proofs.Visits.{stays, then}
use Rattle.pb_unit.proofs.passes.settle.Goals as goal

pub loop-pass-init : goal.loop-pass-init
loop-pass-init c = record {
  vars = refl;
  advances = λ given. stays (standing c.args.places.now) given c.args.held.now.lits;
  joined = omega arith;
}

pub returns-in-Some-clause-advances : goal.returns-in-Some-clause-advances
returns-in-Some-clause-advances c = λ given.
    then (standing c.args.places.now) given c.args.held.now.lits c.loop-pass.held.lits c.pass.new.held.lits (c.loop-pass.invariant.advances given) (c.pass.ensures.advances given)

pub returns-then-len-before-clause-advances : goal.returns-then-len-before-clause-advances
returns-then-len-before-clause-advances c = λ given.
    then (standing c.args.places.now) given c.args.held.now.lits c.loop-pass.held.lits c.pass.new.held.lits (c.loop-pass.invariant.advances given) (c.pass.ensures.advances given)

pub returns-then-len-before-clause-ends : goal.returns-then-len-before-clause-ends
returns-then-len-before-clause-ends c =
    let count : length c.pass.new.held.lits ≡ length c.loop-pass.held.lits = omega (arith, c.len.ensures.count, c.len-before.ensures.count, c.if-len-before.true) in
    still_fixed c.args.places.now c.loop-pass.held.lits c.pass.new.held.lits
    (unmoved (standing c.args.places.now) [] c.loop-pass.held.lits c.pass.new.held.lits (c.pass.ensures.advances []) count) (c.in_default.ensures.calm refl)

pub loop-pass-preserved : goal.loop-pass-preserved
loop-pass-preserved c = record {
  vars = c.pass.ensures.vars ∙ c.loop-pass.invariant.vars;
  advances = λ given. then (standing c.args.places.now) given c.args.held.now.lits c.loop-pass.held.lits c.pass.new.held.lits (c.loop-pass.invariant.advances given) (c.pass.ensures.advances given);
  joined =
      grown (length c.args.held.now.lits) c.loop-pass._pass (length c.loop-pass.held.lits) (length c.pass.new.held.lits)
      (longer (standing c.args.places.now) [] c.loop-pass.held.lits c.pass.new.held.lits (c.pass.ensures.advances []))
      (λ same. c.if-len-before.false (omega (arith, same, c.len.ensures.count, c.len-before.ensures.count))) c.loop-pass.invariant.joined;
}

pub returns-clause-more : goal.returns-clause-more
returns-clause-more c = λ _. omega (arith, c.loop-pass.invariant.joined, c.loop-pass-test.false)
