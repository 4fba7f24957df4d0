use Rattle.std.proofs.Common.{◌+◌, ℕ, take, sym, subst, arith}
use Rattle.std.proofs.lemmas.Bool.{OnTrue_at}
use Rattle.pb_database.specs.inner.Mirrors.{AreWithin, IsMirrored}
use Rattle.pb_database.proofs.Fronts.{same-again, same-length, within-same}
use Rattle.pb_database.proofs.entering.enter_rest.Goals as goal

pub enter_next-requires-clause-within : goal.enter_next-requires-clause-within
enter_next-requires-clause-within c =
    subst (λ (vars : ℕ). AreWithin vars c.rest.slots.items) (sym c.rest.invariant.mirrored.vars_are) (within-same c.args.engine.now.vars c.args.slots.now.items c.rest.slots.items c.rest.invariant.same c.requires.within)

pub returns-then-not-enter_next-clause-same : goal.returns-then-not-enter_next-clause-same
returns-then-not-enter_next-clause-same c = same-again c.args.slots.now.items c.rest.slots.items c.enter_next.new.slots.items c.rest.invariant.same c.enter_next.ensures.same

pub returns-then-not-enter_next-clause-few : goal.returns-then-not-enter_next-clause-few
returns-then-not-enter_next-clause-few c = omega (arith, c.rest.invariant.few, same-length c.rest.slots.items c.enter_next.new.slots.items c.enter_next.ensures.same)

pub rest-smaller : goal.rest-smaller
rest-smaller c = omega (arith, c.rest-test.true, same-length c.rest.slots.items c.enter_next.new.slots.items c.enter_next.ensures.same)

pub rest-preserved : goal.rest-preserved
rest-preserved c = record {
  same = same-again c.args.slots.now.items c.rest.slots.items c.enter_next.new.slots.items c.rest.invariant.same c.enter_next.ensures.same;
  few = omega (arith, c.rest-test.true, same-length c.rest.slots.items c.enter_next.new.slots.items c.enter_next.ensures.same);
  mirrored = subst (λ (vars : ℕ). IsMirrored vars (take (c.rest.entered + 1) c.enter_next.new.slots.items) c.enter_next.new.engine) c.rest.invariant.mirrored.vars_are (OnTrue_at c.if-not-enter_next.false c.enter_next.ensures.entered);
}
