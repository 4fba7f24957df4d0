use Rattle.std.proofs.Common.{◌≤◌, ◌∙◌, [], List, length, length-append, refl, arith, ap, ℕ, subst}
use Rattle.pb_base.specs.declared.literal.Lit.{Lit}
use Rattle.pb_norm.specs.Constraints.{Constraint}
use Rattle.pb_unit.specs.States.{standing}
use Rattle.pb_unit.specs.Steps.{Advances}
use Rattle.pb_unit.proofs.Visits.{then}
use Rattle.pb_unit.proofs.queue.tell_rest.Goals as goal

longer : (cs : List Constraint) (before after : List Lit) → Advances cs [] before after → length before ≤ length after
longer cs before after f = omega (arith, ap (λ (xs : List Lit). length xs) f.extends, length-append f.more before)

pub returns-in-Some-clause-advances : goal.returns-in-Some-clause-advances
returns-in-Some-clause-advances c = λ given.
    then (standing c.args.places.now) given c.args.held.now.lits c.queue.held.lits c.tell.new.held.lits (c.queue.invariant.advances given) (c.tell.ensures.advances given)

pub returns-in-Some-clause-in_held : goal.returns-in-Some-clause-in_held
returns-in-Some-clause-in_held c = omega (arith, longer (standing c.args.places.now) c.queue.held.lits c.tell.new.held.lits (c.tell.ensures.advances []), c.queue-test.true, c.len.ensures.count)

pub queue-preserved : goal.queue-preserved
queue-preserved c = record {
  vars = c.tell.ensures.vars ∙ c.queue.invariant.vars;
  advances = λ given. then (standing c.args.places.now) given c.args.held.now.lits c.queue.held.lits c.tell.new.held.lits (c.queue.invariant.advances given) (c.tell.ensures.advances given);
  in_held = omega (arith, longer (standing c.args.places.now) c.queue.held.lits c.tell.new.held.lits (c.tell.ensures.advances []), c.queue-test.true, c.len.ensures.count);
  counts = c.tell.ensures.counts;
  alerts = λ p. c.tell.ensures.alerts p ∙ c.queue.invariant.alerts p;
  calm = c.in_default.ensures.calm refl;
}

pub returns-clause-calm : goal.returns-clause-calm
returns-clause-calm c = λ e. (subst (λ (n : ℕ). n ≤ c.queue.counted) c.len.ensures.count c.queue-test.false, c.queue.invariant.calm)
