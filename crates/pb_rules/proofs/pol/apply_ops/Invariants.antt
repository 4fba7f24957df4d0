use Rattle.std.proofs.Common.{◌≡◌, ◌≤◌, length, reverse}
use Rattle.std.specs.Prelude.{All, flat_map}
use Rattle.pb_steps.specs.Steps.{HasFactor, vars_of_op}
use Rattle.pb_steps.specs.Stacks.{after_ops}
use Rattle.pb_rules.specs.inner.Tops.{AreSoundConstraints}
use Rattle.pb_rules.proofs.pol.apply_ops.Given as goal

abbrev pub invariant-applying : goal.invariant-applying
invariant-applying l = record {
  same : after_ops l.db.live l.ops (reverse l.initial.stack.items) ≡ after_ops l.db.live l.rest (reverse l.stack.items);
  fit : AreSoundConstraints l.db.vars (reverse l.stack.items);
  factors : All HasFactor l.rest;
  known : All (λ v. v ≤ l.db.vars) (flat_map vars_of_op l.rest);
}

abbrev pub decreases-applying : goal.decreases-applying
decreases-applying l = length l.rest
