use Rattle.std.proofs.Common.{◌≡◌, ◌≤◌, ◌∙◌, ◌++◌, reverse, List, Some, None, subst, ℕ}
use Rattle.std.specs.Prelude.{All, flat_map}
use Rattle.pb_base.proofs.Members.{All-append_both}
use Rattle.pb_steps.specs.declared.op.PolOp.{PolOp}
use Rattle.pb_steps.specs.Stacks.{after_ops}
use Rattle.pb_steps.specs.Steps.{HasFactor, vars_of_op}
use Rattle.pb_rules.proofs.Fits.{after_ops-fit, outcome_true}
use Rattle.pb_rules.proofs.Runs.{run-parts, run-behind, outcome_false, known-both}
use Rattle.pb_rules.proofs.pol.apply_ops.Goals as goal

pub returns-then-not-branch : goal.returns-then-not-branch
returns-then-not-branch c =
    let live = c.args.db.now.live in
    let rest = c.applying.rest.now in
    let run = c.split_at.result.0.now in
    let others = c.split_at.result.1.now in
    let parts : rest ≡ run ++ others = run-parts rest run others c.run_in_front.result c.split_at.ensures.front c.split_at.ensures.back in
    let stuck : after_ops live run (reverse c.applying.stack.items) ≡ None = outcome_false c.in_ok-apply_run.field-0 _ _ c.if-not-branch.true c.in_ok-apply_run.ensures in
    c.applying.invariant.same ∙ run-behind live rest run others (reverse c.applying.stack.items) None parts stuck

pub applying-preserved : goal.applying-preserved
applying-preserved c =
    let live = c.args.db.now.live in
    let vars = c.args.db.now.vars in
    let rest = c.applying.rest.now in
    let run = c.split_at.result.0.now in
    let others = c.split_at.result.1.now in
    let before = reverse c.applying.stack.items in
    let after = reverse c.apply_run.new.stack.items in
    let parts : rest ≡ run ++ others = run-parts rest run others c.run_in_front.result c.split_at.ensures.front c.split_at.ensures.back in
    let done : after_ops live run before ≡ Some after = outcome_true c.in_ok-apply_run.field-0 _ _ c.if-not-branch.false c.in_ok-apply_run.ensures in
    let known = known-both (λ v. v ≤ vars) run others (subst (λ (ops : List PolOp). All (λ (v : ℕ). v ≤ vars) (flat_map vars_of_op ops)) parts c.applying.invariant.known) in
    record {
      same = c.applying.invariant.same ∙ run-behind live rest run others before (Some after) parts done;
      fit = after_ops-fit vars live run before after c.requires.sound known.0 c.applying.invariant.fit done;
      factors = (All-append_both HasFactor run others (subst (All HasFactor) parts c.applying.invariant.factors)).1;
      known = known.1;
    }
