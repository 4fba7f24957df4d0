use Rattle.std.proofs.Common.{◌≡◌, ◌+◌, ◌∙◌, ◌++◌, [], ◌∷◌, ℕ, List, ap, arith, sym}
use Rattle.pb_steps.specs.declared.op.PolOp.{PolOp}
use Rattle.pb_steps.specs.declared.op.PolOp.TheVariants.{Push, Add}
use Rattle.pb_diagram.specs.Guards.{path}
use Rattle.pb_diagram.proofs.GuardedOps.{path_begun, path_more, two_pushed}
use Rattle.pb_diagram.proofs.lines.push_path.Goals as goal

pub loop-place-init : goal.loop-place-init
loop-place-init c = record {
  some = omega arith;
  pushed = c.in_ok-push_ops.ensures ∙ ap (λ (os : List PolOp). c.args.ops.now.items ++ os) (sym (path_begun c.args.order c.args.from));
}

pub loop-place-preserved : goal.loop-place-preserved
loop-place-preserved c =
    let start = c.args.ops.now.items in
    let order = c.args.order in
    let from = c.args.from in
    let i = c.loop-place.place in
    record {
      some = omega (arith, c.loop-place.invariant.some);
      pushed =
          two_pushed start (path order from i) (Push (order + i) ∷ Add ∷ []) c.loop-place.ops.items c.push_ops-in-loop-place.new.ops.items c.loop-place.invariant.pushed c.in_ok-push_ops-2.ensures
          ∙ ap (λ (os : List PolOp). start ++ os) (sym (path_more order from i c.loop-place.invariant.some));
    }

pub returns : goal.returns
returns c =
    c.loop-place.invariant.pushed
    ∙ ap (λ (n : ℕ). c.args.ops.now.items ++ path c.args.order c.args.from n) (let e : c.loop-place.place ≡ c.args.to = omega (arith, c.loop-place.auto.place-end, c.loop-place-test.false) in e)
