use Rattle.std.proofs.Common.{[], ◌∷◌, pos}
use Rattle.std.proofs.lemmas.Result.{on_ok_weaker}
use Rattle.pb_steps.specs.declared.op.PolOp.TheVariants.{Add, Div}
use Rattle.pb_diagram.specs.Guards.{if_false_ops, if_true_ops}
use Rattle.pb_diagram.specs.inner.Tiers.{rung_in}
use Rattle.pb_diagram.proofs.GuardedOps.{three_pushed}
use Rattle.pb_diagram.proofs.tier.Tier.push_split.Goals as goal

pub returns : goal.returns
returns c =
    let r = rung_in c.args.self.now in
    on_ok_weaker c.push_ops.result
    (three_pushed c.args.ops.now.items (if_false_ops r c.args.goal.now c.args.widest) (if_true_ops r c.args.goal.now c.args.widest) (Add ∷ Div (pos 2) ∷ []) c.push_if_false.new.ops.items c.push_if_true.new.ops.items c.push_ops.new.ops.items c.in_ok-push_if_false.ensures
    c.in_ok-push_if_true.ensures)
    c.push_ops.ensures
