use Rattle.std.proofs.Common.{◌∙◌, ◌++◌, ◌∷◌, [], List, ap, arith, sym}
use Rattle.std.proofs.lemmas.Result.{on_ok_weaker}
use Rattle.pb_steps.specs.declared.op.PolOp.{PolOp}
use Rattle.pb_steps.specs.declared.op.PolOp.TheVariants.{Add}
use Rattle.pb_diagram.proofs.GuardedOps.{many_end, one_end}
use Rattle.pb_diagram.proofs.lines.push_times.Goals as goal

pub returns-then-count-le1 : goal.returns-then-count-le1
returns-then-count-le1 c = on_ok_weaker c.push_ops.result (λ h. h ∙ ap (λ (os : List PolOp). c.args.ops.now.items ++ os) (sym (one_end c.args.count (omega arith)))) c.push_ops.ensures

pub returns : goal.returns
returns c =
    let start = c.args.ops.now.items in
    on_ok_weaker c.push_ops-2.result
    (λ h. h ∙ (ap (λ (op : PolOp). start ++ op ∷ Add ∷ []) c.times.ensures ∙ ap (λ (os : List PolOp). start ++ os) (sym (many_end c.args.count (omega arith)))))
    c.push_ops-2.ensures
