use Rattle.std.proofs.Common.{[], ◌∷◌, arith}
use Rattle.std.proofs.lemmas.Result.{on_ok_weaker}
use Rattle.pb_steps.specs.declared.op.PolOp.TheVariants.{Axiom}
use Rattle.pb_diagram.proofs.GuardedOps.{never_pushed, times_pushed}
use Rattle.pb_diagram.proofs.lines.push_literals.Goals as goal

pub returns-then-count-eq0 : goal.returns-then-count-eq0
returns-then-count-eq0 c = never_pushed c.args.ops.now.items (Axiom c.args.lit ∷ []) c.args.count c.if-count-eq0.true

pub returns : goal.returns
returns c =
    on_ok_weaker c.push_times.result
    (λ h. times_pushed c.args.ops.now.items (Axiom c.args.lit ∷ []) c.push_ops.new.ops.items c.push_times.new.ops.items c.args.count (omega arith) c.in_ok-push_ops.ensures h)
    c.push_times.ensures
