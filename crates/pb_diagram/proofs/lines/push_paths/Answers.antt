use Rattle.std.proofs.Common.{◌∙◌, arith}
use Rattle.std.proofs.lemmas.Result.{on_ok_weaker}
use Rattle.pb_diagram.specs.Guards.{path}
use Rattle.pb_diagram.proofs.GuardedOps.{no_path, some_path, times_pushed}
use Rattle.pb_diagram.proofs.lines.push_paths.Goals as goal

pub returns-then-to-from : goal.returns-then-to-from
returns-then-to-from c = no_path c.args.ops.now.items c.args.count c.args.order c.args.from c.args.to (omega arith)

pub returns : goal.returns
returns c =
    let a = c.args in
    on_ok_weaker c.push_times.result
    (λ h. times_pushed a.ops.now.items (path a.order a.from a.to) c.push_path.new.ops.items c.push_times.new.ops.items a.count c.requires.some c.in_ok-push_path.ensures h ∙ some_path a.ops.now.items a.count a.order a.from a.to (omega arith))
    c.push_times.ensures
