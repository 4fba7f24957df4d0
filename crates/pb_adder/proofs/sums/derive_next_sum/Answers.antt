use Rattle.std.proofs.Common.{[], ◌∷◌, refl, ap, subst, sym}
use Rattle.std.specs.Prelude.{Bool, false, cond}
use Rattle.pb_steps.specs.declared.step.Step.TheVariants.{Pol}
use Rattle.pb_derive.specs.Deletions.{deletion_steps}
use Rattle.pb_family.specs.StepSinks.{TakesSteps}
use Rattle.pb_adder.specs.AdderSteps.{sum_ops}
use Rattle.pb_adder.proofs.SumSteps.{block_piece}
use Rattle.pb_adder.proofs.Walking.{part_stopped, parts_handed}
use Rattle.pb_adder.proofs.sums.derive_next_sum.Goals as goal

pub returns-in_err-derive_sum : goal.returns-in_err-derive_sum
returns-in_err-derive_sum g c =
    let old = g.T.StepSink.state c.args.sink.now in
    let mid = g.T.StepSink.state c.derive_sum.new.sink in
    let block = c.args.block in
    part_stopped c.from_residual.result _ (block_piece c.args.is_later block.id c.args.running block.levels.now) (Pol (sum_ops block.id block.levels.now c.args.running) ∷ []) (cond c.args.is_later (deletion_steps 1 c.args.running 1) []) old mid c.from_residual.ensures.1 refl
    c.in_err-derive_sum.ensures

pub returns-then-is_later : goal.returns-then-is_later
returns-then-is_later g c =
    let old = g.T.StepSink.state c.args.sink.now in
    let mid = g.T.StepSink.state c.derive_sum.new.sink in
    let piece = λ (b : Bool). block_piece b c.args.block.id c.args.running c.args.block.levels.now in
    parts_handed c.derive_deletion.result (piece c.args.is_later) (piece false) (deletion_steps 1 c.args.running 1) old mid (g.T.StepSink.state c.derive_deletion.new.sink) (ap piece c.if-is_later.true) c.in_ok-derive_sum.ensures c.derive_deletion.ensures

pub returns-else-is_later : goal.returns-else-is_later
returns-else-is_later g c =
    let old = g.T.StepSink.state c.args.sink.now in
    let mid = g.T.StepSink.state c.derive_sum.new.sink in
    subst (λ (b : Bool). TakesSteps (block_piece b c.args.block.id c.args.running c.args.block.levels.now) old mid) (sym c.if-is_later.false) c.in_ok-derive_sum.ensures
