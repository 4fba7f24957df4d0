use Rattle.std.proofs.Common.{◌∙◌, ap, refl}
use Rattle.std.proofs.lemmas.Result.{IfOk-weaker}
use Rattle.pb_operations.specs.Room.{fitting}
use Rattle.pb_steps.specs.Operations.{saturation}
use Rattle.pb_steps.specs.declared.op.PolOp.TheVariants.{Saturate}
use Rattle.pb_rules.proofs.Fits.{fitted-top}
use Rattle.pb_rules.proofs.pol.saturate_top.Goals as goal

pub returns : goal.returns
returns c = IfOk-weaker c.push_onto.result _ _ (λ done outcome.
    fitted-top Saturate c.args.stack.now.items c.pop.new.self.items c.push_onto.new.stack.items c.in-Some.c (saturation c.in-Some.c) c.fitting-made.result done c.in-Some.ensures.items
    (refl)
    (c.fitting-made.ensures ∙ ap fitting c.in_ok-saturation.ensures) outcome) c.push_onto.ensures
