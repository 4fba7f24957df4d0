use Rattle.std.proofs.Common.{ℕ, ◌∙◌, ◌∷◌, Some, reverse, ap}
use Rattle.std.proofs.lemmas.Result.{IfOk-weaker}
use Rattle.pb_operations.specs.Room.{fitting}
use Rattle.pb_steps.specs.Operations.{division}
use Rattle.pb_steps.specs.declared.op.PolOp.TheVariants.{Div}
use Rattle.pb_rules.proofs.Fits.{fitted-top}
use Rattle.pb_rules.proofs.pol.divide_top.Goals as goal

pub returns : goal.returns
returns c = λ n e. IfOk-weaker c.push_onto.result _ _ (λ done outcome.
    fitted-top (Div n) c.args.stack.now.items c.pop.new.self.items c.push_onto.new.stack.items c.in-Some.c (division c.args.divisor c.in-Some.c) c.fitting-made.result done c.in-Some.ensures.items
    (ap (λ (d : ℕ). Some (division d c.in-Some.c ∷ reverse c.pop.new.self.items)) e)
    (c.fitting-made.ensures ∙ ap fitting c.in_ok-division.ensures) outcome) c.push_onto.ensures
