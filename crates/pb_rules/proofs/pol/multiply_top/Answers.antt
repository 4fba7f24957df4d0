use Rattle.std.proofs.Common.{ℕ, ◌∷◌, Some, reverse, ap}
use Rattle.std.proofs.lemmas.Result.{IfOk-weaker}
use Rattle.pb_steps.specs.Operations.{multiple}
use Rattle.pb_steps.specs.declared.op.PolOp.TheVariants.{Mul}
use Rattle.pb_rules.proofs.Fits.{fitted-top}
use Rattle.pb_rules.proofs.pol.multiply_top.Goals as goal

pub returns : goal.returns
returns c = λ n e. IfOk-weaker c.push_onto.result _ _ (λ done outcome.
    fitted-top (Mul n) c.args.stack.now.items c.pop.new.self.items c.push_onto.new.stack.items c.in-Some.c (multiple c.args.factor c.in-Some.c) c.in_ok-made.made done c.in-Some.ensures.items
    (ap (λ (f : ℕ). Some (multiple f c.in-Some.c ∷ reverse c.pop.new.self.items)) e) c.in_ok-made.ensures outcome) c.push_onto.ensures
