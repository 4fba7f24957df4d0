use Rattle.std.proofs.Common.{ℕ, ap, subst, sym}
use Rattle.std.specs.Prelude.{Option}
use Rattle.pb_family.specs.StepSinks.{TakesSteps}
use Rattle.pb_family.proofs.Deriving.{steps_same, takes_no_steps}
use Rattle.pb_diagram.specs.inner.Parts.{off_steps}
use Rattle.pb_diagram.proofs.tier.Tier.derive_off.Goals as goal

pub returns-in-None : goal.returns-in-None
returns-in-None g c =
    let t = c.args.self.now in
    let old = g.T.StepSink.state c.args.sink.now in
    subst (λ (f : Option ℕ). TakesSteps (off_steps t.lit.now t.after c.args.forward f c.args.on old.next) old old) (sym c.in-None.is) (takes_no_steps old)

pub returns-in-Some : goal.returns-in-Some
returns-in-Some g c =
    let t = c.args.self.now in
    let old = g.T.StepSink.state c.args.sink.now in
    steps_same c.hand_clause.result _ _ old (g.T.StepSink.state c.hand_clause.new.sink) (ap (λ (f : Option ℕ). off_steps t.lit.now t.after c.args.forward f c.args.on old.next) (sym c.in-Some.is)) (c.hand_clause.ensures _ c.off_clause.ensures)
