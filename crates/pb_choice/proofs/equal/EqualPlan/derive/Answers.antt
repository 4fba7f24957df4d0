use Rattle.std.proofs.Common.{sym, subst}
use Rattle.pb_family.specs.StepSinks.{HandsFrom}
use Rattle.pb_choice.specs.declared.equal.EqualPlan.{EqualPlan}
use Rattle.pb_choice.specs.EqualPlans.{planned_steps}
use Rattle.pb_choice.specs.inner.Ready.{MayDerive, MayEmit}
use Rattle.pb_choice.proofs.equal.EqualPlan.derive.Given.{Over}
use Rattle.pb_choice.proofs.equal.EqualPlan.derive.Goals.{Start}
use Rattle.pb_choice.proofs.equal.EqualPlan.derive.Goals as goal

-- what is asked is asked of the plan's parts too
ready : (g : Over) (c : Start g) → MayDerive c.args.first c.args.low c.args.high (g.T.StepSink.state c.args.sink.now).next c.args.self.now
ready g c =
    let r = c.requires in
    let emits : MayEmit c.args.first c.args.self.now = record { original = r.original; from = r.from; fits = r.fits } in
    record { emits = emits; clauses = r.clauses; low_given = r.low_given; low_known = r.low_known; high_given = r.high_given; high_known = r.high_known; few = r.few }

pub derive_joint-requires : goal.derive_joint-requires
derive_joint-requires g c = record { ready = subst (MayDerive c.args.first c.args.low c.args.high (g.T.StepSink.state c.args.sink.now).next) c.in-Joint.is (ready g (goal.at.derive_joint-requires g c).Start) }

pub returns-in-Joint : goal.returns-in-Joint
returns-in-Joint g c =
    subst (λ (p : EqualPlan). HandsFrom (planned_steps p c.args.first c.args.low c.args.high) c.derive_joint.result (g.T.StepSink.state c.args.sink.now) (g.T.StepSink.state c.derive_joint.new.sink)) (sym c.in-Joint.is) c.derive_joint.ensures

pub derive_halves-requires : goal.derive_halves-requires
derive_halves-requires g c = record { ready = subst (MayDerive c.args.first c.args.low c.args.high (g.T.StepSink.state c.args.sink.now).next) c.in-Split.is (ready g (goal.at.derive_halves-requires g c).Start) }

pub returns-in-Split : goal.returns-in-Split
returns-in-Split g c =
    subst (λ (p : EqualPlan). HandsFrom (planned_steps p c.args.first c.args.low c.args.high) c.derive_halves.result (g.T.StepSink.state c.args.sink.now) (g.T.StepSink.state c.derive_halves.new.sink)) (sym c.in-Split.is) c.derive_halves.ensures
