use Rattle.std.proofs.Common.{◌∙◌, ap, List, arith}
use Rattle.std.proofs.lemmas.Bool.{eqb-true}
use Rattle.pb_norm.specs.Constraints.{weight}
use Rattle.pb_unit.specs.declared.kept.Counters.{Counters}
use Rattle.pb_unit.specs.States.{EngineState, slack_at}
use Rattle.pb_unit.specs.Index.{room_at}
use Rattle.pb_unit.proofs.Queueing.{room_told}
use Rattle.pb_unit.proofs.engine.Engine.slack.Goals as goal

pub slack-requires-clause-told : goal.slack-requires-clause-told
slack-requires-clause-told c = λ told d at.
    c.room_of-left.ensures ∙
    (ap (λ (ks : List Counters). room_at ks c.args.place) c.deref.ensures.value ∙
    room_told c.self.inside.queue.held.vars c.self.inside.queue.places c.self.inside.queue.lists c.self.inside.queue.kept.items c.self.inside.queue.tight.items c.self.inside.queue.held.lits c.self.inside.queue.counted c.self.inside.queue.phase c.self.invariant.queue
    (eqb-true c.self.inside.queue.counted c.len.result told ∙ c.len.ensures.count) c.args.place d at)

pub slack-requires-clause-narrow : goal.slack-requires-clause-narrow
slack-requires-clause-narrow c = λ d at.
    omega (arith, ap weight (c.self.invariant.queue.counts.same c.args.place d at), c.self.invariant.queue.counts.narrow c.args.place)

pub returns : goal.returns
returns c = c.slack.ensures ∙ ap (λ (s : EngineState). slack_at s c.args.place) c.self.view_is
