use Rattle.std.proofs.Common.{◌≡◌, ◌∙◌, sym, ap, false}
use Rattle.pb_base.specs.Literals.{negated, is_among}
use Rattle.pb_unit.specs.States.{EngineState, IsReached, assumed}
use Rattle.pb_unit.proofs.Answering.{assumed_reached}
use Rattle.pb_unit.proofs.Queueing.{queue_assumed}
use Rattle.pb_unit.proofs.engine.Engine.assume.Goals as goal

-- the engine's fields at the call
abbrev before : goal.After-add-2 → EngineState
before c = record { vars = c.self.inside.queue.held.vars; places = c.self.inside.queue.places; given = c.self.inside.assumed.lits; held = c.self.inside.queue.held.lits }

after : (c : goal.After-add-2) → IsReached (assumed c.args.lit (before c))
after c =
    let undecided : is_among c.self.inside.queue.held.lits (negated c.args.lit) ≡ false = ap (is_among c.self.inside.queue.held.lits) (sym c.not.ensures) ∙ sym c.holds.ensures ∙ c.if-holds.false in
    assumed_reached (before c) c.args.lit c.self.invariant.engine.holds undecided

pub invariant_of-self : goal.invariant_of-self
invariant_of-self c =
    let all = after c in
    rw (c.add.ensures, c.add-2.ensures) (
    record {
      same_vars = c.self.invariant.same_vars;
      engine = record {
        within = c.self.invariant.engine.within;
        holds = record { reached = all.reached; assumed = all.assumed; consistent = all.consistent };
      };
      queue = queue_assumed c.self.inside.queue.held.vars c.self.inside.queue.places c.self.inside.queue.lists c.self.inside.queue.kept.items c.self.inside.queue.tight.items c.self.inside.queue.held.lits c.self.inside.queue.counted c.self.inside.queue.phase c.args.lit c.self.invariant.queue;
    }
    )

pub returns-clause-reached : goal.returns-clause-reached
returns-clause-reached c =
    let all = after c in
    rw (c.add.ensures, c.add-2.ensures) (record { reached = all.reached; assumed = all.assumed; consistent = all.consistent })
