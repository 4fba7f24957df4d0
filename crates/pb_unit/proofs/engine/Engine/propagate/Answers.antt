use Rattle.std.proofs.Common.{◌≡◌, true, List, Option, ◌∙◌, sym, subst}
use Rattle.pb_base.specs.Literals.{is_among}
use Rattle.pb_norm.specs.Constraints.{Constraint}
use Rattle.pb_unit.specs.States.{EngineState, IsReached}
use Rattle.pb_unit.specs.Counters.{state_of}
use Rattle.pb_unit.proofs.Answering.{answers_from, advanced}
use Rattle.pb_unit.proofs.Queueing.{within_read}
use Rattle.pb_unit.proofs.engine.Engine.propagate.Goals as goal

reached : (c : goal.After-propagate) → IsReached (state_of c.propagate.new.self c.self.inside.assumed.lits)
reached c =
    let q = c.propagate.new.self in
    let after = advanced (state_of c.self.inside.queue c.self.inside.assumed.lits) q.held.lits c.self.invariant.engine.holds (c.propagate.ensures.advances c.self.inside.assumed.lits) in
    let state : List (Option Constraint) → EngineState = λ ps. record { vars = q.held.vars; places = ps; given = c.self.inside.assumed.lits; held = q.held.lits } in
    subst (λ (ps : List (Option Constraint)). IsReached (state ps)) (sym c.propagate.ensures.places) (record { reached = after.reached; assumed = after.assumed; consistent = after.consistent })

pub invariant_of-self : goal.invariant_of-self
invariant_of-self c = record {
  same_vars = c.self.invariant.same_vars ∙ sym c.propagate.ensures.vars;
  engine = record {
    within = within_read (sym c.propagate.ensures.vars) (sym c.propagate.ensures.places) c.self.invariant.engine.within;
    holds = reached c;
  };
  queue = c.propagate.ensures.queue;
}

pub returns-clause-answer : goal.returns-clause-answer
returns-clause-answer c = answers_from (state_of c.propagate.new.self c.self.inside.assumed.lits) c.propagate.result (reached c) c.propagate.ensures.ends

pub returns-clause-reached : goal.returns-clause-reached
returns-clause-reached c = reached c

pub returns-clause-kept : goal.returns-clause-kept
returns-clause-kept c = λ l h. (c.propagate.ensures.advances c.self.inside.assumed.lits).kept l (subst (λ (s : EngineState). is_among s.held l ≡ true) (sym c.self.view_is) h)
