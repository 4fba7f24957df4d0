use Rattle.std.proofs.Common.{◌≤◌, ◌∙◌, ℕ, List, Option, Some, arith, ap, map, sym, subst}
use Rattle.std.specs.Prelude.{All, IfSome}
use Rattle.pb_base.specs.declared.literal.Lit.{Lit}
use Rattle.pb_norm.specs.Constraints.{Constraint}
use Rattle.pb_unit.specs.Ends.{Ends}
use Rattle.pb_unit.specs.States.{IsReached, at_place, given_over, standing}
use Rattle.pb_unit.specs.Steps.{Advances}
use Rattle.pb_unit.specs.Trails.{Held}
use Rattle.pb_unit.proofs.Answering.{advanced}
use Rattle.pb_unit.proofs.Passing.{answered, narrow_all}
use Rattle.pb_unit.proofs.Queueing.{within_all, within_read}
use Rattle.pb_unit.proofs.rounds.Rounds.settle.Goals as goal

pub hold_all-requires-clause-within : goal.hold_all-requires-clause-within
hold_all-requires-clause-within c =
    let vars = ap (λ (h : Held). h.vars) c.clear.ensures ∙ ap (λ (h : Held). h.vars) c.self.view_is in
    subst (λ (most : ℕ). All (λ (l : Lit). l.var ≤ most) c.args.given.now) (sym vars) c.requires.given

pub settle-requires-clause-within : goal.settle-requires-clause-within
settle-requires-clause-within c =
    let vars = c.hold_all.ensures.vars ∙ ap (λ (h : Held). h.vars) c.clear.ensures ∙ ap (λ (h : Held). h.vars) c.self.view_is in
    within_read (sym vars) (sym c.places.ensures.places) (within_all c.args.self.now.vars c.args.constraints.now c.requires.within)

pub settle-requires-clause-narrow : goal.settle-requires-clause-narrow
settle-requires-clause-narrow c = λ p d at.
    narrow_all c.args.constraints.now c.places.ensures.linear p d (sym (ap (λ (ps : List (Option Constraint)). at_place ps p) c.places.ensures.places) ∙ at)

reached : (c : goal.After-settle) → IsReached (given_over c.args.constraints.now c.args.given.now c.settle.new.held)
reached c =
    let given = c.args.given.now in
    let before = c.hold_all.new.held in
    let after = c.settle.new.held in
    let places = map Some c.args.constraints.now in
    let on = subst (λ (ps : List (Option Constraint)). Advances (standing ps) given before.lits after.lits) c.places.ensures.places (c.settle.ensures.advances given) in
    let all = advanced (given_over c.args.constraints.now given before) after.lits (c.hold_all.ensures.reached places) on in
    record { reached = all.reached; assumed = all.assumed; consistent = all.consistent }

pub returns-clause-vars : goal.returns-clause-vars
returns-clause-vars c = c.settle.ensures.vars ∙ c.hold_all.ensures.vars ∙ ap (λ (h : Held). h.vars) c.clear.ensures ∙ ap (λ (h : Held). h.vars) c.self.view_is

pub returns-clause-answer : goal.returns-clause-answer
returns-clause-answer c =
    answered (given_over c.args.constraints.now c.args.given.now c.settle.new.held) c.settle.result (reached c)
    (subst (λ (ps : List (Option Constraint)). IfSome c.settle.result (Ends ps c.settle.new.held.lits)) c.places.ensures.places c.settle.ensures.ends)

pub returns-clause-reached : goal.returns-clause-reached
returns-clause-reached c = reached c

pub returns-clause-more : goal.returns-clause-more
returns-clause-more c = λ none. omega (arith, c.settle.ensures.more none)
