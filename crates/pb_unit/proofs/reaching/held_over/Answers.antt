use Rattle.std.proofs.Common.{◌≤◌, ℕ, ap, subst, sym}
use Rattle.std.specs.Prelude.{All}
use Rattle.std.proofs.lemmas.List.Elements.{All-weaker}
use Rattle.pb_base.specs.declared.literal.Lit.{Lit}
use Rattle.pb_norm.specs.Constraints.{AreVarsWithin}
use Rattle.pb_unit.specs.declared.engine.Outcome.{Outcome}
use Rattle.pb_unit.specs.Outcomes.{AnswersOf}
use Rattle.pb_unit.specs.States.{given_over}
use Rattle.pb_unit.specs.Trails.{Held}
use Rattle.pb_unit.proofs.Standing.{standing_all}
use Rattle.pb_unit.specs.Reaching.{IsUpTo, OfLit}
use Rattle.pb_unit.proofs.Assuming.{ascending_consistent}
use Rattle.pb_unit.proofs.Probed.{conflict_else, reached_held, within_most}
use Rattle.pb_unit.proofs.reaching.held_over.Goals as goal

pub settle-requires-clause-within : goal.settle-requires-clause-within
settle-requires-clause-within c =
    subst (λ (most : ℕ). AreVarsWithin most c.args.forms) (sym (ap (λ (h : Held). h.vars) c.in_ok-rounds.ensures)) (within_most c.args.vars c.args.forms c.requires.tables.constraints)

pub settle-requires-clause-given : goal.settle-requires-clause-given
settle-requires-clause-given c =
    subst (λ (most : ℕ). All (λ (l : Lit). l.var ≤ most) c.args.given.now) (sym (ap (λ (h : Held). h.vars) c.in_ok-rounds.ensures)) (All-weaker (OfLit (IsUpTo c.args.vars)) (λ (l : Lit). l.var ≤ c.args.vars) (λ l h. h.high) c.args.given.now c.requires.tables.lits)

pub settle-requires-clause-consistent : goal.settle-requires-clause-consistent
settle-requires-clause-consistent c = ascending_consistent c.args.given.now c.requires.ascending

pub returns-in-Some-Conflict : goal.returns-in-Some-Conflict
returns-in-Some-Conflict c =
    conflict_else c.args.vars c.args.forms c.args.given.now c.requires.tables.constraints c.requires.tables.lits (given_over c.args.forms c.args.given.now c.settle.new.self) (standing_all c.args.forms) (λ l. ((λ h. h), (λ h. h)))
    c.in-Some-Conflict.field-0 (λ fixed. let no : ⊥ = cc (fixed, c.in-Some-Conflict.field-0-is) in no) c.in-Some-Conflict.ensures.answer

pub returns-in-Some-Fixed : goal.returns-in-Some-Fixed
returns-in-Some-Fixed c =
    let s = given_over c.args.forms c.args.given.now c.settle.new.self in
    reached_held c.args.vars c.args.forms c.args.given.now c.requires.tables.constraints c.requires.tables.lits s (standing_all c.args.forms) (λ l. ((λ h. h), (λ h. h)))
    (subst (λ (o : Outcome). AnswersOf s o) c.in-Some-Fixed.field-0-is c.in-Some-Fixed.ensures.answer) c.settle.ensures.reached
