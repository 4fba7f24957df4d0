use Rattle.std.proofs.Common.{◌∙◌, List, Option, sym, subst}
use Rattle.std.specs.Bool.{OnTrue, OnFalse}
use Rattle.pb_norm.specs.Constraints.{Constraint}
use Rattle.pb_unit.specs.States.{Stands, standing}
use Rattle.pb_unit.specs.Steps.{Advances, IsCalm, HasTooLittle}
use Rattle.pb_unit.proofs.Slotting.{slots_read, at_read}
use Rattle.pb_unit.proofs.places.Places.look.Goals as goal

pub look_at-requires-clause-within : goal.look_at-requires-clause-within
look_at-requires-clause-within c = λ d at. c.requires.within d (sym (at_read c.deref-2.ensures.value c.deref.ensures.value c.self.view_is c.args.place) ∙ at)

pub look_at-requires-clause-bound : goal.look_at-requires-clause-bound
look_at-requires-clause-bound c = λ d at. c.requires.bound d (sym (at_read c.deref-2.ensures.value c.deref.ensures.value c.self.view_is c.args.place) ∙ at)

pub returns-clause-advances : goal.returns-clause-advances
returns-clause-advances c = λ given. subst (λ (ps : List (Option Constraint)). Advances (standing ps) given c.args.held.now.lits c.look_at.new.held.lits) (slots_read c.deref-2.ensures.value c.deref.ensures.value ∙ c.self.view_is) (c.look_at.ensures.advances given)

pub returns-clause-calm : goal.returns-clause-calm
returns-clause-calm c = subst (λ (ps : List (Option Constraint)). OnTrue c.look_at.result ((d : Constraint) → Stands ps c.args.place d → IsCalm c.args.left c.look_at.new.held.lits d)) (slots_read c.deref-2.ensures.value c.deref.ensures.value ∙ c.self.view_is) c.look_at.ensures.calm

pub returns-clause-short : goal.returns-clause-short
returns-clause-short c = subst (λ (ps : List (Option Constraint)). OnFalse c.look_at.result (HasTooLittle ps c.look_at.new.held.lits c.args.place)) (slots_read c.deref-2.ensures.value c.deref.ensures.value ∙ c.self.view_is) c.look_at.ensures.short
