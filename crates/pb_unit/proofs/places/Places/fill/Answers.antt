use Rattle.std.proofs.Common.{◌∙◌, List, Option, map, subst}
use Rattle.std.specs.Bool.{OnTrue}
use Rattle.pb_norm.specs.Constraints.{Constraint}
use Rattle.pb_unit.specs.inner.Filling.{terms_in, IsFilling}
use Rattle.pb_unit.proofs.Slotting.{slots_read}
use Rattle.pb_unit.proofs.Fillings.{slots_numbered}
use Rattle.pb_unit.proofs.places.Places.fill.Goals as goal

pub fill_range-requires-clause-numbered : goal.fill_range-requires-clause-numbered
fill_range-requires-clause-numbered c =
    slots_numbered c.args.vars c.args.lists.now c.deref.result.now c.deref-2.result.now c.args.self.now c.requires.width (slots_read c.deref-2.ensures.value c.deref.ensures.value ∙ c.self.view_is) c.requires.within

pub returns : goal.returns
returns c =
    subst (λ (ps : List (Option Constraint)). OnTrue c.fill_range.result (IsFilling c.args.codes.low c.args.codes.high c.args.lists.now c.fill_range.new.lists (map terms_in ps))) (slots_read c.deref-2.ensures.value c.deref.ensures.value ∙ c.self.view_is) c.fill_range.ensures
