use Rattle.std.proofs.Common.{◌∙◌, sym}
use Rattle.pb_unit.proofs.Slotting.{at_read}
use Rattle.pb_unit.proofs.places.Places.slack.Goals as goal

pub slack_in-requires-clause-told : goal.slack_in-requires-clause-told
slack_in-requires-clause-told c = λ told d at. c.requires.told told d (sym (at_read c.deref-2.ensures.value c.deref.ensures.value c.self.view_is c.args.place) ∙ at)

pub slack_in-requires-clause-narrow : goal.slack_in-requires-clause-narrow
slack_in-requires-clause-narrow c = λ d at. c.requires.narrow d (sym (at_read c.deref-2.ensures.value c.deref.ensures.value c.self.view_is c.args.place) ∙ at)
