use Rattle.std.proofs.Common.{◌∙◌, ap, sym, ◌∷◌, [], get_or}
use Rattle.pb_steps.specs.Database.{Database, reduced}
use Rattle.pb_database.proofs.SlotLemmas.{reduced_more, reduced_none}
use Rattle.pb_database.proofs.database.Database.remove.Goals as goal

pub loop-id-init : goal.loop-id-init
loop-id-init c = sym (reduced_none c.args.self.now)

pub loop-id-preserved : goal.loop-id-preserved
loop-id-preserved c =
    c.tidy.ensures ∙ (c.remove_one.ensures ∙ (ap (λ (db : Database). reduced db (get_or c.args.ids.now c.loop-id.id-index 0 ∷ [])) c.loop-id.invariant ∙ reduced_more c.args.self.now c.args.ids.now c.loop-id.id-index c.loop-id-test.true))
