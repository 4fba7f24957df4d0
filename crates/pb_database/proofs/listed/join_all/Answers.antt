use Rattle.std.proofs.Common.{[], ◌∷◌}
use Rattle.std.proofs.lemmas.Bool.{OnTrue_at, OnTrue_from}
use Rattle.pb_database.specs.inner.Slots.{listed_slots}
use Rattle.pb_database.specs.inner.Mirrors.{HasJust}
use Rattle.pb_database.proofs.Refuting.{idle-just}
use Rattle.pb_database.proofs.listed.join_all.Goals as goal

pub returns-clause-joined : goal.returns-clause-joined
returns-clause-joined c =
    OnTrue_from c.join_listed.result (HasJust (c.args.more.now ∷ listed_slots c.args.slots.now c.args.ids.now) c.join_listed.new.engine)
    (λ yes. OnTrue_at yes c.join_listed.ensures.joined (c.args.more.now ∷ []) (OnTrue_at c.if-not-join.false c.join.ensures.joined [] (idle-just c.args.engine.now.vars c.args.engine.now c.requires.idle)))
