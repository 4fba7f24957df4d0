use Rattle.std.proofs.Common.{◌∷◌}
use Rattle.std.proofs.lemmas.Bool.{OnTrue_at}
use Rattle.pb_database.specs.inner.Slots.{listed_slots}
use Rattle.pb_database.proofs.Refuting.{tells_just}
use Rattle.pb_database.proofs.listed.is_refuted_by.Goals as goal

pub returns-clause-answer : goal.returns-clause-answer
returns-clause-answer c =
    tells_just c.join_all-joined.new.engine c.propagate-outcome.new.self c.propagate-outcome.result c.is_conflict.result (c.args.more.now ∷ listed_slots c.args.slots.now c.args.ids.now)
    c.join_all-joined.ensures.covered.given (OnTrue_at c.if-not-joined.false c.join_all-joined.ensures.joined) c.propagate-outcome.ensures.same c.propagate-outcome.ensures.answer c.is_conflict.ensures
