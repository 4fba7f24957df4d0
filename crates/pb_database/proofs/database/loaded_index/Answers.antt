use Rattle.std.proofs.Common.{◌+◌, refl}
use Rattle.std.proofs.lemmas.Bool.{OnTrue_at}
use Rattle.pb_database.proofs.Indexing.{indexed-empty, loaded_more}
use Rattle.pb_database.proofs.database.loaded_index.Goals as goal

pub loop-place-init : goal.loop-place-init
loop-place-init c = indexed-empty c.args.original c.args.size c.in_ok-lists.lists.items c.in_ok-lists.ensures.size

pub loop-place-preserved : goal.loop-place-preserved
loop-place-preserved c =
    loaded_more c.args.original c.args.loaded.now c.loop-place.place (c.loop-place.place + 1) c.index-loaded-place.result _ c.loop-place.lists.items c.enter.new.lists.items c.loop-place-test.true c.index-loaded-place.is refl c.terms.ensures.weights c.enter.ensures.kept
    (OnTrue_at c.if-not-enter.false c.enter.ensures.added) c.loop-place.invariant
