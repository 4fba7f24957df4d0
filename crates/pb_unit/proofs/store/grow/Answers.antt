use Rattle.std.proofs.Common.{[], List, subst, sym}
use Rattle.std.specs.Prelude.{is_ok}
use Rattle.pb_unit.specs.declared.kept.Counters.{Counters}
use Rattle.pb_unit.specs.Index.{IsCounted}
use Rattle.pb_unit.proofs.Entering.{counted_pushed}
use Rattle.pb_unit.proofs.store.grow.Goals as goal

pub returns-clause-counts : goal.returns-clause-counts
returns-clause-counts c =
    subst (λ (ks : List Counters). IsCounted c.args.spot.now.vars c.args.spot.now.places.now c.args.lists.now ks []) (sym c.push.ensures.items)
    (counted_pushed (is_ok c.push.result) c.args.spot.now.vars c.args.spot.now.places.now c.args.lists.now c.args.kept.now.items c.requires.counts)
