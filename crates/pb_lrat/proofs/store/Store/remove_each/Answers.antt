use Rattle.std.proofs.Common.{◌∙◌, sym, ap, List, ℕ, get_or}
use Rattle.std.specs.Prelude.{filter}
use Rattle.pb_lrat.specs.Hints.{Kept}
use Rattle.pb_lrat.specs.inner.Stores.{Library}
use Rattle.pb_lrat.proofs.Storing.{is_other, filter_next, filter_none}
use Rattle.pb_lrat.proofs.store.Store.remove_each.Goals as goal

abbrev library : ℕ → List Kept → Library
library last live = record { last = last; live = live }

pub loop-id-init : goal.loop-id-init
loop-id-init c = ap (library c.args.self.now.last) (sym (filter_none c.args.self.now.live))

pub loop-id-preserved : goal.loop-id-preserved
loop-id-preserved c =
    c.remove.ensures ∙
    (ap (λ (x : Library). library x.last (filter (is_other (get_or c.args.ids.now c.loop-id.id-index 0)) x.live)) c.loop-id.invariant ∙
    ap (library c.args.self.now.last) (filter_next c.args.ids.now c.loop-id.id-index c.args.self.now.live c.loop-id-test.true))
