use Rattle.std.proofs.Common.{ap, sym, ◌∙◌, ℕ, List, refl}
use Rattle.std.specs.Prelude.{filter}
use Rattle.pb_lrat.specs.Hints.{Kept}
use Rattle.pb_lrat.specs.inner.Stores.{Library}
use Rattle.pb_lrat.proofs.Storing.{less_kept, others_kept, is_other}
use Rattle.pb_lrat.proofs.store.Store.remove.Goals as goal

abbrev library : ℕ → List Kept → Library
library last live = record { last = last; live = live }

pub returns-in-Some : goal.returns-in-Some
returns-in-Some c =
    ap (library c.self.inside.last) (less_kept _ _ _ _ c.args.id c.deref.result.now c.in-Some.place c.deref.ensures.value c.self.invariant c.in-Some.ensures.within c.in-Some.ensures.at) ∙
    ap (λ (x : Library). library x.last (filter (is_other c.args.id) x.live)) c.self.view_is

pub returns-in_default : goal.returns-in_default
returns-in_default c =
    sym c.self.view_is ∙
    (ap (library c.self.inside.last) (sym (others_kept c.self.inside.lits.items c.self.inside.ids.items c.self.inside.spans.items c.args.id c.deref.result.now c.deref.ensures.value (c.in_default.ensures.none refl))) ∙
    ap (λ (x : Library). library x.last (filter (is_other c.args.id) x.live)) c.self.view_is)
