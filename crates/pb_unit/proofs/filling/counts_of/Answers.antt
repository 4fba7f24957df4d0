use Rattle.std.proofs.Common.{◌∙◌, ℕ, List, length, ap}
use Rattle.pb_unit.proofs.Queueing.{written}
use Rattle.pb_unit.proofs.filling.counts_of.Goals as goal

pub returns : goal.returns
returns c =
    ap (λ (xs : List ℕ). length xs) (written c.in_ok-counts.counts.len c.count_units.new.counts c.in_ok-counts.counts.items (c.count_units.auto.counts ∙ c.deref_mut.ensures.len)) ∙
    (c.count_units.auto.counts ∙ (c.deref_mut.ensures.len ∙ c.in_ok-counts.ensures.len))
