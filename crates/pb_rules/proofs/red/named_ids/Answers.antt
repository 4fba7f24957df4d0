use Rattle.std.proofs.Common.{sym, subst}
use Rattle.std.proofs.Math.Dec.{eqb}
use Rattle.std.proofs.lemmas.List.Filters.{dedup_is}
use Rattle.std.proofs.lemmas.Map.Keys.{IsStrictlyIncreasing-dedup}
use Rattle.std.specs.List.Sorted.{IsStrictlyIncreasing}
use Rattle.pb_rules.specs.inner.Obligations.{HasNamed}
use Rattle.pb_rules.proofs.SetVars.{named_tidied}
use Rattle.pb_rules.proofs.red.named_ids.Goals as goal

pub returns-clause-named : goal.returns-clause-named
returns-clause-named c =
    subst (HasNamed c.args.db.now.live c.args.sets.now) (sym (dedup_is eqb _ _ c.dedup.ensures.filtered)) (named_tidied c.args.db.now.live c.args.sets.now _ _ c.sort_unstable.ensures.permutation c.in_ok-ids.ensures)

pub returns-clause-rising : goal.returns-clause-rising
returns-clause-rising c = subst IsStrictlyIncreasing (sym (dedup_is eqb _ _ c.dedup.ensures.filtered)) (IsStrictlyIncreasing-dedup _ c.sort_unstable.ensures.sorted)
