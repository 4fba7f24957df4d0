use Rattle.std.proofs.Common.{List, ℕ, sym, subst}
use Rattle.std.proofs.Math.Dec.{eqb}
use Rattle.std.proofs.lemmas.List.Filters.{dedup_is}
use Rattle.pb_gentot.specs.inner.Members.{SameMembers}
use Rattle.pb_gentot.specs.Rising.{Rising}
use Rattle.pb_gentot.proofs.Joining.{same_tidied}
use Rattle.pb_gentot.proofs.RisingLists.{rising_deduped}
use Rattle.pb_gentot.proofs.sets.tidy.Goals as goal

pub returns-clause-rising : goal.returns-clause-rising
returns-clause-rising c =
    subst Rising (sym (dedup_is eqb _ _ c.dedup.ensures.filtered)) (rising_deduped _ c.sort_unstable.ensures.sorted)

pub returns-clause-same : goal.returns-clause-same
returns-clause-same c =
    subst (λ (ys : List ℕ). SameMembers c.args.values.now.items ys) (sym (dedup_is eqb _ _ c.dedup.ensures.filtered)) (same_tidied _ _ c.sort_unstable.ensures.permutation)
