use Rattle.std.proofs.Common.{get_or, arith, sym}
use Rattle.std.proofs.lemmas.List.Filters.{FiltersInPlace-more_set, FiltersInPlace-more_no}
use Rattle.std.proofs.lemmas.List.{get_or_default}
use Rattle.pb_unit.proofs.index.squeeze.Goals as goal
use Rattle.pb_unit.proofs.index.squeeze.Goals.{then-stands, else-stands}

pub loop-index-preserved : goal.loop-index-preserved
loop-index-preserved c = elim c.if-stands.branch [
  | then-stands w ↦ rw (w.units-is, w.front-is) (FiltersInPlace-more_set c.loop-index.invariant (omega (arith, c.loop-index-test.true, c.loop-index.auto.units)) (sym w.if-stands.ensures) (get_or_default c.loop-index.units c.loop-index.index 0 _ (omega (arith, c.loop-index-test.true, c.loop-index.auto.units))))
  | else-stands w ↦ rw (w.units-is, w.front-is) (FiltersInPlace-more_no {x = get_or c.loop-index.units c.loop-index.index 0} c.loop-index.invariant (omega (arith, c.loop-index-test.true, c.loop-index.auto.units)) (sym w.if-stands.ensures) (get_or_default c.loop-index.units c.loop-index.index 0 _ (omega (arith, c.loop-index-test.true, c.loop-index.auto.units))))
]
