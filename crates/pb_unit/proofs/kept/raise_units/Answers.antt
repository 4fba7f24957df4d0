use Rattle.std.proofs.Common.{arith, get_or, take, map, length, ◌∷◌, [], List, subst, sym}
use Rattle.std.proofs.lemmas.List.{map_more}
use Rattle.pb_unit.specs.declared.index.Occurrence.{Occurrence}
use Rattle.pb_unit.specs.Index.{AreLowered, unit_at}
use Rattle.pb_unit.proofs.Telling.{units_front, units_known, sum_at-here, lowered_back}
use Rattle.pb_unit.proofs.kept.raise_units.Goals as goal

pub raise-requires-clause-known : goal.raise-requires-clause-known
raise-requires-clause-known c =
    omega (arith, units_known (length c.args.kept.now) c.args.places.now c.loop-place.place-index c.loop-place-test.true c.requires.known, c.loop-place.invariant.size)

pub raise-requires-clause-fits : goal.raise-requires-clause-fits
raise-requires-clause-fits c =
    let o : Occurrence = unit_at (get_or c.args.places.now c.loop-place.place-index 0) in
    let front = units_front o.place c.args.places.now c.loop-place.place-index c.loop-place-test.true in
    omega (arith, front, sum_at-here o, c.loop-place.invariant.rooms o.place, c.requires.fits o.place)

pub loop-place-preserved : goal.loop-place-preserved
loop-place-preserved c =
    subst (λ (os : List Occurrence). AreLowered os c.raise.new.kept c.args.kept.now) (sym (map_more unit_at c.args.places.now c.loop-place.place-index 0 c.loop-place-test.true))
    (lowered_back c.raise.new.kept c.loop-place.kept c.args.kept.now (map unit_at (take c.loop-place.place-index c.args.places.now)) (unit_at (get_or c.args.places.now c.loop-place.place-index 0) ∷ []) c.loop-place.invariant c.raise.ensures)
