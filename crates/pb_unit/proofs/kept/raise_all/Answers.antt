use Rattle.std.proofs.Common.{arith, get_or, take, ◌∷◌, [], List, subst, sym}
use Rattle.std.proofs.lemmas.List.{take_more}
use Rattle.pb_unit.specs.declared.index.Occurrence.{Occurrence}
use Rattle.pb_unit.specs.Index.{AreLowered}
use Rattle.pb_unit.proofs.Telling.{sum_at-front, sum_at-here, lowered_back}
use Rattle.pb_unit.proofs.kept.raise_all.Goals as goal

abbrev none : Occurrence
none = record { place = 0; coef = 0 }

pub raise-requires-clause-fits : goal.raise-requires-clause-fits
raise-requires-clause-fits c =
    let o : Occurrence = get_or c.args.occurrences.now c.loop-occurrence.occurrence-index none in
    let front = sum_at-front o.place c.args.occurrences.now c.loop-occurrence.occurrence-index none c.loop-occurrence-test.true in
    omega (arith, front, sum_at-here o, c.loop-occurrence.invariant.rooms o.place, c.requires.fits o.place)

pub loop-occurrence-preserved : goal.loop-occurrence-preserved
loop-occurrence-preserved c =
    subst (λ (os : List Occurrence). AreLowered os c.raise.new.kept c.args.kept.now) (sym (take_more c.args.occurrences.now c.loop-occurrence.occurrence-index none c.loop-occurrence-test.true))
    (lowered_back c.raise.new.kept c.loop-occurrence.kept c.args.kept.now (take c.loop-occurrence.occurrence-index c.args.occurrences.now) (get_or c.args.occurrences.now c.loop-occurrence.occurrence-index none ∷ []) c.loop-occurrence.invariant c.raise.ensures)
