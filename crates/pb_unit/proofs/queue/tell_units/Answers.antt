use Rattle.std.proofs.Common.{◌∙◌, ◌∷◌, [], ℕ, List, subst, sym, take, map, get_or, length, arith}
use Rattle.std.proofs.lemmas.List.{map_more}
use Rattle.pb_unit.specs.declared.index.Occurrence.{Occurrence}
use Rattle.pb_unit.specs.States.{StandWithin}
use Rattle.pb_unit.specs.Steps.{IsAlert}
use Rattle.pb_unit.specs.Index.{unit_at, IsTold}
use Rattle.pb_unit.proofs.Telling.{told_then, units_known, unit_enough, unit_bound}
use Rattle.pb_unit.proofs.queue.tell_units.Goals as goal

pub tell_next-short-requires-clause-tell : goal.tell_next-short-requires-clause-tell
tell_next-short-requires-clause-tell c = record {
  within = subst (λ (n : ℕ). StandWithin n c.args.places.now) (sym c.loop-place.invariant.vars) c.requires.within;
  known = omega (arith, units_known (length c.args.kept.now) c.args.units.now c.loop-place.place-index c.loop-place-test.true c.requires.known, c.loop-place.invariant.told.lowered.size);
  enough = unit_enough c.args.places.now c.args.units.now c.args.kept.now c.loop-place.kept c.args.held.now.lits c.loop-place.held.lits c.loop-place.short c.loop-place.place-index c.loop-place.invariant.told c.loop-place-test.true c.requires.enough;
  bound = unit_bound c.args.places.now c.args.units.now c.args.kept.now c.loop-place.kept c.args.held.now.lits c.loop-place.held.lits c.loop-place.short c.loop-place.place-index c.loop-place.invariant.told c.loop-place-test.true c.requires.bound;
  alerts = λ d at. subst (λ (a : ℕ). IsAlert a d) (sym (c.loop-place.invariant.told.lowered.alerts _)) (c.requires.alerts _ d at);
}

pub tell_next-short-requires-clause-short : goal.tell_next-short-requires-clause-short
tell_next-short-requires-clause-short c = c.loop-place.invariant.told.short

pub loop-place-preserved : goal.loop-place-preserved
loop-place-preserved c = record {
  vars = c.tell_next-short.ensures.vars ∙ c.loop-place.invariant.vars;
  told =
      subst (λ (os : List Occurrence). IsTold c.args.places.now os c.args.kept.now c.tell_next-short.new.kept c.args.held.now.lits c.tell_next-short.new.held.lits c.tell_next-short.result)
      (sym (map_more unit_at c.args.units.now c.loop-place.place-index 0 c.loop-place-test.true))
      (told_then c.args.places.now (map unit_at (take c.loop-place.place-index c.args.units.now)) (unit_at (get_or c.args.units.now c.loop-place.place-index 0) ∷ []) c.args.kept.now c.loop-place.kept c.tell_next-short.new.kept c.args.held.now.lits c.loop-place.held.lits c.tell_next-short.new.held.lits c.loop-place.short c.tell_next-short.result c.loop-place.invariant.told c.tell_next-short.ensures.told c.tell_next-short.ensures.still);
}
