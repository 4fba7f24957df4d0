use Rattle.std.proofs.Common.{◌∙◌, ◌∷◌, [], ℕ, List, arith, subst, sym, take, get_or}
use Rattle.std.proofs.lemmas.List.{take_more}
use Rattle.pb_unit.specs.declared.index.Occurrence.{Occurrence}
use Rattle.pb_unit.specs.States.{StandWithin}
use Rattle.pb_unit.specs.Steps.{IsAlert}
use Rattle.pb_unit.specs.Index.{IsTold}
use Rattle.pb_unit.proofs.Telling.{told_bound, told_enough, told_then}
use Rattle.pb_unit.proofs.queue.tell_all.Goals as goal

abbrev none : Occurrence
none = record { place = 0; coef = 0 }

pub tell_next-short-requires-clause-tell : goal.tell_next-short-requires-clause-tell
tell_next-short-requires-clause-tell c = record {
  within = subst (λ (n : ℕ). StandWithin n c.args.places.now) (sym c.loop-occurrence.invariant.vars) c.requires.tell.within;
  known = omega (arith, c.requires.tell.known c.loop-occurrence.occurrence-index none c.loop-occurrence-test.true, c.loop-occurrence.invariant.told.lowered.size);
  enough = told_enough c.args.places.now c.args.occurrences.now c.args.kept.now c.loop-occurrence.kept c.args.held.now.lits c.loop-occurrence.held.lits c.loop-occurrence.short c.loop-occurrence.occurrence-index none c.loop-occurrence.invariant.told c.loop-occurrence-test.true c.requires.tell.enough;
  bound = told_bound c.args.places.now c.args.occurrences.now c.args.kept.now c.loop-occurrence.kept c.args.held.now.lits c.loop-occurrence.held.lits c.loop-occurrence.short c.loop-occurrence.occurrence-index none c.loop-occurrence.invariant.told c.loop-occurrence-test.true c.requires.tell.bound;
  alerts = λ d at. subst (λ (a : ℕ). IsAlert a d) (sym (c.loop-occurrence.invariant.told.lowered.alerts _)) (c.requires.tell.alerts _ d at);
}

pub loop-occurrence-preserved : goal.loop-occurrence-preserved
loop-occurrence-preserved c = record {
  vars = c.tell_next-short.ensures.vars ∙ c.loop-occurrence.invariant.vars;
  told =
      subst (λ (os : List Occurrence). IsTold c.args.places.now os c.args.kept.now c.tell_next-short.new.kept c.args.held.now.lits c.tell_next-short.new.held.lits c.tell_next-short.result)
      (sym (take_more c.args.occurrences.now c.loop-occurrence.occurrence-index none c.loop-occurrence-test.true))
      (told_then c.args.places.now (take c.loop-occurrence.occurrence-index c.args.occurrences.now) (get_or c.args.occurrences.now c.loop-occurrence.occurrence-index none ∷ []) c.args.kept.now c.loop-occurrence.kept c.tell_next-short.new.kept c.args.held.now.lits c.loop-occurrence.held.lits c.tell_next-short.new.held.lits c.loop-occurrence.short c.tell_next-short.result c.loop-occurrence.invariant.told c.tell_next-short.ensures.told c.tell_next-short.ensures.still);
  still = λ n. c.loop-occurrence.invariant.still (c.tell_next-short.ensures.still n);
}
