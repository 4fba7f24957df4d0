use Rattle.std.proofs.Common.{◌≡◌, ◌≤◌, ◌<◌, ◌+◌, ◌++◌, ℕ, List, map, arith, subst, sym, ap, length}
use Rattle.std.specs.Prelude.{All}
use Rattle.pb_norm.specs.Propagation.{room}
use Rattle.pb_unit.specs.declared.index.Occurrence.{Occurrence}
use Rattle.pb_unit.specs.States.{StandWithin}
use Rattle.pb_unit.specs.Steps.{IsAlert}
use Rattle.pb_unit.specs.Index.{code, unit_at, others_at, list_at, sum_at, room_at, IsTold}
use Rattle.pb_unit.proofs.Telling.{told_then, parts_all, rest_bound, sum_at-append}
use Rattle.pb_unit.proofs.Pushing.{list_parts}
use Rattle.pb_unit.proofs.queue.tell_both.Goals as goal

-- the occurrences in the section are a part of all
units_part : (c : goal.After-tell_units-arg-2-1) (p : ℕ) → sum_at p (map unit_at c.units.result.now) ≤ sum_at p (list_at c.args.lists.now c.args.falsified.now)
units_part c p = omega (arith, sum_at-append p (map unit_at c.units.result.now) (others_at c.args.lists.now (code c.args.falsified.now)), ap (λ (us : List ℕ). sum_at p (map unit_at us ++ others_at c.args.lists.now (code c.args.falsified.now))) c.units.ensures)

pub tell_units-short-requires : goal.tell_units-short-requires
tell_units-short-requires c = record {
  within = c.requires.tell.within;
  known =
      (parts_all (λ (o : Occurrence). o.place < length c.args.kept.now) (map unit_at c.units.result.now) (others_at c.args.lists.now (code c.args.falsified.now))
      (subst (λ (us : List ℕ). All (λ (o : Occurrence). o.place < length c.args.kept.now) (map unit_at us ++ others_at c.args.lists.now (code c.args.falsified.now))) (sym c.units.ensures) c.requires.tell.known)).0;
  enough = λ p. omega (arith, units_part c p, c.requires.tell.enough p);
  bound = λ p d at. omega (arith, units_part c p, c.requires.tell.bound p d at);
  alerts = c.requires.tell.alerts;
}

pub tell_all-requires-clause-tell : goal.tell_all-requires-clause-tell
tell_all-requires-clause-tell c =
    let parts : list_at c.args.lists.now c.args.falsified.now ≡ map unit_at c.units.result.now ++ c.others.result.now = list_parts c.args.lists.now c.args.falsified.now c.units.result.now c.others.result.now c.units.ensures c.others.ensures in
    let all : All (λ (o : Occurrence). o.place < length c.args.kept.now) (map unit_at c.units.result.now ++ c.others.result.now) = subst (All (λ (o : Occurrence). o.place < length c.args.kept.now)) parts c.requires.tell.known in
    record {
      within = subst (λ (n : ℕ). StandWithin n c.args.places.now) (sym c.tell_units-short.ensures.vars) c.requires.tell.within;
      known = subst (λ (n : ℕ). All (λ (o : Occurrence). o.place < n) c.others.result.now) (sym c.tell_units-short.ensures.told.lowered.size)
          (parts_all (λ (o : Occurrence). o.place < length c.args.kept.now) (map unit_at c.units.result.now) c.others.result.now all).1;
      enough = λ p. omega (arith, sum_at-append p (map unit_at c.units.result.now) c.others.result.now, ap (sum_at p) parts, c.tell_units-short.ensures.told.lowered.rooms p, c.requires.tell.enough p);
      bound = rest_bound c.args.places.now (map unit_at c.units.result.now) c.others.result.now c.args.kept.now c.tell_units-short.new.kept c.args.held.now.lits c.tell_units-short.new.held.lits c.tell_units-short.result c.tell_units-short.ensures.told
          (λ p d at. subst (λ (os : List Occurrence). room c.args.held.now.lits d.terms + sum_at p os ≤ room_at c.args.kept.now p) parts (c.requires.tell.bound p d at));
      alerts = λ p d at. subst (λ (a : ℕ). IsAlert a d) (sym (c.tell_units-short.ensures.told.lowered.alerts p)) (c.requires.tell.alerts p d at);
    }

pub returns-clause-told : goal.returns-clause-told
returns-clause-told c =
    let parts : list_at c.args.lists.now c.args.falsified.now ≡ map unit_at c.units.result.now ++ c.others.result.now = list_parts c.args.lists.now c.args.falsified.now c.units.result.now c.others.result.now c.units.ensures c.others.ensures in
    subst (λ (os : List Occurrence). IsTold c.args.places.now os c.args.kept.now c.tell_all.new.kept c.args.held.now.lits c.tell_all.new.held.lits c.tell_all.result) (sym parts)
    (told_then c.args.places.now (map unit_at c.units.result.now) c.others.result.now c.args.kept.now c.tell_units-short.new.kept c.tell_all.new.kept c.args.held.now.lits c.tell_units-short.new.held.lits c.tell_all.new.held.lits c.tell_units-short.result c.tell_all.result c.tell_units-short.ensures.told c.tell_all.ensures.told c.tell_all.ensures.still)
