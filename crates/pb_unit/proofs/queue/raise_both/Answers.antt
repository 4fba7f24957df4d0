use Rattle.std.proofs.Common.{◌≡◌, ◌<◌, ◌+◌, ◌^◌, ◌++◌, ℕ, List, map, subst, sym, ap, length, arith}
use Rattle.std.specs.Prelude.{All}
use Rattle.pb_unit.specs.declared.index.Occurrence.{Occurrence}
use Rattle.pb_unit.specs.Index.{code, unit_at, others_at, list_at, sum_at, room_at, AreLowered}
use Rattle.pb_unit.proofs.Telling.{parts_all, lowered_back, sum_at-append}
use Rattle.pb_unit.proofs.Pushing.{list_parts}
use Rattle.pb_unit.proofs.queue.raise_both.Goals as goal

pub raise_units-requires : goal.raise_units-requires
raise_units-requires c = record {
  known =
      (parts_all (λ (o : Occurrence). o.place < length c.args.kept.now) (map unit_at c.units.result.now) (others_at c.args.lists.now (code c.args.lit.now))
      (subst (λ (us : List ℕ). All (λ (o : Occurrence). o.place < length c.args.kept.now) (map unit_at us ++ others_at c.args.lists.now (code c.args.lit.now))) (sym c.units.ensures) c.requires.raise.known)).0;
  fits = λ p. omega (arith, sum_at-append p (map unit_at c.units.result.now) (others_at c.args.lists.now (code c.args.lit.now)), ap (λ (us : List ℕ). sum_at p (map unit_at us ++ others_at c.args.lists.now (code c.args.lit.now))) c.units.ensures, c.requires.raise.fits p);
}

pub raise_all-requires : goal.raise_all-requires
raise_all-requires c =
    let parts : list_at c.args.lists.now c.args.lit.now ≡ map unit_at c.units.result.now ++ c.others.result.now = list_parts c.args.lists.now c.args.lit.now c.units.result.now c.others.result.now c.units.ensures c.others.ensures in
    let all : All (λ (o : Occurrence). o.place < length c.args.kept.now) (map unit_at c.units.result.now ++ c.others.result.now) = subst (All (λ (o : Occurrence). o.place < length c.args.kept.now)) parts c.requires.raise.known in
    record {
      known = subst (λ (n : ℕ). All (λ (o : Occurrence). o.place < n) c.others.result.now) c.raise_units.ensures.size
          (parts_all (λ (o : Occurrence). o.place < length c.args.kept.now) (map unit_at c.units.result.now) c.others.result.now all).1;
      fits = λ p.
          let sum : room_at c.args.kept.now p + sum_at p (map unit_at c.units.result.now ++ c.others.result.now) < 2 ^ 128 = subst (λ (os : List Occurrence). room_at c.args.kept.now p + sum_at p os < 2 ^ 128) parts (c.requires.raise.fits p) in
          omega (arith, sum, sum_at-append p (map unit_at c.units.result.now) c.others.result.now, c.raise_units.ensures.rooms p);
    }

pub returns : goal.returns
returns c =
    let parts : list_at c.args.lists.now c.args.lit.now ≡ map unit_at c.units.result.now ++ c.others.result.now = list_parts c.args.lists.now c.args.lit.now c.units.result.now c.others.result.now c.units.ensures c.others.ensures in
    subst (λ (os : List Occurrence). AreLowered os c.raise_all.new.kept c.args.kept.now) (sym parts)
    (lowered_back c.raise_all.new.kept c.raise_units.new.kept c.args.kept.now (map unit_at c.units.result.now) c.others.result.now c.raise_units.ensures c.raise_all.ensures)
