use Rattle.std.proofs.Common.{◌<◌, ◌∙◌, [], length, refl, ap}
use Rattle.pb_unit.specs.declared.index.Occurrence.{Occurrence}
use Rattle.pb_unit.specs.States.{at_place}
use Rattle.pb_unit.proofs.Entering.{counted_same}
use Rattle.pb_unit.proofs.Unlisting.{taken_known, taken_enough, counted_taken}
use Rattle.pb_unit.proofs.store.unlist_one.Goals as goal

pub lower-requires-clause-known : goal.lower-requires-clause-known
lower-requires-clause-known c =
    taken_known (λ (o : Occurrence). o.place < length c.args.kept.now) c.args.lists.now c.take.new.self c.in-Some.occurrence c.args.lit.now c.in-Some.ensures.taken (c.requires.known c.args.lit.now)

pub lower-requires-clause-enough : goal.lower-requires-clause-enough
lower-requires-clause-enough c =
    taken_enough c.args.spot.now.vars c.args.spot.now.places.now c.args.lists.now c.take.new.self c.args.kept.now c.in-Some.occurrence c.args.lit.now c.in-Some.ensures.taken c.requires

pub returns-in-Some-clause-counts : goal.returns-in-Some-clause-counts
returns-in-Some-clause-counts c =
    counted_taken c.args.spot.now.vars c.args.spot.now.places.now c.args.lists.now c.take.new.self c.args.kept.now c.lower.new.kept c.in-Some.occurrence c.args.lit.now c.in-Some.ensures.taken
    (ap (at_place c.args.spot.now.places.now) c.in-Some.ensures.at ∙ c.args.spot.now.empty) c.lower.ensures.lowered c.requires

pub returns-in-Some-clause-alerts : goal.returns-in-Some-clause-alerts
returns-in-Some-clause-alerts c = c.lower.ensures.lowered.alerts

pub returns-in-None-clause-counts : goal.returns-in-None-clause-counts
returns-in-None-clause-counts c = counted_same c.args.spot.now.vars c.args.spot.now.places.now c.args.lists.now c.take.new.self c.args.kept.now [] (c.in-None.ensures.none refl) c.requires
