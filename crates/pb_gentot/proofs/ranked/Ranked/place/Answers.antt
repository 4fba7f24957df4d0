use Rattle.std.proofs.Common.{ap, arith, ◌∙◌}
use Rattle.pb_tree.specs.Places.{place_of}
use Rattle.pb_tree.proofs.Places.{place_within}
use Rattle.pb_gentot.proofs.ranked.Ranked.place.Goals as goal

pub returns-clause-within : goal.returns-clause-within
returns-clause-within c =
    let place = c.place.ensures ∙ ap (place_of c.args.value) c.as_slice.ensures.value in
    omega (arith, place, place_within c.args.value c.args.self.now.values.items c.requires)
