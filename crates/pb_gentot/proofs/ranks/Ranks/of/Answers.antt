use Rattle.std.proofs.Common.{arith, ◌+◌, ℕ, List, sym, ap, subst}
use Rattle.pb_gentot.proofs.Ranking.{PlacesOf, places_more, places_passed, places_all}
use Rattle.pb_gentot.proofs.ranks.Ranks.of.Goals as goal
use Rattle.pb_gentot.proofs.ranks.Ranks.of.Goals.{then-value-len, else-value-len}

pub loop-place-preserved : goal.loop-place-preserved
loop-place-preserved c =
    let us = c.args.values.now in
    let i = c.loop-place.place in
    let places = c.loop-place.places.items in
    let within = c.loop-place-test.true in
    elim c.if-value-len.branch [
      | then-value-len w ↦ subst (λ (ps : List ℕ). PlacesOf us ps (i + 1)) (sym (ap (λ m. m.items) w.places-is)) (places_more us places i c.requires.rising within c.loop-place.invariant)
      | else-value-len w ↦ subst (λ (ps : List ℕ). PlacesOf us ps (i + 1)) (sym (ap (λ m. m.items) w.places-is)) (places_passed us places i (omega arith) c.loop-place.invariant)
    ]

pub returns : goal.returns
returns c = places_all c.args.values.now _ c.loop-place.place c.requires.rising (omega arith) c.loop-place.invariant
