use Rattle.pb_gentot.proofs.Ranking.{PlacesOf}
use Rattle.pb_gentot.proofs.ranks.Ranks.of.Given as goal

abbrev pub invariant-loop-place : goal.invariant-loop-place
invariant-loop-place l = PlacesOf l.values l.places.items l.place
