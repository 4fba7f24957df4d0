use Rattle.std.specs.Prelude.{vec_len}
use Rattle.pb_database.specs.inner.Mirrors.{IsCovered}
use Rattle.pb_database.proofs.listed.leave.Given as goal

abbrev pub invariant-newest : goal.invariant-newest
invariant-newest l = IsCovered l.initial.engine.vars l.places.items l.engine

abbrev pub decreases-newest : goal.decreases-newest
decreases-newest l = vec_len l.places
