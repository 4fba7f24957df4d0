use Rattle.std.proofs.Common.{◌++◌, List, take}
use Rattle.pb_norm.specs.Constraints.{Constraint}
use Rattle.pb_database.specs.inner.Slots.{listed_slots}
use Rattle.pb_database.specs.inner.Mirrors.{IsCovered, HasJust}
use Rattle.pb_database.proofs.listed.join_listed.Given as goal

abbrev pub invariant-loop-id : goal.invariant-loop-id
invariant-loop-id l = record {
  covered : IsCovered l.initial.engine.vars l.places.items l.engine;
  joined : (cs : List Constraint) → HasJust cs l.initial.engine → HasJust (cs ++ listed_slots l.slots (take l.id-index l.ids)) l.engine;
}
