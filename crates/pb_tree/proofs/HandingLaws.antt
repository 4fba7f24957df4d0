-- What is handed over in two parts, and where the first one ends in a fault: clauses and justifications.
use Rattle.std.proofs.Common.{◌<◌, ◌+◌, ◌^◌, ◌++◌, ℕ, List, length, map, refl, ◌∙◌, arith, Err}
use Rattle.std.specs.Prelude.{Result}
use Rattle.pb_base.specs.declared.literal.Lit.{Lit}
use Rattle.pb_base.specs.declared.fault.Failed.{Failed}
use Rattle.pb_derive.specs.Claims.{claim_steps}
use Rattle.pb_derive.specs.Justifications.{Justification, by_justification}
use Rattle.pb_family.specs.Handing.{TakesClauses, FailsInClauses, StopsInClauses, Hands, HandsIfMemory}
use Rattle.pb_family.specs.Sinks.{SinkState}
use Rattle.pb_family.specs.StepSinks.{StepState, TakesSteps, StopsInSteps}
use Rattle.pb_family.specs.declared.sink.SinkFault.{SinkFault}
use Rattle.pb_family.proofs.Emission.{emitting_starts, emitting_step, emitting_stops, emitting_fails, hands_last}
use Rattle.pb_family.proofs.FlatPieces.{justifications_stopped, justifications_next}
use Rattle.pb_family.proofs.SameSteps.{HaveSameSteps}
use Rattle.pb_family.proofs.Stopping.{stops_last}

-- ---- clauses

module _ {R : Type 0} (xs ys : List (List Lit)) where
  pub clauses_then : {T : Type 0} (r : Result T Failed) (a b c : SinkState R) → TakesClauses xs a b → Hands ys r b c → Hands (xs ++ ys) r a c
  clauses_then r a b c first rest = hands_last r ys c (emitting_step xs b (emitting_starts (xs ++ ys) a) first) rest

  pub clauses_stop : (a b : SinkState R) → FailsInClauses xs a b → FailsInClauses (xs ++ ys) a b
  clauses_stop a b part = emitting_fails xs ys b (emitting_starts (xs ++ ys) a) part

  -- where memory may be wanting
  pub memory_then : {T : Type 0} (r : Result T SinkFault) (a b c : SinkState R) → TakesClauses xs a b → HandsIfMemory ys r b c → HandsIfMemory (xs ++ ys) r a c
  memory_then r a b c first rest = stops_last r ys c (emitting_step xs b (emitting_starts (xs ++ ys) a) first) rest

  pub memory_stop : (f : SinkFault) (a b : SinkState R) → StopsInClauses xs a b f → StopsInClauses (xs ++ ys) a b f
  memory_stop f a b part = emitting_stops xs ys b f (emitting_starts (xs ++ ys) a) part

-- ---- justifications

pub less_claimed : (m n next : ℕ) → next + (m + n) < 2 ^ 62 → next + m < 2 ^ 62
less_claimed m n next room = omega (arith, room)

module _ {R : Type 0} (xs : List Justification) (a b : StepState R) where
  pub claimed_stop : (ys : List Justification) (f : SinkFault) → StopsInSteps (claim_steps a.next (map by_justification xs)) a b f → StopsInSteps (claim_steps a.next (map by_justification (xs ++ ys))) a b f
  claimed_stop ys f part = justifications_stopped {T = Unit {0}} (Err f) f xs ys a b refl part

  pub claimed_room : (n : ℕ) → a.next + (length xs + n) < 2 ^ 62 → TakesSteps (claim_steps a.next (map by_justification xs)) a b → b.next + n < 2 ^ 62
  claimed_room n room taken = omega (arith, room, justifications_next xs a b taken)

pub same_then : {xs ys zs : List Justification} → HaveSameSteps xs ys → HaveSameSteps ys zs → HaveSameSteps xs zs
same_then h k = record { count = h.count ∙ k.count; steps = λ next. h.steps next ∙ k.steps next }
