-- Reifications that are handed over in two parts, and room for them.
use Rattle.std.proofs.Common.{◌≡◌, ◌≤◌, ◌+◌, ◌*◌, ◌^◌, ◌++◌, ℕ, List, length, ap, arith}
use Rattle.std.specs.Prelude.{Result}
use Rattle.pb_derive.specs.Reifications.{Reification, reification_steps}
use Rattle.pb_family.specs.StepSinks.{StepState, TakesSteps, StopsInSteps, HandsSteps}
use Rattle.pb_family.specs.declared.sink.SinkFault.{SinkFault}
use Rattle.pb_family.proofs.Deriving.{deriving_from, deriving_as, deriving_step, deriving_stops, steps_last}
use Rattle.pb_family.proofs.Sequence.{reifications_ids, reifications_split}

-- some were handed over, and then the others
pub reifications_then : {R T : Type 0} (r : Result T SinkFault) (xs ys : List Reification) (old mid new : StepState R) → TakesSteps (reification_steps old.next xs) old mid → HandsSteps (reification_steps mid.next ys) r mid new
    → HandsSteps (reification_steps old.next (xs ++ ys)) r old new
reifications_then r xs ys old mid new h k =
    steps_last r (reification_steps mid.next ys) new
    (deriving_as (ap (λ (n : ℕ). reification_steps n ys) (let same : old.next + 2 * length xs ≡ mid.next = omega (arith, h.ids, reifications_ids old.next xs) in same))
    (deriving_step {left = reification_steps (old.next + 2 * length xs) ys} (reification_steps old.next xs) mid (deriving_from old (reifications_split old.next xs ys)) h)) k

pub reifications_next : {R : Type 0} (xs : List Reification) (old mid : StepState R) → TakesSteps (reification_steps old.next xs) old mid → mid.next ≡ old.next + 2 * length xs
reifications_next xs old mid h = omega (arith, h.ids, reifications_ids old.next xs)

pub less_meant : (m n next : ℕ) → next + 2 * (m + n) ≤ 2 ^ 61 + 2 ^ 33 → next + 2 * m ≤ 2 ^ 61 + 2 ^ 33
less_meant m n next room = omega (arith, room)

module _ {R : Type 0} (xs : List Reification) (a b : StepState R) where
  pub meant_stop : (ys : List Reification) (f : SinkFault) → StopsInSteps (reification_steps a.next xs) a b f → StopsInSteps (reification_steps a.next (xs ++ ys)) a b f
  meant_stop ys f part = deriving_stops (reification_steps a.next xs) (reification_steps (a.next + 2 * length xs) ys) b f (deriving_from a (reifications_split a.next xs ys)) part

  pub meant_room : (n : ℕ) → a.next + 2 * (length xs + n) ≤ 2 ^ 61 + 2 ^ 33 → TakesSteps (reification_steps a.next xs) a b → b.next + 2 * n ≤ 2 ^ 61 + 2 ^ 33
  meant_room n room taken = omega (arith, room, reifications_next xs a b taken)
