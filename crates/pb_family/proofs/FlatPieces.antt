-- Clauses with justifications that are listed place by place, and in two parts.
use Rattle.std.proofs.Common.{◌≡◌, ◌+◌, ◌++◌, ℕ, zero, suc, List, ◌∷◌, map, length, refl, ap, ◌∙◌, arith}
use Rattle.std.specs.Prelude.{Result, IsErrAnd}
use Rattle.std.specs.List.{range_with_len, flat_map}
use Rattle.pb_steps.specs.declared.step.Step.{Step}
use Rattle.pb_derive.specs.Claims.{claim_steps}
use Rattle.pb_derive.specs.Justifications.{Justification, by_justification}
use Rattle.pb_family.specs.Derivations.{pieces}
use Rattle.pb_family.specs.StepSinks.{StepState, TakesSteps, StopsInSteps, HandsSteps}
use Rattle.pb_family.specs.declared.sink.SinkFault.{SinkFault}
use Rattle.pb_family.proofs.Deriving.{deriving_from, deriving_as, deriving_step, steps_fault, steps_last}
use Rattle.pb_family.proofs.Sequence.{justifications_ids, justifications_split}

-- as many justifications for each place
pub flat_pieces : (f : ℕ → List Justification) (width : ℕ) → ((k : ℕ) → length (f k) ≡ width) → (next a n : ℕ) → claim_steps next (map by_justification (flat_map f (range_with_len a n))) ≡ pieces (λ id k. claim_steps id (map by_justification (f k))) width next a n
flat_pieces f width each next a zero = refl
flat_pieces f width each next a (suc n) =
    justifications_split next (f a) (flat_map f (range_with_len (a + 1) n))
    ∙ ap (λ (ss : List Step). claim_steps next (map by_justification (f a)) ++ ss)
    (ap (λ (w : ℕ). claim_steps (next + w) (map by_justification (flat_map f (range_with_len (a + 1) n)))) (each a) ∙ flat_pieces f width each (next + width) (a + 1) n)

-- places that are counted from one later
pub range_later : {X : Type 0} (f : ℕ → X) (a n : ℕ) → map f (range_with_len (a + 1) n) ≡ map (λ (k : ℕ). f (k + 1)) (range_with_len a n)
range_later f a zero = refl
range_later {X} f a (suc n) = ap (λ (xs : List X). f (a + 1) ∷ xs) (range_later f (a + 1) n)

-- ---- two parts

-- some were handed over, and then the others
pub justifications_then : {R T : Type 0} (r : Result T SinkFault) (xs ys : List Justification) (old mid new : StepState R) → TakesSteps (claim_steps old.next (map by_justification xs)) old mid → HandsSteps (claim_steps mid.next (map by_justification ys)) r mid new
    → HandsSteps (claim_steps old.next (map by_justification (xs ++ ys))) r old new
justifications_then r xs ys old mid new h k =
    steps_last r (claim_steps mid.next (map by_justification ys)) new
    (deriving_as (ap (λ (n : ℕ). claim_steps n (map by_justification ys)) (let same : old.next + length xs ≡ mid.next = omega (arith, h.ids, justifications_ids old.next xs) in same))
    (deriving_step {left = claim_steps (old.next + length xs) (map by_justification ys)} (claim_steps old.next (map by_justification xs)) mid (deriving_from old (justifications_split old.next xs ys)) h)) k

-- the fault in the first ones is handed on
pub justifications_stopped : {R T : Type 0} (r : Result T SinkFault) (f : SinkFault) (xs ys : List Justification) (old after : StepState R) → IsErrAnd r (λ g. g ≡ f) → StopsInSteps (claim_steps old.next (map by_justification xs)) old after f
    → HandsSteps (claim_steps old.next (map by_justification (xs ++ ys))) r old after
justifications_stopped r f xs ys old after is h =
    steps_fault r f (claim_steps old.next (map by_justification xs)) (claim_steps (old.next + length xs) (map by_justification ys)) after is (deriving_from old (justifications_split old.next xs ys)) h

-- so many ids were taken
pub justifications_next : {R : Type 0} (xs : List Justification) (old mid : StepState R) → TakesSteps (claim_steps old.next (map by_justification xs)) old mid → mid.next ≡ old.next + length xs
justifications_next xs old mid h = omega (arith, h.ids, justifications_ids old.next xs)
