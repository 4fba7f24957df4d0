-- Loops that hand over steps for one place after another.
use Rattle.std.proofs.Common.{◌≡◌, ◌<◌, ◌+◌, ◌-◌, ◌*◌, ◌++◌, ℕ, suc, List, ap, sym, subst, refl, arith}
use Rattle.std.specs.Prelude.{map, count_by, Result, IsErrAnd}
use Rattle.std.specs.List.{range_with_len}
use Rattle.pb_steps.specs.declared.step.Step.{Step}
use Rattle.pb_steps.specs.Steps.{takes_id}
use Rattle.pb_family.specs.Derivations.{pieces}
use Rattle.pb_derive.specs.Claims.{claim_steps}
use Rattle.pb_derive.specs.Justifications.{Justification, by_justification}
use Rattle.pb_family.specs.StepSinks.{StepState, TakesSteps, StopsInSteps, HandsSteps, HandsFrom}
use Rattle.pb_family.specs.declared.sink.SinkFault.{SinkFault}
use Rattle.pb_family.proofs.Deriving.{Deriving, deriving_from, deriving_as, deriving_step, deriving_ends, steps_fault, steps_same}
use Rattle.pb_family.proofs.Sequence.{justification_piece, justification_pieces}

-- of n pieces, each of which takes so many ids, the first k were taken
pub record Looping {R : Type 0} (piece : ℕ → ℕ → List Step) (width n k : ℕ) (old now : StepState R) : Type 0 where
  pub taken : Deriving (pieces piece width old.next 0 n) (pieces piece width now.next k (n - k)) old now
  pub count : now.next ≡ old.next + width * k

pub looping_from : {R : Type 0} (piece : ℕ → ℕ → List Step) (width n : ℕ) (a : StepState R) → Looping piece width n 0 a a
looping_from piece width n a = record { taken = deriving_from a (ap (pieces piece width a.next 0) (let e : n ≡ n - 0 = omega arith in e)); count = omega arith }

module _ {R : Type 0} (piece : ℕ → ℕ → List Step) (width n k : ℕ) (old now : StepState R) (within : k < n) (h : Looping piece width n k old now) where
  more : Deriving (pieces piece width old.next 0 n) (piece now.next k ++ pieces piece width (now.next + width) (k + 1) (n - (k + 1))) old now
  more = deriving_as (ap (pieces piece width now.next k) (let e : n - k ≡ suc (n - (k + 1)) = omega arith in e)) h.taken

  -- the next piece was taken
  pub looping_next : (after : StepState R) → count_by takes_id (piece now.next k) ≡ width → TakesSteps (piece now.next k) now after → Looping piece width n (k + 1) old after
  looping_next after ids handed =
      let counts : now.next + width ≡ after.next = omega (arith, handed.ids, ids) in
      record {
        taken = deriving_as (ap (λ (i : ℕ). pieces piece width i (k + 1) (n - (k + 1))) counts)
            (deriving_step {left = pieces piece width (now.next + width) (k + 1) (n - (k + 1))} (piece now.next k) after more handed);
        count = omega (arith, counts, h.count);
      }

  -- the fault of the next piece is handed on
  pub looping_fault : {T : Type 0} (r : Result T SinkFault) (f : SinkFault) (after : StepState R) → IsErrAnd r (λ g. g ≡ f) → StopsInSteps (piece now.next k) now after f → HandsSteps (pieces piece width old.next 0 n) r old after
  looping_fault r f after is part = steps_fault r f (piece now.next k) (pieces piece width (now.next + width) (k + 1) (n - (k + 1))) after is more part

-- all pieces were taken
pub looping_ends : {R : Type 0} (piece : ℕ → ℕ → List Step) (width n k : ℕ) (old now : StepState R) → k ≡ n → Looping piece width n k old now → TakesSteps (pieces piece width old.next 0 n) old now
looping_ends piece width n k old now all h = deriving_ends (deriving_as (ap (pieces piece width now.next k) (let e : n - k ≡ 0 = omega (arith, all) in e)) h.taken)

-- ---- steps that are such pieces

-- from each next id on
pub record ArePieces (steps : ℕ → List Step) (piece : ℕ → ℕ → List Step) (width n : ℕ) : Type 0 where
  pub same : (next : ℕ) → steps next ≡ pieces piece width next 0 n
  pub ids : (next k : ℕ) → count_by takes_id (piece next k) ≡ width

module _ {R : Type 0} {steps : ℕ → List Step} {piece : ℕ → ℕ → List Step} {width n k : ℕ} {old now : StepState R} (made : ArePieces steps piece width n) (h : Looping piece width n k old now) where
  pub pieces_next : (after : StepState R) → k < n → TakesSteps (piece now.next k) now after → Looping piece width n (k + 1) old after
  pieces_next after within handed = looping_next piece width n k old now within h after (made.ids now.next k) handed

  pub pieces_fault : {T : Type 0} (r : Result T SinkFault) (f : SinkFault) (after : StepState R) → k < n → IsErrAnd r (λ g. g ≡ f) → StopsInSteps (piece now.next k) now after f → HandsFrom steps r old after
  pieces_fault r f after within is part = steps_same r (pieces piece width old.next 0 n) (steps old.next) old after (sym (made.same old.next)) (looping_fault piece width n k old now within h r f after is part)

  pub pieces_end : k ≡ n → TakesSteps (steps old.next) old now
  pieces_end all = subst (λ (ss : List Step). TakesSteps ss old now) (sym (made.same old.next)) (looping_ends piece width n k old now all h)

pub justifications_are : (f : ℕ → Justification) (n : ℕ) → ArePieces (λ next. claim_steps next (map by_justification (map f (range_with_len 0 n)))) (justification_piece f) 1 n
justifications_are f n = record { same = λ next. justification_pieces f next 0 n; ids = λ next k. refl }
