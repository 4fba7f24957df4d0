-- Rows of clauses of a node, as they are handed over.
use Rattle.std.proofs.Common.{◌≡◌, ◌≤◌, ◌<◌, ◌+◌, ◌-◌, ◌∙◌, ◌++◌, ℕ, suc, true, List, [], ◌∷◌, length, map, refl, sym, ap, arith, length-append}
use Rattle.std.specs.Prelude.{All, Result, IsErrAnd}
use Rattle.std.specs.List.{flat_map, range_with_len}
use Rattle.std.proofs.lemmas.List.Concat.{flat_map-cons}
use Rattle.std.proofs.lemmas.List.Elements.{All-map}
use Rattle.std.proofs.lemmas.List.FromFn.{length-map-range_with_len}
use Rattle.pb_steps.specs.declared.step.Step.TheVariants.{Out}
use Rattle.pb_steps.specs.Steps.{takes_id}
use Rattle.pb_derive.specs.Claims.{Claim, claim_steps}
use Rattle.pb_family.specs.Derivations.{pieces}
use Rattle.pb_family.specs.StepSinks.{StepState, TakesSteps, StopsInSteps, HandsSteps}
use Rattle.pb_family.specs.declared.sink.SinkFault.{SinkFault}
use Rattle.pb_family.proofs.Deriving.{Deriving, deriving_from, deriving_as, deriving_step, deriving_ends, steps_fault}
use Rattle.pb_family.proofs.Sequence.{claims_ids, claims_split, claim_pieces}
use Rattle.pb_tree.proofs.Extending.{all_from_each}
use Rattle.pb_tree.proofs.TreeHanded.{range_shift}

-- claims that have the same steps, whatever their clauses are
pub claims_same : {X : Type 0} (f g : X → Claim) → ((x : X) → (f x).step ≡ (g x).step) → (next : ℕ) (xs : List X) → claim_steps next (map f xs) ≡ claim_steps next (map g xs)
claims_same f g same next [] = refl
claims_same f g same next (x ∷ xs) = λ i. same x i ∷ Out next ∷ claims_same f g same (next + 1) xs i

-- each takes an id
pub row_takes : (claim : ℕ → Claim) → ((j : ℕ) → takes_id (claim j).step ≡ true) → (js : List ℕ) → All (λ c. takes_id c.step ≡ true) (map claim js)
row_takes claim takes js = All-map (λ (c : Claim). takes_id c.step ≡ true) claim js (all_from_each (λ (j : ℕ). takes_id (claim j).step ≡ true) js (λ j h. takes j))

module _ (claim : ℕ → Claim) (js : List ℕ) (low count : ℕ) (same : range_with_len low count ≡ js) where
  shifted : map claim js ≡ map (λ k. claim (low + k)) (range_with_len 0 count)
  shifted = ap (map claim) (sym same ∙ ap (λ (a : ℕ). range_with_len a count) (let e : low ≡ low + 0 = omega arith in e)) ∙ range_shift claim low 0 count

  -- one number after another
  pub row_pieces : (next : ℕ) → pieces (λ id k. claim_steps id (claim (low + k) ∷ [])) 1 next 0 count ≡ claim_steps next (map claim js)
  row_pieces next = sym (ap (claim_steps next) shifted ∙ claim_pieces (λ k. claim (low + k)) next 0 count)

  pub row_length : length (map claim js) ≡ count
  row_length = ap length shifted ∙ length-map-range_with_len (λ k. claim (low + k)) 0 count

-- of n rows of clauses, the first k were taken
pub record ClaimRowing {R : Type 0} (row : ℕ → List Claim) (n k : ℕ) (old now : StepState R) : Type 0 where
  pub taken : Deriving (claim_steps old.next (flat_map row (range_with_len 0 n))) (claim_steps now.next (flat_map row (range_with_len k (n - k)))) old now
  pub room : now.next + length (flat_map row (range_with_len k (n - k))) ≡ old.next + length (flat_map row (range_with_len 0 n))

pub claim_rowing_from : {R : Type 0} (row : ℕ → List Claim) (n : ℕ) (a : StepState R) → ClaimRowing row n 0 a a
claim_rowing_from row n a =
    let e : n ≡ n - 0 = omega arith in
    record { taken = deriving_from a (ap (λ (m : ℕ). claim_steps a.next (flat_map row (range_with_len 0 m))) e); room = ap (λ (m : ℕ). a.next + length (flat_map row (range_with_len 0 m))) (sym e) }

module _ {R : Type 0} (row : ℕ → List Claim) (n k : ℕ) (old now : StepState R) (within : k < n) (h : ClaimRowing row n k old now) where
  abbrev rest : List Claim
  rest = flat_map row (range_with_len (k + 1) (n - (k + 1)))

  next_row : flat_map row (range_with_len k (n - k)) ≡ row k ++ rest
  next_row = ap (λ (m : ℕ). flat_map row (range_with_len k m)) (let e : n - k ≡ suc (n - (k + 1)) = omega arith in e) ∙ flat_map-cons row k (range_with_len (k + 1) (n - (k + 1)))

  row_left : Deriving (claim_steps old.next (flat_map row (range_with_len 0 n))) (claim_steps now.next (row k) ++ claim_steps (now.next + length (row k)) rest) old now
  row_left = deriving_as (ap (claim_steps now.next) next_row ∙ claims_split now.next (row k) rest) h.taken

  pub claim_rowing_room : now.next + length (row k) ≤ old.next + length (flat_map row (range_with_len 0 n))
  claim_rowing_room = omega (arith, h.room, ap length next_row, length-append (row k) rest)

  -- the next row was taken
  pub claim_rowing_next : (after : StepState R) → All (λ c. takes_id c.step ≡ true) (row k) → TakesSteps (claim_steps now.next (row k)) now after → ClaimRowing row n (k + 1) old after
  claim_rowing_next after each handed =
      let counts : now.next + length (row k) ≡ after.next = omega (arith, handed.ids, claims_ids now.next (row k) each) in
      record {
        taken = deriving_as (ap (λ (i : ℕ). claim_steps i rest) counts) (deriving_step {left = claim_steps (now.next + length (row k)) rest} (claim_steps now.next (row k)) after row_left handed);
        room = omega (arith, counts, h.room, ap length next_row, length-append (row k) rest);
      }

  -- the fault in the next row is handed on
  pub claim_rowing_fault : {T : Type 0} (r : Result T SinkFault) (f : SinkFault) (after : StepState R) → IsErrAnd r (λ g. g ≡ f) → StopsInSteps (claim_steps now.next (row k)) now after f
      → HandsSteps (claim_steps old.next (flat_map row (range_with_len 0 n))) r old after
  claim_rowing_fault r f after is part = steps_fault r f (claim_steps now.next (row k)) (claim_steps (now.next + length (row k)) rest) after is row_left part

-- all rows were taken
pub claim_rowing_ends : {R : Type 0} (row : ℕ → List Claim) (n k : ℕ) (old now : StepState R) → k ≡ n → ClaimRowing row n k old now → TakesSteps (claim_steps old.next (flat_map row (range_with_len 0 n))) old now
claim_rowing_ends row n k old now all h =
    deriving_ends (deriving_as (ap (λ (m : ℕ). claim_steps now.next (flat_map row (range_with_len k m))) (let e : n - k ≡ 0 = omega (arith, all) in e)) h.taken)
