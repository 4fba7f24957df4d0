-- The sums of blocks, one after another.
use Rattle.std.proofs.Common.{◌≡◌, ◌≤◌, ◌<◌, ◌+◌, ◌*◌, ◌^◌, ◌++◌, ◌∙◌, ℕ, List, [], ◌∷◌, length, take, drop, min, refl, ap, sym, arith}
use Rattle.std.specs.Prelude.{Bool, true, false, cond, count_by, Result, IsErrAnd}
use Rattle.std.proofs.lemmas.List.{length-drop, length-take}
use Rattle.pb_steps.specs.Steps.{takes_id}
use Rattle.pb_steps.specs.declared.step.Step.{Step}
use Rattle.pb_steps.specs.declared.step.Step.TheVariants.{Pol}
use Rattle.pb_derive.specs.Deletions.{deletion_steps}
use Rattle.pb_family.specs.StepSinks.{StepState, TakesSteps, StopsInSteps, HandsSteps}
use Rattle.pb_family.specs.declared.sink.SinkFault.{SinkFault}
use Rattle.pb_family.proofs.Deriving.{Deriving, deriving_as, deriving_step, steps_fault}
use Rattle.pb_adder.specs.AdderSteps.{blocks, sum_ops, later_sums, last_sum, sum_steps}
use Rattle.pb_adder.proofs.Walks.{blocks_first}

-- the first block of some levels, and those behind it
pub record IsCut (levels block later : List ℕ) (k : ℕ) : Type 0 where
  pub split : blocks levels ≡ block ∷ blocks later
  pub front : length block ≡ k
  pub some : 1 ≤ length block
  pub few : length block ≤ 2 ^ 16
  pub size : length block + length later ≡ length levels

pub is_cut : (levels block later : List ℕ) (k : ℕ) → 0 < length levels → k ≡ min (2 ^ 16) (length levels) → block ≡ take k levels → later ≡ drop k levels → IsCut levels block later k
is_cut levels block later k some is front back =
    let size : length block ≡ min k (length levels) = ap length front ∙ length-take k levels in
    record {
      split = blocks_first levels block later k some is front back;
      front = omega (arith, size, is);
      some = omega (arith, size, is, some);
      few = omega (arith, size, is);
      size = omega (arith, size, is, ap length back, length-drop k levels);
    }

-- the steps of a block, the first one or a later one
abbrev pub block_piece : Bool → ℕ → ℕ → List ℕ → List Step
block_piece is_later id running block = Pol (sum_ops id block running) ∷ cond is_later (deletion_steps 1 running 1) []

-- those of what is left of the blocks
abbrev pub left_sums : Bool → ℕ → ℕ → ℕ → List (List ℕ) → List Step
left_sums is_later id running next [] = []
left_sums is_later id running next (block ∷ parts) = block_piece is_later id running block ++ later_sums (id + 4 * length block) next (next + 1) parts

pub left_all : (id running next : ℕ) (parts : List (List ℕ)) → sum_steps id running next parts ≡ left_sums false id running next parts
left_all id running next [] = refl
left_all id running next (block ∷ parts) = refl

left_later : (id running next : ℕ) (parts : List (List ℕ)) → later_sums id running next parts ≡ left_sums true id running next parts
left_later id running next [] = refl
left_later id running next (block ∷ parts) = refl

piece_ids : (is_later : Bool) (id running : ℕ) (block : List ℕ) → count_by takes_id (block_piece is_later id running block) ≡ 1
piece_ids true id running block = refl
piece_ids false id running block = refl

module _ {R : Type 0} {all : List Step} {old now : StepState R} (is_later : Bool) (id running : ℕ) (rest block later : List ℕ) (split : blocks rest ≡ block ∷ blocks later)
    (e : Deriving all (left_sums is_later id running now.next (blocks rest)) old now) (own : ℕ) (is : own ≡ id) where
  begun : Deriving all (block_piece is_later own running block ++ later_sums (id + 4 * length block) now.next (now.next + 1) (blocks later)) old now
  begun = deriving_as (ap (left_sums is_later id running now.next) split ∙ (λ i. block_piece is_later (sym is i) running block ++ later_sums (id + 4 * length block) now.next (now.next + 1) (blocks later))) e

  -- they take one id
  pub block_counted : (after : StepState R) → TakesSteps (block_piece is_later own running block) now after → now.next + 1 ≡ after.next
  block_counted after h = omega (arith, h.ids, piece_ids is_later own running block)

  -- they were taken
  pub block_taken : (other next : ℕ) (after : StepState R) → now.next ≡ next → other ≡ id + 4 * length block → TakesSteps (block_piece is_later own running block) now after
      → Deriving all (left_sums true other next after.next (blocks later)) old after
  block_taken other next after same on h =
      let one = block_counted after h in
      deriving_as ((λ i. later_sums (sym on i) (same i) (one i) (blocks later)) ∙ left_later other next after.next (blocks later))
      (deriving_step {left = later_sums (id + 4 * length block) now.next (now.next + 1) (blocks later)} (block_piece is_later own running block) after begun h)

  -- the fault in them is handed on
  pub block_fault : {T : Type 0} (r : Result T SinkFault) (f : SinkFault) (after : StepState R) → IsErrAnd r (λ g. g ≡ f) → StopsInSteps (block_piece is_later own running block) now after f → HandsSteps all r old after
  block_fault r f after err h = steps_fault r f (block_piece is_later own running block) (later_sums (id + 4 * length block) now.next (now.next + 1) (blocks later)) after err begun h

-- the last sum's id, behind a block
pub last_moved : (running now next after : ℕ) (rest block later : List ℕ) → blocks rest ≡ block ∷ blocks later → now ≡ next → now + 1 ≡ after → last_sum running now (blocks rest) ≡ last_sum next after (blocks later)
last_moved running now next after rest block later split same one = ap (last_sum running now) split ∙ (λ i. last_sum (same i) (one i) (blocks later))
