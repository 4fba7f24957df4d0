-- The clauses of a large node block by block, as they are handed over.
use Rattle.std.proofs.Common.{◌≡◌, ◌≤◌, ◌<◌, ◌+◌, ◌-◌, ◌^◌, ◌∙◌, ◌++◌, ℕ, zero, suc, List, [], ◌∷◌, refl, sym, ap, subst, arith}
use Rattle.std.specs.Prelude.{Result, IsErrAnd, count_by}
use Rattle.std.specs.List.{range_with_len}
use Rattle.pb_steps.specs.declared.step.Step.{Step}
use Rattle.pb_steps.specs.declared.step.Step.TheVariants.{Del}
use Rattle.pb_steps.specs.Steps.{takes_id}
use Rattle.pb_derive.specs.Claims.{claim_steps}
use Rattle.pb_derive.specs.Deletions.{deletion_steps}
use Rattle.pb_family.specs.StepSinks.{StepState, TakesSteps, StopsInSteps, HandsSteps}
use Rattle.pb_family.specs.declared.sink.SinkFault.{SinkFault}
use Rattle.pb_family.proofs.Deriving.{Deriving, deriving_starts, deriving_from, deriving_as, deriving_step, deriving_ends, steps_fault, steps_last}
use Rattle.pb_family.proofs.Sequence.{deletions_ids, one_each, pieces_ids}
use Rattle.pb_tree.proofs.PairCounts.{count-append}
use Rattle.pb_totalizer.specs.declared.joint.Joint.{Joint}
use Rattle.pb_totalizer.specs.declared.side.Side.{Side}
use Rattle.pb_totalizer.specs.declared.side.Side.TheVariants.{Leaf, Node}
use Rattle.pb_totalizer.specs.inner.Joints.{large_at}
use Rattle.pb_totalizer.specs.inner.Sides.{side_count, side_wide_lines, side_wide_size, side_wide_others, side_narrows}
use Rattle.pb_totalizer.specs.inner.Windows.{Large, last_block, window_in, windows_in, windows_of, claims_in, block_in, blocks_in, claim_count, blocks_ids}
use Rattle.pb_totalizer.specs.laws.OutputFine.{claims-ids}
use Rattle.pb_totalizer.proofs.LargeSteps.{claims_counted}
use Rattle.pb_totalizer.proofs.NodeHanding.{NodeForm}

-- ---- how many ids

pub windows_ids : (w : Large) (k : ℕ) → count_by takes_id (windows_in w k) ≡ windows_of w
windows_ids w k = omega (arith, ap (count_by takes_id) (one_each (window_in w k) 0 0 (windows_of w)), pieces_ids (λ id j. window_in w k j ∷ []) 1 (λ id j. refl) 0 0 (windows_of w))

pub block_taking : (w : Large) (k at : ℕ) → count_by takes_id (block_in w k at) ≤ windows_of w + claim_count w.cap w.left w.right k
block_taking w k at =
    let claims = claims_in w at k in
    let count : ℕ = windows_of w in
    omega (
      arith,
      count-append takes_id (windows_in w k) (claim_steps (at + count) claims ++ deletion_steps count at 1),
      count-append takes_id (claim_steps (at + count) claims) (deletion_steps count at 1),
      windows_ids w k,
      claims-ids (at + count) claims,
      claims_counted w at k,
      deletions_ids count at 1,
    )

-- ---- a block

module _ {R : Type 0} (w : Large) (k : ℕ) (old : StepState R) where
  abbrev claims : ℕ → ℕ → List Step
  claims at windows = claim_steps at (claims_in w windows k)

  abbrev gone : List Step
  gone = deletion_steps (windows_of w) old.next 1

  pub windows_stopped : {T : Type 0} (result : Result T SinkFault) (f : SinkFault) (after : StepState R) → IsErrAnd result (λ g. g ≡ f) → StopsInSteps (windows_in w k) old after f → HandsSteps (block_in w k old.next) result old after
  windows_stopped result f after is part = steps_fault result f (windows_in w k) (claims (old.next + windows_of w) old.next ++ gone) after is (deriving_starts (block_in w k old.next) old) part

  module _ (mid : StepState R) (taken : TakesSteps (windows_in w k) old mid) (at : ℕ) (at_is : at ≡ old.next) where
    pub windows_next : mid.next ≡ old.next + windows_of w
    windows_next = omega (arith, taken.ids, windows_ids w k)

    after_windows : Deriving (block_in w k old.next) (claims mid.next at ++ gone) old mid
    after_windows = deriving_as (λ i. claims (sym windows_next i) (sym at_is i) ++ gone) (deriving_step {left = claims (old.next + windows_of w) old.next ++ gone} (windows_in w k) mid (deriving_starts (block_in w k old.next) old) taken)

    pub claims_stopped : {T : Type 0} (result : Result T SinkFault) (f : SinkFault) (after : StepState R) → IsErrAnd result (λ g. g ≡ f) → StopsInSteps (claim_steps mid.next (claims_in w at k)) mid after f → HandsSteps (block_in w k old.next) result old after
    claims_stopped result f after is part = steps_fault result f (claims mid.next at) gone after is after_windows part

    module _ (last : StepState R) (taken_2 : TakesSteps (claim_steps mid.next (claims_in w at k)) mid last) where
      pub claims_next : last.next ≤ old.next + windows_of w + claim_count w.cap w.left w.right k
      claims_next = omega (arith, windows_next, taken_2.ids, claims-ids mid.next (claims_in w at k), claims_counted w at k)

      pub block_handed : {T : Type 0} (result : Result T SinkFault) (after : StepState R) (n : ℕ) → n ≡ windows_of w → HandsSteps (Del (range_with_len at n) ∷ []) result last after → HandsSteps (block_in w k old.next) result old after
      block_handed result after n n_is h =
          steps_last result gone after (deriving_step {left = gone} (claims mid.next at) last after_windows taken_2) (subst (λ (ss : List Step). HandsSteps ss result last after) (λ i. Del (range_with_len (at_is i) (n_is i)) ∷ []) h)

-- ---- block after block: of n blocks the first k were taken

pub record BlocksTaken {R : Type 0} (w : Large) (n k : ℕ) (old now : StepState R) : Type 0 where
  pub taken : Deriving (blocks_in w 0 n old.next) (blocks_in w k (n - k) now.next) old now
  pub room : now.next + blocks_ids w.cap w.left w.right k (n - k) ≤ old.next + blocks_ids w.cap w.left w.right 0 n

pub blocks_from : {R : Type 0} (w : Large) (n : ℕ) (a : StepState R) → BlocksTaken w n 0 a a
blocks_from w n a =
    let e : n ≡ n - 0 = omega arith in
    record { taken = deriving_from a (ap (λ (m : ℕ). blocks_in w 0 m a.next) e); room = omega (arith, ap (blocks_ids w.cap w.left w.right 0) e) }

module _ {R : Type 0} (w : Large) (n k : ℕ) (old now : StepState R) (within : k < n) (h : BlocksTaken w n k old now) where
  left_over : n - k ≡ suc (n - (k + 1))
  left_over = omega (arith, within)

  next_one : suc k ≡ k + 1
  next_one = omega arith

  abbrev rest : ℕ → List Step
  rest at = blocks_in w (k + 1) (n - (k + 1)) at

  more : Deriving (blocks_in w 0 n old.next) (block_in w k now.next ++ rest (now.next + count_by takes_id (block_in w k now.next))) old now
  more =
      deriving_as (ap (λ (m : ℕ). blocks_in w k m now.next) left_over ∙ ap (λ (j : ℕ). block_in w k now.next ++ blocks_in w j (n - (k + 1)) (now.next + count_by takes_id (block_in w k now.next))) next_one) h.taken

  pub blocks_room : now.next + (windows_of w + claim_count w.cap w.left w.right k + blocks_ids w.cap w.left w.right (k + 1) (n - (k + 1))) ≤ old.next + blocks_ids w.cap w.left w.right 0 n
  blocks_room =
      let ids : blocks_ids w.cap w.left w.right k (n - k) ≡ windows_of w + claim_count w.cap w.left w.right k + blocks_ids w.cap w.left w.right (k + 1) (n - (k + 1)) =
      ap (blocks_ids w.cap w.left w.right k) left_over ∙ ap (λ (j : ℕ). windows_of w + claim_count w.cap w.left w.right k + blocks_ids w.cap w.left w.right j (n - (k + 1))) next_one in
      omega (arith, h.room, ids)

  -- the next block was taken
  pub blocks_next : (after : StepState R) → TakesSteps (block_in w k now.next) now after → BlocksTaken w n (k + 1) old after
  blocks_next after handed = record {
    taken = deriving_as (ap rest (sym handed.ids)) (deriving_step {left = rest (now.next + count_by takes_id (block_in w k now.next))} (block_in w k now.next) after more handed);
    room = omega (arith, blocks_room, handed.ids, block_taking w k now.next);
  }

  -- the fault in the next block is handed on
  pub blocks_fault : {T : Type 0} (r : Result T SinkFault) (f : SinkFault) (after : StepState R) → IsErrAnd r (λ g. g ≡ f) → StopsInSteps (block_in w k now.next) now after f → HandsSteps (blocks_in w 0 n old.next) r old after
  blocks_fault r f after is part = steps_fault r f (block_in w k now.next) (rest (now.next + count_by takes_id (block_in w k now.next))) after is more part

-- all blocks were taken
pub blocks_end : {R : Type 0} (w : Large) (n k : ℕ) (old now : StepState R) → k ≡ n → BlocksTaken w n k old now → TakesSteps (blocks_in w 0 n old.next) old now
blocks_end w n k old now all h = deriving_ends (deriving_as (ap (λ (m : ℕ). blocks_in w k m now.next) (let e : n - k ≡ 0 = omega (arith, all) in e)) h.taken)

pub blocks_taking : (w : Large) (k n at : ℕ) → count_by takes_id (blocks_in w k n at) ≤ blocks_ids w.cap w.left w.right k n
blocks_taking w k zero at = omega arith
blocks_taking w k (suc n) at =
    let one = block_in w k at in
    let after : ℕ = at + count_by takes_id one in
    omega (arith, count-append takes_id one (blocks_in w (suc k) n after), block_taking w k at, blocks_taking w (suc k) n after)

-- those of all blocks
abbrev pub all_ids : Large → ℕ
all_ids w = blocks_ids w.cap w.left w.right 0 (suc (last_block w.left))

-- ---- the node, by where the lines about the blocks of its parts begin

abbrev pub large_form : Joint → NodeForm Large
large_form n = record {
  left_size = side_wide_size n.left;
  right_size = side_wide_size n.right;
  lefts = side_wide_lines n.left;
  rights = side_wide_lines n.right;
  place = large_at n;
  body = λ w at. blocks_in w 0 (suc (last_block w.left)) at;
}

-- the ids of the lines about a part have room
pub side_rooms : (s : Side) (next : ℕ) → next + side_wide_size s < 2 ^ 62 → (1 ≤ side_count s) × (side_narrows s next + last_block (side_count s) < 2 ^ 62) × (side_wide_others s next + side_count s < 2 ^ 62)
side_rooms (Leaf lit) next room = (omega arith, omega (arith, room), omega (arith, room))
side_rooms (Node row) next room = (omega arith, omega (arith, room), omega (arith, room))
