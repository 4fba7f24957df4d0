-- A grid's derivation, part by part.
use Rattle.std.proofs.Common.{◌≡◌, ◌≤◌, ◌<◌, ◌+◌, ◌*◌, ◌++◌, ◌∙◌, ℕ, cond, List, [], ◌∷◌, length, refl, ap, sym, arith}
use Rattle.std.specs.Prelude.{Result, IsErrAnd}
use Rattle.std.proofs.lemmas.List.Sums.{sum_by-cons, sum_by-append, count_by-le-length}
use Rattle.pb_base.specs.declared.literal.Lit.{Lit}
use Rattle.pb_steps.specs.declared.step.Step.{Step}
use Rattle.pb_steps.specs.Steps.{takes_id}
use Rattle.pb_derive.specs.Claims.{claim_steps}
use Rattle.pb_derive.specs.Deletions.{deletion_steps}
use Rattle.pb_derive.specs.FollowedBy.{followed_by}
use Rattle.pb_derive.specs.Reifications.{reification_steps}
use Rattle.pb_family.specs.Derivations.{pieces}
use Rattle.pb_family.specs.StepSinks.{StepState, TakesSteps, StopsInSteps, HandsSteps}
use Rattle.pb_family.specs.declared.sink.SinkFault.{SinkFault}
use Rattle.pb_family.proofs.Deriving.{Deriving, deriving_starts, deriving_from, deriving_as, deriving_step, steps_fault, steps_last}
use Rattle.pb_family.proofs.Sequence.{reification_piece, reification_pieces, reification_ids, flat_claims, pieces_ids, deletions_ids, after_followed, followed_fault}
use Rattle.pb_amo.specs.Product.{rows, columns, line, product_fresh, product_count}
use Rattle.pb_amo.specs.ProductSteps.{grid_reifications, cell_claims, line_sum, side_steps, product_steps}
use Rattle.pb_amo.specs.inner.GridOrder.{line_at}
use Rattle.pb_amo.specs.inner.ProductParts.{most_steps, rows_then, columns_then, sides_steps}
use Rattle.pb_amo.specs.laws.GridCounts.{fresh_step, count_step}
use Rattle.pb_amo.specs.laws.LineLaws.{length-line}
use Rattle.pb_amo.specs.laws.ProductLevels.{product_levels}
use Rattle.pb_amo.specs.laws.ProductShort.{lines_within}
use Rattle.pb_amo.proofs.GridPieces.{lines_by_number}

-- ---- how many ids

-- the steps of a line's grid take no more ids than there are steps
pub inner_next : {R : Type 0} (first w inner id : ℕ) (now after : StepState R) → TakesSteps (product_steps (line first w) inner id now.next) now after → after.next ≤ now.next + most_steps w
inner_next first w inner id now after h =
    let size = length-line first w in
    omega (arith, h.ids, count_by-le-length takes_id (product_steps (line first w) inner id now.next), lines_within (length (line first w)) (line first w) inner id now.next, ap product_fresh size, ap product_count size)

-- their sum takes one, and its deletion none
pub side_next : {R : Type 0} (sum_id base first w inner : ℕ) (now after : StepState R) → TakesSteps (side_steps (line_sum sum_id base w) (product_steps (line first w) inner) now.next) now after → after.next ≤ now.next + 1 + most_steps w
side_next sum_id base first w inner now after h =
    let bit : Step → ℕ = λ s. cond (takes_id s) 1 0 in
    let size = length-line first w in
    let ss : List Step = product_steps (line first w) inner now.next (now.next + 1) in
    omega (
      arith,
      h.ids,
      sum_by-cons bit (line_sum sum_id base w) (ss ++ deletion_steps 1 now.next 1),
      sum_by-append bit ss (deletion_steps 1 now.next 1),
      deletions_ids 1 now.next 1,
      count_by-le-length takes_id ss,
      lines_within (length (line first w)) (line first w) inner now.next (now.next + 1),
      ap product_fresh size,
      ap product_count size,
    )

-- ---- the parts

module _ (ms : List Lit) (first id r q base : ℕ) where
  abbrev pub lines_from : ℕ → List Step
  lines_from next = pieces (reification_piece (line_at ms first r q)) 2 next 0 (r + q)

  abbrev pub cells_from : ℕ → List Step
  cells_from next = pieces (λ id e. claim_steps id (cell_claims ms first r q base e)) 2 next 0 (length ms)

  abbrev pub sides_from : ℕ → List Step
  sides_from = followed_by (rows_then first id r q base) (columns_then first id r q base)

  abbrev pub gone : List Step
  gone = deletion_steps 2 base (r + q)

  -- all of them, from the next id on
  abbrev pub parts_of : ℕ → List Step
  parts_of next = lines_from next ++ (followed_by cells_from sides_from (next + 2 * (r + q)) ++ gone)

lines_same : (ms : List Lit) (first r q next : ℕ) → reification_steps next (grid_reifications ms first r q) ≡ pieces (reification_piece (line_at ms first r q)) 2 next 0 (r + q)
lines_same ms first r q next = ap (reification_steps next) (sym (lines_by_number ms first r q)) ∙ reification_pieces (line_at ms first r q) next 0 (r + q)

-- a grid of more than four literals, with its sides: the parts of its derivation, and how many steps they are at most
pub record Turn (ms : List Lit) (first id next r q base : ℕ) : Type 0 where
  pub parts : product_steps ms first id next ≡ parts_of ms first id r q base next
  pub most : most_steps (length ms) ≡ 8 * (r + q) + 4 * length ms + most_steps r + most_steps q

pub turn_of : (ms : List Lit) (first id next count r q base : ℕ) → count ≡ length ms → r ≡ rows count → q ≡ columns count → 4 < count → base ≡ next → Turn ms first id next r q base
turn_of ms first id next count r q base size of_rows of_columns many is =
    let r0 : ℕ = rows (length ms) in
    let q0 : ℕ = columns (length ms) in
    record {
      parts = rw (is, of_rows ∙ ap rows size, of_columns ∙ ap columns size)
          (product_levels ms first id next (omega arith)
          ∙ (λ x. lines_same ms first r0 q0 next x
          ++ (followed_by (λ n. flat_claims (cell_claims ms first r0 q0 next) 2 (λ e. refl) n 0 (length ms) x) (sides_from ms first id r0 q0 next) (next + 2 * (r0 + q0)) ++ gone ms first id r0 q0 next)));
      most = omega (arith, size, ap product_fresh size, ap product_count size, fresh_step count many, count_step count many, of_rows, of_columns, ap product_fresh of_rows, ap product_fresh of_columns, ap product_count of_rows, ap product_count of_columns);
    }

-- its parts, one after another: where one is stopped, the whole is, and behind the last it is whole
module _ {R : Type 0} {ms : List Lit} {first id r q base : ℕ} (old : StepState R) (turn : Turn ms first id old.next r q base) where
  abbrev all : List Step
  all = product_steps ms first id old.next

  abbrev lines : List Step
  lines = lines_from ms first id r q base old.next

  abbrev behind : ℕ → List Step
  behind n = followed_by (cells_from ms first id r q base) (sides_from ms first id r q base) n ++ gone ms first id r q base

  pub fault_in_lines : {T : Type 0} (result : Result T SinkFault) (f : SinkFault) (after : StepState R) → IsErrAnd result (λ g. g ≡ f) → StopsInSteps lines old after f → HandsSteps all result old after
  fault_in_lines result f after is part = steps_fault result f lines (behind (old.next + 2 * (r + q))) after is (deriving_from old turn.parts) part

  module _ (now : StepState R) (h : TakesSteps lines old now) where
    pub lines_next : now.next ≡ old.next + 2 * (r + q)
    lines_next = omega (arith, h.ids, pieces_ids (reification_piece (line_at ms first r q)) 2 (λ id k. reification_ids id (line_at ms first r q k)) old.next 0 (r + q))

    after_lines : Deriving all (behind now.next) old now
    after_lines = deriving_as (ap behind (sym lines_next)) (deriving_step {left = behind (old.next + 2 * (r + q))} lines now (deriving_from old turn.parts) h)

    pub fault_in_cells : {T : Type 0} (result : Result T SinkFault) (f : SinkFault) (after : StepState R) → IsErrAnd result (λ g. g ≡ f) → StopsInSteps (cells_from ms first id r q base now.next) now after f → HandsSteps all result old after
    fault_in_cells result f after is part = followed_fault (cells_from ms first id r q base) (sides_from ms first id r q base) (gone ms first id r q base) after_lines result f after is part

    module _ (mid : StepState R) (k : TakesSteps (cells_from ms first id r q base now.next) now mid) where
      pub cells_next : mid.next ≡ old.next + 2 * (r + q) + 2 * length ms
      cells_next =
          omega (arith, lines_next, k.ids, pieces_ids (λ id e. claim_steps id (cell_claims ms first r q base e)) 2 (λ id e. refl) now.next 0 (length ms))

      after_cells : Deriving all (sides_from ms first id r q base mid.next ++ gone ms first id r q base) old mid
      after_cells = after_followed (cells_from ms first id r q base) (sides_from ms first id r q base) (gone ms first id r q base) after_lines mid k

      -- behind them come the sides
      pub whole_grid : {T : Type 0} (result : Result T SinkFault) (new : StepState R) → HandsSteps (sides_steps first id r q base mid.next) result mid new → HandsSteps all result old new
      whole_grid result new sides = steps_last result (sides_steps first id r q base mid.next) new after_cells sides

-- the parts of the sides
module _ {R : Type 0} (first id r q base : ℕ) (old : StepState R) where
  abbrev of_sides : List Step
  of_sides = sides_steps first id r q base old.next

  abbrev gone_last : List Step
  gone_last = deletion_steps 2 base (r + q)

  pub fault_in_rows : {T : Type 0} (result : Result T SinkFault) (f : SinkFault) (after : StepState R) → IsErrAnd result (λ g. g ≡ f) → StopsInSteps (rows_then first id r q base old.next) old after f → HandsSteps of_sides result old after
  fault_in_rows result f after is part = followed_fault (rows_then first id r q base) (columns_then first id r q base) gone_last (deriving_starts of_sides old) result f after is part

  module _ (now : StepState R) (h : TakesSteps (rows_then first id r q base old.next) old now) where
    after_rows : Deriving of_sides (columns_then first id r q base now.next ++ gone_last) old now
    after_rows = after_followed (rows_then first id r q base) (columns_then first id r q base) gone_last (deriving_starts of_sides old) now h

    pub fault_in_columns : {T : Type 0} (result : Result T SinkFault) (f : SinkFault) (after : StepState R) → IsErrAnd result (λ g. g ≡ f) → StopsInSteps (columns_then first id r q base now.next) now after f → HandsSteps of_sides result old after
    fault_in_columns result f after is part = steps_fault result f (columns_then first id r q base now.next) gone_last after is after_rows part

    pub whole_sides : {T : Type 0} (result : Result T SinkFault) (end new : StepState R) → TakesSteps (columns_then first id r q base now.next) now end → HandsSteps gone_last result end new → HandsSteps of_sides result old new
    whole_sides result end new columns deleted = steps_last result gone_last new (deriving_step {left = gone_last} (columns_then first id r q base now.next) end after_rows columns) deleted

-- ---- a line's grid, between its sum and the deletion of that

module _ {R : Type 0} (id base first w inner sum : ℕ) (old : StepState R) (is : sum ≡ old.next) (now : StepState R) (h : TakesSteps (line_sum id base w ∷ []) old now) where
  abbrev side_left : ℕ → ℕ → List Step
  side_left k n = product_steps (line first w) inner k n ++ deletion_steps 1 k 1

  pub after_sum : Deriving (side_steps (line_sum id base w) (product_steps (line first w) inner) old.next) (product_steps (line first w) inner sum now.next ++ deletion_steps 1 sum 1) old now
  after_sum =
      deriving_as (λ x. side_left (sym is x) (sym h.ids x))
      (deriving_step {left = side_left old.next (old.next + 1)} (line_sum id base w ∷ []) now (deriving_starts (side_steps (line_sum id base w) (product_steps (line first w) inner) old.next) old) h)
