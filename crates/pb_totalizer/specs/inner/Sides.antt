-- The outputs of a part of a totalizer, as a derivation's code has them.
use Rattle.std.specs.Prelude.{◌≡◌, ℕ, suc, ◌+◌, List, [], ◌∷◌, map}
use Rattle.std.specs.List.{range_with_len}
use Rattle.pb_base.specs.declared.literal.Lit.{Lit}
use Rattle.pb_steps.specs.declared.op.PolOp.{PolOp}
use Rattle.pb_steps.specs.declared.op.PolOp.TheVariants.{Push, Axiom, Add, Weaken}
use Rattle.pb_steps.specs.declared.step.Step.{Step}
use Rattle.pb_steps.specs.declared.step.Step.TheVariants.{Pol}
use Rattle.pb_family.specs.Fresh.{fresh_at}
use Rattle.pb_tree.specs.Tree.{Tree}
use Rattle.pb_totalizer.specs.Exact.{outputs_of}
use Rattle.pb_totalizer.specs.OutputBlocks.{block_lines, block_size, block_others_at, narrows_at}
use Rattle.pb_totalizer.specs.OutputRows.{row_lines, row_size, others_at}
use Rattle.pb_totalizer.specs.OutputSteps.{outputs, part_lines, part_size, part_others}
use Rattle.pb_totalizer.specs.OutputWindows.{wide_lines, wide_size, wide_others, wide_narrows}
use Rattle.pb_totalizer.specs.TotalizerSteps.{give_way}
use Rattle.pb_totalizer.specs.declared.fresh_row.FreshRow.{FreshRow}
use Rattle.pb_totalizer.specs.declared.side.Side.{Side}
use Rattle.pb_totalizer.specs.declared.side.Side.TheVariants.{Leaf, Node}

abbrev pub row_lits : FreshRow → List Lit
row_lits row = map (fresh_at row.first) (range_with_len 0 (suc row.last))

abbrev pub side_lits : Side → List Lit
side_lits (Leaf lit) = lit ∷ []
side_lits (Node row) = row_lits row

abbrev pub side_count : Side → ℕ
side_count (Leaf lit) = 1
side_count (Node row) = suc row.last

-- ---- the lines about them

abbrev pub leaf_lines : Lit → List Step
leaf_lines lit = Pol (Axiom lit ∷ []) ∷ Pol (Axiom lit ∷ Weaken lit.var ∷ []) ∷ []

abbrev pub side_lines : Side → ℕ → List Step
side_lines (Leaf lit) next = leaf_lines lit
side_lines (Node row) next = row_lines row.first row.id row.inputs row.last next

abbrev pub side_size : Side → ℕ
side_size (Leaf lit) = 2
side_size (Node row) = row_size row.last

abbrev pub side_others : Side → ℕ → ℕ
side_others (Leaf lit) next = next
side_others (Node row) next = others_at row.last next

-- ---- the lines about blocks of them

abbrev pub side_wide_lines : Side → ℕ → List Step
side_wide_lines (Leaf lit) next = leaf_lines lit
side_wide_lines (Node row) next = block_lines row.first row.id row.inputs row.last next

abbrev pub side_wide_size : Side → ℕ
side_wide_size (Leaf lit) = 2
side_wide_size (Node row) = block_size row.last

abbrev pub side_wide_others : Side → ℕ → ℕ
side_wide_others (Leaf lit) next = next
side_wide_others (Node row) next = block_others_at row.last next

abbrev pub side_narrows : Side → ℕ → ℕ
side_narrows (Leaf lit) next = next + 1
side_narrows (Node row) next = narrows_at row.last next

-- they give way to leaves by the line that has an id
abbrev pub side_gives : Side → ℕ → List PolOp
side_gives (Leaf lit) id = []
side_gives (Node row) id = Push id ∷ Add ∷ []

-- ---- those of a tree, whose first fresh variable and the id of whose first constraint are given

pub record IsSide (bound : ℕ) (t : Tree) (first id : ℕ) (side : Side) : Type 0 where
  pub lits : side_lits side ≡ outputs bound t first
  pub count : side_count side ≡ outputs_of bound t
  pub lines : side_lines side ≡ part_lines bound t first id
  pub size : side_size side ≡ part_size bound t
  pub others : side_others side ≡ part_others bound t
  pub by_blocks : side_wide_lines side ≡ wide_lines bound t first id
  pub blocks_size : side_wide_size side ≡ wide_size bound t
  pub blocks_others : side_wide_others side ≡ wide_others bound t
  pub blocks_narrows : side_narrows side ≡ wide_narrows bound t
  pub gives : side_gives side ≡ give_way t
