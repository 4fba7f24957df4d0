-- The outputs of a leaf and of a node, as the code has them.
use Rattle.std.proofs.Common.{◌≡◌, ◌+◌, ◌-◌, ◌*◌, ◌∙◌, ◌++◌, ℕ, suc, [], ◌∷◌, length, map, min, refl, sym, ap, subst, arith}
use Rattle.std.specs.List.{range_with_len}
use Rattle.std.proofs.lemmas.List.{map-append}
use Rattle.std.proofs.lemmas.List.FromFn.{length-map-range_with_len}
use Rattle.pb_base.specs.declared.literal.Lit.{Lit}
use Rattle.pb_norm.specs.Constraints.{Weighted}
use Rattle.pb_family.specs.Fresh.{fresh_at, positive_of}
use Rattle.pb_family.proofs.Ranges.{map_split, range_same}
use Rattle.pb_tree.specs.Scheme.{fresh_of, output}
use Rattle.pb_tree.specs.Tree.{Tree, leaf, node}
use Rattle.pb_totalizer.specs.Exact.{outputs_of}
use Rattle.pb_totalizer.specs.OutputBlocks.{block_lines, block_size, block_others_at, narrows_at}
use Rattle.pb_totalizer.specs.OutputRows.{row_lines, row_size, others_at}
use Rattle.pb_totalizer.specs.OutputSteps.{outputs, before, input_count, part_lines}
use Rattle.pb_totalizer.specs.OutputWindows.{wide_lines}
use Rattle.pb_totalizer.specs.Totalizer.{totalizer}
use Rattle.pb_totalizer.specs.declared.joint.Joint.{Joint}
use Rattle.pb_totalizer.specs.declared.side.Side.{Side}
use Rattle.pb_totalizer.specs.declared.side.Side.TheVariants.{Leaf, Node}
use Rattle.pb_totalizer.specs.inner.Sides.{row_lits, side_lits, side_count, IsSide}
use Rattle.pb_totalizer.specs.laws.TotalizerLaws.{node_length}
use Rattle.pb_totalizer.specs.laws.UnitTerms.{unit_term}

pub side_length : (s : Side) → length (side_lits s) ≡ side_count s
side_length (Leaf lit) = refl
side_length (Node row) = length-map-range_with_len (fresh_at row.first) 0 (suc row.last)

-- one more variable of a row
pub row_more : (first k : ℕ) (l : Lit) → l ≡ fresh_at first k → map unit_term (map (fresh_at first) (range_with_len 0 k)) ++ unit_term l ∷ [] ≡ map unit_term (map (fresh_at first) (range_with_len 0 (k + 1)))
row_more first k l is =
    let all = map (fresh_at first) (range_with_len 0 k) in
    ap (λ (m : Lit). map unit_term all ++ unit_term m ∷ []) is
    ∙ sym (map-append unit_term all (fresh_at first k ∷ []))
    ∙ ap (map unit_term) (ap (λ (i : ℕ). all ++ fresh_at first i ∷ []) (let e : k ≡ 0 + k = omega arith in e) ∙ sym (map_split (fresh_at first) 0 k 1))

pub leaf_side : (bound : ℕ) (t : Weighted) (first id : ℕ) (lit : Lit) → lit ≡ t.lit → IsSide bound (leaf t) first id (Leaf lit)
leaf_side bound t first id lit same = record {
  lits = λ i. same i ∷ [];
  count = refl;
  lines = λ i next. part_lines bound (leaf (record { coef = t.coef; lit = same i })) first id next;
  size = refl;
  others = refl;
  by_blocks = λ i next. wide_lines bound (leaf (record { coef = t.coef; lit = same i })) first id next;
  blocks_size = refl;
  blocks_others = refl;
  blocks_narrows = refl;
  gives = refl;
}

-- what a node is over two parts, before whose own fresh variables so many stand
pub record IsJoint (bound : ℕ) (l r : Tree) (first id : ℕ) (n : Joint) : Type 0 where
  pub left : IsSide bound l first id n.left
  pub right : IsSide bound r (first + fresh_of (totalizer bound) l) (id + 2 * fresh_of (totalizer bound) l) n.right
  pub cap : n.cap ≡ bound + 1
  pub row_first : n.row.first ≡ first + before bound l r
  pub row_id : n.row.id ≡ id + 2 * before bound l r
  pub inputs : n.row.inputs ≡ side_count n.left + side_count n.right
  pub last : suc n.row.last ≡ min (side_count n.left + side_count n.right) (bound + 1)

module _ (bound : ℕ) (l r : Tree) (first id : ℕ) (n : Joint) (h : IsJoint bound l r first id n) where
  pub joint_outputs : suc n.row.last ≡ outputs_of bound (node l r)
  joint_outputs = omega (arith, h.last, h.left.count, h.right.count, node_length bound l r)

  pub joint_last : n.row.last ≡ outputs_of bound (node l r) - 1
  joint_last = omega (arith, joint_outputs)

  pub joint_inputs : n.row.inputs ≡ input_count bound l r
  joint_inputs = omega (arith, h.inputs, h.left.count, h.right.count)

  literals : row_lits n.row ≡ outputs bound (node l r) first
  literals =
      ap (λ (k : ℕ). map (fresh_at n.row.first) (range_with_len 0 k)) (joint_outputs ∙ node_length bound l r)
      ∙ range_same (fresh_at n.row.first) (output (totalizer bound) (node l r) first) 0 1 (min (outputs_of bound l + outputs_of bound r) (bound + 1))
      (λ i within. ap positive_of (let e : n.row.first + (0 + i) ≡ first + fresh_of (totalizer bound) l + fresh_of (totalizer bound) r + (1 + i - 1) = omega (arith, h.row_first) in e))

  -- the node's own outputs
  pub joint_side : IsSide bound (node l r) first id (Node n.row)
  joint_side = record {
    lits = literals;
    count = joint_outputs;
    lines = λ i next. row_lines (h.row_first i) (h.row_id i) (joint_inputs i) (joint_last i) next;
    size = ap row_size joint_last;
    others = ap others_at joint_last;
    by_blocks = λ i next. block_lines (h.row_first i) (h.row_id i) (joint_inputs i) (joint_last i) next;
    blocks_size = ap block_size joint_last;
    blocks_others = ap block_others_at joint_last;
    blocks_narrows = ap narrows_at joint_last;
    gives = refl;
  }

-- ---- a node by what the code made of its parts

side_as : {bound : ℕ} {t : Tree} {f g i j : ℕ} {s u : Side} → f ≡ g → i ≡ j → s ≡ u → IsSide bound t f i s → IsSide bound t g j u
side_as {bound} {t} {f} {g} {i} {j} {s} {u} first id same h = subst (λ (v : Side). IsSide bound t g j v) same (subst (λ (k : ℕ). IsSide bound t g k s) id (subst (λ (k : ℕ). IsSide bound t k i s) first h))

pub joint_is : {bound : ℕ} {l r : Tree} {first id f i : ℕ} (left right : Side) (n : Joint) → IsSide bound l first id left → IsSide bound r f i right → f ≡ first + fresh_of (totalizer bound) l → i ≡ id + 2 * fresh_of (totalizer bound) l
    → n.left ≡ left → n.right ≡ right → n.cap ≡ bound + 1 → n.row.first ≡ first + before bound l r → n.row.id ≡ id + 2 * before bound l r → suc n.row.last ≡ min (side_count left + side_count right) (bound + 1)
    → n.row.inputs ≡ side_count n.left + side_count n.right → IsJoint bound l r first id n
joint_is left right n lefts rights first_is id_is left_is right_is cap row_first row_id last inputs = record {
  left = side_as refl refl (sym left_is) lefts;
  right = side_as first_is id_is (sym right_is) rights;
  cap = cap;
  row_first = row_first;
  row_id = row_id;
  inputs = inputs;
  last = omega (arith, last, ap side_count left_is, ap side_count right_is);
}
