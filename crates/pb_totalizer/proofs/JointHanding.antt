-- The steps of a node over its two parts, as the code has them.
use Rattle.std.proofs.Common.{◌≡◌, ◌≤◌, ◌<◌, ◌+◌, ◌-◌, ◌*◌, ◌∙◌, ◌++◌, inl, inr, ℕ, zero, suc, pos, Bool, cond, List, [], ◌∷◌, map, refl, sym, ap, subst, arith}
use Rattle.std.specs.Prelude.{min, nat_lt}
use Rattle.std.specs.List.{range_with_len, flat_map}
use Rattle.std.proofs.lemmas.Bool.{cases_lt, lt-ltb, le-ltb}
use Rattle.std.proofs.lemmas.List.{map-append}
use Rattle.pb_base.specs.declared.literal.Term.{Term}
use Rattle.pb_norm.specs.Constraints.{Weighted, weight, weighted, weights}
use Rattle.pb_steps.specs.declared.op.PolOp.{PolOp}
use Rattle.pb_steps.specs.declared.op.PolOp.TheVariants.{Push, Add, Mul, Div}
use Rattle.pb_steps.specs.declared.step.Step.{Step}
use Rattle.pb_steps.specs.declared.step.Step.TheVariants.{Pol}
use Rattle.pb_derive.specs.Claims.{claim_steps}
use Rattle.pb_derive.specs.Deletions.{deletion_steps}
use Rattle.pb_derive.specs.Ones.{ones}
use Rattle.pb_derive.specs.Reifications.{reification_steps}
use Rattle.pb_derive.proofs.Appends.{weight-append}
use Rattle.pb_derive.proofs.Rups.{ones-weight}
use Rattle.pb_family.specs.Derivations.{pieces}
use Rattle.pb_family.specs.StepSinks.{StepState, TakesSteps}
use Rattle.pb_family.proofs.Sequence.{reification_pieces}
use Rattle.pb_tree.specs.Pairs.{Pair}
use Rattle.pb_tree.specs.Scheme.{values, fresh_of, own_count_of}
use Rattle.pb_tree.specs.Tree.{Tree}
use Rattle.pb_tree.specs.TreeSteps.{reifications_from}
use Rattle.pb_totalizer.specs.Exact.{outputs_of}
use Rattle.pb_totalizer.specs.Totalizer.{node_clause_count, partners, totalizer}
use Rattle.pb_totalizer.specs.OutputSteps.{node_meanings, part_size, pair_step, pair_claim, node_claims, totalizer_pairs, narrow_node_steps}
use Rattle.pb_totalizer.specs.TotalizerSteps.{count_ops}
use Rattle.pb_totalizer.specs.declared.joint.Joint.{Joint}
use Rattle.pb_totalizer.specs.declared.phase.Phase.{Phase}
use Rattle.pb_totalizer.specs.declared.phase.Phase.TheVariants.{Meanings, Sums, Clauses}
use Rattle.pb_totalizer.specs.inner.Joints.{meaning_of, joint_meanings, joint_claim, joint_claims, narrow_steps, narrow_ids, large_ids, joint_ids}
use Rattle.pb_totalizer.specs.inner.Phases.{joint_in, joint_ids_in, node_in, node_ids_in}
use Rattle.pb_totalizer.specs.inner.Sides.{side_lits, side_count, side_size, side_others}
use Rattle.pb_totalizer.specs.laws.NodeForms.{lines_of, narrow_lines_of, large_lines, small_lines}
use Rattle.pb_totalizer.specs.laws.PairRows.{rows_by_pairs}
use Rattle.pb_totalizer.specs.laws.TotalizerLaws.{node_length}
use Rattle.pb_totalizer.specs.laws.UnitTerms.{unit_term, units_are}
use Rattle.pb_totalizer.proofs.ClaimRows.{claims_same}
use Rattle.pb_totalizer.proofs.LargeSteps.{large_same, large_counted}
use Rattle.pb_totalizer.proofs.SidesOf.{IsJoint, side_length, joint_outputs, joint_last, joint_inputs}

-- ---- what the outputs mean

meant_from : (var first least place n : ℕ) (ts : List Weighted) → var ≡ first + place → least ≡ suc place → map (meaning_of first ts) (range_with_len place n) ≡ reifications_from var ts (range_with_len least n)
meant_from var first least place zero ts at is = refl
meant_from var first least place (suc n) ts at is = λ i.
    record { var = sym at i; sum = ts; least = sym is i }
    ∷ meant_from (var + 1) first (least + 1) (place + 1) n ts (omega (arith, at)) (omega (arith, is)) i

-- as pieces, by the code's terms
weights_are : (n : Joint) (ts : List Term) → ts ≡ map unit_term (side_lits n.left) ++ map unit_term (side_lits n.right) → weights ts ≡ ones (side_lits n.left) ++ ones (side_lits n.right)
weights_are n ts same = ap weights same ∙ map-append weighted (map unit_term (side_lits n.left)) (map unit_term (side_lits n.right)) ∙ (λ i. units_are (side_lits n.left) i ++ units_are (side_lits n.right) i)

pub meanings_pieces : (n : Joint) (ts : List Term) → ts ≡ map unit_term (side_lits n.left) ++ map unit_term (side_lits n.right) → (next : ℕ)
    → pieces (λ id place. reification_steps id (meaning_of n.row.first (weights ts) place ∷ [])) 2 next 0 (suc n.row.last) ≡ reification_steps next (joint_meanings n)
meanings_pieces n ts same next =
    sym (reification_pieces (meaning_of n.row.first (weights ts)) next 0 (suc n.row.last))
    ∙ ap (λ (ws : List Weighted). reification_steps next (map (meaning_of n.row.first ws) (range_with_len 0 (suc n.row.last)))) (weights_are n ts same)

pub inputs_weigh : (n : Joint) (ts : List Term) → ts ≡ map unit_term (side_lits n.left) ++ map unit_term (side_lits n.right) → weight (weights ts) ≡ side_count n.left + side_count n.right
inputs_weigh n ts same =
    omega (
      arith,
      ap weight (weights_are n ts same),
      weight-append (ones (side_lits n.left)) (ones (side_lits n.right)),
      ones-weight (side_lits n.left),
      ones-weight (side_lits n.right),
      side_length n.left,
      side_length n.right,
    )

-- ---- no fewer leaves are true than outputs

pub count_more : (row k : ℕ) {mul div : PolOp} → mul ≡ Mul (pos (1 + k)) → div ≡ Div (pos (2 + k)) → count_ops row k ++ (mul ∷ Push (row + 2 * (1 + k)) ∷ Add ∷ div ∷ []) ≡ count_ops row (k + 1)
count_more row k {mul} {div} by over =
    let above : 1 + k ≡ suc k = omega arith in
    let beyond : 2 + k ≡ suc (suc k) = omega arith in
    let one : mul ≡ Mul (pos (suc k)) = by ∙ ap (λ (n : ℕ). Mul (pos n)) above in
    let two : div ≡ Div (pos (suc (suc k))) = over ∙ ap (λ (n : ℕ). Div (pos n)) beyond in
    (λ i. count_ops row k ++ (one i ∷ Push (row + 2 * above i) ∷ Add ∷ two i ∷ []))
    ∙ ap (count_ops row) (let e : suc k ≡ k + 1 = omega arith in e)

-- ---- steps that were taken, written another way

pub taken_as : {R : Type 0} {ss ts : List Step} {a b : StepState R} → ss ≡ ts → TakesSteps ss a b → TakesSteps ts a b
taken_as {a = a} {b} same taken = subst (λ (xs : List Step). TakesSteps xs a b) same taken

module _ (bound : ℕ) (l r : Tree) (first id : ℕ) (n : Joint) (h : IsJoint bound l r first id n) where
  abbrev middle : ℕ
  middle = first + fresh_of (totalizer bound) l

  abbrev right_id : ℕ
  right_id = id + 2 * fresh_of (totalizer bound) l

  meanings_same : joint_meanings n ≡ node_meanings bound l r first
  meanings_same =
      meant_from n.row.first n.row.first 1 0 (suc n.row.last) (ones (side_lits n.left) ++ ones (side_lits n.right)) (omega arith) refl
      ∙ (λ i. reifications_from (h.row_first i) (ones (h.left.lits i) ++ ones (h.right.lits i)) (range_with_len 1 ((joint_outputs bound l r first id n h ∙ node_length bound l r) i)))

  -- ---- the clauses

  rows_same : (lefts rights : ℕ) → joint_claims n lefts rights
      ≡ map (λ p. joint_claim n lefts rights p.left p.right) (totalizer_pairs (bound + 1) (values (totalizer bound) l) (values (totalizer bound) r))
  rows_same lefts rights =
      (λ i. flat_map (λ k. map (joint_claim n lefts rights k) (partners (h.cap i) (h.right.count i) k)) (range_with_len 0 (h.left.count i + 1)))
      ∙ rows_by_pairs (joint_claim n lefts rights) (λ p. joint_claim n lefts rights p.left p.right) (partners (bound + 1) (outputs_of bound r)) (range_with_len 0 (outputs_of bound l + 1)) (λ i j k. refl)

  claims_are : (next : ℕ) → claim_steps (next + (side_size n.left + side_size n.right)) (joint_claims n (side_others n.left next) (side_others n.right (next + side_size n.left)))
      ≡ claim_steps (next + (part_size bound l + part_size bound r)) (node_claims bound l r first id next)
  claims_are next =
      let ps = totalizer_pairs (bound + 1) (values (totalizer bound) l) (values (totalizer bound) r) in
      let lefts : ℕ = side_others n.left next in
      let rights : ℕ = side_others n.right (next + side_size n.left) in
      (λ i. claim_steps (next + (h.left.size i + h.right.size i)) (rows_same lefts rights i))
      ∙ claims_same (λ (p : Pair). joint_claim n lefts rights p.left p.right) (pair_claim bound l r first id next)
      (λ p i. pair_step (h.row_id i + 2 * (p.left + p.right - 1) + 1) (h.left.others i next + p.left) (h.right.others i (next + h.left.size i) + p.right) (joint_inputs bound l r first id n h i))
      (next + (part_size bound l + part_size bound r)) ps

  narrow_same : (next : ℕ) → narrow_steps n next ≡ narrow_node_steps bound l r first id next
  narrow_same next = λ i.
      (h.left.lines i next ++ h.right.lines i (next + h.left.size i))
      ++ (claims_are next i
      ++ deletion_steps (h.left.size i + h.right.size i) next 1)

  -- ---- how many ids they take

  abbrev ids_by : Bool → ℕ
  ids_by b = cond {A = ℕ} b (large_ids n) (narrow_ids n)

  narrow_counted : narrow_ids n ≡ narrow_lines_of bound l r + own_count_of (totalizer bound) l r
  narrow_counted = λ i. h.left.size i + h.right.size i + node_clause_count (h.cap i) (h.left.count i) (h.right.count i)

  ids_counted : joint_ids n ≡ lines_of bound l r + own_count_of (totalizer bound) l r
  ids_counted =
      let own : ℕ = own_count_of (totalizer bound) l r in
      let least : ℕ = min (side_count n.left) (side_count n.right) in
      let same : least ≡ min (outputs_of bound l) (outputs_of bound r) = λ i. min (h.left.count i) (h.right.count i) in
      elim (cases_lt 32 least) as (λ _. joint_ids n ≡ lines_of bound l r + own) [
        | inl more ↦
            let large : 32 < min (outputs_of bound l) (outputs_of bound r) = omega (arith, more, same) in
            ap ids_by (lt-ltb 32 least more) ∙ large_counted bound l r first id n h (omega (arith, large)) ∙ ap (λ (k : ℕ). k + own) (sym (large_lines bound l r large))
        | inr few ↦
            let small : min (outputs_of bound l) (outputs_of bound r) ≤ 32 = omega (arith, few, same) in
            ap ids_by (le-ltb 32 least few) ∙ narrow_counted ∙ ap (λ (k : ℕ). k + own) (sym (small_lines bound l r small))
      ]

  -- ---- by phase

  pub joint_same : (phase : Phase) (left right next : ℕ) → joint_in phase n left right next ≡ node_in phase bound l r first id left right next
  joint_same Meanings left right next = ap (reification_steps next) meanings_same
  joint_same Sums left right next = λ i. Pol (count_ops (h.row_id i) (joint_last bound l r first id n h i) ++ (h.left.gives i left ++ h.right.gives i right)) ∷ []
  joint_same Clauses left right next = λ i. cond {A = List Step} (nat_lt 32 (min (h.left.count i) (h.right.count i))) (large_same bound l r first id n h next i) (narrow_same next i)

  pub joint_ids_same : (phase : Phase) → joint_ids_in phase n ≡ node_ids_in phase bound l r
  joint_ids_same Meanings = ap (λ (k : ℕ). 2 * k) (joint_outputs bound l r first id n h)
  joint_ids_same Sums = refl
  joint_ids_same Clauses = ids_counted
