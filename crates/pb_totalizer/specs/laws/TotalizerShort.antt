-- The lines of a totalizer's derivation are within their limits, and short.
use Rattle.std.proofs.Common.{◌≡◌, ◌≤◌, ◌<◌, ◌+◌, ◌-◌, ◌*◌, ◌^◌, ◌++◌, inl, inr, ℕ, zero, suc, true, List, [], ◌∷◌, length, refl, ap, ◌∙◌, subst, arith, pos, length-append}
use Rattle.std.specs.Prelude.{All, min, sum_by, count_by}
use Rattle.std.specs.List.{range_with_len}
use Rattle.std.proofs.lemmas.List.{length-map}
use Rattle.std.proofs.lemmas.List.Elements.{All-nil, All-cons, All-append, All-weaker, All-contains, recursion_from_All}
use Rattle.std.proofs.lemmas.List.Sums.{sum_by-cons, sum_by-append}
use Rattle.pb_base.specs.declared.literal.Term.{Term}
use Rattle.pb_base.specs.Literals.{negated}
use Rattle.pb_norm.specs.BoundedSums.{BoundedSum, IsProper}
use Rattle.pb_norm.specs.Constraints.{Weighted, weight, weighted, weights}
use Rattle.pb_norm.specs.Reduction.{all_weigh}
use Rattle.pb_steps.specs.declared.op.PolOp.{PolOp}
use Rattle.pb_steps.specs.declared.op.PolOp.TheVariants.{Push, Add, Mul, Div}
use Rattle.pb_steps.specs.declared.step.Step.{Step}
use Rattle.pb_steps.specs.declared.step.Step.TheVariants.{Pol, Del}
use Rattle.pb_steps.specs.Sayable.{IsVariable, IsOp, IsSayable}
use Rattle.pb_steps.specs.StepSizes.{op_size, step_size}
use Rattle.pb_steps.specs.Steps.{takes_id}
use Rattle.pb_derive.specs.Claims.{Claim, claim_steps}
use Rattle.pb_derive.specs.Deletions.{deletion_steps}
use Rattle.pb_derive.specs.Ones.{unit_of, ones}
use Rattle.pb_derive.specs.Reifications.{Reification, reification_steps}
use Rattle.pb_derive.specs.Short.{AreShort}
use Rattle.pb_derive.proofs.Fine.{AreFine, fine_within, fine_append, fine_claims, fine_reifications, fine_deletions, fine_short}
use Rattle.pb_derive.proofs.FineStages.{IsFine, fine_none, fine_step, fine_one}
use Rattle.pb_derive.proofs.Sayable.{IsSlimTerm, IsSlimReification}
use Rattle.pb_derive.proofs.UnitTerms.{ones-all}
use Rattle.pb_family.specs.Derivations.{AreOriginal, MayStart}
use Rattle.pb_family.proofs.UnitSums.{unit_weight}
use Rattle.pb_tree.specs.Scheme.{values, fresh_of, output, own_count_of, clauses_of}
use Rattle.pb_tree.specs.Tree.{Tree, empty, leaf, node, tree_of, IsLeafOf}
use Rattle.pb_tree.specs.TreeSteps.{reifications_from}
use Rattle.pb_tree.proofs.Extending.{IsNamed}
use Rattle.pb_tree.proofs.Splitting.{leaf_listed, split_sum}
use Rattle.pb_totalizer.specs.Exact.{outputs_of}
use Rattle.pb_totalizer.specs.OutputSteps.{outputs, inputs, before, node_meanings, meanings}
use Rattle.pb_totalizer.specs.TotalizerSteps.{nodes_steps, count_ops, give_way, nodes_in, sum_at, sum_lines, root_claim, root_steps, totalizer_steps_of, totalizer_steps}
use Rattle.pb_totalizer.specs.Totalizer.{totalizer, totalizer_fresh, totalizer_size}
use Rattle.pb_totalizer.specs.laws.WholeCounts.{nodes-within}
use Rattle.pb_totalizer.specs.laws.OutputFine.{factor, TreeFits, left_fits, right_fits}
use Rattle.pb_totalizer.specs.laws.Counting.{own_in_grid}
use Rattle.pb_totalizer.specs.laws.NodesFine.{ids_of, nodes-ids, ids-few, nodes_fine}
use Rattle.pb_totalizer.specs.laws.OutputKnown.{length-meanings}
use Rattle.pb_totalizer.specs.laws.OutputParts.{IsFull, full_tree, some_outputs, outputs-named, inputs-weight, ones-sum}
use Rattle.pb_totalizer.specs.laws.Shares.{few_shared}
use Rattle.pb_totalizer.specs.laws.TotalizerLaws.{leaf_count, node_length, values_length, values_count, totalizer_counts}

-- ---- the sums

count-ops-all : (row n : ℕ) → 1 ≤ row → row + 2 * n < 2 ^ 63 → n ≤ 2 ^ 32 → All IsOp (count_ops row n)
count-ops-all row zero from to few = All-cons IsOp (Push row) [] (from, omega (arith, to)) (All-nil IsOp)
count-ops-all row (suc n) from to few =
    All-append IsOp (count_ops row n) (Mul (pos (suc n)) ∷ Push (row + 2 * suc n) ∷ Add ∷ Div (pos (suc (suc n))) ∷ []) (count-ops-all row n from (omega (arith, to)) (omega (arith, few)))
    (All-cons IsOp (Mul (pos (suc n))) (Push (row + 2 * suc n) ∷ Add ∷ Div (pos (suc (suc n))) ∷ []) (factor (suc n) (omega arith) (omega (arith, few)))
    (All-cons IsOp (Push (row + 2 * suc n)) (Add ∷ Div (pos (suc (suc n))) ∷ []) (omega arith, to)
    (All-cons IsOp Add (Div (pos (suc (suc n))) ∷ []) tt (All-cons IsOp (Div (pos (suc (suc n)))) [] (factor (suc (suc n)) (omega arith) (omega (arith, few))) (All-nil IsOp)))))

count-ops-size : (row n : ℕ) → sum_by op_size (count_ops row n) ≡ 20 + 104 * n
count-ops-size row zero = refl
count-ops-size row (suc n) = omega (arith, sum_by-append op_size (count_ops row n) (Mul (pos (suc n)) ∷ Push (row + 2 * suc n) ∷ Add ∷ Div (pos (suc (suc n))) ∷ []), count-ops-size row n)

give-all : (t : Tree) (next end : ℕ) → 1 ≤ next → next + nodes_in t ≤ end → end < 2 ^ 63 → All IsOp (give_way t (sum_at t next))
give-all empty next end some le high = All-nil IsOp
give-all (leaf t) next end some le high = All-nil IsOp
give-all (node l r) next end some le high = All-cons IsOp (Push (sum_at (node l r) next)) (Add ∷ []) (omega (arith, some), omega (arith, le, high)) (All-cons IsOp Add [] tt (All-nil IsOp))

give-size : (t : Tree) (at : ℕ) → sum_by op_size (give_way t at) ≤ 22
give-size empty at = omega arith
give-size (leaf t) at = omega arith
give-size (node l r) at = omega arith

pub sums_fine : (most end n bound : ℕ) (t : Tree) (first id next : ℕ) → TreeFits most end n bound t first id → 1 ≤ next → next + nodes_in t ≤ end → AreFine most (172 * fresh_of (totalizer bound) t) (sum_lines bound t id next)
sums_fine most end n bound empty first id next h some le = absurd h.full
sums_fine most end n bound (leaf t) first id next h some le = fine_none most
sums_fine most end n bound (node l r) first id next h some le =
    let middle : ℕ = first + fresh_of (totalizer bound) l in
    let right_id : ℕ = id + 2 * fresh_of (totalizer bound) l in
    let next1 : ℕ = next + nodes_in l in
    let row : ℕ = id + 2 * before bound l r in
    let last : ℕ = outputs_of bound (node l r) - 1 in
    let size : suc last ≡ outputs_of bound (node l r) = omega (arith, some_outputs bound (node l r) h.full) in
    let lefts = give_way l (sum_at l next) in
    let rights = give_way r (sum_at r next1) in
    let ops : List PolOp = count_ops row last ++ (lefts ++ rights) in
    let own : Step = Pol ops in
    let wide = values_count bound (node l r) in
    let sized : sum_by op_size ops ≤ 64 + 104 * last =
    omega (arith, sum_by-append op_size (count_ops row last) (lefts ++ rights), sum_by-append op_size lefts rights, count-ops-size row last, give-size l (sum_at l next), give-size r (sum_at r next1)) in
    let said : All IsOp ops =
    All-append IsOp (count_ops row last) (lefts ++ rights) (count-ops-all row last (omega (arith, h.id_from)) (omega (arith, h.id_to, h.high, size)) (omega (arith, size, values_length bound (node l r), h.few)))
    (All-append IsOp lefts rights (give-all l next end some (omega (arith, le)) h.high) (give-all r next1 end (omega (arith, some)) (omega (arith, le)) h.high)) in
    let fine : IsFine (68 + 104 * last) own = (recursion_from_All IsOp ops said, omega (arith, sized)) in
    fine_within most most (172 * fresh_of (totalizer bound) l + (172 * fresh_of (totalizer bound) r + (68 + 104 * last))) (172 * fresh_of (totalizer bound) (node l r)) (sum_lines bound l id next ++ (sum_lines bound r right_id next1 ++ own ∷ [])) (omega arith) (omega (arith, size))
    (fine_append most (172 * fresh_of (totalizer bound) l) (172 * fresh_of (totalizer bound) r + (68 + 104 * last)) (sum_lines bound l id next) (sum_lines bound r right_id next1 ++ own ∷ [])
    (sums_fine most end n bound l first id next (left_fits most end n bound l r first id h) some (omega (arith, le)))
    (fine_append most (172 * fresh_of (totalizer bound) r) (68 + 104 * last) (sum_lines bound r right_id next1) (own ∷ [])
    (sums_fine most end n bound r middle right_id next1 (right_fits most end n bound l r first id h) (omega (arith, some)) (omega (arith, le)))
    (fine_one most (68 + 104 * last) own fine (omega (arith, h.room, h.leaves, wide, size)))))

-- ---- lines that delete one each

ones_fine : (most id n : ℕ) → 24 ≤ most → 1 ≤ id → id + n < 2 ^ 63 → AreFine most (24 * n) (deletion_steps 1 id n)
ones_fine most id zero room low high = fine_none most
ones_fine most id (suc n) room low high =
    let line : Step = Del (id ∷ []) in
    let fine : IsFine 24 line = ((((low, omega (arith, high)), tt), (λ e. cc)), omega arith) in
    fine_within most most (24 + 24 * n) (24 * suc n) (deletion_steps 1 id (suc n)) (omega arith) (omega arith) (fine_step most 24 (24 * n) line (deletion_steps 1 (id + 1) n) fine room (ones_fine most (id + 1) n room (omega arith) (omega (arith, high))))

-- ---- the reifications

abbrev IsNarrow : ℕ → Reification → Type 0
IsNarrow n m = IsSlimReification m × (length m.sum ≤ n)

run-slim : (n var j k : ℕ) (ts : List Weighted) → 1 ≤ var → var + k ≤ 2 ^ 31 → j + k ≤ 2 ^ 32 → weight ts ≤ 2 ^ 33 → All IsSlimTerm ts → length ts ≤ n → All (IsNarrow n) (reifications_from var ts (range_with_len j k))
run-slim n var j zero ts low high small light slim few = All-nil (IsNarrow n)
run-slim n var j (suc k) ts low high small light slim few =
    All-cons (IsNarrow n) (record { var = var; sum = ts; least = j }) (reifications_from (var + 1) ts (range_with_len (j + 1) k))
    (record { sum = slim; var = (low, omega (arith, high)); light = omega (arith, light, small) }, few) (run-slim n (var + 1) (j + 1) k ts (omega arith) (omega (arith, high)) (omega (arith, small)) light slim few)

outputs-slim : (bound : ℕ) (t : Tree) (first : ℕ) → 1 ≤ first → first + fresh_of (totalizer bound) t ≤ 2 ^ 31 → ((u : Weighted) → IsLeafOf t u → IsVariable u.lit.var) → All IsSlimTerm (ones (outputs bound t first))
outputs-slim bound t first low high vars =
    let ls = outputs bound t first in
    let named = outputs-named bound t first in
    let known : All (λ (u : Weighted). IsVariable u.lit.var) (ones ls) = All-weaker (λ (u : Weighted). IsNamed (totalizer bound) t first u.lit.var) (λ (u : Weighted). IsVariable u.lit.var) (λ u name. by_name u.lit.var name) (ones ls) named in
    let units : All (λ (u : Weighted). u.coef ≡ 1) (ones ls) = ones-all (λ (u : Weighted). u.coef ≡ 1) ls (λ i d w. refl) in
    λ i d w. (omega (arith, units i d w), known i d w)
  where
    by_name : (v : ℕ) → IsNamed (totalizer bound) t first v → IsVariable v
    by_name v name = elim name as (λ _. IsVariable v) [
      | inl own ↦ subst IsVariable own.2 (vars own.0 own.1)
      | inr fresh ↦ (omega (arith, fresh.0, low), omega (arith, fresh.1, high))
    ]

meanings-narrow : (most end n bound : ℕ) (t : Tree) (first id : ℕ) → TreeFits most end n bound t first id → All (IsNarrow n) (meanings bound t first)
meanings-narrow most end n bound empty first id h = All-nil (IsNarrow n)
meanings-narrow most end n bound (leaf t) first id h = All-nil (IsNarrow n)
meanings-narrow most end n bound (node l r) first id h =
    let middle : ℕ = first + fresh_of (totalizer bound) l in
    let right_id : ℕ = id + 2 * fresh_of (totalizer bound) l in
    let lefts = outputs bound l first in
    let rights = outputs bound r middle in
    let k : ℕ = min (outputs_of bound l + outputs_of bound r) (bound + 1) in
    let left = left_fits most end n bound l r first id h in
    let right = right_fits most end n bound l r first id h in
    let size : length (inputs bound l r first) ≤ n =
    omega (
      arith,
      length-append (ones lefts) (ones rights),
      length-map lefts unit_of,
      length-map rights unit_of,
      length-map (values (totalizer bound) l) (output (totalizer bound) l first),
      length-map (values (totalizer bound) r) (output (totalizer bound) r middle),
      values_count bound l,
      values_count bound r,
      h.leaves,
    ) in
    All-append (IsNarrow n) (meanings bound l first) (meanings bound r middle ++ node_meanings bound l r first) (meanings-narrow most end n bound l first id left)
    (All-append (IsNarrow n) (meanings bound r middle) (node_meanings bound l r first) (meanings-narrow most end n bound r middle right_id right)
    (run-slim n (first + before bound l r) 1 k (inputs bound l r first) (omega (arith, h.from)) (omega (arith, h.under, node_length bound l r)) (omega (arith, h.few)) (omega (arith, inputs-weight bound l r first, values_length bound l, values_length bound r, h.few))
    (All-append IsSlimTerm (ones lefts) (ones rights) (outputs-slim bound l first left.from left.under left.vars) (outputs-slim bound r middle right.from right.under right.vars)) size))

-- ---- the whole

-- an upper bound of all bytes
pub whole_size : ℕ → ℕ → ℕ → ℕ
whole_size n fresh clauses = (238 + 106 * n) * fresh + (172 * fresh + (1024 * clauses + 155 + 24 * fresh) + 44 * fresh)

module _ (most end n bound : ℕ) (l r : Tree) (first own next : ℕ) (h : TreeFits most end n bound (node l r) first next) (terms : 119 + 53 * n ≤ most) (given : 1 ≤ own) (before_next : own < next) (wide : outputs_of bound (node l r) ≡ bound + 1)
    (fits : next + 3 * fresh_of (totalizer bound) (node l r) + ids_of bound (node l r) + 2 ≤ end) where
  abbrev t : Tree
  t = node l r

  abbrev fresh : ℕ
  fresh = fresh_of (totalizer bound) (node l r)

  abbrev ms : List Reification
  ms = meanings bound (node l r) first

  abbrev at : ℕ
  at = next + 2 * length ms

  abbrev middle : ℕ
  middle = first + fresh_of (totalizer bound) l

  abbrev right_id : ℕ
  right_id = next + 2 * fresh_of (totalizer bound) l

  abbrev count : ℕ
  count = nodes_in l + nodes_in r

  size : length ms ≡ fresh
  size = length-meanings bound t first

  within : nodes_in l + nodes_in r + 1 ≤ fresh
  within = nodes-within bound t h.full

  narrow : All (IsNarrow n) ms
  narrow = meanings-narrow most end n bound t first next h

  reds : AreFine most ((238 + 106 * n) * length ms) (reification_steps next ms)
  reds =
      fine_reifications most n next ms terms (omega (arith, given, before_next)) (omega (arith, size, fits, h.high)) (All-weaker (IsNarrow n) IsSlimReification (λ m k. k.0) ms narrow) (All-weaker (IsNarrow n) (λ (m : Reification). length m.sum ≤ n) (λ m k. k.1) ms narrow)

  some : 1 ≤ at
  some = omega (arith, given, before_next)

  sums : AreFine most (172 * fresh_of (totalizer bound) l + 172 * fresh_of (totalizer bound) r) (sum_lines bound l next at ++ sum_lines bound r right_id (at + nodes_in l))
  sums =
      fine_append most (172 * fresh_of (totalizer bound) l) (172 * fresh_of (totalizer bound) r) (sum_lines bound l next at) (sum_lines bound r right_id (at + nodes_in l))
      (sums_fine most end n bound l first next at (left_fits most end n bound l r first next h) some (omega (arith, size, fits, within)))
      (sums_fine most end n bound r middle right_id (at + nodes_in l) (right_fits most end n bound l r first next h) (omega (arith, some)) (omega (arith, size, fits, within)))

  abbrev claims : List Claim
  claims = root_claim bound l r first own next at ∷ []

  abbrev nodes : List Step
  nodes = nodes_steps bound t first next (at + count)

  abbrev last : ℕ
  last = at + count + count_by takes_id nodes

  root_fine : IsFine 131 (root_claim bound l r first own next at).step
  root_fine =
      let lefts = give_way l (sum_at l at) in
      let rights = give_way r (sum_at r (at + nodes_in l)) in
      let row : ℕ = next + 2 * before bound l r + 2 * bound in
      let tail : List PolOp = Push own ∷ Add ∷ Div (pos (bound + 1)) ∷ [] in
      let ops : List PolOp = Push row ∷ lefts ++ (rights ++ tail) in
      let said : All IsOp ops =
      All-cons IsOp (Push row) (lefts ++ (rights ++ tail)) (omega (arith, given, before_next), omega (arith, h.id_to, h.high, wide))
      (All-append IsOp lefts (rights ++ tail) (give-all l at end some (omega (arith, size, fits, within)) h.high)
      (All-append IsOp rights tail (give-all r (at + nodes_in l) end (omega (arith, some)) (omega (arith, size, fits, within)) h.high)
      (All-cons IsOp (Push own) (Add ∷ Div (pos (bound + 1)) ∷ []) (given, omega (arith, before_next, fits, h.high)) (All-cons IsOp Add (Div (pos (bound + 1)) ∷ []) tt (All-cons IsOp (Div (pos (bound + 1))) [] (factor (bound + 1) (omega arith) (omega (arith, h.few))) (All-nil IsOp)))))) in
      let sized : sum_by op_size ops ≤ 127 =
      omega (arith, sum_by-cons op_size (Push row) (lefts ++ (rights ++ tail)), sum_by-append op_size lefts (rights ++ tail), sum_by-append op_size rights tail, give-size l (sum_at l at), give-size r (sum_at r (at + nodes_in l))) in
      (recursion_from_All IsOp ops said, omega (arith, sized))

  clauses_fine : AreFine most (1024 * length (clauses_of (totalizer bound) t first) + 155) (nodes ++ claim_steps last claims)
  clauses_fine =
      let used = nodes-ids bound t first next (at + count) in
      fine_append most (1024 * length (clauses_of (totalizer bound) t first)) 155 nodes (claim_steps last claims)
      (nodes_fine most end n bound t first next (at + count) h (omega (arith, some)) (omega (arith, size, fits, within)))
      (fine_within most most ((131 + 24) * 1) 155 (claim_steps last claims) (omega arith) (omega arith)
      (fine_claims most 131 last claims (omega (arith, h.room)) (omega (arith, h.room)) (omega (arith, some)) (omega (arith, size, used, fits, within, h.high)) (All-cons (λ (c : Claim). IsSayable c.step) (root_claim bound l r first own next at) [] root_fine.0 (All-nil (λ (c : Claim). IsSayable c.step)))
      (All-cons (λ (c : Claim). step_size c.step ≤ 131) (root_claim bound l r first own next at) [] root_fine.1 (All-nil (λ (c : Claim). step_size c.step ≤ 131)))))

  pub tree_fine : AreFine most (whole_size n (fresh_of (totalizer bound) (node l r)) (length (clauses_of (totalizer bound) (node l r) first))) (totalizer_steps_of bound (node l r) first own next)
  unfolding whole_size
  tree_fine =
      let cs : ℕ = length (clauses_of (totalizer bound) t first) in
      let lines = sum_lines bound l next at ++ sum_lines bound r right_id (at + nodes_in l) in
      let body = nodes ++ claim_steps last claims in
      let gone = deletion_steps 1 at count in
      let left_sums : ℕ = 172 * fresh_of (totalizer bound) l + 172 * fresh_of (totalizer bound) r in
      let root = fine_append most left_sums (1024 * cs + 155 + 24 * count) lines (body ++ gone) sums
      (fine_append most (1024 * cs + 155) (24 * count) body gone clauses_fine (ones_fine most at count (omega (arith, h.room)) some (omega (arith, size, fits, within, h.high)))) in
      let same : (238 + 106 * n) * length ms ≡ (238 + 106 * n) * fresh = ap (λ (k : ℕ). (238 + 106 * n) * k) size in
      fine_within most most ((238 + 106 * n) * length ms + (left_sums + (1024 * cs + 155 + 24 * count) + 44 * length ms)) ((238 + 106 * n) * fresh + (172 * fresh + (1024 * cs + 155 + 24 * fresh) + 44 * fresh)) (totalizer_steps_of bound t first own next) (omega arith)
      (omega (arith, same, size, within))
      (fine_append most ((238 + 106 * n) * length ms) (left_sums + (1024 * cs + 155 + 24 * count) + 44 * length ms) (reification_steps next ms) (root_steps bound l r first own next at ++ deletion_steps 2 next (length ms)) reds
      (fine_append most (left_sums + (1024 * cs + 155 + 24 * count)) (44 * length ms) (root_steps bound l r first own next at) (deletion_steps 2 next (length ms)) root
      (fine_deletions most next (length ms) (omega (arith, h.room)) (omega (arith, given, before_next)) (omega (arith, size, fits, h.high)))))

-- ---- any tree that the sum has

whole_fine : (most end n bound : ℕ) (t : Tree) (first own next : ℕ) → TreeFits most end n bound t first next → 119 + 53 * n ≤ most → 1 ≤ own → own < next → 1 ≤ bound → outputs_of bound t ≡ bound + 1
    → next + 3 * fresh_of (totalizer bound) t + ids_of bound t + 2 ≤ end → AreFine most (whole_size n (fresh_of (totalizer bound) t) (length (clauses_of (totalizer bound) t first))) (totalizer_steps_of bound t first own next)
whole_fine most end n bound empty first own next h terms given before_next two wide fits = absurd h.full
whole_fine most end n bound (leaf t) first own next h terms given before_next two wide fits = absurd (omega (arith, wide, two))
whole_fine most end n bound (node l r) first own next h terms given before_next two wide fits = tree_fine most end n bound l r first own next h terms given before_next wide fits

module _ (m : BoundedSum) (units : all_weigh 1 m.terms ≡ true) (proper : IsProper m) (few : length m.terms < 2 ^ 31) (first id next : ℕ)
    (original : AreOriginal first m.terms) (start : MayStart first (totalizer_fresh m) id next) where
  abbrev n : ℕ
  n = length m.terms

  abbrev s : Tree
  s = tree_of m.terms

  leaves : leaf_count s ≡ n
  leaves = split_sum (λ (t : Weighted). 1) m.terms ∙ ones-sum m.terms

  heavy : m.bound < n
  heavy = omega (arith, proper.heavy, unit_weight m.terms units)

  full : IsFull s
  full = full_tree m.terms (omega (arith, heavy))

  abbrev end : ℕ
  end = next + 3 * totalizer_fresh m + ids_of m.bound s + 2

  fits : (most : ℕ) → 104 * n + 200 ≤ most → TreeFits most end n m.bound s first next
  fits most room = record {
    full = full;
    few = omega (arith, heavy, few);
    leaves = omega (arith, leaves);
    room = room;
    from = start.low;
    under = start.fits;
    vars = λ u h. let own = All-contains (λ (t : Weighted). (1 ≤ t.lit.var) × (t.lit.var < first)) m.terms u original (leaf_listed m.terms u h) in (own.0, omega (arith, own.1, start.fits));
    id_from = omega (arith, start.given, start.known);
    id_to = omega arith;
    high = omega (arith, start.few, start.fits, ids-few m.bound s full, leaves, few, few_shared m.bound (own_count_of (totalizer m.bound)) (own_in_grid m.bound) s proper.bound_from (omega (arith, start.fits)));
  }

  fine : (most : ℕ) → 104 * n + 200 ≤ most → AreFine most (whole_size n (totalizer_fresh m) (length (clauses_of (totalizer m.bound) s first))) (totalizer_steps m first id next)
  fine most room =
      whole_fine most end n m.bound s first id next (fits most room) (omega (arith, room)) start.given start.known proper.bound_from (omega (arith, values_count m.bound s, leaves, heavy)) (omega arith)

  -- a line can say each step
  pub totalizer_sayable : All IsSayable (totalizer_steps m first id next)
  totalizer_sayable = (fine (104 * n + 200) (omega arith)).sayable

  -- and the lines are short
  pub totalizer_short : length m.terms ≤ 2 ^ 21 → AreShort (length m.terms) (totalizer_fresh m) (totalizer_size m) (totalizer_steps m first id next)
  unfolding whole_size
  totalizer_short narrow =
      let f : ℕ = totalizer_fresh m in
      let cs : ℕ = length (clauses_of (totalizer m.bound) s first) in
      let count : cs + 1 ≡ totalizer_size m = omega (arith, totalizer_counts m first, length-append (clauses_of (totalizer m.bound) s first) ((negated (output (totalizer m.bound) s first (m.bound + 1)) ∷ []) ∷ [])) in
      fine_short (2 ^ 28) (whole_size n f cs) n f (totalizer_size m) (totalizer_steps m first id next) (omega arith) (omega (arith, count)) (fine (2 ^ 28) (omega (arith, narrow)))

-- ---- as the code has its numbers

pub few_terms : (ts : List Term) → length ts < 2 ^ 31 → length (weights ts) < 2 ^ 31
few_terms ts few = omega (arith, length-map ts weighted, few)
