-- The lines of a table's derivation are within their limits, and short.
use Rattle.std.proofs.Common.{◌≡◌, ◌≤◌, ◌<◌, ◌+◌, ◌*◌, ◌^◌, ℕ, List, [], ◌∷◌, length, map, refl, ap, subst, arith}
use Rattle.std.specs.Prelude.{All}
use Rattle.std.proofs.lemmas.List.Elements.{All-nil, All-append}
use Rattle.std.proofs.lemmas.List.Sums.{sum_by-cons}
use Rattle.pb_norm.specs.Constraints.{Weighted, weight}
use Rattle.pb_steps.specs.declared.step.Step.{Step}
use Rattle.pb_steps.specs.Sayable.{IsId, IsVariable, IsSayable}
use Rattle.pb_derive.specs.Justifications.{Justification}
use Rattle.pb_derive.specs.Short.{AreShort}
use Rattle.pb_derive.proofs.ShortJustifications.{gone_in}
use Rattle.pb_tree.specs.Pairs.{Pair}
use Rattle.pb_tree.specs.Scheme.{values, fresh_of}
use Rattle.pb_tree.specs.Tree.{Tree, empty, leaf, node, tree_of}
use Rattle.pb_tree.specs.TreeSteps.{leaves, output_ids, justifications}
use Rattle.pb_tree.proofs.AlongShort.{IsShort, Starts, gone-append, known_terms, terms_sayable, terms_short}
use Rattle.pb_tree.proofs.PairJustifications.{all_map}
use Rattle.pb_tree.proofs.TreeRows.{leaves_of}
use Rattle.pb_tree.proofs.TreeShort.{output_ids_are, justifications_gone, justifications_short}
use Rattle.pb_gentot.specs.BoundTable.{uncut, table_values, table_fresh, table_size, neighbours}
use Rattle.pb_gentot.specs.BoundTableLaws.{IsSmallTable}
use Rattle.pb_gentot.specs.BoundTableSteps.{neighbour_justification, table_justifications, table_steps}
use Rattle.pb_gentot.specs.Generalized.{generalized}
use Rattle.pb_gentot.specs.GeneralizedSteps.{generalized_pairs}
use Rattle.pb_gentot.specs.laws.ByPairs.{generalized_by_pairs}
use Rattle.pb_gentot.specs.laws.GeneralizedLaws.{Always, generalized_lawful}
use Rattle.pb_gentot.specs.laws.GeneralizedShort.{generalized_sparing}
use Rattle.pb_gentot.proofs.Emitting.{rising_values}
use Rattle.pb_gentot.proofs.Neighbours.{neighbour_cases}
use Rattle.pb_gentot.proofs.TableDerives.{table_weighs, table_positive, table_justifications_counted}

-- ---- the clauses between neighbours

neighbours_short : (n bound : ℕ) (t : Tree) (first id : ℕ) → 1 ≤ id → id + 2 * fresh_of (generalized bound) t < 2 ^ 63
    → All (IsShort n) (map (neighbour_justification (generalized bound) t first id) (neighbours (values (generalized bound) t)))
neighbours_short n bound empty first id low high = All-nil (IsShort n)
neighbours_short n bound (leaf t) first id low high = All-nil (IsShort n)
neighbours_short n bound (node l r) first id low high =
    let s = generalized bound in
    let t = node l r in
    let us = values s t in
    all_map (IsShort n) (neighbour_justification s t first id) (neighbours us) (λ p h.
    let both = neighbour_cases us (rising_values bound t us refl) p h in
    let one = output_ids_are s Always (generalized_lawful bound) t id p.right low high both.1 in
    let two = output_ids_are s Always (generalized_lawful bound) t id p.left low high both.0 in
    record {
      some = λ e. omega (arith, ap length e);
      three = omega arith;
      ids = All-append IsId (output_ids s t id p.right) (map (λ i. i + 1) (output_ids s t id p.left)) one.0 two.1;
      variables = All-nil IsVariable;
      few = omega arith;
    })

-- they have all their variables
none_gone : (bound : ℕ) (t : Tree) (first id : ℕ) (ps : List Pair) → gone_in (map (neighbour_justification (generalized bound) t first id) ps) ≡ 0
none_gone bound t first id [] = refl
none_gone bound t first id (p ∷ ps) =
    omega (arith, sum_by-cons (λ (r : Justification). length r.weakened) (neighbour_justification (generalized bound) t first id p) (map (neighbour_justification (generalized bound) t first id) ps), none_gone bound t first id ps)

-- ---- the whole

module _ (ts : List Weighted) (first next : ℕ) (small : IsSmallTable ts first next) where
  abbrev t : Tree
  t = tree_of ts

  abbrev rs : List Justification
  rs = table_justifications ts first next

  starts : Starts first (table_fresh ts) next
  starts = record { low = small.begins.low; fits = small.begins.fits; from = small.begins.some; few = small.begins.few }

  all_short : All (IsShort (length ts)) rs
  all_short =
      let fits = small.begins.fits in
      let some = small.begins.some in
      let few = small.begins.few in
      let bound = weight ts in
      let size : length (leaves t) ≡ length ts = ap length (leaves_of ts) in
      All-append (IsShort (length ts)) (justifications (uncut ts) generalized_pairs t first next) (map (neighbour_justification (uncut ts) t first next) (neighbours (table_values ts)))
      (justifications_short (uncut ts) Always (generalized_lawful bound) generalized_pairs (generalized_by_pairs bound) (length ts) t first next (omega arith) (omega arith) (known_terms ts first (table_fresh ts) fits small.original) (omega arith))
      (neighbours_short (length ts) bound t first next (omega arith) (omega arith))

  few_justifications : length rs < 5 * 2 ^ 60
  few_justifications = omega (arith, table_justifications_counted ts small.table first next, small.modest)

  pub table_sayable : All IsSayable (table_steps ts first next)
  table_sayable =
      terms_sayable (uncut ts) generalized_pairs (generalized_by_pairs (weight ts)) ts (table_weighs ts small.table) small.light first next small.original starts rs few_justifications all_short

  all_gone : gone_in rs ≤ 2 * (table_fresh ts * length ts)
  all_gone =
      let size : length (leaves t) ≡ length ts = ap length (leaves_of ts) in
      let gone = subst (λ (k : ℕ). gone_in (justifications (uncut ts) generalized_pairs t first next) ≤ 2 * (table_fresh ts * k)) size (justifications_gone (uncut ts) generalized_pairs (generalized_sparing (weight ts)) t first next (table_positive ts small.table)) in
      let others = map (neighbour_justification (uncut ts) t first next) (neighbours (table_values ts)) in
      omega (arith, gone, none_gone (weight ts) t first next (neighbours (table_values ts)), gone-append (justifications (uncut ts) generalized_pairs t first next) others)

  pub table_lines_short : length ts ≤ 2 ^ 21 → AreShort (length ts) (table_fresh ts) (table_size ts) (table_steps ts first next)
  table_lines_short narrow =
      let steps : List Step = table_steps ts first next in
      subst (λ (k : ℕ). AreShort (length ts) (table_fresh ts) k steps) (table_justifications_counted ts small.table first next)
      (terms_short (uncut ts) generalized_pairs (generalized_by_pairs (weight ts)) ts (table_weighs ts small.table) small.light first next small.original starts rs few_justifications all_short narrow all_gone)
