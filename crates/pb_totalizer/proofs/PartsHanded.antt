-- The justifications of a node of an exact sum, by what the code has of its parts.
use Rattle.std.proofs.Common.{◌≡◌, ◌+◌, ◌-◌, ◌*◌, ◌∷◌, [], ℕ, List, sym, ap, ◌∙◌, arith}
use Rattle.pb_base.specs.declared.literal.Term.{Term}
use Rattle.pb_norm.specs.Constraints.{weights}
use Rattle.pb_family.proofs.SameSteps.{HaveSameSteps, same_append}
use Rattle.pb_tree.specs.Scheme.{fresh_of}
use Rattle.pb_tree.specs.Tree.{Tree, node, tree_of}
use Rattle.pb_tree.specs.TreeSteps.{output_ids, pair_justifications}
use Rattle.pb_tree.specs.Walks.{AreParts, fresh_over}
use Rattle.pb_tree.proofs.HandingLaws.{same_then}
use Rattle.pb_totalizer.specs.Exact.{outputs_of}
use Rattle.pb_totalizer.specs.ExactSteps.{limit_justifications, own_justifications}
use Rattle.pb_totalizer.specs.Totalizer.{totalizer}
use Rattle.pb_totalizer.specs.OutputSteps.{totalizer_pairs}
use Rattle.pb_totalizer.specs.declared.node_ids.Handed.{Handed}
use Rattle.pb_totalizer.specs.declared.node_ids.Source.{Source}
use Rattle.pb_totalizer.specs.inner.ExactSources.{own_given}
use Rattle.pb_totalizer.specs.inner.LimitSources.{limits_given}
use Rattle.pb_totalizer.specs.inner.Sources.{StandAt, ids_from, node_given}
use Rattle.pb_totalizer.proofs.ExactHanded.{limits_same, own_first_free}
use Rattle.pb_totalizer.proofs.Handed.{sums_same}

-- ---- a node's own

-- by what the code has of its parts
own_same : (bound : ℕ) (lefts rights : List Term) (id own count a b : ℕ) (sl sr : Source)
    → ids_from sl ≡ output_ids (totalizer bound) (tree_of (weights lefts)) id
    → ids_from sr ≡ output_ids (totalizer bound) (tree_of (weights rights)) (id + 2 * fresh_of (totalizer bound) (tree_of (weights lefts)))
    → own ≡ id + 2 * fresh_of (totalizer bound) (tree_of (weights lefts)) + 2 * fresh_of (totalizer bound) (tree_of (weights rights))
    → count ≡ outputs_of bound (node (tree_of (weights lefts)) (tree_of (weights rights)))
    → a ≡ outputs_of bound (tree_of (weights lefts)) → b ≡ outputs_of bound (tree_of (weights rights))
    → HaveSameSteps (own_given (bound + 1) count a b sl lefts sr rights own) (own_justifications bound (tree_of (weights lefts)) (tree_of (weights rights)) 0 id)
own_same bound lefts rights id own count a b sl sr left right at ec ea eb =
    same_append (node_given (bound + 1) a b sl lefts sr rights own) (pair_justifications (totalizer bound) (totalizer_pairs (bound + 1)) (tree_of (weights lefts)) (tree_of (weights rights)) 0 id)
    (limits_given count a b sl lefts sr rights own) (limit_justifications bound (tree_of (weights lefts)) (tree_of (weights rights)) 0 id)
    (sums_same bound lefts rights id own sl sr left right at a b ea eb) (limits_same bound lefts rights id own sl sr left right at count a b ec ea eb)

-- ---- over two parts

module _ (bound : ℕ) {ts front back : List Term} {before next : ℕ} (parts : AreParts (totalizer bound) ts front back before next) (id own : ℕ) (at : own ≡ id + 2 * next) where
  abbrev l : Tree
  l = tree_of (weights front)

  abbrev r : Tree
  r = tree_of (weights back)

  pub node_source : (λ (u : ℕ). (own + 2 * (u - 1)) ∷ []) ≡ output_ids (totalizer bound) (tree_of (weights ts)) (id + 2 * before)
  node_source =
      let f = fresh_of (totalizer bound) l in
      let g = fresh_of (totalizer bound) r in
      let e : (u : ℕ) → own + 2 * (u - 1) ≡ id + 2 * before + 2 * (f + g + (u - 1)) = λ u. omega (arith, at, parts.behind) in
      (λ i u. (e u i) ∷ []) ∙ ap (λ (t : Tree). output_ids (totalizer bound) t (id + 2 * before)) (sym parts.halves.tree)

  pub node_same : (count : ℕ) (left right : Handed) → count ≡ outputs_of bound (node (tree_of (weights front)) (tree_of (weights back)))
      → StandAt bound front (id + 2 * before) left → StandAt bound back (id + 2 * (before + fresh_over (totalizer bound) front)) right
      → HaveSameSteps (own_given (bound + 1) count left.count right.count left.source front right.source back own) (own_justifications bound l r before (id + 2 * before))
  node_same count left right counted lefts rights =
      let middle : id + 2 * (before + fresh_over (totalizer bound) front) ≡ id + 2 * before + 2 * fresh_of (totalizer bound) l = omega arith in
      same_then
      (own_same bound front back (id + 2 * before) own count left.count right.count left.source right.source lefts.ids (rights.ids ∙ ap (output_ids (totalizer bound) r) middle) (omega (arith, at, parts.behind))
      counted lefts.count rights.count)
      (own_first_free bound l r 0 before (id + 2 * before))
