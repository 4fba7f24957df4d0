-- A node of a totalizer, by the outputs of its parts, whichever way its clauses lead.
use Rattle.std.proofs.Common.{◌≡◌, ◌+◌, ◌-◌, ◌++◌, ℕ, List, sym, ap, ◌∙◌, arith, Ok, Err}
use Rattle.std.specs.Prelude.{Result, IsErrAnd}
use Rattle.pb_base.specs.declared.fault.Failed.{Failed}
use Rattle.pb_base.specs.declared.literal.Lit.{Lit}
use Rattle.pb_base.specs.declared.literal.Term.{Term}
use Rattle.pb_norm.specs.Constraints.{weights}
use Rattle.pb_family.specs.Fresh.{positive_of}
use Rattle.pb_family.specs.Handing.{FailsInClauses, Hands}
use Rattle.pb_family.specs.Sinks.{SinkState}
use Rattle.pb_family.proofs.Emission.{fails_as}
use Rattle.pb_tree.specs.Scheme.{fresh_of, output}
use Rattle.pb_tree.specs.Tree.{Tree, node, tree_of}
use Rattle.pb_tree.specs.Walks.{AreParts, fresh_over}
use Rattle.pb_totalizer.specs.Exact.{limit_clauses, outputs_of}
use Rattle.pb_totalizer.specs.Totalizer.{sum_clauses, totalizer}
use Rattle.pb_totalizer.specs.declared.outputs.Outputs.{Outputs}
use Rattle.pb_totalizer.specs.declared.polarity.Polarity.{Polarity}
use Rattle.pb_totalizer.specs.declared.polarity.Polarity.TheVariants.{Up, Both}
use Rattle.pb_totalizer.specs.inner.Outputs.{AreOutputs, output_at, output_count}
use Rattle.pb_totalizer.specs.laws.Polarity.{own_by, own_clauses}

-- the fault in clauses that are written another way
pub hands_failed : {R T : Type 0} (r : Result T Failed) (f : Failed) (cs ds : List (List Lit)) (a b : SinkState R) → IsErrAnd r (λ g. g ≡ f) → cs ≡ ds → FailsInClauses cs a b → Hands ds r a b
hands_failed (Ok x) f cs ds a b is same part = absurd is
hands_failed (Err g) f cs ds a b is same part = fails_as cs ds a b same part

-- ---- a node's own, by what the code has of its parts

own_is : (polarity : Polarity) (bound : ℕ) (l r : Tree) (first count a b : ℕ) (f g h : ℕ → Lit)
    → count ≡ outputs_of bound (node l r) → a ≡ outputs_of bound l → b ≡ outputs_of bound r
    → f ≡ output (totalizer bound) l first → g ≡ output (totalizer bound) r (first + fresh_of (totalizer bound) l) → h ≡ output (totalizer bound) (node l r) first
    → own_clauses polarity (bound + 1) count a b f g h ≡ own_by polarity bound l r first
own_is Up bound l r first count a b f g h ec ea eb ef eg eh = λ i. sum_clauses (bound + 1) (ea i) (eb i) (ef i) (eg i) (eh i)
own_is Both bound l r first count a b f g h ec ea eb ef eg eh =
    λ i. sum_clauses (bound + 1) (ea i) (eb i) (ef i) (eg i) (eh i) ++ limit_clauses (ec i) (ea i) (eb i) (ef i) (eg i) (eh i)

node_output : (bound : ℕ) (l r : Tree) (first base : ℕ) → base ≡ first + fresh_of (totalizer bound) l + fresh_of (totalizer bound) r
    → (λ (u : ℕ). positive_of (base + (u - 1))) ≡ output (totalizer bound) (node l r) first
node_output bound l r first base is = ap (λ (n : ℕ). λ (u : ℕ). positive_of (n + (u - 1))) is

-- ---- over two parts

module _ (bound : ℕ) {ts front back : List Term} {before next : ℕ} (parts : AreParts (totalizer bound) ts front back before next) (first base : ℕ) (is : base ≡ first + next) where
  abbrev l : Tree
  l = tree_of (weights front)

  abbrev r : Tree
  r = tree_of (weights back)

  start : base ≡ first + before + fresh_of (totalizer bound) l + fresh_of (totalizer bound) r
  start = omega (arith, is, parts.behind)

  pub base_output : (λ (u : ℕ). positive_of (base + (u - 1))) ≡ output (totalizer bound) (tree_of (weights ts)) (first + before)
  base_output = node_output bound l r (first + before) base start ∙ ap (λ (t : Tree). output (totalizer bound) t (first + before)) (sym parts.halves.tree)

  pub own_same : (polarity : Polarity) (count : ℕ) (left right : Outputs) → count ≡ outputs_of bound (node (tree_of (weights front)) (tree_of (weights back)))
      → AreOutputs bound front (first + before) left → AreOutputs bound back (first + (before + fresh_over (totalizer bound) front)) right
      → own_clauses polarity (bound + 1) count (output_count left) (output_count right) (output_at left) (output_at right) (λ (u : ℕ). positive_of (base + (u - 1))) ≡ own_by polarity bound l r (first + before)
  own_same polarity count left right counted lefts rights =
      let middle : first + (before + fresh_over (totalizer bound) front) ≡ first + before + fresh_of (totalizer bound) l = omega arith in
      own_is polarity bound l r (first + before) count (output_count left) (output_count right) (output_at left) (output_at right) (λ (u : ℕ). positive_of (base + (u - 1)))
      counted lefts.count rights.count lefts.literals (rights.literals ∙ ap (output (totalizer bound) r) middle) (node_output bound l r (first + before) base start)
