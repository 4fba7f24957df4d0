-- A node's clauses, as the code writes them.
use Rattle.std.proofs.Common.{◌≡◌, ◌<◌, ◌≤◌, ◌+◌, ◌∙◌, ◌++◌, ◌∷◌, [], ℕ, zero, suc, List, ap, sym, arith}
use Rattle.std.proofs.lemmas.Bool.Decides.{nat_tests}
use Rattle.pb_base.specs.declared.literal.Lit.{Lit}
use Rattle.pb_base.specs.Literals.{negated}
use Rattle.pb_tree.specs.Pairs.{unless_none}
use Rattle.pb_totalizer.specs.Exact.{unless_last}
use Rattle.pb_totalizer.specs.declared.node.Node.{Node}
use Rattle.pb_totalizer.specs.inner.NodeClauses.{clause_over, limit_over}
use Rattle.pb_totalizer.specs.inner.Outputs.{output_count, output_at}

-- by what it has of each part, and its own literal
joined : {ls ms xs ys : List Lit} {y z : Lit} → ls ≡ xs → ms ≡ ys → y ≡ z → xs ++ (ys ++ y ∷ []) ≡ ls ++ (ms ++ z ∷ [])
joined left right own = λ i. sym left i ++ (sym right i ++ own i ∷ [])

-- ---- from its parts to its outputs

at_none : (f : ℕ → Lit) (i : ℕ) → i ≡ 0 → unless_none f i ≡ []
at_none f i none = ap (unless_none f) none

not_none : (f : ℕ → Lit) (i : ℕ) (l : Lit) → 1 ≤ i → l ≡ negated (f i) → unless_none f i ≡ l ∷ []
not_none f zero l some is = absurd (omega arith)
not_none f (suc i) l some is = ap (λ (k : Lit). k ∷ []) (sym is)

module _ (node : Node) (i j : ℕ) (y : Lit) (sum : y ≡ output_at node.own (i + j)) where
  pub sum_right : (b : Lit) → i ≡ 0 → 1 ≤ j → b ≡ negated (output_at node.right j) → b ∷ y ∷ [] ≡ clause_over node i j
  sum_right b none some is = joined (at_none (output_at node.left) i none) (not_none (output_at node.right) j b some is) sum

  pub sum_left : (a : Lit) → 1 ≤ i → j ≡ 0 → a ≡ negated (output_at node.left i) → a ∷ y ∷ [] ≡ clause_over node i j
  sum_left a some none is = joined (not_none (output_at node.left) i a some is) (at_none (output_at node.right) j none) sum

  pub sum_both : (a b : Lit) → 1 ≤ i → 1 ≤ j → a ≡ negated (output_at node.left i) → b ≡ negated (output_at node.right j) → a ∷ b ∷ y ∷ [] ≡ clause_over node i j
  sum_both a b here there is_a is_b = joined (not_none (output_at node.left) i a here is_a) (not_none (output_at node.right) j b there is_b) sum

-- ---- from its outputs to its parts

at_last : (f : ℕ → Lit) (a i : ℕ) → a ≤ i → unless_last f a i ≡ []
at_last f a i past = grind (arith, nat_tests)

not_last : (f : ℕ → Lit) (a i : ℕ) (l : Lit) → i < a → l ≡ f (i + 1) → unless_last f a i ≡ l ∷ []
not_last f a i l within is = here ∙ ap (λ (k : Lit). k ∷ []) (sym is)
  where
    here : unless_last f a i ≡ f (i + 1) ∷ []
    here = grind (arith, nat_tests)

module _ (node : Node) (i j : ℕ) (y : Lit) (limit : y ≡ negated (output_at node.own (i + j + 1))) where
  pub only_right : (b : Lit) → output_count node.left ≤ i → j < output_count node.right → b ≡ output_at node.right (j + 1) → b ∷ y ∷ [] ≡ limit_over node i j
  only_right b last more is = joined (at_last (output_at node.left) (output_count node.left) i last) (not_last (output_at node.right) (output_count node.right) j b more is) limit

  pub only_left : (a : Lit) → i < output_count node.left → output_count node.right ≤ j → a ≡ output_at node.left (i + 1) → a ∷ y ∷ [] ≡ limit_over node i j
  only_left a more last is = joined (not_last (output_at node.left) (output_count node.left) i a more is) (at_last (output_at node.right) (output_count node.right) j last) limit

  pub left_and_right : (a b : Lit) → i < output_count node.left → j < output_count node.right → a ≡ output_at node.left (i + 1) → b ≡ output_at node.right (j + 1) → a ∷ b ∷ y ∷ [] ≡ limit_over node i j
  left_and_right a b here there is_a is_b = joined (not_last (output_at node.left) (output_count node.left) i a here is_a) (not_last (output_at node.right) (output_count node.right) j b there is_b) limit
