-- The leaves of a tree as terms, and that their variables are others than those of outputs.
use Rattle.std.proofs.Common.{◌≡◌, ◌≢◌, ◌≤◌, ◌<◌, ◌+◌, inl, inr, ℕ, List, [], ◌++◌, ap, sym, ◌∙◌, subst, arith}
use Rattle.std.specs.Prelude.{All}
use Rattle.std.proofs.lemmas.List.{map-append}
use Rattle.std.proofs.lemmas.List.Elements.{All-nil, All-map, All-weaker}
use Rattle.std.proofs.lemmas.List.Kept.{AllPairs-cons}
use Rattle.pb_base.specs.declared.literal.Lit.{Lit}
use Rattle.pb_base.proofs.Pairs.{AllPairs-nil}
use Rattle.pb_norm.specs.Constraints.{Weighted}
use Rattle.pb_norm.specs.Reduction.{lits_of}
use Rattle.pb_derive.specs.Forms.{AreApartTerms}
use Rattle.pb_derive.specs.Ones.{unit_of, ones}
use Rattle.pb_derive.proofs.UnaryRows.{Other}
use Rattle.pb_tree.specs.Scheme.{fresh_of}
use Rattle.pb_tree.specs.Tree.{Tree, empty, leaf, node, IsLeafOf}
use Rattle.pb_tree.specs.TreeSteps.{leaves}
use Rattle.pb_tree.proofs.Extending.{IsNamed, all_from_each}
use Rattle.pb_tree.proofs.TreeParts.{IsApart, IsOver, leaf_listed}
use Rattle.pb_totalizer.specs.OutputSteps.{outputs}
use Rattle.pb_totalizer.specs.Totalizer.{totalizer}
use Rattle.pb_totalizer.specs.laws.CountForms.{both-apart}
use Rattle.pb_totalizer.specs.laws.OutputParts.{outputs-apart, outputs-named, AreLeavesBelow}

-- each leaf's literal once
abbrev pub leaf_terms : Tree → List Weighted
leaf_terms t = ones (lits_of (leaves t))

pub leaf_terms-node : (l r : Tree) → leaf_terms (node l r) ≡ leaf_terms l ++ leaf_terms r
leaf_terms-node l r = ap ones (map-append (λ (t : Weighted). t.lit) (leaves l) (leaves r)) ∙ map-append unit_of (lits_of (leaves l)) (lits_of (leaves r))

pub leaf_terms-all : (Q : Weighted → Type 0) (t : Tree) → ((u : Weighted) → IsLeafOf t u → Q (unit_of u.lit)) → All Q (leaf_terms t)
leaf_terms-all Q t each =
    All-map Q unit_of (lits_of (leaves t)) (All-map (λ (l : Lit). Q (unit_of l)) (λ (u : Weighted). u.lit) (leaves t) (all_from_each (λ (u : Weighted). Q (unit_of u.lit)) (leaves t) (λ u h. each u (leaf_listed t u h))))

pub leaf_terms-apart : (t : Tree) → IsApart t → AreApartTerms (leaf_terms t)
leaf_terms-apart empty apart = AllPairs-nil Other
leaf_terms-apart (leaf t) apart = AllPairs-cons Other (unit_of t.lit) [] (All-nil (Other (unit_of t.lit))) (AllPairs-nil Other)
leaf_terms-apart (node l r) apart =
    subst AreApartTerms (sym (leaf_terms-node l r))
    (both-apart (leaf_terms l) (leaf_terms r) (leaf_terms-apart l apart.0) (leaf_terms-apart r apart.1)
    (leaf_terms-all (λ (t : Weighted). All (Other t) (leaf_terms r)) l (λ u h. leaf_terms-all (Other (unit_of u.lit)) r (λ v k. apart.2 u v h k))))

pub leaf_terms-low : (t : Tree) (low : ℕ) → AreLeavesBelow low t → All (λ u. u.lit.var < low) (leaf_terms t)
leaf_terms-low t low below = leaf_terms-all (λ (u : Weighted). u.lit.var < low) t (λ u h. below u h)

module _ (bound : ℕ) (l r : Tree) (low first : ℕ) (le : low ≤ first) (over : IsOver (totalizer bound) low (node l r)) where
  abbrev middle : ℕ
  middle = first + fresh_of (totalizer bound) l

  leaf_apart : (u : Weighted) → IsLeafOf l u → (n : ℕ) → IsNamed (totalizer bound) r middle n → u.lit.var ≢ n
  leaf_apart u h n named e =
      elim named as (λ _. ⊥) [
        | inl own ↦ over.apart.2 u own.0 h own.1 (e ∙ sym own.2)
        | inr fresh ↦ omega (arith, over.below u (inl h), fresh.0, e, le)
      ]

  -- the leaves of the left and the outputs of the right
  pub mixed-apart : AreApartTerms (leaf_terms l ++ ones (outputs bound r (first + fresh_of (totalizer bound) l)))
  mixed-apart =
      both-apart (leaf_terms l) (ones (outputs bound r middle)) (leaf_terms-apart l over.apart.0) (outputs-apart bound r middle)
      (leaf_terms-all (λ (t : Weighted). All (Other t) (ones (outputs bound r middle))) l (λ u h.
      All-weaker (λ (t : Weighted). IsNamed (totalizer bound) r middle t.lit.var) (Other (unit_of u.lit)) (λ t named. leaf_apart u h t.lit.var named) (ones (outputs bound r middle)) (outputs-named bound r middle)))

  pub both-leaves-apart : AreApartTerms (leaf_terms l ++ leaf_terms r)
  both-leaves-apart = subst AreApartTerms (leaf_terms-node l r) (leaf_terms-apart (node l r) over.apart)
