-- Sums that leaves of a tree reach.
use Rattle.std.specs.Prelude.{◌≡◌, ◌⊎◌, ◌+◌, ◌≤◌, ℕ, Bool, true, List, [], ◌∷◌, Contains, min, length}
use Rattle.std.proofs.Common.{◌<◌, get_or}
use Rattle.pb_base.specs.declared.literal.Lit.{Lit}
use Rattle.pb_base.specs.Literals.{negated}
use Rattle.pb_norm.specs.Constraints.{Weighted}
use Rattle.pb_tree.specs.Tree.{Tree, empty, leaf, node}
use Rattle.pb_tree.specs.Scheme.{Scheme, values}

-- the weights of some leaves that pass add up to the number
abbrev pub Reach : Scheme → (Lit → Bool) → Tree → ℕ → Type 0
Reach s p empty x = x ≡ 0
Reach s p (leaf t) x = (x ≡ 0) ⊎ ((x ≡ s.weight t) × (p t.lit ≡ true))
Reach s p (node l r) x = (a : ℕ) × (b : ℕ) × (x ≡ a + b) × Reach s p l a × Reach s p r b

-- the same with one leaf besides, which need not pass
abbrev pub ReachWith : Scheme → (Lit → Bool) → Tree → Weighted → ℕ → Type 0
ReachWith s p empty t x = ⊥
ReachWith s p (leaf u) t x = (u ≡ t) × (x ≡ s.weight u)
ReachWith s p (node l r) t x =
    (a : ℕ) × (b : ℕ) × (x ≡ a + b) × ((ReachWith s p l t a × Reach s p r b) ⊎ (Reach s p l a × ReachWith s p r t b))

-- a clause says that a value of a part, or of each part, gives one of the node
abbrev pub OfLeft : Scheme → Tree → (ℕ → Lit) → (ℕ → Lit) → List Lit → Type 0
OfLeft s l f h c = (u : ℕ) × Contains (values s l) u × (c ≡ negated (f u) ∷ h u ∷ [])

abbrev pub OfBoth : Scheme → Tree → Tree → (ℕ → Lit) → (ℕ → Lit) → (ℕ → Lit) → List Lit → Type 0
OfBoth s l r f g h c =
    (u : ℕ) × (v : ℕ) × Contains (values s l) u × Contains (values s r) v × Contains (values s (node l r)) (min (u + v) s.cap)
    × (c ≡ negated (f u) ∷ negated (g v) ∷ h (min (u + v) s.cap) ∷ [])

-- What the laws need of a scheme. Sums beyond the limit may be left out, if each sum of at least the cap has a part that is within.
pub record IsLawful (s : Scheme) (Within : ℕ → Type 0) : Type 0 where
  pub within_parts : (a b : ℕ) → Within (a + b) → Within a × Within b
  pub within_capped : (a b : ℕ) → Within (a + b) → Within (min a s.cap + min b s.cap)
  pub within_cap : (p : Lit → Bool) (t : Tree) (x : ℕ) → s.cap ≤ x → Reach s p t x → (y : ℕ) × Within y × (s.cap ≤ y) × Reach s p t y
  pub within_cap_with : (p : Lit → Bool) (t : Tree) (u : Weighted) (x : ℕ) → s.cap ≤ x → ReachWith s p t u x → (y : ℕ) × Within y × (s.cap ≤ y) × ReachWith s p t u y
  pub left_value : (l r : Tree) (u : ℕ) → Contains (values s l) u → Contains (values s (node l r)) u
  pub right_value : (l r : Tree) (v : ℕ) → Contains (values s r) v → Contains (values s (node l r)) v
  pub both_value : (l r : Tree) (u v : ℕ) → Contains (values s l) u → Contains (values s r) v → Within (u + v) → Contains (values s (node l r)) (min (u + v) s.cap)
  pub place_within : (l r : Tree) (u : ℕ) → Contains (values s (node l r)) u → s.place u (values s (node l r)) < length (values s (node l r))
  pub at_place : (l r : Tree) (u : ℕ) → Contains (values s (node l r)) u → get_or (values s (node l r)) (s.place u (values s (node l r))) 0 ≡ u
  pub left_clause : (l r : Tree) (f g h : ℕ → Lit) (u : ℕ) → Contains (values s l) u → Contains (s.merged (values s l) (values s r) f g h) (negated (f u) ∷ h u ∷ [])
  pub right_clause : (l r : Tree) (f g h : ℕ → Lit) (v : ℕ) → Contains (values s r) v → Contains (s.merged (values s l) (values s r) f g h) (negated (g v) ∷ h v ∷ [])
  pub both_clause : (l r : Tree) (f g h : ℕ → Lit) (u v : ℕ) → Contains (values s l) u → Contains (values s r) v → Within (u + v) → Contains (s.merged (values s l) (values s r) f g h) (negated (f u) ∷ negated (g v) ∷ h (min (u + v) s.cap) ∷ [])
  pub each_clause : (l r : Tree) (f g h : ℕ → Lit) (c : List Lit) → Contains (s.merged (values s l) (values s r) f g h) c → OfLeft s l f h c ⊎ OfLeft s r g h c ⊎ OfBoth s l r f g h c
  pub counted : (l r : Tree) (f g h : ℕ → Lit) → length (s.merged (values s l) (values s r) f g h) ≡ s.merged_count (length (values s l)) (length (values s r))
