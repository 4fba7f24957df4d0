-- What a part of a tree gives a clause that has one of its values, or none.
use Rattle.std.proofs.Common.{◌≡◌, ◌≢◌, ◌≤◌, ◌<◌, ◌+◌, ◌⊎◌, ℕ, zero, suc, true, List, [], ◌∷◌, ◌++◌, min, refl, sym, subst, arith, inl, inr}
use Rattle.std.specs.Prelude.{Contains}
use Rattle.std.proofs.lemmas.List.Elements.{Contains-append_left, Contains-append_right, Contains-append_cases}
use Rattle.std.proofs.lemmas.List.Sums.{sum_by-cons, sum_by-append}
use Rattle.pb_base.specs.declared.literal.Lit.{Lit}
use Rattle.pb_base.specs.Literals.{negated, is_among}
use Rattle.pb_base.proofs.Members.{Contains-nil, Contains-here, Contains-cons_cases, Contains-map}
use Rattle.pb_norm.specs.Constraints.{Weighted, Constraint, weight}
use Rattle.pb_norm.specs.BoundedSums.{vars_of}
use Rattle.pb_tree.specs.Tree.{Tree, empty, leaf, node, IsLeafOf}
use Rattle.pb_tree.specs.Scheme.{Scheme, values, output}
use Rattle.pb_tree.proofs.Lists.{Contains-map_cases}
use Rattle.pb_tree.proofs.Sums.{IsLawful}
use Rattle.pb_derive.specs.Reifications.{forward_of}
use Rattle.pb_derive.specs.inner.Follows.{AllKnown}
use Rattle.pb_derive.proofs.Justified.{ReificationsKnown}
use Rattle.pb_tree.specs.TreeSteps.{leaves, reifications, output_ids, part_ids, part_weakened}
use Rattle.pb_tree.proofs.TreeReifications.{reification, output_known}
use Rattle.pb_derive.proofs.Sides.{Side, side_none, side_leaf, side_fresh}

-- ---- leaves

pub leaf_listed : (t : Tree) (u : Weighted) → Contains (leaves t) u → IsLeafOf t u
leaf_listed empty u h = absurd (Contains-nil u h)
leaf_listed (leaf t) u h = elim (Contains-cons_cases t [] u h) as (λ _. t ≡ u) [ inl same ↦ same | inr none ↦ absurd (Contains-nil u none) ]
leaf_listed (node l r) u h =
    elim (Contains-append_cases (leaves l) (leaves r) u h) as (λ _. IsLeafOf (node l r) u) [ inl left ↦ inl (leaf_listed l u left) | inr right ↦ inr (leaf_listed r u right) ]

pub listed_leaf : (t : Tree) (u : Weighted) → IsLeafOf t u → Contains (leaves t) u
listed_leaf empty u h = absurd h
listed_leaf (leaf t) u h = subst (λ (w : Weighted). Contains (t ∷ []) w) h (Contains-here t [])
listed_leaf (node l r) u h =
    elim h as (λ _. Contains (leaves l ++ leaves r) u) [
      | inl left ↦ Contains-append_left (leaves l) (leaves r) u (listed_leaf l u left)
      | inr right ↦ Contains-append_right (leaves l) (leaves r) u (listed_leaf r u right)
    ]

-- no variable stands on both sides of a node
abbrev pub IsApart : Tree → Type 0
IsApart empty = Unit {0}
IsApart (leaf t) = Unit {0}
IsApart (node l r) = IsApart l × IsApart r × ((u v : Weighted) → IsLeafOf l u → IsLeafOf r v → u.lit.var ≢ v.lit.var)

-- what the derivation needs of the leaves: the scheme takes their coefficients, and their variables are below the fresh ones
pub record IsOver (s : Scheme) (low : ℕ) (t : Tree) : Type 0 where
  pub weights : (u : Weighted) → IsLeafOf t u → s.weight u ≡ u.coef
  pub below : (u : Weighted) → IsLeafOf t u → u.lit.var < low
  pub apart : IsApart t

pub over_left : (s : Scheme) (low : ℕ) (l r : Tree) → IsOver s low (node l r) → IsOver s low l
over_left s low l r h = record { weights = λ u m. h.weights u (inl m); below = λ u m. h.below u (inl m); apart = h.apart.0 }

pub over_right : (s : Scheme) (low : ℕ) (l r : Tree) → IsOver s low (node l r) → IsOver s low r
over_right s low l r h = record { weights = λ u m. h.weights u (inr m); below = λ u m. h.below u (inr m); apart = h.apart.1 }

-- ---- values

-- a value of a part, or 0 for none
abbrev pub IsPart : List ℕ → ℕ → Type 0
IsPart us u = (u ≡ 0) ⊎ Contains us u

-- a value of a node is at most the sum of two of its parts
abbrev pub AreFromParts : Scheme → Type 0
AreFromParts s = (l r : Tree) (w : ℕ) → Contains (values s (node l r)) w → (u : ℕ) × (v : ℕ) × IsPart (values s l) u × IsPart (values s r) v × (w ≤ u + v)

-- no value is more than all leaves weigh
pub value_le : (s : Scheme) → AreFromParts s → (t : Tree) → ((u : Weighted) → IsLeafOf t u → s.weight u ≡ u.coef) → (u : ℕ) → Contains (values s t) u → u ≤ weight (leaves t)
value_le s from empty weights u h = absurd (Contains-nil u h)
value_le s from (leaf t) weights u h =
    elim (Contains-cons_cases (min (s.weight t) s.cap) [] u h) as (λ _. u ≤ weight (t ∷ [])) [
      | inl same ↦ let e = weights t refl in omega (arith, sum_by-cons {X = Weighted} (λ t. t.coef) t [])
      | inr none ↦ absurd (Contains-nil u none)
    ]
value_le s from (node l r) weights w h =
    let parts = from l r w h in
    let sum = parts.4 in
    let left : parts.0 ≤ weight (leaves l) = elim parts.2 as (λ _. parts.0 ≤ weight (leaves l)) [
      | inl none ↦ omega arith
      | inr some ↦ value_le s from l (λ u m. weights u (inl m)) parts.0 some
    ] in
    let right : parts.1 ≤ weight (leaves r) = elim parts.3 as (λ _. parts.1 ≤ weight (leaves r)) [
      | inl none ↦ omega arith
      | inr some ↦ value_le s from r (λ u m. weights u (inr m)) parts.1 some
    ] in
    omega (arith, sum_by-append {X = Weighted} (λ t. t.coef) (leaves l) (leaves r))

-- ---- what a part gives

-- what is known of the constraints that a part adds for a clause
abbrev pub Given : (ℕ → Constraint → Type 0) → List Lit → Tree → List ℕ → ℕ → List ℕ → Type 0
Given K clause t ids u weakened = (sources : List Constraint) × AllKnown K ids sources × Side clause (leaves t) u sources weakened

-- of a value that the clause negates
pub given_value : (K : ℕ → Constraint → Type 0) (s : Scheme) (W : ℕ → Type 0) → IsLawful s W → AreFromParts s → (low : ℕ) (t : Tree) (first id u : ℕ) (clause : List Lit)
    → IsOver s low t → ReificationsKnown K id (reifications s t first) → Contains (values s t) u → is_among clause (negated (output s t first u)) ≡ true
    → Given K clause t (output_ids s t id u) u []
given_value K s W laws from low empty first id u clause over known here among = absurd (Contains-nil u here)
given_value K s W laws from low (leaf t) first id u clause over known here among =
    let le = value_le s from (leaf t) over.weights u here in
    ([], tt, side_leaf clause t u (omega (arith, le, sum_by-cons {X = Weighted} (λ t. t.coef) t [])) among)
given_value K s W laws from low (node l r) first id u clause over known here among =
    let t = node l r in
    let m = reification (output s t first u).var (leaves t) u in
    let both = output_known K s W laws l r first id u known here in
    (forward_of m ∷ [], (both.0, tt), side_fresh clause m (value_le s from t over.weights u here) among)

-- of a value that the clause negates, or of none, where all leaves are weakened away
pub given_part : (K : ℕ → Constraint → Type 0) (s : Scheme) (W : ℕ → Type 0) → IsLawful s W → AreFromParts s → (low : ℕ) (t : Tree) (first id u : ℕ) (clause : List Lit)
    → IsOver s low t → ReificationsKnown K id (reifications s t first) → IsPart (values s t) u
    → (u ≢ 0 → is_among clause (negated (output s t first u)) ≡ true)
    → (u ≡ 0 → (l : Lit) → Contains clause l → (v : Weighted) → IsLeafOf t v → l.var ≢ v.lit.var)
    → Given K clause t (part_ids s t id u) u (part_weakened t u)
given_part K s W laws from low t first id zero clause over known part among apart =
    let gone = vars_of (leaves t) in (
      [],
      tt,
      side_none clause (leaves t) gone (λ v h. Contains-map (λ (w : Weighted). w.lit.var) (leaves t) v h)
          (λ l h at. let v = Contains-map_cases (λ (w : Weighted). w.lit.var) (leaves t) l.var at in apart refl l h v.0 (leaf_listed t v.0 v.1) (sym v.2)),
    )
given_part K s W laws from low t first id (suc u) clause over known part among apart =
    let here : Contains (values s t) (suc u) = elim part as (λ _. Contains (values s t) (suc u)) [ inl none ↦ absurd (omega arith) | inr some ↦ some ] in
    given_value K s W laws from low t first id (suc u) clause over known here (among (λ e. omega arith))
