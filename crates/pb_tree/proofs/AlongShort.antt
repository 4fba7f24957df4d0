-- The lines of a derivation by the reifications along a tree are within their limits, and short, whatever clauses it gives.
use Rattle.std.proofs.Common.{◌≡◌, ◌≢◌, ◌≤◌, ◌<◌, ◌+◌, ◌*◌, ◌^◌, ℕ, List, [], ◌∷◌, ◌++◌, length, map, refl, ap, sym, subst, arith, inl, inr, length-append}
use Rattle.std.specs.Prelude.{All, sum_by}
use Rattle.std.proofs.lemmas.List.{length-map}
use Rattle.std.proofs.lemmas.List.Elements.{All-nil, All-append, All-head, All-tail, All-weaker, All-map}
use Rattle.std.proofs.lemmas.List.Sums.{sum_by-cons, sum_by-append}
use Rattle.pb_base.specs.declared.literal.Lit.{Lit}
use Rattle.pb_base.proofs.Members.{All-append_both}
use Rattle.pb_norm.specs.Constraints.{Weighted, weight}
use Rattle.pb_steps.specs.declared.step.Step.{Step}
use Rattle.pb_steps.specs.declared.step.Step.TheVariants.{Pol}
use Rattle.pb_steps.specs.Sayable.{IsId, IsVariable, IsSayable}
use Rattle.pb_steps.specs.StepSizes.{step_size}
use Rattle.pb_derive.specs.Claims.{Claim}
use Rattle.pb_derive.specs.Reifications.{Reification}
use Rattle.pb_derive.specs.Phases.{phases}
use Rattle.pb_derive.specs.Justifications.{Justification, by_justification, closing}
use Rattle.pb_derive.specs.Short.{AreShort}
use Rattle.pb_derive.proofs.Sayable.{IsSlimTerm, IsSlimReification, phases_sayable, closing_sayable}
use Rattle.pb_derive.proofs.Short.{phases_short}
use Rattle.pb_derive.proofs.ShortJustifications.{gone_in}
use Rattle.pb_derive.proofs.Sizes.{closing-size}
use Rattle.pb_derive.proofs.SlimRows.{slim_terms, row_slim}
use Rattle.pb_family.specs.Derivations.{AreOriginal}
use Rattle.pb_family.specs.Families.{VarsBelow}
use Rattle.pb_tree.specs.Pairs.{Pair}
use Rattle.pb_tree.specs.Scheme.{Scheme, values, fresh_of}
use Rattle.pb_tree.specs.Tree.{Tree, empty, leaf, node, tree_of, IsLeafOf}
use Rattle.pb_tree.specs.TreeSteps.{leaves, reifications, justifications_along}
use Rattle.pb_tree.proofs.AlongDerives.{Weighs, nodes_fit}
use Rattle.pb_tree.proofs.PairJustifications.{IsByPairs}
use Rattle.pb_tree.proofs.TreeReifications.{length-reifications}
use Rattle.pb_tree.proofs.TreeRows.{leaves_of, tree_row, tree_terms, tree_sums}

-- a justification by at most three constraints, with at most n variables beside
pub record IsShort (n : ℕ) (r : Justification) : Type 0 where
  pub some : r.ids ≢ []
  pub three : length r.ids ≤ 3
  pub ids : All IsId r.ids
  pub variables : All IsVariable r.weakened
  pub few : length r.weakened ≤ n

-- ---- along a tree

pub gone-append : (rs qs : List Justification) → gone_in (rs ++ qs) ≡ gone_in rs + gone_in qs
gone-append rs qs = sum_by-append (λ (r : Justification). length r.weakened) rs qs

-- so many variables go at a node: twice as many as it has leaves, for each of its outputs
abbrev pub GoneAt : Scheme → (Tree → Tree → ℕ → ℕ → List Justification) → Tree → Tree → Type 0
GoneAt s own l r = (first id : ℕ) → gone_in (own l r first id) ≤ 2 * (length (values s (node l r)) * (length (leaves l) + length (leaves r)))

pub along_gone : (s : Scheme) (own : Tree → Tree → ℕ → ℕ → List Justification) (P : Weighted → Type 0) → ((l r : Tree) → ((u : Weighted) → IsLeafOf (node l r) u → P u) → GoneAt s own l r)
    → (t : Tree) (first id : ℕ) → ((u : Weighted) → IsLeafOf t u → P u) → gone_in (justifications_along s own t first id) ≤ 2 * (fresh_of s t * length (leaves t))
along_gone s own P each empty first id h = let none : gone_in (justifications_along s own empty first id) ≡ 0 = refl in omega (arith, none)
along_gone s own P each (leaf t) first id h = let none : gone_in (justifications_along s own (leaf t) first id) ≡ 0 = refl in omega (arith, none)
along_gone s own P each (node l r) first id h =
    let middle = first + fresh_of s l in
    let next = id + 2 * fresh_of s l in
    let a = length (leaves l) in
    let b = length (leaves r) in
    let f = fresh_of s l in
    let g = fresh_of s r in
    let c = length (values s (node l r)) in
    let grid : (f + g + c) * (a + b) ≡ f * a + f * b + (g * a + g * b) + (c * a + c * b) = omega arith in
    let here : c * (a + b) ≡ c * a + c * b = omega arith in
    let whole : fresh_of s (node l r) * length (leaves (node l r)) ≡ (f + g + c) * (a + b) = ap (λ (n : ℕ). (f + g + c) * n) (length-append (leaves l) (leaves r)) in
    omega (
      arith,
      gone-append (justifications_along s own l first id) (justifications_along s own r middle next ++ own l r first id),
      gone-append (justifications_along s own r middle next) (own l r first id),
      each l r h first id,
      along_gone s own P each l first id (λ u m. h u (inl m)),
      along_gone s own P each r middle next (λ u m. h u (inr m)),
      grid,
      here,
      whole,
    )

pub along_short : (n : ℕ) (s : Scheme) (own : Tree → Tree → ℕ → ℕ → List Justification)
    → ((l r : Tree) (first id : ℕ) → 1 ≤ id → id + 2 * fresh_of s (node l r) < 2 ^ 63 → All (λ w. IsVariable w.lit.var) (leaves (node l r)) → length (leaves (node l r)) ≤ n → All (IsShort n) (own l r first id))
    → (t : Tree) (first id : ℕ) → 1 ≤ id → id + 2 * fresh_of s t < 2 ^ 63 → All (λ w. IsVariable w.lit.var) (leaves t) → length (leaves t) ≤ n → All (IsShort n) (justifications_along s own t first id)
along_short n s own each empty first id low high known few = All-nil (IsShort n)
along_short n s own each (leaf t) first id low high known few = All-nil (IsShort n)
along_short n s own each (node l r) first id low high known few =
    let middle = first + fresh_of s l in
    let next = id + 2 * fresh_of s l in
    let parts = All-append_both (λ (w : Weighted). IsVariable w.lit.var) (leaves l) (leaves r) known in
    let size = length-append (leaves l) (leaves r) in
    All-append (IsShort n) (justifications_along s own l first id) (justifications_along s own r middle next ++ own l r first id)
    (along_short n s own each l first id low (omega arith) parts.0 (omega arith))
    (All-append (IsShort n) (justifications_along s own r middle next) (own l r first id)
    (along_short n s own each r middle next (omega arith) (omega arith) parts.1 (omega arith))
    (each l r first id low high known few))

-- ---- the whole

short_size : (n : ℕ) (rs : List Justification) → All (IsShort n) rs → sum_by (λ c. step_size c.step) (map by_justification rs) ≤ 111 * length rs + 14 * gone_in rs
short_size n [] h = let none : sum_by (λ (c : Claim). step_size c.step) (map by_justification []) ≡ 0 = refl in omega (arith, none)
short_size n (r ∷ rs) h =
    omega (
      arith,
      sum_by-cons (λ (c : Claim). step_size c.step) (by_justification r) (map by_justification rs),
      sum_by-cons (λ (r : Justification). length r.weakened) r rs,
      closing-size r,
      (All-head (IsShort n) r rs h).three,
      short_size n rs (All-tail (IsShort n) r rs h),
    )

some_sayable : (clause : List Lit) (ids vs : List ℕ) → ids ≢ [] → All IsId ids → All IsVariable vs → IsSayable (Pol (closing (record { clause = clause; ids = ids; weakened = vs })))
some_sayable clause [] vs some known gone = absurd (some refl)
some_sayable clause (id ∷ ids) vs some known gone = closing_sayable clause id ids vs known gone

-- where a derivation of fresh variables may start
pub record Starts (first fresh next : ℕ) : Type 0 where
  pub low : 1 ≤ first
  pub fits : first + fresh ≤ 2 ^ 31
  pub from : 1 ≤ next
  pub few : next ≤ 2 ^ 61

module _ (ts : List Weighted) (first fresh : ℕ) (fits : first + fresh ≤ 2 ^ 31) (original : AreOriginal first ts) where
  pub known_terms : All (λ w. IsVariable w.lit.var) (leaves (tree_of ts))
  known_terms =
      subst (λ (us : List Weighted). All (λ w. IsVariable w.lit.var) us) (sym (leaves_of ts))
      (All-weaker (λ (w : Weighted). (1 ≤ w.lit.var) × (w.lit.var < first)) (λ (w : Weighted). IsVariable w.lit.var) (λ w h. let low = h.0 in let high = h.1 in (low, omega arith)) ts original)

module _ (s : Scheme) (pairs : List ℕ → List ℕ → List Pair) (by : IsByPairs s pairs) (ts : List Weighted) (weighs : Weighs s ts) (light : weight ts < 2 ^ 100)
    (first next : ℕ) (original : AreOriginal first ts) (start : Starts first (fresh_of s (tree_of ts)) next)
    (rs : List Justification) (few_clauses : length rs < 5 * 2 ^ 60) (short : All (IsShort (length ts)) rs) where
  abbrev t : Tree
  t = tree_of ts

  abbrev fresh : ℕ
  fresh = fresh_of s (tree_of ts)

  abbrev ms : List Reification
  ms = reifications s (tree_of ts) first

  below_terms : VarsBelow first ts
  below_terms = All-weaker (λ (w : Weighted). (1 ≤ w.lit.var) × (w.lit.var < first)) (λ (w : Weighted). w.lit.var < first) (λ w h. h.1) ts original

  slim_reifications : All IsSlimReification ms
  slim_reifications =
      let fits = start.fits in
      let total : weight (leaves t) ≡ weight ts = ap weight (leaves_of ts) in
      let count = length-reifications s t first in
      row_slim first ms (tree_row s t first) start.low (omega arith) (nodes_fit s pairs by ts weighs first below_terms light)
      (tree_terms IsSlimTerm s t first (slim_terms (leaves t) (omega arith) (known_terms ts first fresh start.fits original)))

  pub terms_sayable : All IsSayable (phases next (reifications s (tree_of ts) first) (map by_justification rs))
  terms_sayable =
      let fits = start.fits in
      let few = start.few in
      let count = length-reifications s t first in
      let size = length-map rs by_justification in
      phases_sayable next ms (map by_justification rs) start.from (omega arith) slim_reifications
      (All-map (λ (c : Claim). IsSayable c.step) by_justification rs (All-weaker (IsShort (length ts)) (λ (r : Justification). IsSayable (by_justification r).step) (λ r h. some_sayable r.clause r.ids r.weakened h.some h.ids h.variables) rs short))

  pub terms_short : length ts ≤ 2 ^ 21 → gone_in rs ≤ 2 * (fresh_of s (tree_of ts) * length ts) → AreShort (length ts) (fresh_of s (tree_of ts)) (length rs) (phases next (reifications s (tree_of ts) first) (map by_justification rs))
  terms_short narrow gone =
      let n = length ts in
      let size : length (leaves t) ≡ n = ap length (leaves_of ts) in
      let count = length-reifications s t first in
      let each : All (λ (c : Claim). step_size c.step ≤ 2 ^ 28) (map by_justification rs) =
      All-map (λ (c : Claim). step_size c.step ≤ 2 ^ 28) by_justification rs (All-weaker (IsShort n) (λ (r : Justification). step_size (by_justification r).step ≤ 2 ^ 28) (λ r h. let three = h.three in let few = h.few in omega (arith, closing-size r)) rs short) in
      let lines = length-map rs by_justification in
      let grow : (fresh + 1) * n ≡ fresh * n + n = omega arith in
      let counted : (length ms + 1) * n ≡ (fresh + 1) * n = ap (λ (k : ℕ). (k + 1) * n) count in
      let are = phases_short n next ms (map by_justification rs) terms_sayable narrow (tree_sums n s t first (omega arith)) each
      (omega (arith, short_size n rs short, gone, lines, grow, counted)) in
      let steps : List Step = phases next ms (map by_justification rs) in
      subst (λ (k : ℕ). AreShort n fresh k steps) lines (subst (λ (k : ℕ). AreShort n k (length (map by_justification rs)) steps) count are)
