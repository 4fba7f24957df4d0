-- The literals of a clause by their variables, each of which stands once: they are the signs of its variables.
use Rattle.std.proofs.Common.{◌≡◌, ◌<◌, ◌^◌, ℕ, Bool, true, false, cond, List, [], ◌∷◌, map, All, length, refl, ap, ◌∙◌, subst, arith, Some, inl, inr, Less}
use Rattle.std.specs.Prelude.{Contains}
use Rattle.std.specs.Ordering.{nat_cmp}
use Rattle.std.specs.BTreeMap.{is_at}
use Rattle.std.specs.Map.{keys_of, lookup}
use Rattle.std.specs.List.{AllByRecursion}
use Rattle.std.specs.List.Sorted.{IsPermutation, IsStrictlySortedBy}
use Rattle.std.proofs.lemmas.Grind.{common_steps}
use Rattle.std.proofs.lemmas.List.Elements.{All-contains, All-head, All-tail, All-map}
use Rattle.std.proofs.lemmas.List.Sorted.{All-permutation, Contains-permutation, IsPermutation-sym}
use Rattle.pb_base.specs.declared.literal.Lit.{Lit}
use Rattle.pb_base.specs.declared.literal.Term.{Term}
use Rattle.pb_base.proofs.LiteralLemmas.{same_literal}
use Rattle.pb_base.proofs.Members.{Contains-nil, Contains-here, Contains-there, Contains-cons_cases, Contains-map}
use Rattle.pb_base.proofs.Pairs.{AllPairs-head, AllPairs-tail}
use Rattle.pb_norm.specs.Constraints.{Weighted, weighted, weights, IsLinear, IsAscending, AreUnsigned, constraint_of}
use Rattle.pb_norm.specs.ClauseForm.{one_of, clause_form}
use Rattle.pb_norm.specs.inner.Signs.{sign_term}
use Rattle.pb_norm.proofs.AdditionOrder.{Before}
use Rattle.pb_norm.proofs.SignTerms.{HasEntries, clause-unsigned, clause-is, clause-linear}

abbrev entries_of : List Term → List (ℕ × Bool)
entries_of ts = map (λ t. (t.lit.var, t.lit.positive)) ts

-- ---- the variables ascend

below : (v w : ℕ) → v < w → nat_cmp v w ≡ Less
below v w h = grind (arith, common_steps)

keys-above : (v : ℕ) (ts : List Term) → All (λ w. v < w.lit.var) (weights ts) → AllByRecursion (λ y. nat_cmp v y ≡ Less) (keys_of (entries_of ts))
keys-above v [] h = tt
keys-above v (t ∷ ts) h =
    (below v t.lit.var (All-head {X = Weighted} (λ w. v < w.lit.var) (weighted t) (weights ts) h), keys-above v ts (All-tail {X = Weighted} (λ w. v < w.lit.var) (weighted t) (weights ts) h))

keys-ordered : (ts : List Term) → IsAscending (weights ts) → IsStrictlySortedBy nat_cmp (keys_of (entries_of ts))
unfolding IsStrictlySortedBy
keys-ordered [] up = tt
keys-ordered (t ∷ ts) up =
    (keys-above t.lit.var ts (AllPairs-head Before (weighted t) (weights ts) up), keys-ordered ts (AllPairs-tail Before (weighted t) (weights ts) up))

-- ---- a variable's sign

at-same : (v w : ℕ) → w ≡ v → is_at (nat_cmp v) w ≡ true
at-same v w e = grind (arith, common_steps)

at-other : (v w : ℕ) → w < v → is_at (nat_cmp v) w ≡ false
at-other v w h = grind (arith, common_steps)

same-at : (v w : ℕ) → is_at (nat_cmp v) w ≡ true → w ≡ v
same-at v w h = grind (arith, common_steps)

found : (ts : List Term) → IsAscending (weights ts) → (t : Term) → Contains ts t → lookup (is_at (nat_cmp t.lit.var)) (entries_of ts) ≡ Some t.lit.positive
found [] up t h = absurd (Contains-nil t h)
found (u ∷ us) up t h =
    elim (Contains-cons_cases u us t h) as (λ _. lookup (is_at (nat_cmp t.lit.var)) (entries_of (u ∷ us)) ≡ Some t.lit.positive) [
      | inl same ↦
          let at = at-same t.lit.var u.lit.var (ap (λ (w : Term). w.lit.var) same) in
          ap (λ (b : Bool). cond b (Some u.lit.positive) (lookup (is_at (nat_cmp t.lit.var)) (entries_of us))) at ∙ ap (λ (w : Term). Some w.lit.positive) same
      | inr rest ↦
          let above : u.lit.var < t.lit.var = All-contains (Before (weighted u)) (weights us) (weighted t) (AllPairs-head Before (weighted u) (weights us) up) (Contains-map weighted us t rest) in
          ap (λ (b : Bool). cond b (Some u.lit.positive) (lookup (is_at (nat_cmp t.lit.var)) (entries_of us))) (at-other t.lit.var u.lit.var above)
          ∙ found us (AllPairs-tail Before (weighted u) (weights us) up) t rest
    ]

some_is : (p q : Bool) → Some p ≡ Some q → p ≡ q
some_is p q e = cc

back : (ts : List Term) (v : ℕ) (p : Bool) → lookup (is_at (nat_cmp v)) (entries_of ts) ≡ Some p → Contains (map (λ t. t.lit) ts) (record { var = v; positive = p })
back [] v p e = absurd (let bad = e in cc)
back (t ∷ ts) v p e = by_test (back ts v p) (is_at (nat_cmp v) t.lit.var) refl e
  where
    by_test : (lookup (is_at (nat_cmp v)) (entries_of ts) ≡ Some p → Contains (map (λ t. t.lit) ts) (record { var = v; positive = p })) → (b : Bool) → is_at (nat_cmp v) t.lit.var ≡ b → cond b (Some t.lit.positive) (lookup (is_at (nat_cmp v)) (entries_of ts)) ≡ Some p → Contains (map (λ t. t.lit) (t ∷ ts)) (record { var = v; positive = p })
    by_test rest true at f =
        let l : Lit = record { var = v; positive = p } in
        subst (λ (k : Lit). Contains (map (λ t. t.lit) (t ∷ ts)) k) (same_literal t.lit l (same-at v t.lit.var at) (some_is t.lit.positive p f)) (Contains-here t.lit (map (λ t. t.lit) ts))
    by_test rest false at f = Contains-there t.lit (map (λ t. t.lit) ts) (record { var = v; positive = p }) (rest f)

through : (ts : List Term) (ls : List Lit) (l : Lit) → ((t : Term) → Contains ts t → Contains ls t.lit) → Contains (map (λ t. t.lit) ts) l → Contains ls l
through [] ls l each h = absurd (Contains-nil l h)
through (t ∷ ts) ls l each h =
    elim (Contains-cons_cases t.lit (map (λ t. t.lit) ts) l h) as (λ _. Contains ls l) [
      | inl same ↦ subst (λ (k : Lit). Contains ls k) same (each t (Contains-here t ts))
      | inr rest ↦ through ts ls l (λ u m. each u (Contains-there t ts u m)) rest
    ]

from_ones : (ls : List Lit) (t : Term) → Contains (map one_of ls) t → Contains ls t.lit
from_ones [] t h = absurd (Contains-nil t h)
from_ones (l ∷ ls) t h =
    elim (Contains-cons_cases (one_of l) (map one_of ls) t h) as (λ _. Contains (l ∷ ls) t.lit) [
      | inl same ↦ subst (λ (u : Term). Contains (l ∷ ls) u.lit) same (Contains-here l ls)
      | inr rest ↦ Contains-there l ls t.lit (from_ones ls t rest)
    ]

-- ---- the whole

ones : (ts : List Term) → All (λ t. t ≡ one_of t.lit) ts → ts ≡ map (λ e. sign_term e.0 e.1) (entries_of ts)
ones [] h = refl
ones (t ∷ ts) h =
    let first = All-head {X = Term} (λ t. t ≡ one_of t.lit) t ts h in
    let rest = ones ts (All-tail {X = Term} (λ t. t ≡ one_of t.lit) t ts h) in
    λ i. first i ∷ rest i

module _ (ls : List Lit) (ts : List Term) (p : IsPermutation (map one_of ls) ts) (up : IsAscending (weights ts)) where
  sorted-signs : HasEntries ls (entries_of ts)
  sorted-signs = record {
    ordered = keys-ordered ts up;
    signs = λ l. (
      (λ h. found ts up (one_of l) (Contains-permutation (map one_of ls) ts (one_of l) p (Contains-map one_of ls l h))),
      (λ e. through ts ls l (λ t m. from_ones ls t (Contains-permutation ts (map one_of ls) t (IsPermutation-sym (map one_of ls) ts p) m)) (back ts l.var l.positive e)),
    );
  }

  sorted-ones : ts ≡ map (λ e. sign_term e.0 e.1) (entries_of ts)
  sorted-ones = ones ts (All-permutation (λ (t : Term). t ≡ one_of t.lit) (map one_of ls) ts p (All-map {X = Term} (λ t. t ≡ one_of t.lit) one_of ls (λ k d l. refl)))

  pub sorted-unsigned : AreUnsigned ts
  sorted-unsigned = clause-unsigned ls (entries_of ts) ts sorted-signs sorted-ones

  pub sorted-is : constraint_of ts 1 ≡ clause_form ls
  sorted-is = clause-is ls (entries_of ts) ts sorted-signs sorted-ones

  pub sorted-linear : length ls < 2 ^ 64 → IsLinear (constraint_of ts 1)
  sorted-linear short = clause-linear ls (entries_of ts) ts short sorted-signs sorted-ones
