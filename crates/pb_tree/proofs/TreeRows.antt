-- What the reifications along a tree are by themselves.
use Rattle.std.proofs.Common.{◌≡◌, ◌≢◌, ◌≤◌, ◌<◌, ◌+◌, ℕ, List, [], ◌∷◌, ◌++◌, length, refl, subst, arith, inl, inr, length-append}
use Rattle.std.specs.Prelude.{Contains, All}
use Rattle.std.proofs.lemmas.List.Elements.{All-nil, All-cons, All-append, All-contains}
use Rattle.std.proofs.lemmas.List.Kept.{AllPairs-cons}
use Rattle.pb_base.proofs.Members.{Contains-nil, Contains-here, Contains-there, Contains-cons_cases, All-append_both}
use Rattle.pb_base.proofs.Pairs.{AllPairs-head, AllPairs-tail, AllPairs-nil}
use Rattle.pb_norm.specs.Constraints.{Weighted, weight}
use Rattle.pb_derive.specs.Forms.{AreApartTerms}
use Rattle.pb_derive.specs.Reifications.{Reification}
use Rattle.pb_derive.proofs.InRow.{AreInRow, row-append}
use Rattle.pb_derive.proofs.Justified.{IsReached, IsSum}
use Rattle.pb_derive.proofs.Appends.{weight-append}
use Rattle.pb_tree.specs.Pairs.{Pair}
use Rattle.pb_tree.specs.Scheme.{Scheme, values, fresh_of}
use Rattle.pb_tree.specs.Tree.{Tree, empty, leaf, node, tree_of, IsLeafOf}
use Rattle.pb_tree.specs.TreeSteps.{leaves, reifications_from, reifications}
use Rattle.pb_tree.proofs.PairJustifications.{IsByPairs, IsPositive}
use Rattle.pb_tree.proofs.Splitting.{leaves_are}
use Rattle.pb_tree.proofs.TreeReifications.{length-reifications}
use Rattle.pb_tree.proofs.TreeParts.{IsApart, listed_leaf, value_le}

-- ---- the leaves of a list's tree

pub leaves_of : (ts : List Weighted) → leaves (tree_of ts) ≡ ts
leaves_of ts = leaves_are ts

-- ---- distinct variables

abbrev Other : Weighted → Weighted → Type 0
Other s t = s.lit.var ≢ t.lit.var

apart-append : (ts us : List Weighted) → AreApartTerms (ts ++ us) → AreApartTerms ts × AreApartTerms us × ((t u : Weighted) → Contains ts t → Contains us u → Other t u)
apart-append [] us h = (AllPairs-nil Other, h, (λ t u k. absurd (Contains-nil t k)))
apart-append (t ∷ ts) us h =
    let head = All-append_both (Other t) ts us (AllPairs-head Other t (ts ++ us) h) in
    let rest = apart-append ts us (AllPairs-tail Other t (ts ++ us) h) in (
      AllPairs-cons Other t ts head.0 rest.0,
      rest.1,
      (λ s u k m. elim (Contains-cons_cases t ts s k) as (λ _. Other s u) [
        | inl same ↦ subst (λ (w : Weighted). Other w u) same (All-contains (Other t) us u head.1 m)
        | inr later ↦ rest.2 s u later m
      ]),
    )

pub apart_tree : (t : Tree) → AreApartTerms (leaves t) → IsApart t
apart_tree empty h = tt
apart_tree (leaf t) h = tt
apart_tree (node l r) h =
    let parts = apart-append (leaves l) (leaves r) h in
    (apart_tree l parts.0, apart_tree r parts.1, (λ u v k m. parts.2 u v (listed_leaf l u k) (listed_leaf r v m)))

-- ---- the reifications

row_from : (var : ℕ) (ts : List Weighted) (us : List ℕ) → AreInRow var (reifications_from var ts us)
row_from var ts [] = tt
row_from var ts (u ∷ us) = (refl, row_from (var + 1) ts us)

pub tree_row : (s : Scheme) (t : Tree) (first : ℕ) → AreInRow first (reifications s t first)
tree_row s empty first = tt
tree_row s (leaf t) first = tt
tree_row s (node l r) first =
    let middle = first + fresh_of s l in
    let start = first + fresh_of s l + fresh_of s r in
    let rights = reifications s r middle in
    let own = reifications_from start (leaves (node l r)) (values s (node l r)) in
    let one : middle ≡ first + length (reifications s l first) = omega (arith, length-reifications s l first) in
    let two : start ≡ middle + length rights = omega (arith, length-reifications s r middle) in
    row-append first (reifications s l first) (rights ++ own) (tree_row s l first)
    (subst (λ (n : ℕ). AreInRow n (rights ++ own)) one
    (row-append middle rights own (tree_row s r middle) (subst (λ (n : ℕ). AreInRow n own) two (row_from start (leaves (node l r)) (values s (node l r))))))

sum_parts : (low : ℕ) (ts us : List Weighted) → IsSum low (ts ++ us) → IsSum low ts × IsSum low us
sum_parts low ts us h =
    let below = All-append_both (λ (t : Weighted). t.lit.var < low) ts us h.below in
    let apart = apart-append ts us h.apart in
    let positive = All-append_both (λ (t : Weighted). 0 < t.coef) ts us h.positive in
    let light = h.light in
    let sum = weight-append ts us in (
      record { below = below.0; apart = apart.0; positive = positive.0; light = omega arith },
      record { below = below.1; apart = apart.1; positive = positive.1; light = omega arith },
    )

fit_from : (low var : ℕ) (ts : List Weighted) (us : List ℕ) → IsSum low ts → ((u : ℕ) → Contains us u → (1 ≤ u) × (u ≤ weight ts)) → All (IsReached low) (reifications_from var ts us)
fit_from low var ts [] sum each = All-nil (IsReached low)
fit_from low var ts (u ∷ us) sum each =
    let own = each u (Contains-here u us) in
    All-cons (IsReached low) (record { var = var; sum = ts; least = u }) (reifications_from (var + 1) ts us)
    (record { below = sum.below; apart = sum.apart; positive = sum.positive; some = own.0; reached = own.1; light = sum.light })
    (fit_from low (var + 1) ts us sum (λ v h. each v (Contains-there u us v h)))

pub tree_fit : (s : Scheme) (pairs : List ℕ → List ℕ → List Pair) → IsByPairs s pairs → (low : ℕ) (t : Tree) (first : ℕ) → IsSum low (leaves t) → ((u : Weighted) → IsLeafOf t u → s.weight u ≡ u.coef) → IsPositive s t → All (IsReached low) (reifications s t first)
tree_fit s pairs by low empty first sum weights positive = All-nil (IsReached low)
tree_fit s pairs by low (leaf t) first sum weights positive = All-nil (IsReached low)
tree_fit s pairs by low (node l r) first sum weights positive =
    let middle = first + fresh_of s l in
    let start = first + fresh_of s l + fresh_of s r in
    let parts = sum_parts low (leaves l) (leaves r) sum in
    let t = node l r in
    All-append (IsReached low) (reifications s l first) (reifications s r middle ++ reifications_from start (leaves t) (values s t))
    (tree_fit s pairs by low l first parts.0 (λ u h. weights u (inl h)) (λ u h. positive u (inl h)))
    (All-append (IsReached low) (reifications s r middle) (reifications_from start (leaves t) (values s t))
    (tree_fit s pairs by low r middle parts.1 (λ u h. weights u (inr h)) (λ u h. positive u (inr h)))
    (fit_from low start (leaves t) (values s t) sum (λ u h. (by.low t positive u h, value_le s by.from t weights u h))))

-- what holds of a list of terms and of each part of it holds of the terms of each reification
sums_from : (Q : List Weighted → Type 0) (var : ℕ) (ts : List Weighted) (us : List ℕ) → Q ts → All (λ m. Q m.sum) (reifications_from var ts us)
sums_from Q var ts [] h = All-nil (λ (m : Reification). Q m.sum)
sums_from Q var ts (u ∷ us) h = All-cons (λ (m : Reification). Q m.sum) (record { var = var; sum = ts; least = u }) (reifications_from (var + 1) ts us) h (sums_from Q (var + 1) ts us h)

sums_along : (Q : List Weighted → Type 0) → ((ts us : List Weighted) → Q (ts ++ us) → Q ts × Q us) → (s : Scheme) (t : Tree) (first : ℕ) → Q (leaves t) → All (λ m. Q m.sum) (reifications s t first)
sums_along Q split s empty first h = All-nil (λ (m : Reification). Q m.sum)
sums_along Q split s (leaf t) first h = All-nil (λ (m : Reification). Q m.sum)
sums_along Q split s (node l r) first h =
    let P : Reification → Type 0 = λ m. Q m.sum in
    let parts = split (leaves l) (leaves r) h in
    let middle = first + fresh_of s l in
    let start = first + fresh_of s l + fresh_of s r in
    let own = reifications_from start (leaves (node l r)) (values s (node l r)) in
    All-append P (reifications s l first) (reifications s r middle ++ own) (sums_along Q split s l first parts.0)
    (All-append P (reifications s r middle) own (sums_along Q split s r middle parts.1) (sums_from Q start (leaves (node l r)) (values s (node l r)) h))

pub tree_terms : (P : Weighted → Type 0) (s : Scheme) (t : Tree) (first : ℕ) → All P (leaves t) → All (λ m. All P m.sum) (reifications s t first)
tree_terms P s t first h = sums_along (λ ts. All P ts) (All-append_both P) s t first h

-- a reification's sum is of no more terms than there are leaves
pub tree_sums : (n : ℕ) (s : Scheme) (t : Tree) (first : ℕ) → length (leaves t) ≤ n → All (λ m. length m.sum ≤ n) (reifications s t first)
tree_sums n s t first h = sums_along (λ ts. length ts ≤ n) (λ ts us le. let size = length-append ts us in (omega arith, omega arith)) s t first h
