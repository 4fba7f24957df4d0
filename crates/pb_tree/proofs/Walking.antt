-- What a walk along a tree asks and hands over, by the halves of a list of terms.
use Rattle.std.proofs.Common.{◌≡◌, ◌≤◌, ◌<◌, ◌+◌, ◌*◌, ◌++◌, ℕ, List, [], length, ap, refl, sym, ◌∙◌, subst, arith, length-append, Ok, Err}
use Rattle.std.specs.Prelude.{Result, IsErrAnd}
use Rattle.pb_base.specs.declared.literal.Term.{Term}
use Rattle.pb_base.proofs.Members.{All-append_both}
use Rattle.pb_norm.specs.Constraints.{AllPositive, Weighted, weight, weights}
use Rattle.pb_derive.specs.Justifications.{Justification}
use Rattle.pb_derive.proofs.Appends.{weight-append}
use Rattle.pb_tree.specs.Halves.{Halves}
use Rattle.pb_tree.specs.Scheme.{Scheme, values, along, fresh_of}
use Rattle.pb_tree.specs.Tree.{Tree, empty, leaf, node, tree_of}
use Rattle.pb_tree.specs.TreeSteps.{leaves, own_reifications, reifications_from, justifications_along}
use Rattle.pb_tree.specs.Walks.{AreParts, IsTreeSum, Suits, fresh_over}
use Rattle.pb_tree.proofs.SplitTerms.{fresh_parts, leaf_of, some_term}
use Rattle.pb_tree.proofs.TreeReifications.{length-reifications_from}
use Rattle.pb_tree.proofs.TreeRows.{leaves_of}

-- ---- one term

pub leaf_along : {X : Type 0} (s : Scheme) (own : Tree → Tree → ℕ → List X) (ts : List Term) (before : ℕ) → length ts ≡ 1 → [] ≡ along s own (tree_of (weights ts)) before
leaf_along s own ts before one = sym (ap (λ (t : Tree). along s own t before) (leaf_of ts some_term one))

pub leaf_fresh : (s : Scheme) (ts : List Term) → length ts ≡ 1 → fresh_over s ts ≡ 0
leaf_fresh s ts one = ap (fresh_of s) (leaf_of ts some_term one)

-- ---- the halves

module _ {ts front back : List Term} (half : Halves ts front back) where
  parts_are : weights ts ≡ weights front ++ weights back
  parts_are = sym (leaves_of (weights ts)) ∙ ap leaves half.tree ∙ (λ i. leaves_of (weights front) i ++ leaves_of (weights back) i)

  halves_positive : AllPositive (weights ts) → AllPositive (weights front) × AllPositive (weights back)
  halves_positive positive = All-append_both (λ (t : Weighted). 0 < t.coef) (weights front) (weights back) (subst AllPositive parts_are positive)

  halves_weight : weight (weights ts) ≡ weight (weights front) + weight (weights back)
  halves_weight = ap weight parts_are ∙ weight-append (weights front) (weights back)

  module _ {s : Scheme} {most before : ℕ} (suits : Suits s most ts before) where
    pub front_suits : Suits s most front before
    front_suits = record {
      positive = (halves_positive suits.positive).0;
      light = omega (arith, halves_weight, suits.light);
      fits = omega (arith, fresh_parts s ts front back half.tree, suits.fits);
    }

    pub back_suits : (next : ℕ) → next ≡ before + fresh_over s front → Suits s most back next
    back_suits next at = record {
      positive = (halves_positive suits.positive).1;
      light = omega (arith, halves_weight, suits.light);
      fits = omega (arith, fresh_parts s ts front back half.tree, suits.fits, at);
    }

  -- what the halves have, and then the node
  pub node_along : {X : Type 0} (s : Scheme) (own : Tree → Tree → ℕ → List X) (before next : ℕ) → next ≡ before + fresh_over s front
      → along s own (tree_of (weights front)) before ++ (along s own (tree_of (weights back)) next ++ own (tree_of (weights front)) (tree_of (weights back)) before) ≡ along s own (tree_of (weights ts)) before
  node_along s own before next at =
      let l = tree_of (weights front) in
      let r = tree_of (weights back) in
      (λ i. along s own l before ++ (along s own r (at i) ++ own l r before)) ∙ sym (ap (λ (t : Tree). along s own t before) half.tree)

  pub node_count : {X : Type 0} (s : Scheme) (own : Tree → Tree → ℕ → List X) (before next : ℕ) → next ≡ before + fresh_over s front
      → length (along s own (tree_of (weights ts)) before) ≡ length (along s own (tree_of (weights front)) before) + (length (along s own (tree_of (weights back)) next) + length (own (tree_of (weights front)) (tree_of (weights back)) before))
  node_count s own before next at =
      let l = tree_of (weights front) in
      let r = tree_of (weights back) in
      omega (arith, ap length (node_along s own before next at), length-append (along s own l before) (along s own r next ++ own l r before), length-append (along s own r next) (own l r before))

-- what holds of an error holds of what hands it on
with_error : {P F : Type 0} (Q : Result P F → Type 0) (r : Result P F) (f : F) → IsErrAnd r (λ g. g ≡ f) → Q (Err f) → Q r
with_error Q (Ok p) f is h = absurd is
with_error {F = F} Q (Err g) f is h = subst (λ (e : F). Q (Err e)) (sym is) h

-- what the halves have was handed over, and then what the node has
module _ {X P F S : Type 0} (hands : List X → Result P F → S → S → Type 0) (then : (xs ys : List X) (placed : P) (r : Result P F) (a b c : S) → hands xs (Ok placed) a b → hands ys r b c → hands (xs ++ ys) r a c)
    (stops : (xs ys : List X) (f : F) (a b : S) → hands xs (Err f) a b → hands (xs ++ ys) (Err f) a b)
    {ts front back : List Term} (half : Halves ts front back) (s : Scheme) (own : Tree → Tree → ℕ → List X) (before next : ℕ) (at : next ≡ before + fresh_over s front) where
  abbrev lefts : List X
  lefts = along s own (tree_of (weights front)) before

  abbrev rights : List X
  rights = along s own (tree_of (weights back)) next

  abbrev owns : List X
  owns = own (tree_of (weights front)) (tree_of (weights back)) before

  abbrev all : List X
  all = along s own (tree_of (weights ts)) before

  whole : (r : Result P F) (a b : S) → hands (lefts ++ (rights ++ owns)) r a b → hands all r a b
  whole r a b h = subst (λ (xs : List X). hands xs r a b) (node_along half s own before next at) h

  pub left_stopped : (r : Result P F) (f : F) (a b : S) → IsErrAnd r (λ g. g ≡ f) → hands lefts (Err f) a b → hands all r a b
  left_stopped r f a b is h = with_error (λ e. hands all e a b) r f is (whole (Err f) a b (stops lefts (rights ++ owns) f a b h))

  pub right_stopped : (r : Result P F) (f : F) (left : P) (a b c : S) → IsErrAnd r (λ g. g ≡ f) → hands lefts (Ok left) a b → hands rights (Err f) b c → hands all r a c
  right_stopped r f left a b c is h k = with_error (λ e. hands all e a c) r f is (whole (Err f) a c (then lefts (rights ++ owns) left (Err f) a b c h (stops rights owns f b c k)))

  pub all_handed : (r : Result P F) (left right : P) (a b c d : S) → hands lefts (Ok left) a b → hands rights (Ok right) b c → hands owns r c d → hands all r a d
  all_handed r left right a b c d h k m = whole r a d (then lefts (rights ++ owns) left r a b d h (then rights owns right r b c d k m))

-- a node's values, and its own fresh variables
pub record IsNode (s : Scheme) (most before next : ℕ) (ts front back : List Term) (us : List ℕ) : Type 0 where
  pub own : us ≡ values s (node (tree_of (weights front)) (tree_of (weights back)))
  pub after : next + length us ≡ before + fresh_over s ts
  pub within : next + length us ≤ most

pub node_of : {s : Scheme} {most before next : ℕ} {ts front back : List Term} {us : List ℕ} → AreParts s ts front back before next → Suits s most ts before → us ≡ values s (tree_of (weights ts)) → IsNode s most before next ts front back us
node_of {s} {ts = ts} {front} {back} {us} parts suits is =
    let l = tree_of (weights front) in
    let r = tree_of (weights back) in
    let own : us ≡ values s (node l r) = is ∙ ap (values s) parts.halves.tree in
    let whole : fresh_over s ts ≡ fresh_over s front + fresh_over s back + length (values s (node l r)) = ap (fresh_of s) parts.halves.tree in
    record { own = own; after = omega (arith, whole, ap length own, parts.behind); within = omega (arith, whole, ap length own, parts.behind, suits.fits) }

-- a sum's own tree
pub sum_suits : {s : Scheme} {ts : List Term} {first : ℕ} → IsTreeSum s ts first → Suits s (fresh_over s ts) ts 0
sum_suits sum = record { positive = sum.positive; light = sum.light; fits = omega arith }

-- ---- what walks hand over, from a first variable and a first id on

pub along_from : {X : Type 0} (s : Scheme) (own : Tree → Tree → ℕ → List X) (first : ℕ) (t : Tree) (before start : ℕ) → start ≡ first + before
    → along s (λ l r n. own l r (first + n)) t before ≡ along s own t start
along_from s own first empty before start is = refl
along_from s own first (leaf t) before start is = refl
along_from s own first (node l r) before start is =
    let left = along_from s own first l before start is in
    let right = along_from s own first r (before + fresh_of s l) (start + fresh_of s l) (omega (arith, is)) in
    λ i. left i ++ (right i ++ own l r (sym is i))

pub along_ids : (s : Scheme) (own : Tree → Tree → ℕ → ℕ → List Justification) (id : ℕ) (t : Tree) (before start : ℕ) → start ≡ id + 2 * before
    → along s (λ l r n. own l r n (id + 2 * n)) t before ≡ justifications_along s own t before start
along_ids s own id empty before start is = refl
along_ids s own id (leaf t) before start is = refl
along_ids s own id (node l r) before start is =
    let left = along_ids s own id l before start is in
    let right = along_ids s own id r (before + fresh_of s l) (start + 2 * fresh_of s l) (omega (arith, is)) in
    λ i. left i ++ (right i ++ own l r before (sym is i))

-- a node's own reifications
pub own_meant : {s : Scheme} {ts front back : List Term} {before next : ℕ} → AreParts s ts front back before next → (first start : ℕ) (us : List ℕ) → start ≡ first + next
    → us ≡ values s (node (tree_of (weights front)) (tree_of (weights back))) → reifications_from start (weights ts) us ≡ own_reifications s (tree_of (weights front)) (tree_of (weights back)) (first + before)
own_meant {s} {ts} {front} {back} {before} parts first start us is own =
    let base : start ≡ first + before + fresh_over s front + fresh_over s back = omega (arith, is, parts.behind) in
    let sum : weights ts ≡ leaves (node (tree_of (weights front)) (tree_of (weights back))) = sym (leaves_of (weights ts)) ∙ ap leaves parts.halves.tree in
    λ i. reifications_from (base i) (sum i) (own i)

pub length-own_reifications : (s : Scheme) (l r : Tree) (first : ℕ) → length (own_reifications s l r first) ≡ length (values s (node l r))
length-own_reifications s l r first = length-reifications_from (first + fresh_of s l + fresh_of s r) (leaves (node l r)) (values s (node l r))

-- from the start of the walk on
pub from_first : {X : Type 0} (s : Scheme) (own : Tree → Tree → ℕ → List X) (t : Tree) (first : ℕ) → along s (λ l r n. own l r (first + n)) t 0 ≡ along s own t first
from_first s own t first = along_from s own first t 0 first (let e : first ≡ first + 0 = omega arith in e)

pub from_id : (s : Scheme) (own : Tree → Tree → ℕ → ℕ → List Justification) (t : Tree) (id : ℕ) → along s (λ l r n. own l r n (id + 2 * n)) t 0 ≡ justifications_along s own t 0 id
from_id s own t id = along_ids s own id t 0 id (let e : id ≡ id + 2 * 0 = omega arith in e)
