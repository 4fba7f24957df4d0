-- The reifications of the fresh variables along a tree, by their places.
use Rattle.std.proofs.Common.{◌≡◌, ◌<◌, ◌+◌, ◌*◌, ℕ, zero, suc, List, [], ◌∷◌, ◌++◌, length, get_or, refl, ◌∙◌, subst, arith, length-append}
use Rattle.std.specs.Prelude.{Contains}
use Rattle.std.proofs.lemmas.List.{get_or_default}
use Rattle.pb_norm.specs.Constraints.{Weighted, Constraint}
use Rattle.pb_tree.specs.Tree.{Tree, empty, leaf, node}
use Rattle.pb_tree.specs.Scheme.{Scheme, values, fresh_of, output}
use Rattle.pb_tree.proofs.Sums.{IsLawful}
use Rattle.pb_derive.specs.Reifications.{Reification, forward_of, reverse_of}
use Rattle.pb_derive.proofs.Justified.{ReificationsKnown, known_front, known_back}
use Rattle.pb_tree.specs.TreeSteps.{leaves, reifications_from, reifications}

abbrev pub reification : ℕ → List Weighted → ℕ → Reification
reification v ts u = record { var = v; sum = ts; least = u }

pub length-reifications_from : (var : ℕ) (ts : List Weighted) (us : List ℕ) → length (reifications_from var ts us) ≡ length us
length-reifications_from var ts [] = refl
length-reifications_from var ts (u ∷ us) = let more = length-reifications_from (var + 1) ts us in omega arith

get_or-reifications_from : (var : ℕ) (ts : List Weighted) (us : List ℕ) (p v u : ℕ) → p < length us → get_or us p u ≡ u → var + p ≡ v → get_or (reifications_from var ts us) p (reification v ts u) ≡ reification v ts u
get_or-reifications_from var ts [] p v u within is at = absurd (omega arith)
get_or-reifications_from var ts (x ∷ us) zero v u within is at = let e : var ≡ v = omega arith in λ i. record { var = e i; sum = ts; least = is i }
get_or-reifications_from var ts (x ∷ us) (suc p) v u within is at = get_or-reifications_from (var + 1) ts us p v u (omega arith) is (omega arith)

pub length-reifications : (s : Scheme) (t : Tree) (first : ℕ) → length (reifications s t first) ≡ fresh_of s t
length-reifications s empty first = refl
length-reifications s (leaf t) first = refl
length-reifications s (node l r) first =
    let own = reifications_from (first + fresh_of s l + fresh_of s r) (leaves (node l r)) (values s (node l r)) in
    let rights = reifications s r (first + fresh_of s l) in
    omega (
      arith,
      length-append (reifications s l first) (rights ++ own),
      length-append rights own,
      length-reifications s l first,
      length-reifications s r (first + fresh_of s l),
      length-reifications_from (first + fresh_of s l + fresh_of s r) (leaves (node l r)) (values s (node l r)),
    )

-- ---- reifications that stand in a database

pub known_left : (K : ℕ → Constraint → Type 0) (s : Scheme) (l r : Tree) (first id : ℕ) → ReificationsKnown K id (reifications s (node l r) first) → ReificationsKnown K id (reifications s l first)
known_left K s l r first id h =
    known_front K id (reifications s l first) (reifications s r (first + fresh_of s l) ++ reifications_from (first + fresh_of s l + fresh_of s r) (leaves (node l r)) (values s (node l r))) h

known_rest : (K : ℕ → Constraint → Type 0) (s : Scheme) (l r : Tree) (first id : ℕ) → ReificationsKnown K id (reifications s (node l r) first)
    → ReificationsKnown K (id + 2 * fresh_of s l) (reifications s r (first + fresh_of s l) ++ reifications_from (first + fresh_of s l + fresh_of s r) (leaves (node l r)) (values s (node l r)))
known_rest K s l r first id h =
    known_back K id (fresh_of s l) (reifications s l first) (reifications s r (first + fresh_of s l) ++ reifications_from (first + fresh_of s l + fresh_of s r) (leaves (node l r)) (values s (node l r))) (length-reifications s l first) h

pub known_right : (K : ℕ → Constraint → Type 0) (s : Scheme) (l r : Tree) (first id : ℕ) → ReificationsKnown K id (reifications s (node l r) first) → ReificationsKnown K (id + 2 * fresh_of s l) (reifications s r (first + fresh_of s l))
known_right K s l r first id h =
    known_front K (id + 2 * fresh_of s l) (reifications s r (first + fresh_of s l)) (reifications_from (first + fresh_of s l + fresh_of s r) (leaves (node l r)) (values s (node l r))) (known_rest K s l r first id h)

-- the two constraints of an output of a node
pub output_known : (K : ℕ → Constraint → Type 0) (s : Scheme) (W : ℕ → Type 0) → IsLawful s W → (l r : Tree) (first id u : ℕ) → ReificationsKnown K id (reifications s (node l r) first) → Contains (values s (node l r)) u
    → (let m = reification (output s (node l r) first u).var (leaves (node l r)) u in let i = id + 2 * (fresh_of s l + fresh_of s r + s.place u (values s (node l r))) in K i (forward_of m) × K (i + 1) (reverse_of m))
output_known K s W laws l r first id u h here =
    let t = node l r in
    let us = values s t in
    let p = s.place u us in
    let start = first + fresh_of s l + fresh_of s r in
    let m = reification (output s t first u).var (leaves t) u in
    let own = known_back K (id + 2 * fresh_of s l) (fresh_of s r) (reifications s r (first + fresh_of s l)) (reifications_from start (leaves t) us) (length-reifications s r (first + fresh_of s l)) (known_rest K s l r first id h) in
    let within = laws.place_within l r u here in
    let is : get_or us p u ≡ u = get_or_default us p u 0 within ∙ laws.at_place l r u here in
    let both = own p m (record { within = omega (arith, within, length-reifications_from start (leaves t) us); here = get_or-reifications_from start (leaves t) us p (start + p) u within is refl }) in
    let e : id + 2 * fresh_of s l + 2 * fresh_of s r + 2 * p ≡ id + 2 * (fresh_of s l + fresh_of s r + p) = omega arith in
    (subst (λ (i : ℕ). K i (forward_of m)) e both.0, subst (λ (i : ℕ). K (i + 1) (reverse_of m)) e both.1)
