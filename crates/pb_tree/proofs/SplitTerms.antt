-- The halves of a list of terms, as code takes them.
use Rattle.std.proofs.Common.{◌≡◌, ◌≤◌, ◌+◌, ◌/◌, ℕ, List, [], ◌∷◌, length, take, drop, get_or, refl, sym, ap, ◌∙◌, arith, length-drop}
use Rattle.std.proofs.lemmas.List.{length-take, length-map, take-map, drop-map}
use Rattle.pb_base.specs.declared.literal.Term.{Term}
use Rattle.pb_norm.specs.Constraints.{weighted, weights, term_of}
use Rattle.pb_family.specs.Fresh.{positive_of}
use Rattle.pb_tree.specs.Halves.{Halves}
use Rattle.pb_tree.specs.Tree.{leaf, node, tree_of}
use Rattle.pb_tree.specs.Scheme.{Scheme, fresh_of}
use Rattle.pb_tree.proofs.Splitting.{split-two, split-one}

-- the halves that the code takes are these
pub halves_of : (ts front back : List Term) → 2 ≤ length ts → front ≡ take (length ts / 2) ts → back ≡ drop (length ts / 2) ts → Halves ts front back
halves_of ts front back two e f =
    let n = length ts / 2 in
    let fronts = ap length e in
    let backs = ap length f in
    let taken = length-take n ts in
    let dropped = length-drop n ts in
    let long : length (weights ts) ≡ length ts = length-map ts weighted in
    let half : length (weights ts) / 2 ≡ n = ap (λ (k : ℕ). k / 2) long in
    record {
      tree = split-two (weights ts) (weights front) (weights back) (omega arith)
          (ap weights e ∙ sym (take-map weighted n ts) ∙ ap (λ (k : ℕ). take k (weights ts)) (sym half))
          (ap weights f ∙ sym (drop-map weighted n ts) ∙ ap (λ (k : ℕ). drop k (weights ts)) (sym half));
      front_some = omega arith;
      back_some = omega arith;
      whole = omega arith;
    }

pub fresh_parts : (s : Scheme) (ts front back : List Term) → tree_of (weights ts) ≡ node (tree_of (weights front)) (tree_of (weights back))
    → fresh_of s (tree_of (weights front)) + fresh_of s (tree_of (weights back)) ≤ fresh_of s (tree_of (weights ts))
fresh_parts s ts front back tree = let whole = ap (fresh_of s) tree in omega arith

-- one term is a leaf
pub leaf_of : (ts : List Term) (d : Term) → length ts ≡ 1 → tree_of (weights ts) ≡ leaf (weighted (get_or ts 0 d))
leaf_of [] d one = absurd (omega arith)
leaf_of (t ∷ []) d one = split-one (weighted t ∷ []) (weighted t) refl
leaf_of (t ∷ u ∷ us) d one = absurd (omega arith)

-- a term, where none is
pub some_term : Term
some_term = term_of (record { coef = 0; lit = positive_of 0 })
