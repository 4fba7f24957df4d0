-- The laws of the clauses along the tree of a bounded sum.
use Rattle.std.proofs.Common.{◌≡◌, ◌<◌, ◌≤◌, ◌+◌, ◌⊎◌, ℕ, Bool, true, false, cond, List, [], ◌∷◌, length, min, refl, sym, ap, ◌∙◌, subst, arith, inl, inr, length-append}
use Rattle.std.specs.Prelude.{Contains, All, sum_by, map}
use Rattle.std.proofs.lemmas.Bool.{lt-leb, not_from_false, or_left}
use Rattle.std.proofs.lemmas.List.Elements.{All-nil, All-cons, All-append, All-contains, Contains-append_left, Contains-append_right}
use Rattle.std.proofs.lemmas.List.Sums.{sum_by-cons}
use Rattle.pb_base.specs.declared.literal.Lit.{Lit}
use Rattle.pb_base.specs.Literals.{negated, lit_value, clause_value, IsModel, AgreeBelow, is_among}
use Rattle.pb_norm.specs.Constraints.{Weighted}
use Rattle.pb_norm.specs.BoundedSums.{BoundedSum, StaysWithin, IsOverDistinct}
use Rattle.pb_norm.specs.ClausePropagation.{ClausesPropagate}
use Rattle.pb_norm.proofs.Derived.{Derived, Refuted}
use Rattle.pb_norm.proofs.Derived.Derived.{by_given, by_clause}
use Rattle.pb_norm.proofs.BoundedForcing.{given_sum, propagates_from_sums}
use Rattle.pb_base.proofs.Members.{Contains-nil, Contains-here, Contains-there, Contains-cons_cases, Contains-map, not_among_from, from_among}
use Rattle.pb_base.proofs.LiteralLemmas.{negated-negated, lit_value-negated}
use Rattle.pb_family.specs.Families.{VarsBelow, NamesOnly}
use Rattle.pb_family.proofs.Models.{sound_from_sums}
use Rattle.pb_tree.specs.Tree.{Tree, node, tree_of, IsLeafOf, leaf_sum}
use Rattle.pb_tree.specs.Scheme.{Scheme, values, fresh_of, output, own_of, own_count_of, clauses_of, clause_count_of, tree_clauses}
use Rattle.pb_tree.proofs.Sums.{IsLawful}
use Rattle.pb_tree.proofs.Pushing.{any, passing, reach_value, reach_output, push_leaf, reach_all, reach_all_with, reach_whole}
use Rattle.pb_tree.proofs.ByReification.{lawful_by_reification}
use Rattle.pb_tree.proofs.Extending.{all_from_each, IsNamed, output_named, along_named, along_counted, extension}
use Rattle.pb_tree.proofs.Splitting.{split_sum, leaf_listed, listed_leaf}

-- the scheme is cut right above the bound, which the whole sum passes
pub record Suits (s : Scheme) (c : BoundedSum) : Type 0 where
  pub cut : s.cap ≡ c.bound + 1
  pub weights : (t : Weighted) → Contains c.terms t → s.weight t ≡ t.coef
  pub distinct : IsOverDistinct c.terms
  pub positive : (t : Weighted) → Contains c.terms t → 0 < t.coef
  pub passes : c.bound < sum_by (λ t. t.coef) c.terms

pub sum_by-agree : (f g : Weighted → ℕ) (ts : List Weighted) → ((t : Weighted) → Contains ts t → f t ≡ g t) → sum_by f ts ≡ sum_by g ts
sum_by-agree f g [] same = refl
sum_by-agree f g (t ∷ ts) same =
    omega (arith, sum_by-cons f t ts, sum_by-cons g t ts, same t (Contains-here t ts), sum_by-agree f g ts (λ u h. same u (Contains-there t ts u h)))

-- the leaves that pass add up as the terms do
passing_sum : (s : Scheme) (c : BoundedSum) → Suits s c → (p : Lit → Bool) → leaf_sum (passing s p) (tree_of c.terms) ≡ sum_by (λ t. cond (p t.lit) t.coef 0) c.terms
passing_sum s c suits p =
    split_sum (passing s p) c.terms
    ∙ sum_by-agree (passing s p) (λ t. cond (p t.lit) t.coef 0) c.terms (λ t h. ap (λ (n : ℕ). cond (p t.lit) n 0) (suits.weights t h))

root_listed : (s : Scheme) (t : Tree) (first : ℕ) → Contains (tree_clauses s t first) (negated (output s t first s.cap) ∷ [])
root_listed s t first =
    Contains-append_right (clauses_of s t first) ((negated (output s t first s.cap) ∷ []) ∷ []) (negated (output s t first s.cap) ∷ []) (Contains-here (negated (output s t first s.cap) ∷ []) [])

listed_inside : (s : Scheme) (t : Tree) (first : ℕ) (c : List Lit) → Contains (clauses_of s t first) c → Contains (tree_clauses s t first) c
listed_inside s t first c h = Contains-append_left (clauses_of s t first) ((negated (output s t first s.cap) ∷ []) ∷ []) c h

-- the output of the cap stands among the values of the root
pub cap_value : (s : Scheme) (W : ℕ → Type 0) → IsLawful s W → (c : BoundedSum) → Suits s c → Contains (values s (tree_of c.terms)) s.cap
cap_value s W laws c suits =
    let t = tree_of c.terms in
    let total : leaf_sum s.weight t ≡ sum_by (λ t. t.coef) c.terms =
    split_sum s.weight c.terms ∙ sum_by-agree s.weight (λ t. t.coef) c.terms suits.weights in
    let cut = suits.cut in
    let passes = suits.passes in
    let y = laws.within_cap any t (leaf_sum s.weight t) (omega arith) (reach_whole s t) in
    let full : min y.0 s.cap ≡ s.cap = let le = y.2 in omega arith in
    subst (λ (n : ℕ). Contains (values s t) n) full (reach_value s W laws any t y.0 y.3 (let le = y.2 in omega arith) y.1)

-- ---- propagation

tree_refutes : (s : Scheme) (W : ℕ → Type 0) → IsLawful s W → (c : BoundedSum) → Suits s c → (first : ℕ) (given : List Lit)
    → c.bound < given_sum given c.terms → Refuted (tree_clauses s (tree_of c.terms) first) given
tree_refutes s W laws c suits first given above =
    let t = tree_of c.terms in
    let cs = tree_clauses s t first in
    let p = is_among given in
    let x = leaf_sum (passing s p) t in
    let sum = passing_sum s c suits p in
    let cut = suits.cut in
    let y = laws.within_cap p t x (omega arith) (reach_all s p t) in
    let full : min y.0 s.cap ≡ s.cap = let le = y.2 in omega arith in
    let top = output s t first s.cap in
    let derived : Derived cs given top =
    subst (λ (n : ℕ). Derived cs given (output s t first n)) full
    (reach_output s W laws p cs given (λ l h. by_given (from_among given l h)) t first y.0 (listed_inside s t first) y.3 (let le = y.2 in omega arith) y.1) in
    record {
      clause = negated top ∷ [];
      listed = root_listed s t first;
      is_false = λ k h.
          elim (Contains-cons_cases (negated top) [] k h) as (λ _. Derived cs given (negated k)) [
            | inl e ↦ subst (λ (m : Lit). Derived cs given (negated m)) e (subst (λ (m : Lit). Derived cs given m) (sym (negated-negated top)) derived)
            | inr none ↦ absurd (Contains-nil k none)
          ];
    }

tree_pushes : (s : Scheme) (W : ℕ → Type 0) → IsLawful s W → (c : BoundedSum) → Suits s c → (first : ℕ) (given : List Lit) (u : Weighted)
    → Contains c.terms u → ¬ Contains given u.lit → c.bound < given_sum given c.terms + u.coef → Derived (tree_clauses s (tree_of c.terms) first) given (negated u.lit)
tree_pushes s W laws c suits first given u listed new above =
    let t = tree_of c.terms in
    let cs = tree_clauses s t first in
    let p = is_among given in
    let sum = passing_sum s c suits p in
    let weight = suits.weights u listed in
    let some = suits.positive u listed in
    let cut = suits.cut in
    let reach = reach_all_with s p t u (listed_leaf c.terms u listed) (not_among_from given u.lit new) in
    let y = laws.within_cap_with p t u (leaf_sum (passing s p) t + s.weight u) (omega arith) reach in
    let full : min y.0 s.cap ≡ s.cap = let le = y.2 in omega arith in
    let top = output s t first s.cap in
    let denied : Derived cs given (negated top) =
    by_clause (negated top ∷ []) (root_listed s t first) (Contains-here (negated top) []) (λ k h other.
    elim (Contains-cons_cases (negated top) [] k h) as (λ _. Derived cs given (negated k)) [
      | inl e ↦ absurd (other (sym e))
      | inr none ↦ absurd (Contains-nil k none)
    ]) in
    push_leaf s W laws p cs given (λ l h. by_given (from_among given l h)) t u first y.0 (omega arith) (listed_inside s t first) y.3 y.1
    (subst (λ (n : ℕ). Derived cs given (negated (output s t first n))) (sym full) denied)

pub tree_propagates : (s : Scheme) (W : ℕ → Type 0) → IsLawful s W → (c : BoundedSum) → Suits s c → (first : ℕ) → ClausesPropagate (tree_clauses s (tree_of c.terms) first) (λ a. StaysWithin a c)
tree_propagates s W laws c suits first =
    propagates_from_sums (tree_clauses s (tree_of c.terms) first) c suits.distinct (tree_refutes s W laws c suits first) (tree_pushes s W laws c suits first)

pub tree_sound : (s : Scheme) (W : ℕ → Type 0) → IsLawful s W → (c : BoundedSum) → Suits s c → (first : ℕ) (v : ℕ → Bool) → IsModel v (tree_clauses s (tree_of c.terms) first) → StaysWithin v c
tree_sound s W laws c suits first v holds =
    sound_from_sums (tree_clauses s (tree_of c.terms) first) c (tree_refutes s W laws c suits first) v holds

-- ---- extends, names and counts

pub leaf_below : (first : ℕ) (ts : List Weighted) → VarsBelow first ts → (u : Weighted) → IsLeafOf (tree_of ts) u → u.lit.var < first
leaf_below first ts below u h = All-contains (λ t. t.lit.var < first) ts u below (leaf_listed ts u h)

-- each adds something
leaf_positive : (s : Scheme) (c : BoundedSum) → Suits s c → (u : Weighted) → IsLeafOf (tree_of c.terms) u → 1 ≤ s.weight u
leaf_positive s c suits u h =
    let inside = leaf_listed c.terms u h in
    let some = suits.positive u inside in
    let same = suits.weights u inside in
    omega arith

pub tree_extends : (s : Scheme) (W : ℕ → Type 0) → IsLawful s W → (c : BoundedSum) → Suits s c → (first : ℕ) → VarsBelow first c.terms → (v : ℕ → Bool) → StaysWithin v c
    → (w : ℕ → Bool) × AgreeBelow first v w × IsModel w (tree_clauses s (tree_of c.terms) first)
tree_extends s W laws c suits first below v holds =
    let t = tree_of c.terms in
    let top = output s t first s.cap in
    let cut = suits.cut in
    let ext = extension s W laws (omega arith) (own_of s) (lawful_by_reification s W laws) v t first (leaf_below first c.terms below) (leaf_positive s c suits) in
    let w = ext.now in
    let Holds : List Lit → Type 0 = λ d. clause_value w d ≡ true in
    let sum = passing_sum s c suits (lit_value v) in
    let off = ext.means s.cap (cap_value s W laws c suits) ∙ lt-leb s.cap (leaf_sum (passing s (lit_value v)) t) (omega arith) in
    let unset : lit_value w (negated top) ≡ true = rw (lit_value-negated w top) (not_from_false (lit_value w top) off) in (
      w,
      ext.agrees,
      All-append Holds (clauses_of s t first) ((negated top ∷ []) ∷ []) (all_from_each Holds (clauses_of s t first) ext.holds)
          (All-cons Holds (negated top ∷ []) [] (or_left (lit_value w (negated top)) false unset) (All-nil Holds)),
    )

pub named_of : (s : Scheme) (ts : List Weighted) (first n : ℕ) → IsNamed s (tree_of ts) first n → Contains (map (λ t. t.lit.var) ts) n ⊎ ((first ≤ n) × (n < first + fresh_of s (tree_of ts)))
named_of s ts first n named =
    elim named as (λ _. Contains (map (λ t. t.lit.var) ts) n ⊎ ((first ≤ n) × (n < first + fresh_of s (tree_of ts)))) [
      | inl own ↦ inl (subst (λ (m : ℕ). Contains (map (λ (t : Weighted). t.lit.var) ts) m) own.2 (Contains-map (λ (t : Weighted). t.lit.var) ts own.0 (leaf_listed ts own.0 own.1)))
      | inr fresh ↦ inr fresh
    ]

pub tree_names : (s : Scheme) (W : ℕ → Type 0) → IsLawful s W → (c : BoundedSum) → Suits s c → (first : ℕ) → NamesOnly c.terms first (fresh_of s (tree_of c.terms)) (tree_clauses s (tree_of c.terms) first)
tree_names s W laws c suits first =
    let ts = c.terms in
    let t = tree_of ts in
    let top = output s t first s.cap in
    let Named : Lit → Type 0 = λ l. Contains (map (λ t. t.lit.var) ts) l.var ⊎ ((first ≤ l.var) × (l.var < first + fresh_of s t)) in
    All-append (All Named) (clauses_of s t first) ((negated top ∷ []) ∷ [])
    (all_from_each (All Named) (clauses_of s t first) (λ d h. all_from_each Named d (λ k m. named_of s ts first k.var (along_named s W laws (own_of s) (lawful_by_reification s W laws) t first d h k m))))
    (All-cons (All Named) (negated top ∷ []) [] (All-cons Named (negated top) [] (named_of s ts first top.var (output_named s W laws t first s.cap (cap_value s W laws c suits))) (All-nil Named)) (All-nil (All Named)))

pub tree_counts : (s : Scheme) (W : ℕ → Type 0) → IsLawful s W → (t : Tree) (first : ℕ) → length (tree_clauses s t first) ≡ clause_count_of s t + 1
tree_counts s W laws t first =
    omega (arith, along_counted s (own_of s) (own_count_of s) (λ l r first. laws.counted l r (output s l first) (output s r (first + fresh_of s l)) (output s (node l r) first)) t first, length-append (clauses_of s t first) ((negated (output s t first s.cap) ∷ []) ∷ []))
