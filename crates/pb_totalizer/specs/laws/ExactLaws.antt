-- The laws of a sum that is exactly its bound.
use Rattle.std.proofs.Common.{◌≡◌, ◌<◌, ◌≤◌, ◌+◌, ◌⊎◌, ◌==◌, ℕ, true, cond, List, [], ◌∷◌, length, min, refl, sym, ap, ◌∙◌, subst, arith, inl, inr, length-append}
use Rattle.std.specs.Prelude.{Contains, All, sum_by}
use Rattle.std.proofs.lemmas.Bool.{and_parts, eqb-true, le-leb, lt-leb, not_from_false}
use Rattle.std.proofs.lemmas.List.Elements.{All-nil, All-cons, All-append, All-contains, Contains-append_left, Contains-append_right, Contains-append_cases}
use Rattle.std.proofs.lemmas.List.Sums.{sum_by-cons}
use Rattle.pb_base.specs.declared.literal.Lit.{Lit}
use Rattle.pb_base.specs.Literals.{Assignment, negated, lit_value, clause_value, IsModel, AgreeBelow, is_among}
use Rattle.pb_base.proofs.LiteralLemmas.{negated-negated, lit_value-negated}
use Rattle.pb_base.proofs.Members.{Contains-nil, Contains-here, Contains-there, Contains-cons_cases, from_among, not_among_from}
use Rattle.pb_norm.specs.Constraints.{Weighted, value, term_value}
use Rattle.pb_norm.specs.BoundedSums.{BoundedSum, StaysWithin, IsProper, vars_of}
use Rattle.pb_norm.specs.ClausePropagation.{ClausesPropagate}
use Rattle.pb_norm.specs.Reduction.{all_weigh, opposite}
use Rattle.pb_norm.proofs.AdditionValues.{value-cons}
use Rattle.pb_norm.proofs.BoundedForcing.{given_sum, propagates_from_sums}
use Rattle.pb_norm.proofs.Derived.{Derived, Refuted, reaches_derived}
use Rattle.pb_norm.proofs.Derived.Derived.{by_given, by_clause}
use Rattle.pb_norm.proofs.PropagationMore.{ClausesPropagate-more}
use Rattle.pb_norm.proofs.Proper.{apart}
use Rattle.pb_family.specs.Families.{VarsBelow, NamesOnly}
use Rattle.pb_family.specs.Pairs.{StayWithinBoth}
use Rattle.pb_family.proofs.Deciding.{both_propagate, halves_decided}
use Rattle.pb_family.proofs.Models.{sound_from_sums}
use Rattle.pb_family.proofs.UnitSums.{unit_coefficient, more_than_bound}
use Rattle.pb_tree.specs.Tree.{tree_of, leaf_sum}
use Rattle.pb_tree.specs.Scheme.{output, clauses_of, own_count_of}
use Rattle.pb_tree.proofs.ByReification.{clause_from}
use Rattle.pb_tree.proofs.Extending.{IsNamed, output_named, all_from_each, extension, along_named, along_counted}
use Rattle.pb_tree.proofs.Laws.{leaf_below, named_of}
use Rattle.pb_tree.proofs.Lists.{Contains-map_cases}
use Rattle.pb_tree.proofs.Pushing.{passing, reach_all, reach_output}
use Rattle.pb_tree.proofs.Splitting.{split_sum, listed_leaf}
use Rattle.pb_totalizer.specs.Exact.{outputs_of, exact_along, limit_count_of, exact_clauses, exact_fresh, exact_size, at_least, IsExactly, exact_own}
use Rattle.pb_totalizer.specs.ExactOutputs.{ReachesOutputs}
use Rattle.pb_totalizer.specs.Totalizer.{totalizer, totalizer_clauses}
use Rattle.pb_totalizer.specs.laws.AtLeast.{denied, least_distinct, least_from, least_to, open_leaves_sum}
use Rattle.pb_totalizer.specs.laws.Counting.{full_root}
use Rattle.pb_totalizer.specs.laws.Down.{deny_output, raise_leaf, totalizer_listed, part_listed}
use Rattle.pb_totalizer.specs.laws.ExactReifications.{exact_by_reification, own_counted}
use Rattle.pb_totalizer.specs.laws.TotalizerLaws.{IsCapped, value_from, values_count, fewer, totalizer_lawful, totalizer_propagates, totalizer_sound}

-- ---- what the list has

along_listed : (m : BoundedSum) (first : ℕ) (c : List Lit) → Contains (exact_along m.bound (tree_of m.terms) first) c → Contains (exact_clauses m first) c
along_listed m first c h =
    let o = output (totalizer m.bound) (tree_of m.terms) first in
    Contains-append_left (exact_along m.bound (tree_of m.terms) first) ((o m.bound ∷ []) ∷ (negated (o (m.bound + 1)) ∷ []) ∷ []) c h

least_listed : (m : BoundedSum) (first : ℕ) → Contains (exact_clauses m first) (output (totalizer m.bound) (tree_of m.terms) first m.bound ∷ [])
least_listed m first =
    let o = output (totalizer m.bound) (tree_of m.terms) first in
    Contains-append_right (exact_along m.bound (tree_of m.terms) first) ((o m.bound ∷ []) ∷ (negated (o (m.bound + 1)) ∷ []) ∷ []) (o m.bound ∷ []) (Contains-here (o m.bound ∷ []) ((negated (o (m.bound + 1)) ∷ []) ∷ []))

most_listed : (m : BoundedSum) (first : ℕ) → Contains (exact_clauses m first) (negated (output (totalizer m.bound) (tree_of m.terms) first (m.bound + 1)) ∷ [])
most_listed m first =
    let o = output (totalizer m.bound) (tree_of m.terms) first in
    let last = negated (o (m.bound + 1)) ∷ [] in
    Contains-append_right (exact_along m.bound (tree_of m.terms) first) ((o m.bound ∷ []) ∷ last ∷ []) last (Contains-there (o m.bound ∷ []) (last ∷ []) last (Contains-here last []))

-- each clause of the at-most half's totalizer
pub totalizer_among : (m : BoundedSum) (first : ℕ) (c : List Lit) → Contains (totalizer_clauses m first) c → Contains (exact_clauses m first) c
totalizer_among m first c h =
    let s = totalizer m.bound in
    let t = tree_of m.terms in
    let last = negated (output s t first (m.bound + 1)) ∷ [] in
    elim (Contains-append_cases (clauses_of s t first) (last ∷ []) c h) as (λ _. Contains (exact_clauses m first) c) [
      | inl inside ↦ totalizer_listed m.bound (exact_clauses m first) t first (along_listed m first) c inside
      | inr root ↦ elim (Contains-cons_cases last [] c root) as (λ _. Contains (exact_clauses m first) c) [
        | inl same ↦ subst (λ (d : List Lit). Contains (exact_clauses m first) d) same (most_listed m first)
        | inr none ↦ absurd (Contains-nil c none)
      ]
    ]

-- ---- the at-least half, by sums

-- the root has an output for the bound and one more
pub root_outputs : (m : BoundedSum) → all_weigh 1 m.terms ≡ true → IsProper m → m.bound + 1 ≤ outputs_of m.bound (tree_of m.terms)
root_outputs m units proper = omega (arith, full_root m.bound m.terms (more_than_bound m units proper))

unit_clause : (cs : List (List Lit)) (given : List Lit) (l : Lit) → Contains cs (l ∷ []) → Derived cs given l
unit_clause cs given l listed =
    by_clause (l ∷ []) listed (Contains-here l []) (λ k h other.
    elim (Contains-cons_cases l [] k h) as (λ _. Derived cs given (negated k)) [ inl e ↦ absurd (other (sym e)) | inr none ↦ absurd (Contains-nil k none) ])

denied_derived : (cs : List (List Lit)) (given : List Lit) (l : Lit) → denied given l ≡ true → Derived cs given (negated l)
denied_derived cs given l h = by_given (from_among given (negated l) h)

least_refutes : (m : BoundedSum) → all_weigh 1 m.terms ≡ true → IsProper m → (first : ℕ) (given : List Lit) → (at_least m).bound < given_sum given (at_least m).terms → Refuted (exact_clauses m first) given
least_refutes m units proper first given above =
    let cs = exact_clauses m first in
    let t = tree_of m.terms in
    let o = output (totalizer m.bound) t first m.bound in
    let sum = open_leaves_sum given m.terms units in
    let heavy = proper.heavy in
    let room = root_outputs m units proper in
    record {
      clause = o ∷ [];
      listed = least_listed m first;
      is_false = λ k h.
          elim (Contains-cons_cases o [] k h) as (λ _. Derived cs given (negated k)) [
            | inl e ↦ subst (λ (l : Lit). Derived cs given (negated l)) e
                (deny_output m.bound (denied given) cs given (denied_derived cs given) t first m.bound (along_listed m first) (omega arith) (omega arith))
            | inr none ↦ absurd (Contains-nil k none)
          ];
    }

least_pushes : (m : BoundedSum) → all_weigh 1 m.terms ≡ true → IsProper m → (first : ℕ) (given : List Lit) (u : Weighted) → Contains (at_least m).terms u → ¬ Contains given u.lit
    → (at_least m).bound < given_sum given (at_least m).terms + u.coef → Derived (exact_clauses m first) given (negated u.lit)
least_pushes m units proper first given u listed new above =
    let cs = exact_clauses m first in
    let t = tree_of m.terms in
    let found = Contains-map_cases opposite m.terms u listed in
    let w = found.0 in
    let lit : negated w.lit ≡ u.lit = ap (λ (x : Weighted). x.lit) found.2 in
    let coef : w.coef ≡ u.coef = ap (λ (x : Weighted). x.coef) found.2 in
    let one = unit_coefficient m.terms units w found.1 in
    let sum = open_leaves_sum given m.terms units in
    let heavy = proper.heavy in
    let room = root_outputs m units proper in
    subst (λ (l : Lit). Derived cs given (negated l)) lit (subst (λ (l : Lit). Derived cs given l) (sym (negated-negated w.lit))
    (raise_leaf m.bound (denied given) cs given (denied_derived cs given) t w first m.bound (along_listed m first) (listed_leaf m.terms w found.1)
    (not_among_from given (negated w.lit) (λ h. new (subst (λ (l : Lit). Contains given l) lit h))) (omega arith) (omega arith) (unit_clause cs given _ (least_listed m first))))

-- ---- the laws

-- each half
pub exact_propagates_most : (m : BoundedSum) → all_weigh 1 m.terms ≡ true → IsProper m → (first : ℕ) → ClausesPropagate (exact_clauses m first) (λ a. StaysWithin a m)
exact_propagates_most m units proper first =
    ClausesPropagate-more (totalizer_clauses m first) (exact_clauses m first) (totalizer_among m first) (λ a. StaysWithin a m) (totalizer_propagates m units proper first)

pub exact_propagates_least : (m : BoundedSum) → all_weigh 1 m.terms ≡ true → IsProper m → (first : ℕ) → ClausesPropagate (exact_clauses m first) (λ a. StaysWithin a (at_least m))
exact_propagates_least m units proper first =
    propagates_from_sums (exact_clauses m first) (at_least m) (least_distinct m proper.distinct) (least_refutes m units proper first) (least_pushes m units proper first)

-- and both together
pub exact_propagates : (m : BoundedSum) → all_weigh 1 m.terms ≡ true → IsProper m → (first : ℕ) → ClausesPropagate (exact_clauses m first) (StayWithinBoth m (at_least m))
exact_propagates m units proper first =
    let heavy = proper.heavy in
    both_propagate (exact_clauses m first) (λ a. StaysWithin a m) (λ a. StaysWithin a (at_least m))
    (halves_decided m (at_least m) (apart m.terms proper.distinct) (apart (at_least m).terms (least_distinct m proper.distinct)) units (least_from m (omega arith)) (least_to m))
    (exact_propagates_most m units proper first) (exact_propagates_least m units proper first)

pub exact_sound_most : (m : BoundedSum) → all_weigh 1 m.terms ≡ true → IsProper m → (first : ℕ) (a : Assignment) → IsModel a (exact_clauses m first) → StaysWithin a m
exact_sound_most m units proper first a model =
    totalizer_sound m units proper first a (all_from_each (λ c. clause_value a c ≡ true) (totalizer_clauses m first) (λ c h. All-contains (λ c. clause_value a c ≡ true) (exact_clauses m first) c model (totalizer_among m first c h)))

pub exact_sound_least : (m : BoundedSum) → all_weigh 1 m.terms ≡ true → IsProper m → (first : ℕ) (a : Assignment) → IsModel a (exact_clauses m first) → StaysWithin a (at_least m)
exact_sound_least m units proper first a model = sound_from_sums (exact_clauses m first) (at_least m) (least_refutes m units proper first) a model

pub exact_counts : (m : BoundedSum) (first : ℕ) → length (exact_clauses m first) ≡ exact_size m
exact_counts m first =
    let s = totalizer m.bound in
    let t = tree_of m.terms in
    let o = output s t first in
    let count = along_counted s (exact_own m.bound) (λ l r. own_count_of s l r + limit_count_of m.bound l r) (own_counted m.bound) t first in
    omega (arith, count, length-append (exact_along m.bound t first) ((o m.bound ∷ []) ∷ (negated (o (m.bound + 1)) ∷ []) ∷ []))

-- the values of the root's two outputs
root_sum : (m : BoundedSum) → all_weigh 1 m.terms ≡ true → (a : Assignment) → leaf_sum (passing (totalizer m.bound) (lit_value a)) (tree_of m.terms) ≡ value a m.terms
root_sum m units a = split_sum (passing (totalizer m.bound) (lit_value a)) m.terms ∙ same m.terms units
  where
    same : (ts : List Weighted) → all_weigh 1 ts ≡ true → sum_by (passing (totalizer m.bound) (lit_value a)) ts ≡ value a ts
    same [] units = refl
    same (t ∷ ts) units =
        let parts = and_parts (t.coef == 1) (all_weigh 1 ts) units in
        let here : passing (totalizer m.bound) (lit_value a) t ≡ term_value a t = ap (λ (n : ℕ). cond (lit_value a t.lit) n 0) (sym (eqb-true t.coef 1 parts.0)) in
        omega (arith, sum_by-cons (passing (totalizer m.bound) (lit_value a)) t ts, value-cons a t ts, here, same ts parts.1)

pub exact_extends : (m : BoundedSum) → all_weigh 1 m.terms ≡ true → IsProper m → (first : ℕ) → VarsBelow first m.terms → (a : Assignment) → IsExactly a m
    → (b : Assignment) × AgreeBelow first a b × IsModel b (exact_clauses m first)
exact_extends m units proper first below a exactly =
    let s = totalizer m.bound in
    let t = tree_of m.terms in
    let o = output s t first in
    let d = m.bound in
    let some = proper.bound_from in
    let room = root_outputs m units proper in
    let ext = extension s (IsCapped d) (totalizer_lawful d) (omega arith) (exact_own d) (exact_by_reification d) a t first (leaf_below first m.terms below) (λ u h. omega arith) in
    let Holds : List Lit → Type 0 = λ c. clause_value ext.now c ≡ true in
    let sum : leaf_sum (passing s (lit_value a)) t ≡ d = root_sum m units a ∙ exactly in
    let least : lit_value ext.now (o d) ≡ true = ext.means d (value_from d t d some (omega arith)) ∙ le-leb d (leaf_sum (passing s (lit_value a)) t) (omega arith) in
    let most : lit_value ext.now (negated (o (d + 1))) ≡ true =
    lit_value-negated ext.now (o (d + 1)) ∙ not_from_false (lit_value ext.now (o (d + 1))) (ext.means (d + 1) (value_from d t (d + 1) (omega arith) room) ∙ lt-leb (d + 1) (leaf_sum (passing s (lit_value a)) t) (omega arith)) in (
      ext.now,
      ext.agrees,
      All-append Holds (exact_along d t first) ((o d ∷ []) ∷ (negated (o (d + 1)) ∷ []) ∷ []) (all_from_each Holds (exact_along d t first) ext.holds)
          (All-cons Holds (o d ∷ []) ((negated (o (d + 1)) ∷ []) ∷ []) (clause_from ext.now (o d ∷ []) (o d) (Contains-here (o d) []) least)
          (All-cons Holds (negated (o (d + 1)) ∷ []) [] (clause_from ext.now (negated (o (d + 1)) ∷ []) (negated (o (d + 1))) (Contains-here (negated (o (d + 1))) []) most) (All-nil Holds))),
    )

pub exact_names : (m : BoundedSum) → all_weigh 1 m.terms ≡ true → IsProper m → (first : ℕ) → NamesOnly m.terms first (exact_fresh m) (exact_clauses m first)
exact_names m units proper first =
    let s = totalizer m.bound in
    let t = tree_of m.terms in
    let o = output s t first in
    let d = m.bound in
    let some = proper.bound_from in
    let room = root_outputs m units proper in
    let laws = totalizer_lawful d in
    let Named : Lit → Type 0 = λ l. Contains (vars_of m.terms) l.var ⊎ ((first ≤ l.var) × (l.var < first + exact_fresh m)) in
    let root = λ (l : Lit) (u : ℕ) (is : l.var ≡ (o u).var) (low : 1 ≤ u) (high : u ≤ outputs_of d t). All-cons Named l [] (named_of s m.terms first l.var (subst (λ (n : ℕ). IsNamed s t first n) (sym is) (output_named s (IsCapped d) laws t first u (value_from d t u low high)))) (All-nil Named) in
    All-append (All Named) (exact_along d t first) ((o d ∷ []) ∷ (negated (o (d + 1)) ∷ []) ∷ [])
    (all_from_each (All Named) (exact_along d t first) (λ c h. all_from_each Named c (λ k among. named_of s m.terms first k.var (along_named s (IsCapped d) laws (exact_own d) (exact_by_reification d) t first c h k among))))
    (All-cons (All Named) (o d ∷ []) ((negated (o (d + 1)) ∷ []) ∷ []) (root (o d) d refl some (omega arith))
    (All-cons (All Named) (negated (o (d + 1)) ∷ []) [] (root (negated (o (d + 1))) (d + 1) refl (omega arith) room) (All-nil (All Named))))

-- ---- as the laws of two sums

pub pair_sound : (m : BoundedSum) → all_weigh 1 m.terms ≡ true → IsProper m → (first : ℕ) (a : Assignment) → IsModel a (exact_clauses m first) → StayWithinBoth m (at_least m) a
pair_sound m units proper first a model = (exact_sound_most m units proper first a model, exact_sound_least m units proper first a model)

pub pair_extends : (m : BoundedSum) → all_weigh 1 m.terms ≡ true → IsProper m → (first : ℕ) → VarsBelow first m.terms → (a : Assignment) → StayWithinBoth m (at_least m) a
    → (b : Assignment) × AgreeBelow first a b × IsModel b (exact_clauses m first)
pair_extends m units proper first below a both =
    let heavy = proper.heavy in
    let low = least_from m (omega arith) a both.1 in
    let high : StaysWithin a m = both.0 in
    exact_extends m units proper first below a (omega arith)

-- ---- the outputs

pub exact_outputs : (m : BoundedSum) (first : ℕ) → ReachesOutputs (exact_clauses m first) m first
exact_outputs m first =
    let cs = exact_clauses m first in
    let s = totalizer m.bound in
    record {
      most = λ given part at j is low high enough.
          let listed = part_listed m.bound cs (tree_of m.terms) first part at (along_listed m first) is in
          let count = values_count m.bound part in
          let cut : min j (m.bound + 1) ≡ j = omega arith in
          reaches_derived cs given (output s part at j) (subst (λ (n : ℕ). Derived cs given (output s part at n)) cut
          (reach_output s (IsCapped m.bound) (totalizer_lawful m.bound) (is_among given) cs given (λ l h. by_given (from_among given l h)) part at j
          (totalizer_listed m.bound cs part at listed) (fewer m.bound (is_among given) part _ j (reach_all s (is_among given) part) enough) low (omega arith)));
      least = λ given part at j is low high few.
          let listed = part_listed m.bound cs (tree_of m.terms) first part at (along_listed m first) is in
          reaches_derived cs given (negated (output s part at j)) (deny_output m.bound (denied given) cs given (denied_derived cs given) part at j listed few high);
    }
