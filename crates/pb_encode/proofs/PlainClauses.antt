-- Statements that plainly are clauses: literals with the coefficient 1, of a variable each, are to reach 1.
use Rattle.std.proofs.Common.{◌≡◌, ◌<◌, ◌≤◌, ◌+◌, ◌++◌, ◌∙◌, nat_lt, ℕ, suc, true, false, List, [], ◌∷◌, map, filter, All, length, get_or, pos, arith, refl, ap, sym, subst}
use Rattle.std.specs.List.{list_all, AllAdjacentBelow, IsAllAdjacentAnswer}
use Rattle.std.specs.Prelude.{Bool, IsTrue}
use Rattle.std.specs.List.Sorted.{IsPermutation}
use Rattle.std.proofs.lemmas.Bool.{le-ltb, ltb-true, false≢true}
use Rattle.std.proofs.lemmas.Int.{ints}
use Rattle.std.proofs.lemmas.List.Sorted.{IsPermutation-map}
use Rattle.std.proofs.lemmas.List.Elements.{All-cons, All-nil, All-weaker}
use Rattle.std.proofs.lemmas.List.Kept.{AllPairs-cons}
use Rattle.pb_base.specs.declared.literal.Lit.{Lit}
use Rattle.pb_base.specs.declared.literal.Term.{Term}
use Rattle.pb_base.specs.declared.problem.Raw.{Raw}
use Rattle.pb_base.specs.Problems.{sum_value, written_value}
use Rattle.pb_base.proofs.IntSums.{int_sum_by-IsPermutation}
use Rattle.pb_base.proofs.Pairs.{AllPairs-head, AllPairs-nil}
use Rattle.pb_norm.specs.declared.halves.Half.TheVariants.{Lower}
use Rattle.pb_norm.specs.declared.reduction.Rest.TheVariants.{Clause}
use Rattle.pb_norm.specs.Constraints.{IsAscending, slack, terms_of, weight, weighted, weights}
use Rattle.pb_norm.specs.ClauseForm.{one_of}
use Rattle.pb_norm.specs.Halves.{half_of, half_terms, is_positive, normal_terms}
use Rattle.pb_norm.specs.declared.reduction.Reduced.{Reduced}
use Rattle.pb_norm.specs.declared.reduction.Rest.{Rest}
use Rattle.pb_norm.specs.Reduction.{lits_of, rest_of, split, units_of}
use Rattle.pb_norm.specs.inner.Kept.{on_weight}
use Rattle.pb_norm.specs.inner.Nets.{all_false, unsigned_term}
use Rattle.pb_norm.specs.inner.Tight.{is_tight}
use Rattle.pb_norm.proofs.AdditionOrder.{Before}
use Rattle.pb_norm.proofs.AdditionSizes.{weight-cons}
use Rattle.pb_norm.proofs.AscendingTerms.{normal_from_ascending}
use Rattle.pb_norm.proofs.NetBounds.{half_terms-lower, made-half}
use Rattle.pb_norm.proofs.OrderedTerms.{normal_terms-permutation}
use Rattle.pb_norm.proofs.TightTerms.{tight-split}
use Rattle.pb_base.specs.declared.options.Options.{Options}
use Rattle.pb_choice.specs.declared.treatment.Treatment.TheVariants as treatment
use Rattle.pb_choice.specs.Choice.{treatment_of}
use Rattle.pb_choice.specs.Clauses.{constraint_clauses, constraint_count, constraint_fresh, rest_clauses, rest_count, rest_fresh, unit_clause}
use Rattle.pb_encode.specs.inner.Plain.{ones_of}

-- ---- it is the normal form

ones-kept : (ls : List Lit) → map one_of ls ≡ filter (on_weight is_positive) (map (unsigned_term Lower) (map one_of ls))
ones-kept [] = refl
ones-kept (l ∷ ls) = ap (λ (ts : List Term). one_of l ∷ ts) (ones-kept ls)

-- literals in the order in which a statement has them, and in that of their variables
module _ (s : Raw) (ks ls : List Lit) (terms : s.terms ≡ map one_of ks) (right : s.right ≡ pos 1) (order : IsPermutation ks ls) (up : IsAscending (weights (map one_of ls))) where
  moved_terms : IsPermutation s.terms (map one_of ls)
  moved_terms = subst (λ (ts : List Term). IsPermutation ts (map one_of ls)) (sym terms) (IsPermutation-map one_of ks ls order)

  normal : map one_of ls ≡ terms_of (normal_terms (half_terms Lower s.terms))
  normal =
      normal_from_ascending Lower (map one_of ls) (map one_of ls) up (ones-kept ls)
      ∙ ap terms_of (normal_terms-permutation Lower s.terms (map one_of ls) moved_terms)

  same-sum : sum_value all_false (map one_of ls) ≡ sum_value all_false s.terms
  same-sum = int_sum_by-IsPermutation (written_value all_false) s.terms (map one_of ls) moved_terms

  pub ones_are_half : ones_of ls ≡ half_of Lower s
  ones_are_half =
      made-half Lower s s.terms (map one_of ls) (pos 0) 1
      (record { written = refl; normal = normal; is_least = omega (arith, ints, ap (sum_value all_false) (half_terms-lower s.terms), same-sum) })
      (rw right refl)

-- ---- it is a clause

ones-weight : (ls : List Lit) → weight (weights (map one_of ls)) ≡ length ls
ones-weight [] = refl
ones-weight (l ∷ ls) = omega (arith, weight-cons (weighted (one_of l)) (weights (map one_of ls)), ones-weight ls)

ones-tight : (n : ℕ) (ls : List Lit) → nat_lt n 1 ≡ false → list_all (is_tight 1 n) (weights (map one_of ls)) ≡ true
ones-tight n [] h = refl
ones-tight n (l ∷ ls) h = rw h (ones-tight n ls h)

ones-lits : (ls : List Lit) → lits_of (weights (map one_of ls)) ≡ ls
ones-lits [] = refl
ones-lits (l ∷ ls) = ap (λ (ks : List Lit). l ∷ ks) (ones-lits ls)

pub ones-split : (ls : List Lit) → 2 ≤ length ls → split (ones_of ls) ≡ record { units = []; rest = Clause ls }
ones-split ls some =
    let c = ones_of ls in
    let size = ones-weight ls in
    let within : 1 ≤ slack c = omega (arith, size, some) in
    tight-split c (omega arith) (omega (arith, size, some)) (ones-tight (slack c) ls (le-ltb (slack c) 1 within))
    ∙ ap (λ (ks : List Lit). record { units = []; rest = Clause ks }) (ones-lits ls)

-- ---- how it is encoded

module _ (o : Options) (ls : List Lit) (some : 2 ≤ length ls) where
  units : units_of (ones_of ls) ≡ []
  units = ap (λ (r : Reduced). r.units) (ones-split ls some)

  rest : rest_of (ones_of ls) ≡ Clause ls
  rest = ap (λ (r : Reduced). r.rest) (ones-split ls some)

  pub ones_treatment : treatment_of o (rest_of (ones_of ls)) ≡ treatment.Clause
  ones_treatment = ap (treatment_of o) rest

  pub ones_fresh : constraint_fresh o (ones_of ls) ≡ 0
  ones_fresh = ap (λ (r : Rest). rest_fresh (treatment_of o r) r) rest

  pub ones_count : constraint_count o (ones_of ls) ≡ 1
  ones_count = λ i. length (units i) + rest_count (treatment_of o (rest i)) (rest i)

  pub ones_clauses : (first : ℕ) → constraint_clauses o (ones_of ls) first ≡ ls ∷ []
  ones_clauses first = λ i. map unit_clause (units i) ++ rest_clauses (treatment_of o (rest i)) (rest i) first

-- ---- the test of the order

pub ones-ascend : (ls : List Lit) → AllAdjacentBelow (λ k l. k.var < l.var) ls (length ls) → IsAscending (weights (map one_of ls))
ones-ascend [] h = AllPairs-nil Before
ones-ascend (l ∷ []) h = AllPairs-cons Before (weighted (one_of l)) [] (All-nil (Before (weighted (one_of l)))) (AllPairs-nil Before)
ones-ascend (k ∷ l ∷ ls) h =
    let first : k.var < l.var = h 0 k (omega arith) in
    let rest : IsAscending (weights (map one_of (l ∷ ls))) = ones-ascend (l ∷ ls) (λ i d within.
    let e : suc i + 1 ≡ suc (i + 1) = omega arith in
    subst (λ n. (get_or (l ∷ ls) i d).var < (get_or (k ∷ l ∷ ls) n d).var) e (h (suc i) d (omega arith))) in
    let later : All (Before (weighted (one_of k))) (weights (map one_of ls)) =
    All-weaker (Before (weighted (one_of l))) (Before (weighted (one_of k))) (λ w m. omega (arith, first, m)) (weights (map one_of ls)) (AllPairs-head Before (weighted (one_of l)) (weights (map one_of ls)) rest) in
    AllPairs-cons Before (weighted (one_of k)) (weights (map one_of (l ∷ ls))) (All-cons (Before (weighted (one_of k))) (weighted (one_of l)) (weights (map one_of ls)) first later) rest

pub ones-from_answer : (ls : List Lit) (r : Bool) → IsAllAdjacentAnswer (λ k l b. b ≡ nat_lt k.var l.var) ls r → IsTrue r → IsAscending (weights (map one_of ls))
ones-from_answer ls true h is = ones-ascend ls (λ i d within. ltb-true (get_or ls i d).var (get_or ls (i + 1) d).var (sym (h i d within)))
ones-from_answer ls false h is = absurd (false≢true is)
