-- Clauses whose variables ascend are their own forms.
use Rattle.std.proofs.Common.{◌≡◌, ◌<◌, ◌+◌, ◌^◌, ◌++◌, ◌∷◌, [], ◌∙◌, suc, Bool, true, false, cond, List, Option, Some, map, nat_lt, length, get_or, IsTrue, arith, refl, ap, sym, subst}
use Rattle.std.specs.Prelude.{All}
use Rattle.std.specs.List.{AllAdjacentBelow, IsAllAdjacentAnswer}
use Rattle.std.proofs.lemmas.Bool.{ltb-true, false≢true}
use Rattle.std.proofs.lemmas.List.Elements.{All-cons, All-nil, All-weaker}
use Rattle.std.proofs.lemmas.List.Kept.{AllPairs-cons}
use Rattle.std.proofs.lemmas.List.Sorted.{IsPermutation-refl}
use Rattle.pb_base.specs.declared.literal.Lit.{Lit}
use Rattle.pb_base.proofs.Pairs.{AllPairs-head, AllPairs-nil}
use Rattle.pb_norm.specs.ClauseForm.{clause_form, one_of}
use Rattle.pb_norm.specs.Constraints.{Constraint, Weighted, weights, IsAscending, IsLinear, constraint_of}
use Rattle.pb_norm.proofs.SortedClauses.{sorted-is, sorted-linear}
use Rattle.pb_unit.specs.States.{standing}
use Rattle.pb_unit.specs.inner.Slots.{unit, clause_of}
use Rattle.pb_unit.proofs.Listing.{standing-push}

abbrev Before : Weighted → Weighted → Type 0
Before s t = s.lit.var < t.lit.var

-- neighbours in order put all literals in order
from_adjacent : (ls : List Lit) → AllAdjacentBelow (λ k l. k.var < l.var) ls (length ls) → IsAscending (map unit ls)
from_adjacent [] h = AllPairs-nil Before
from_adjacent (l ∷ []) h = AllPairs-cons Before (unit l) [] (All-nil (Before (unit l))) (AllPairs-nil Before)
from_adjacent (k ∷ l ∷ ls) h =
    let first : k.var < l.var = h 0 k (omega arith) in
    let rest : IsAscending (map unit (l ∷ ls)) = from_adjacent (l ∷ ls) (λ i d within.
    let e : suc i + 1 ≡ suc (i + 1) = omega arith in
    subst (λ n. (get_or (l ∷ ls) i d).var < (get_or (k ∷ l ∷ ls) n d).var) e (h (suc i) d (omega arith))) in
    let later : All (Before (unit k)) (map unit ls) =
    All-weaker (Before (unit l)) (Before (unit k)) (λ w above. omega (arith, first, above)) (map unit ls) (AllPairs-head Before (unit l) (map unit ls) rest) in
    AllPairs-cons Before (unit k) (map unit (l ∷ ls)) (All-cons (Before (unit k)) (unit l) (map unit ls) first later) rest

pub ascending_answer : (ls : List Lit) (r : Bool) → IsAllAdjacentAnswer (λ k l b. b ≡ nat_lt k.var l.var) ls r → IsTrue r → IsAscending (map unit ls)
ascending_answer ls true h is = from_adjacent ls (λ k d within. ltb-true (get_or ls k d).var (get_or ls (k + 1) d).var (sym (h k d within)))
ascending_answer ls false h is = absurd (false≢true is)

weights-ones : (ls : List Lit) → weights (map one_of ls) ≡ map unit ls
weights-ones [] = refl
weights-ones (l ∷ ls) = ap (λ (ws : List Weighted). unit l ∷ ws) (weights-ones ls)

module _ (ls : List Lit) (up : IsAscending (map unit ls)) where
  as_terms : IsAscending (weights (map one_of ls))
  as_terms = subst IsAscending (sym (weights-ones ls)) up

  same : constraint_of (map one_of ls) 1 ≡ clause_of ls
  same = ap (λ (ws : List Weighted). record { terms = ws; degree = 1 }) (weights-ones ls)

  pub clause-is : clause_of ls ≡ clause_form ls
  clause-is = sym same ∙ sorted-is ls (map one_of ls) (IsPermutation-refl (map one_of ls)) as_terms

  pub clause-linear : length ls < 2 ^ 64 → IsLinear (clause_of ls)
  clause-linear short = subst IsLinear same (sorted-linear ls (map one_of ls) (IsPermutation-refl (map one_of ls)) as_terms short)

-- one constraint more, by what it is
pub standing_pushed : (b : Bool) (ps ps' : List (Option Constraint)) (c d : Constraint) (cs : List Constraint) → ps' ≡ cond b (ps ++ Some c ∷ []) ps → standing ps ≡ cs → c ≡ d → standing ps' ≡ cond b (cs ++ d ∷ []) cs
standing_pushed false ps ps' c d cs e is same = ap standing e ∙ is
standing_pushed true ps ps' c d cs e is same =
    ap standing e ∙ standing-push ps c ∙ ap (λ (xs : List Constraint). xs ++ c ∷ []) is ∙ ap (λ (x : Constraint). cs ++ x ∷ []) same
