-- Sums, their heads, and the statements that they give.
use Rattle.std.proofs.Common.{◌≡◌, ◌≤◌, ◌<◌, ◌+◌, ◌-◌, ◌^◌, ◌∙◌, ◌++◌, [], ◌∷◌, ℕ, ℤ, List, Option, Some, None, ap, arith, drop, length, map, refl, subst, sym, take}
use Rattle.std.specs.Prelude.{All}
use Rattle.std.specs.Option.{option_map}
use Rattle.std.proofs.lemmas.List.{length-map, length-take, map_push, take_all}
use Rattle.std.proofs.lemmas.List.Elements.{All-nil, All-head, All-tail, All-take, All-drop}
use Rattle.std.proofs.lemmas.Option.{none-some}
use Rattle.std.proofs.lemmas.List.Sums.{sum_by-cons}
use Rattle.pb_base.specs.declared.heads.Head.{Head}
use Rattle.pb_base.specs.declared.literal.Term.{Term}
use Rattle.pb_base.specs.declared.problem.Raw.{Raw}
use Rattle.pb_base.specs.declared.problem.Relation.{Relation}
use Rattle.pb_base.specs.Problems.{originals, IsProductWithin, IsSumWithin, IsWithinLimits, StaysBelow}
use Rattle.pb_base.specs.Statements.{statements_in, term_count}
use Rattle.pb_dimacs.specs.CnfReading.{literal_number}
use Rattle.pb_columns.specs.declared.sum.PbcnfSum.{PbcnfSum}
use Rattle.pb_columns.specs.Columns.{conditions_in, head_of, head_with, problem_of, relation_of, terms_asked, AreTermsOf, IsCondition, IsShort, IsSumUnder}
use Rattle.pb_columns.specs.Conditions.{most_terms, AllUnder}

-- ---- heads

abbrev terms_told : Option Head → ℕ
terms_told None = 0
terms_told (Some h) = h.terms

-- a head has so many terms as its sum tells
pub head_terms : (m : PbcnfSum) (h : Head) → head_of m ≡ Some h → h.terms ≡ m.terms
head_terms m h is = by_cases (relation_of m.relation) is
  where
    by_cases : (r : Option Relation) → option_map (head_with m) r ≡ Some h → h.terms ≡ m.terms
    by_cases (Some r) same = sym (ap terms_told same)
    by_cases None same = absurd (none-some h same)

-- that of a relation
pub related : (m : PbcnfSum) (r : Relation) → relation_of m.relation ≡ Some r → head_of m ≡ Some (head_with m r)
related m r is = ap (λ (o : Option Relation). option_map (head_with m) o) is

-- that of none
pub unrelated : (m : PbcnfSum) → relation_of m.relation ≡ None → head_of m ≡ None
unrelated m is = ap (λ (o : Option Relation). option_map (head_with m) o) is

pub next_head : (sums : List PbcnfSum) (i : ℕ) (m : PbcnfSum) (h : Head) (old new : List Head) → map Some old ≡ map head_of (take i sums) → map head_of (take (i + 1) sums) ≡ map head_of (take i sums) ++ head_of m ∷ [] → head_of m ≡ Some h → new ≡ old ++ h ∷ []
    → map Some new ≡ map head_of (take (i + 1) sums)
next_head sums i m h old new before more is pushed =
    ap (map Some) pushed ∙ map_push Some old h ∙ ap (λ (os : List (Option Head)). os ++ Some h ∷ []) before
    ∙ ap (λ (o : Option Head). map head_of (take i sums) ++ o ∷ []) (sym is) ∙ sym more

abbrev first_of : List (Option Head) → Option Head
first_of [] = None
first_of (o ∷ os) = o

abbrev rest_of : List (Option Head) → List (Option Head)
rest_of [] = []
rest_of (o ∷ os) = os

-- and all heads together so many as all sums do
pub heads_counted : (hs : List Head) (sums : List PbcnfSum) → map Some hs ≡ map head_of sums → term_count hs ≡ terms_asked sums
heads_counted [] [] same = refl
heads_counted [] (m ∷ sums) same = absurd (cc)
heads_counted (h ∷ hs) [] same = absurd (cc)
heads_counted (h ∷ hs) (m ∷ sums) same =
    let here = head_terms m h (sym (ap first_of same)) in
    let rest = heads_counted hs sums (ap rest_of same) in
    sum_by-cons (λ (h : Head). h.terms) h hs ∙ ap (λ (n : ℕ). n + term_count hs) here ∙ ap (λ (n : ℕ). m.terms + n) rest ∙ sym (sum_by-cons (λ (m : PbcnfSum). m.terms) m sums)

pub heads_many : (hs : List Head) (sums : List PbcnfSum) → map Some hs ≡ map head_of sums → length hs ≡ length sums
heads_many hs sums same = sym (length-map hs Some) ∙ ap (λ (os : List (Option Head)). length os) same ∙ length-map sums head_of

-- so many terms as literals
pub terms_many : (words : List ℕ) (literals : List ℤ) (first : ℕ) (ts : List Term) → AreTermsOf words literals first (length literals) ts → length ts ≡ length literals
terms_many words literals first ts are = sym (length-map ts (λ (t : Term). literal_number t.lit)) ∙ ap (λ (zs : List ℤ). length zs) (are.literals_are ∙ take_all (length literals) literals (omega arith))

-- ---- statements

pub statements_many : (hs : List Head) (ts : List Term) → length (statements_in hs ts) ≡ length hs
statements_many [] ts = refl
statements_many (h ∷ hs) ts = omega (arith, statements_many hs (drop h.terms ts))

-- they are a problem within its limits
pub is_within : (first : ℕ) (ss : List Raw) → 1 ≤ first → first ≤ 2 ^ 31 → length ss ≤ 2 ^ 24 → All (λ s. IsSumWithin (first - 1) s.terms) ss → All (StaysBelow (2 ^ 100)) ss → IsWithinLimits (problem_of first ss)
is_within first ss low high few sums light = record {
  vars = omega (arith, low, high);
  named = omega arith;
  products = All-nil (IsProductWithin (first - 1));
  count = omega (arith, few);
  sums = subst (λ (n : ℕ). All (λ (s : Raw). IsSumWithin n s.terms) ss) vars sums;
  numbers = light;
  objective = tt;
}
  where
    vars : first - 1 ≡ originals (problem_of first ss)
    vars = omega arith

-- the sums of statements in columns, each under its condition
pub sums_under : (first : ℕ) (hs : List Head) (sums : List PbcnfSum) (ts : List Term) → map Some hs ≡ map head_of sums → All IsShort sums → All (λ (m : PbcnfSum). IsCondition first m.condition) sums → All (λ t. 1 ≤ t.lit.var) ts → All (λ t. t.lit.var < first) ts → AllUnder (IsSumUnder first) (conditions_in sums) (statements_in hs ts)
sums_under first [] [] ts same short on from below = tt
sums_under first [] (m ∷ sums) ts same short on from below = absurd (cc)
sums_under first (h ∷ hs) [] ts same short on from below = absurd (cc)
sums_under first (h ∷ hs) (m ∷ sums) ts same short on from below =
    let here = head_terms m h (sym (ap first_of same)) in
    let room : m.terms ≤ most_terms m.condition = All-head IsShort m sums short in (
      record {
        condition = All-head (λ (m : PbcnfSum). IsCondition first m.condition) m sums on;
        vars_from = All-take (λ (t : Term). 1 ≤ t.lit.var) h.terms ts from;
        vars_below = All-take (λ (t : Term). t.lit.var < first) h.terms ts below;
        short = omega (arith, here, room, length-take h.terms ts);
      },
      sums_under first hs sums (drop h.terms ts) (ap rest_of same) (All-tail IsShort m sums short) (All-tail (λ (m : PbcnfSum). IsCondition first m.condition) m sums on)
          (All-drop (λ (t : Term). 1 ≤ t.lit.var) h.terms ts from) (All-drop (λ (t : Term). t.lit.var < first) h.terms ts below),
    )
