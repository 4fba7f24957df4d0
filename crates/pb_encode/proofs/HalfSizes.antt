-- How many terms the halves of a statement have, and what they weigh.
use Rattle.std.proofs.Common.{◌≡◌, ◌≤◌, ◌<◌, ◌+◌, ◌-◌, ◌++◌, ℕ, Bool, true, false, cond, List, [], ◌∷◌, length, map, refl, arith, ltb, length-append}
use Rattle.std.specs.Int.RustNames.{unsigned_abs}
use Rattle.std.proofs.lemmas.List.{length-map}
use Rattle.std.proofs.lemmas.List.Sums.{sum_by-cons}
use Rattle.pb_base.specs.declared.literal.Term.{Term}
use Rattle.pb_base.specs.declared.problem.Raw.{Raw}
use Rattle.pb_base.specs.Literals.{is_same}
use Rattle.pb_base.specs.Problems.{magnitude, StaysBelow}
use Rattle.pb_base.proofs.Sums.{sum_by-parts}
use Rattle.pb_norm.specs.declared.halves.Half.{Half}
use Rattle.pb_norm.specs.Addition.{combined, joined, with_term}
use Rattle.pb_norm.specs.Constraints.{Weighted, weight}
use Rattle.pb_norm.specs.Halves.{half_of, half_terms, is_positive, normal_terms, turned_term, unsigned}
use Rattle.pb_norm.proofs.AdditionSizes.{weight-cons, weight-joined}
use Rattle.pb_norm.proofs.Lengths.{length-filter-le}
use Rattle.pb_norm.proofs.NetBounds.{magnitude-half}

length-combined : (t u : Weighted) → length (combined t u) ≤ 1
length-combined t u = by_tests (is_same t.lit u.lit) (ltb t.coef u.coef) (ltb u.coef t.coef)
  where
    by_tests : (same less more : Bool) →
        length (cond {A = List Weighted} same (record { coef = t.coef + u.coef; lit = u.lit } ∷ [])
        (cond {A = List Weighted} less (record { coef = u.coef - t.coef; lit = u.lit } ∷ []) (cond {A = List Weighted} more (record { coef = t.coef - u.coef; lit = t.lit } ∷ []) [])))
        ≤ 1
    by_tests true less more = omega arith
    by_tests false true more = omega arith
    by_tests false false true = omega arith
    by_tests false false false = omega arith

length-with_term : (t : Weighted) (us : List Weighted) → length (with_term t us) ≤ 1 + length us
length-with_term t [] = omega arith
length-with_term t (u ∷ us) = placed (ltb t.lit.var u.lit.var) (ltb u.lit.var t.lit.var) (length-with_term t us)
  where
    placed : (before after : Bool) → length (with_term t us) ≤ 1 + length us →
        length (cond {A = List Weighted} before (t ∷ u ∷ us) (cond {A = List Weighted} after (u ∷ with_term t us) (combined t u ++ us))) ≤ 1 + length (u ∷ us)
    placed true after h = omega arith
    placed false true h = omega (arith, h)
    placed false false h = omega (arith, length-combined t u, length-append (combined t u) us)

length-joined : (ts us : List Weighted) → length (joined ts us) ≤ length ts + length us
length-joined [] us = omega arith
length-joined (t ∷ ts) us = omega (arith, length-with_term t (joined ts us), length-joined ts us)

-- a normal form has no more terms than what is written
pub normal_short : (ts : List Term) → length (normal_terms ts) ≤ length ts
normal_short ts = omega (arith, length-filter-le is_positive (joined (map unsigned ts) []), length-joined (map unsigned ts) [], length-map ts unsigned)

-- a half has no more terms than the statement
pub half_short : (half : Half) (s : Raw) → length (half_of half s).terms ≤ length s.terms
half_short half s =
    let ts = half_terms half s.terms in
    let us = joined (map unsigned ts) [] in
    omega (arith, length-filter-le is_positive us, length-joined (map unsigned ts) [], length-map ts unsigned, length-map s.terms (turned_term half))

-- ---- weights

weight-unsigned : (ts : List Term) → weight (map unsigned ts) ≡ magnitude ts
weight-unsigned [] = refl
weight-unsigned (t ∷ ts) = omega (arith, weight-cons (unsigned t) (map unsigned ts), sum_by-cons (λ (u : Term). unsigned_abs u.coef) t ts, weight-unsigned ts)

-- a half weighs no more than the statement's numbers
pub half_light : (half : Half) (s : Raw) (most : ℕ) → StaysBelow most s → weight (half_of half s).terms < most
half_light half s most small =
    let ts = half_terms half s.terms in
    let us = joined (map unsigned ts) [] in
    omega (arith, magnitude-half half s.terms, weight-unsigned ts, weight-joined (map unsigned ts) [], sum_by-parts {X = Weighted} (λ t. t.coef) is_positive us, small)
