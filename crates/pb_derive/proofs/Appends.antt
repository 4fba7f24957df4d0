-- Sums over lists that are put together, and over lists of one.
use Rattle.std.proofs.Common.{◌≡◌, ◌+◌, ◌-◌, cond, List, [], ◌∷◌, ◌++◌, arith}
use Rattle.std.proofs.lemmas.List.Sums.{sum_by-cons, sum_by-append}
use Rattle.pb_base.specs.declared.literal.Lit.{Lit}
use Rattle.pb_base.specs.Literals.{Assignment, is_same}
use Rattle.pb_norm.specs.Constraints.{Weighted, Constraint, weight, value, term_value}
use Rattle.pb_norm.specs.Addition.{coef_of}
use Rattle.pb_derive.proofs.Closing.{coef_in-cons}
use Rattle.pb_derive.specs.inner.Follows.{coef_in, value_in, degrees, weight_in}

-- ---- sums

pub coef_of-append : (ts us : List Weighted) (l : Lit) → coef_of (ts ++ us) l ≡ coef_of ts l + coef_of us l
coef_of-append ts us l = sum_by-append {X = Weighted} (λ t. cond (is_same t.lit l) t.coef 0) ts us

pub value-append : (a : Assignment) (ts us : List Weighted) → value a (ts ++ us) ≡ value a ts + value a us
value-append a ts us = sum_by-append (term_value a) ts us

pub weight-append : (ts us : List Weighted) → weight (ts ++ us) ≡ weight ts + weight us
weight-append ts us = sum_by-append {X = Weighted} (λ t. t.coef) ts us

-- ---- sources

pub coef_in-append : (l : Lit) (ss us : List Constraint) → coef_in (ss ++ us) l ≡ coef_in ss l + coef_in us l
coef_in-append l ss us = sum_by-append {X = Constraint} (λ s. coef_of s.terms l) ss us

pub value_in-append : (a : Assignment) (ss us : List Constraint) → value_in a (ss ++ us) ≡ value_in a ss + value_in a us
value_in-append a ss us = sum_by-append {X = Constraint} (λ s. value a s.terms) ss us

pub degrees-append : (ss us : List Constraint) → degrees (ss ++ us) ≡ degrees ss + degrees us
degrees-append ss us = sum_by-append {X = Constraint} (λ s. s.degree) ss us

pub weight_in-append : (ss us : List Constraint) → weight_in (ss ++ us) ≡ weight_in ss + weight_in us
weight_in-append ss us = sum_by-append {X = Constraint} (λ s. weight s.terms) ss us

pub coef_in-one : (l : Lit) (s : Constraint) → coef_in (s ∷ []) l ≡ coef_of s.terms l
coef_in-one l s = omega (arith, coef_in-cons l s [])

pub value_in-one : (a : Assignment) (s : Constraint) → value_in a (s ∷ []) ≡ value a s.terms
value_in-one a s = omega (arith, sum_by-cons {X = Constraint} (λ s. value a s.terms) s [])

pub degrees-one : (s : Constraint) → degrees (s ∷ []) ≡ s.degree
degrees-one s = omega (arith, sum_by-cons {X = Constraint} (λ s. s.degree) s [])

pub weight_in-one : (s : Constraint) → weight_in (s ∷ []) ≡ weight s.terms
weight_in-one s = omega (arith, sum_by-cons {X = Constraint} (λ s. weight s.terms) s [])
