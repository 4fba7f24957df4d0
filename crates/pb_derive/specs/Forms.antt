-- Constraints whose terms stand in any order, and their normal forms (our own).
use Rattle.std.specs.Prelude.{◌≡◌, ◌≢◌, ℕ, List, sum_by}
use Rattle.std.specs.List.{AllPairs}
use Rattle.pb_norm.specs.Constraints.{Weighted, Constraint, AllPositive, IsAscending}

-- the same terms in whatever order: each sum over them is the same
abbrev pub AreSameTerms : List Weighted → List Weighted → Type 0
AreSameTerms ts us = (f : Weighted → ℕ) → sum_by f ts ≡ sum_by f us

-- each variable stands once
abbrev pub AreApartTerms : List Weighted → Type 0
AreApartTerms ts = AllPairs (λ s t. s.lit.var ≢ t.lit.var) ts

-- c is s with its terms in the order of their variables
pub record IsFormOf (s c : Constraint) : Type 0 where
  pub terms : AreSameTerms c.terms s.terms
  pub degree : c.degree ≡ s.degree
  pub positive : AllPositive c.terms
  pub ascending : IsAscending c.terms
