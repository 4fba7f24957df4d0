-- Constraints that add up to another one exactly (cutting planes, Cook, Coullard and Turán 1987). This serves the proofs that derivations run.
use Rattle.std.specs.Prelude.{◌≡◌, ◌≤◌, ◌<◌, ◌+◌, ◌^◌, List, All}
use Rattle.pb_base.specs.declared.literal.Lit.{Lit}
use Rattle.pb_base.specs.Literals.{Assignment, negated}
use Rattle.pb_norm.specs.Constraints.{Constraint, AllPositive, value}
use Rattle.pb_norm.specs.Addition.{coef_of}
use Rattle.pb_derive.specs.Forms.{AreApartTerms}
use Rattle.pb_derive.specs.inner.Follows.{degrees, weight_in, value_in, coef_in}

-- What each literal has above its negation adds up, and so do the degrees: none is cut off, since under some assignment no
-- constraint has more than its degree.
pub record IsSum (ss : List Constraint) (t : Constraint) : Type 0 where
  pub apart : AreApartTerms t.terms
  pub positive : AllPositive t.terms
  pub coefs : (l : Lit) → coef_in ss l + coef_of t.terms (negated l) ≡ coef_in ss (negated l) + coef_of t.terms l
  pub under : Assignment
  pub tight : All (λ s. value under s.terms ≤ s.degree) ss
  pub degree : degrees ss + value under t.terms ≡ t.degree + value_in under ss
  pub weight_fits : weight_in ss < 2 ^ 126
  pub degree_fits : degrees ss < 2 ^ 126
