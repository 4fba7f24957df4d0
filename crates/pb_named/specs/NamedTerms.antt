-- A term as it is written: a coefficient and one or more literals (as in the non-linear tracks of the Pseudo-Boolean Competitions).
-- A term has a first literal and a list of further ones, so that no definition has to leave out terms without a literal. In memory
-- the further ones are in a box of their own, for which a term of one literal takes nothing.
use Rattle.std.specs.Prelude.{List, [], ◌∷◌, ◌++◌, ℤ}
use Rattle.pb_named.specs.declared.named.NamedLit.{NamedLit}

-- it counts where all of its literals are true
pub record NamedTerm : Type 0 where
  pub coef : ℤ
  pub lit : NamedLit
  pub more : List NamedLit

abbrev pub lits_of : NamedTerm → List NamedLit
lits_of t = t.lit ∷ t.more

-- one literal more
abbrev pub with_literal : NamedTerm → NamedLit → NamedTerm
with_literal t l = record { coef = t.coef; lit = t.lit; more = t.more ++ l ∷ [] }
