-- Constraints over other numbers of their variables. It serves proofs.
use Rattle.std.specs.Prelude.{ℕ, suc, ◌<◌, ◌^◌, ◌==◌, ◌-◌, if◌then◌else◌, List, [], ◌∷◌, ◌++◌, map, All, Contains, slice_index_or}
use Rattle.std.specs.List.{AllPairs, flat_map}
use Rattle.pb_base.specs.declared.literal.Lit.{Lit}
use Rattle.pb_norm.specs.Constraints.{Constraint, Weighted}
use Rattle.pb_unit.specs.Reaching.{OfConstraint, OfLit}

abbrev pub renamed_lit : (ℕ → ℕ) → Lit → Lit
renamed_lit f l = record { var = f l.var; positive = l.positive }

abbrev pub renamed_term : (ℕ → ℕ) → Weighted → Weighted
renamed_term f t = record { coef = t.coef; lit = renamed_lit f t.lit }

abbrev pub renamed : (ℕ → ℕ) → Constraint → Constraint
renamed f c = record { terms = map (renamed_term f) c.terms; degree = c.degree }

-- ---- variables by their places among some

pub record IsName (v : ℕ) : Type 0 where
  pub low : 0 < v
  pub high : v < 2 ^ 31

-- variables, ascending
pub record AreNames (names : List ℕ) : Type 0 where
  pub rising : AllPairs (λ m n. m < n) names
  pub all : All IsName names

-- each variable of the constraints and of the literals is one of these
pub record AreNamed (names : List ℕ) (cs : List Constraint) (ls : List Lit) : Type 0 where
  pub constraints : All (OfConstraint (Contains names)) cs
  pub lits : All (OfLit (Contains names)) ls

-- the variable of each literal, one after another
abbrev pub term_vars : List Weighted → List ℕ
term_vars ts = map (λ t. t.lit.var) ts

abbrev pub form_vars : List Constraint → List ℕ
form_vars cs = flat_map (λ c. term_vars c.terms) cs

abbrev pub lit_vars : List Lit → List ℕ
lit_vars ls = map (λ l. l.var) ls

abbrev pub all_vars : List Constraint → List Lit → List ℕ
all_vars cs ls = form_vars cs ++ lit_vars ls

-- the place of a variable, from 1 on
abbrev pub number_in : List ℕ → ℕ → ℕ
number_in [] v = 1
number_in (n ∷ names) v = if n == v then 1 else suc (number_in names v)

-- the variable at a place
abbrev pub name_at : List ℕ → ℕ → ℕ
name_at names i = slice_index_or names (i - 1) 0
