-- How the literals that are reached are put together. It serves proofs.
use Rattle.std.specs.Prelude.{ℕ, zero, suc, ◌≡◌, ◌≤◌, ◌<◌, ◌+◌, ◌^◌, ◌↔◌, length, true, false, if◌then◌else◌, List, [], ◌∷◌, ◌++◌, map, All, Contains}
use Rattle.std.specs.List.{AllPairs}
use Rattle.pb_base.specs.declared.literal.Lit.{Lit}
use Rattle.pb_base.specs.Literals.{negated, is_among}
use Rattle.pb_norm.specs.ClauseForm.{clause_form}
use Rattle.pb_norm.specs.Constraints.{Constraint, Weighted}
use Rattle.pb_norm.specs.Propagation.{Conflict, IsReachable}
use Rattle.pb_unit.specs.Reads.{lit_count}
use Rattle.pb_unit.specs.States.{EngineState}

-- variables ascending
abbrev pub AreAscending : List Lit → Type 0
AreAscending ls = AllPairs (λ k l. k.var < l.var) ls

-- two of them are opposite
abbrev pub HaveOpposites : List Lit → Type 0
HaveOpposites ls = (l : Lit) × Contains ls l × Contains ls (negated l)

-- the same literals, variables ascending
pub record AreSorted (given ls : List Lit) : Type 0 where
  pub ascending : AreAscending ls
  pub same : (l : Lit) → Contains ls l ↔ Contains given l

-- the literal of the variable that holds, if one does
abbrev pub value_at : List Lit → ℕ → List Lit
value_at held v =
    if is_among held (record { var = v; positive = true }) then record { var = v; positive = true } ∷ []
    else (if is_among held (record { var = v; positive = false }) then record { var = v; positive = false } ∷ [] else [])

-- those of the variables from 1 to a number
abbrev pub held_to : List Lit → ℕ → List Lit
held_to held zero = []
held_to held (suc v) = held_to held v ++ value_at held (suc v)

-- exactly these literals are assumed, and they hold
pub record AreAssumed (ls : List Lit) (s : EngineState) : Type 0 where
  pub same : s.held ≡ s.given
  pub exact : (l : Lit) → Contains s.given l ↔ Contains ls l

-- there is no conflict over constraints, and these are exactly the literals that are reached from the given ones, variables ascending
pub record AreReachedOver (cs : List Constraint) (given ls : List Lit) : Type 0 where
  pub no_conflict : ¬ Conflict cs given
  pub ascending : AreAscending ls
  pub exact : (l : Lit) → Contains ls l ↔ IsReachable cs given l

-- it holds of any clauses whose forms these are
abbrev pub OfClauses : List Constraint → (List (List Lit) → Type 0) → Type 0
OfClauses forms P = (clauses : List (List Lit)) → forms ≡ map clause_form clauses → P clauses

-- ---- variables that are some

abbrev pub OfLit : (ℕ → Type 0) → Lit → Type 0
OfLit K l = K l.var

abbrev pub OfTerm : (ℕ → Type 0) → Weighted → Type 0
OfTerm K t = K t.lit.var

abbrev pub OfConstraint : (ℕ → Type 0) → Constraint → Type 0
OfConstraint K c = All (OfTerm K) c.terms

-- from 1 to a number
pub record IsUpTo (most v : ℕ) : Type 0 where
  pub low : 1 ≤ v
  pub high : v ≤ most

-- each variable of the constraints and of the literals is, and tables up to that number are no longer than all these literals
pub record FitsTables (cs : List Constraint) (ls : List Lit) (most : ℕ) : Type 0 where
  pub few : most < 2 ^ 31
  pub modest : most ≤ lit_count cs + length ls
  pub constraints : All (OfConstraint (IsUpTo most)) cs
  pub lits : All (OfLit (IsUpTo most)) ls
