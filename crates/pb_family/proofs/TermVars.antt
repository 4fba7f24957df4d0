-- The variables of terms, and literals over them.
use Rattle.std.proofs.Common.{◌<◌, ◌+◌, ℕ, List, [], ◌∷◌, length, subst, arith, inl, inr}
use Rattle.std.specs.Prelude.{All, Contains}
use Rattle.std.proofs.lemmas.List.Elements.{All-weaker, All-map, All-contains, Contains-get_or}
use Rattle.pb_base.specs.declared.literal.Lit.{Lit}
use Rattle.pb_base.specs.Literals.{negated}
use Rattle.pb_base.proofs.Members.{Contains-nil, Contains-here, Contains-there, Contains-cons_cases}
use Rattle.pb_norm.specs.Constraints.{Weighted}
use Rattle.pb_norm.specs.BoundedSums.{vars_of}
use Rattle.pb_norm.specs.Reduction.{lits_of}
use Rattle.pb_family.specs.Families.{VarsBelow, IsNamed}
use Rattle.pb_family.specs.Fresh.{positive_of, literal_at}

-- a literal of the sum is of one of its variables
pub among_vars : (ts : List Weighted) (k : Lit) → Contains (lits_of ts) k → Contains (vars_of ts) k.var
among_vars [] k h = absurd (Contains-nil k h)
among_vars (t ∷ ts) k h =
    elim (Contains-cons_cases t.lit (lits_of ts) k h) as (λ _. Contains (vars_of (t ∷ ts)) k.var) [
      | inl e ↦ subst (λ (m : Lit). Contains (vars_of (t ∷ ts)) m.var) e (Contains-here t.lit.var (vars_of ts))
      | inr rest ↦ Contains-there t.lit.var (vars_of ts) k.var (among_vars ts k rest)
    ]

pub named_at : (ts : List Weighted) (first fresh k : ℕ) → k < length (lits_of ts) → IsNamed ts first fresh (negated (literal_at (lits_of ts) k))
named_at ts first fresh k within = inl (among_vars ts (literal_at (lits_of ts) k) (Contains-get_or (lits_of ts) k (positive_of 0) within))

-- each is below the last fresh variable
pub named_below : (ts : List Weighted) (first fresh : ℕ) (ls : List Lit) → VarsBelow first ts → All (IsNamed ts first fresh) ls → All (λ l. l.var < first + fresh) ls
named_below ts first fresh ls below named = All-weaker (IsNamed ts first fresh) (λ (l : Lit). l.var < first + fresh) one ls named
  where
    one : (l : Lit) → IsNamed ts first fresh l → l.var < first + fresh
    one l h =
        elim h as (λ _. l.var < first + fresh) [
          | inl term ↦ let low : l.var < first = All-contains (λ (v : ℕ). v < first) (vars_of ts) l.var (All-map (λ (v : ℕ). v < first) (λ (t : Weighted). t.lit.var) ts below) term in omega arith
          | inr bit ↦ bit.1
        ]
