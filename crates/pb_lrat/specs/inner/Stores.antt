-- Clauses as the code keeps them: their ids in order, and where their literals stand among all literals.
use Rattle.std.specs.Prelude.{◌≡◌, ◌≤◌, ◌<◌, ℕ, List, [], ◌∷◌, Option, Some, None, length, slice_range, slice_index_or}
use Rattle.pb_base.specs.declared.literal.Lit.{Lit}
use Rattle.pb_lrat.specs.declared.store.Span.{Span}
use Rattle.pb_lrat.specs.Hints.{Kept}

-- the greatest id so far, and the live clauses in the order of their ids
pub record Library : Type 0 where
  pub last : ℕ
  pub live : List Kept

-- the literals of a place, if some stand there
abbrev pub clause_in : List Lit → Option Span → Option (List Lit)
clause_in lits None = None
clause_in lits (Some s) = Some (slice_range lits s.start s.end)

abbrev pub kept_by : ℕ → Option (List Lit) → List Kept → List Kept
kept_by id None others = others
kept_by id (Some ls) others = record { id = id; clause = ls } ∷ others

-- the clauses of the ids that have a place
abbrev pub kept_in : List Lit → List ℕ → List (Option Span) → List Kept
kept_in lits [] spans = []
kept_in lits (id ∷ ids) [] = []
kept_in lits (id ∷ ids) (s ∷ spans) = kept_by id (clause_in lits s) (kept_in lits ids spans)

-- the place lies within so many literals
abbrev pub IsSpan : ℕ → Option Span → Type 0
IsSpan size None = Unit {0}
IsSpan size (Some s) = (s.start ≤ s.end) × (s.end ≤ size)

-- the ids ascend from 1 on up to the greatest, and each has a place within the literals, or none
pub record IsStore (lits : List Lit) (ids : List ℕ) (spans : List (Option Span)) (last : ℕ) : Type 0 where
  pub even : length spans ≡ length ids
  pub ascending : (i j : ℕ) → i < j → j < length ids → slice_index_or ids i 0 < slice_index_or ids j 0
  pub least : (i : ℕ) → i < length ids → 1 ≤ slice_index_or ids i 0
  pub most : (i : ℕ) → i < length ids → slice_index_or ids i 0 ≤ last
  pub within : (i : ℕ) → IsSpan (length lits) (slice_index_or spans i None)
