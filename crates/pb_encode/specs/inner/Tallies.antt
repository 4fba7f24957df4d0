-- Counts as they are kept while a problem is measured: each stands still at the end of its type.
use Rattle.std.specs.Prelude.{ℕ, ◌≡◌, ◌+◌, ◌-◌, ◌<◌, ◌^◌, min, List, ◌++◌, slice_index_or, slice_set, length}
use Rattle.pb_base.specs.declared.options.Options.{Options}
use Rattle.pb_encode.specs.declared.tally.Tally.{Tally}
use Rattle.pb_encode.specs.Clauses.{clause_total, fresh_total}
use Rattle.pb_encode.specs.declared.groups.Group.{Group}
use Rattle.pb_encode.specs.Summaries.{treated}

abbrev pub capped : ℕ → ℕ
capped n = min n (2 ^ 64 - 1)

-- the tally counts these groups
pub record IsTally (o : Options) (gs : List Group) (t : Tally) : Type 0 where
  pub fresh : t.fresh ≡ capped (fresh_total o gs)
  pub clauses : t.clauses ≡ capped (clause_total o gs)
  pub size : length t.treated ≡ 12
  pub treated : (place : ℕ) → place < 12 → slice_index_or t.treated place 0 ≡ capped (treated o place gs)

-- these groups were counted on top of any that were counted before
abbrev pub Counts : Options → Tally → Tally → List Group → Type 0
Counts o old new gs = (before : List Group) → IsTally o before old → IsTally o (before ++ gs) new

-- two constraints more stand at the place of equalities that are encoded as one, with so many fresh variables and clauses
pub record AddsJoint (fresh clauses : ℕ) (old new : Tally) : Type 0 where
  pub fresh_is : new.fresh ≡ capped (old.fresh + fresh)
  pub clauses_are : new.clauses ≡ capped (old.clauses + clauses)
  pub treated_are : new.treated ≡ slice_set old.treated 11 (capped (slice_index_or old.treated 11 0 + 2))
