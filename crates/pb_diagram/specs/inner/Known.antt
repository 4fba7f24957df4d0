-- Intervals from the last to the first, and runs of intervals in order. It serves proofs alone.
use Rattle.std.specs.Prelude.{◌≡◌, ◌<◌, ◌≤◌, ◌+◌, ◌++◌, ℕ, Bool, true, false, leb, List, [], ◌∷◌, Contains, length, reverse, slice_index_or}
use Rattle.pb_diagram.specs.declared.interval.Interval.{Interval}
use Rattle.pb_diagram.specs.Intervals.{AreApart}

-- each ends above its beginning
abbrev pub Rise : List Interval → Type 0
Rise gs = (g : Interval) → Contains gs g → g.low < g.top

-- those before a place begin above the residue, and no others
pub record IsPlaceOf (falling : List Interval) (residue place : ℕ) : Type 0 where
  pub bound : place ≤ length falling
  pub above : (k : ℕ) (d : Interval) → k < place → residue < (slice_index_or falling k d).low
  pub others : (k : ℕ) (d : Interval) → place ≤ k → k < length falling → (slice_index_or falling k d).low ≤ residue

-- in order from the last to the first, each ending above its beginning
pub record AreKnown (falling : List Interval) : Type 0 where
  pub apart : AreApart (reverse falling)
  pub rise : Rise falling

-- the first intervals of a run, and the others
pub record AreParts (run lower upper : List Interval) : Type 0 where
  pub joined : run ≡ lower ++ upper
  pub some : 0 < length lower
  pub others : 0 < length upper

-- ---- runs of intervals in order

abbrev pub intervals_in : List (List Interval) → List Interval
intervals_in [] = []
intervals_in (run ∷ runs) = run ++ intervals_in runs

-- no run is empty
abbrev pub AreFull : List (List Interval) → Type 0
AreFull runs = (run : List Interval) → Contains runs run → 0 < length run

-- in order, each interval ending above its beginning, and no run empty
pub record AreRuns (runs : List (List Interval)) : Type 0 where
  pub apart : AreApart (intervals_in runs)
  pub rise : Rise (intervals_in runs)
  pub full : AreFull runs

-- the first of a run does not begin above the residue
abbrev pub begins_by : List Interval → ℕ → Bool
begins_by [] residue = false
begins_by (g ∷ gs) residue = leb g.low residue

-- the last run that does not begin above the residue, or the first of all
pub record IsRunOf (runs : List (List Interval)) (residue place : ℕ) : Type 0 where
  pub within : 0 < length runs → place < length runs
  pub begins : (d : List Interval) → 0 < place → begins_by (slice_index_or runs place d) residue ≡ true
  pub ends : (d : List Interval) → place + 1 < length runs → begins_by (slice_index_or runs (place + 1) d) residue ≡ false
