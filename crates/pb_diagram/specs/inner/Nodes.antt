-- What a node of a level is, by the sums of the rest. It serves proofs alone.
use Rattle.std.specs.Prelude.{◌≡◌, ◌<◌, ◌≤◌, ◌+◌, ℕ, List, Contains}
use Rattle.pb_diagram.specs.declared.interval.Interval.{Interval}
use Rattle.pb_diagram.specs.Sums.{sums}

abbrev pub LiesIn : ℕ → Interval → Type 0
LiesIn residue g = (g.low ≤ residue) × (residue < g.top)

-- two sums, and none between them
pub record IsInterval (ss : List ℕ) (g : Interval) : Type 0 where
  pub low_in : Contains ss g.low
  pub top_in : Contains ss g.top
  pub rises : g.low < g.top
  pub next : (s : ℕ) → Contains ss s → g.low < s → g.top ≤ s

-- the bound, less a sum of the coefficients before
pub record IsResidue (bound : ℕ) (before : List ℕ) (residue : ℕ) : Type 0 where
  pub spent : ℕ
  pub is_sum : Contains (sums before) spent
  pub whole : spent + residue ≡ bound

-- a node: a interval of the sums of the rest, with a residue in it
pub record IsNode (bound : ℕ) (before rest : List ℕ) (g : Interval) : Type 0 where
  pub interval : IsInterval (sums rest) g
  pub residue : ℕ
  pub reached : IsResidue bound before residue
  pub inside : LiesIn residue g
