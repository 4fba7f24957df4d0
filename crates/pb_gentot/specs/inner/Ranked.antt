-- The places that a node's ranks have.
use Rattle.std.specs.Prelude.{◌≡◌, ◌<◌, ℕ, List, Contains, length, slice_index}
use Rattle.pb_tree.specs.Places.{place_of}
use Rattle.pb_gentot.specs.declared.ranks.Ranks.{Ranks}

-- as far as the table goes, it has the place of each value
pub record AreRanks (ranks : Ranks) (us : List ℕ) : Type 0 where
  pub place : (u : ℕ) → Contains us u → u < length ranks.places.items → slice_index ranks.places.items u ≡ place_of u us
