-- A search for the nodes of a diagram, in the words of the type that has it. It serves proofs alone.
use Rattle.std.specs.Prelude.{ℕ, Bool, List, Option, map}
use Rattle.pb_norm.specs.BoundedSums.{BoundedSum}
use Rattle.pb_diagram.specs.declared.interval.Interval.{Interval}
use Rattle.pb_diagram.specs.declared.search.Search.{Search}
use Rattle.pb_diagram.specs.declared.search.Want.{Want}
use Rattle.pb_diagram.specs.laws.Search.{IsSearching, IsKept, Advanced}

abbrev pub residues : List Want → List ℕ
residues ws = map (λ w. w.residue) ws

abbrev pub sides : List Want → List (Option Interval)
sides ws = map (λ w. w.off) ws

-- a search with what it keeps
pub record IsUnderWay (c : BoundedSum) (s : Search) : Type 0 where
  pub searching : IsSearching c s.levels.items (residues s.wanted.items) s.left
  pub kept : IsKept c s.levels.items (residues s.wanted.items) (sides s.wanted.items) s.last

-- a search after a step, which tells whether a node became known
pub record IsMoved (c : BoundedSum) (joined : Bool) (old new : Search) : Type 0 where
  pub going : IsUnderWay c new
  pub advanced : Advanced joined old.levels.items new.levels.items (residues old.wanted.items) (residues new.wanted.items)
