-- Which numbers are marked.
use Rattle.std.specs.Prelude.{ℕ, List, Contains, IsTrue, false}
use Rattle.std.specs.List.{slice_index_or}
use Rattle.pb_gentot.specs.declared.seen.Seen.{Seen}

abbrev pub HasMark : Seen → ℕ → Type 0
HasMark seen n = IsTrue (slice_index_or seen.marks.items n false)

-- each marked number stands in a list
pub record MarksOnly (seen : Seen) (xs : List ℕ) : Type 0 where
  pub stands : (n : ℕ) → HasMark seen n → Contains xs n
