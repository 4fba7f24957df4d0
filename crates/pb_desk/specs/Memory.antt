-- The files of a desk in memory, and which of its calls fail (our own).
use Rattle.std.specs.Prelude.{ℕ, ◌+◌, ◌-◌, ◌^◌, min, Bool, ◌==◌, if◌then◌else◌, List, [], ◌∷◌, drop, Option, Some, None, slice_get}
use Rattle.std.specs.List.{list_any}
use Rattle.std.specs.Option.{option_map_or}
use Rattle.std.specs.Str.{bytes_eq}
use Rattle.pb_desk.specs.declared.shelf.Named.{Named}
use Rattle.pb_desk.specs.declared.shelf.Reading.{Reading}

-- the bytes of the first file of the name
abbrev pub shelf_of : List Named → List ℕ → Option (List ℕ)
shelf_of [] name = None
shelf_of (file ∷ files) name = if bytes_eq file.name name then Some file.bytes else shelf_of files name

-- the bytes of the file at a place, none past the end
abbrev pub bytes_at : List Named → ℕ → List ℕ
bytes_at shelf i = option_map_or (λ file. file.bytes) (slice_get shelf i) []

-- what a reading slot has left
abbrev pub left_of : List Named → Option Reading → List ℕ
left_of shelf None = []
left_of shelf (Some reading) = drop reading.place (bytes_at shelf reading.file)

-- the number of the call after so many: from 1 on, and 2^64 - 1 again at the end
abbrev pub next_after : ℕ → ℕ
next_after calls = min (calls + 1) (2 ^ 64 - 1)

-- whether the call after so many is one of those that fail
abbrev pub is_to_fail : List ℕ → ℕ → Bool
is_to_fail fails calls = list_any (λ n. n == next_after calls) fails

-- What a desk in memory goes by: the calls that fail, how many calls there were, and the most bytes that one moves.
pub record Plan : Type 0 where
  pub fails : List ℕ
  pub calls : ℕ
  pub piece : ℕ

-- whether the next call is to fail
abbrev pub is_failing : Plan → Bool
is_failing plan = is_to_fail plan.fails plan.calls

-- the plan after one more call
abbrev pub counted : Plan → Plan
counted plan = record plan { calls = next_after plan.calls }
