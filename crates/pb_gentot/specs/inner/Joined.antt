-- The values of a node, if they are no more than a limit.
use Rattle.std.specs.Prelude.{◌≡◌, ◌≤◌, ◌<◌, ℕ, List, Option, Some, None, length}
use Rattle.std.specs.Global.{Vec}
use Rattle.pb_gentot.specs.Generalized.{ascending, sums}

abbrev pub IsJoined : ℕ → ℕ → List ℕ → List ℕ → Option (Vec ℕ) → Type 0
IsJoined cap limit us vs None = limit < length (ascending cap (sums cap us vs))
IsJoined cap limit us vs (Some made) = (made.items ≡ ascending cap (sums cap us vs)) × (length made.items ≤ limit)
