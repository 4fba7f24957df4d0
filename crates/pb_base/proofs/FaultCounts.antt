-- Counts of faults that rose.
use Rattle.std.proofs.Common.{◌≡◌, ◌≤◌, ℕ, subst, arith, inl, inr}
use Rattle.pb_base.specs.FaultCounts.{Rose}

-- a count that rose from a value it had before
pub rose_later : (before then now : ℕ) → then ≡ before → Rose then now → Rose before now
rose_later before then now same rose = subst (λ (n : ℕ). Rose n now) same rose

-- a count that rose has not fallen
pub rose_from : (before now : ℕ) → Rose before now → before ≤ now
rose_from before now (inl next) = omega (arith, next)
rose_from before now (inr last) = omega (arith, last.0)
