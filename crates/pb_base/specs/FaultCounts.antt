-- When a count of faults says that something failed (our own).
use Rattle.std.specs.Prelude.{ℕ, ◌+◌, ◌-◌, ◌^◌, ◌≡◌, ◌⊎◌}

-- the count is the next one, or stands at its last value
abbrev pub Rose : ℕ → ℕ → Type 0
Rose before now = (now ≡ before + 1) ⊎ ((now ≡ before) × (now ≡ 2 ^ 64 - 1))
