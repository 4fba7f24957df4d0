-- The places of a ladder's clauses by their numbers.
use Rattle.std.specs.Prelude.{ℕ, ◌<◌, ◌+◌, ◌-◌, ◌*◌, nat_lt, if◌then◌else◌}
use Rattle.pb_amo.specs.declared.rung.Place.{Place}
use Rattle.pb_amo.specs.declared.rung.Place.TheVariants.{Link, NoneAfter, SomeAfter}

abbrev pub place_at : ℕ → ℕ → Place
place_at n k =
    if nat_lt k (n - 2) then Link k
    else if nat_lt k (2 * n - 3) then NoneAfter (k - (n - 2))
    else SomeAfter (k - (2 * n - 3))

-- the places that there are
abbrev pub IsPlace : ℕ → Place → Type 0
IsPlace n (Link k) = k + 2 < n
IsPlace n (NoneAfter k) = k + 1 < n
IsPlace n (SomeAfter k) = k + 1 < n
