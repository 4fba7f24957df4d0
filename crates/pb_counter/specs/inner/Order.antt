-- The places of a counter's clauses by their numbers.
use Rattle.std.specs.Prelude.{ℕ, ◌≤◌, ◌<◌, ◌+◌, ◌-◌, ◌*◌, ◌/◌, ◌%◌, ◌==◌, nat_lt, if◌then◌else◌}
use Rattle.pb_counter.specs.declared.place.Place.{Place}
use Rattle.pb_counter.specs.declared.place.Place.TheVariants.{Start, Below, One, Keep, More, Stop}

-- in a later row
abbrev pub turn_at : ℕ → ℕ → ℕ → ℕ → Place
turn_at n width i k =
    if i == n - 2 then Stop i
    else if k == 2 * width then Stop i
    else if k == 0 then One i
    else if k % 2 == 0 then More i (k / 2 - 1)
    else Keep i (k / 2)

abbrev pub place_at : ℕ → ℕ → ℕ → Place
place_at n width k =
    if k == 0 then Start
    else if nat_lt k width then Below k
    else turn_at n width ((k - width) / (2 * width + 1)) ((k - width) % (2 * width + 1))

-- the rows and places that there are
abbrev pub IsPlace : ℕ → ℕ → Place → Type 0
IsPlace n width Start = Unit {0}
IsPlace n width (Below j) = (1 ≤ j) × (j < width)
IsPlace n width (One i) = i + 2 < n
IsPlace n width (Keep i j) = (i + 2 < n) × (j < width)
IsPlace n width (More i j) = (i + 2 < n) × (j + 1 < width)
IsPlace n width (Stop i) = i + 1 < n
