-- Where a value of a list stands.
use Rattle.std.specs.Prelude.{ℕ, ◌==◌, List}
use Rattle.std.specs.List.{position_or_len}

-- the first place of a value
abbrev pub place_of : ℕ → List ℕ → ℕ
place_of u us = position_or_len (λ x. x == u) us
