-- Numbers in two's complement, as words of 64 bits.
use Rattle.std.specs.Prelude.{ℕ, ℤ, pos, ◌+ℤ◌, ◌*ℤ◌, ◌-ℤ◌, nat_lt, if◌then◌else◌}

-- one word
abbrev pub signed : ℕ → ℤ
signed w = if nat_lt w 9223372036854775808 then pos w else pos w -ℤ pos 18446744073709551616

-- two words, of which the high one has the sign
abbrev pub wide : ℕ → ℕ → ℤ
wide low high = signed high *ℤ pos 18446744073709551616 +ℤ pos low
