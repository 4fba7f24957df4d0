-- Numbers that are written in digits alone. Our own.
use Rattle.std.specs.Prelude.{◌&&◌, ℕ, nat_le, Option, option_and_then}
use Rattle.std.specs.Bool.{then_some}
use Rattle.clap.specs.Words.{Text}
use Rattle.pb_base.specs.Numbers.{natural_of}

-- the number that a word of digits spells, where it is from `least` to `most`
abbrev pub number_within : ℕ → ℕ → Text → Option ℕ
number_within least most word = option_and_then (λ n. then_some (nat_le least n && nat_le n most) n) (natural_of word)
