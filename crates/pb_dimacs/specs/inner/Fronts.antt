-- What the first bytes of a part of a line spell. This serves the proofs that a word in the usual layout is read as it is defined.
use Rattle.std.specs.Prelude.{◌≡◌, ◌≤◌, ◌<◌, ℕ, ℤ, false, List, length, take, drop, slice_index_or}
use Rattle.std.specs.List.{AllByRecursion}
use Rattle.pb_base.specs.declared.number.Number.TheVariants.{Value}
use Rattle.pb_base.specs.Numbers.{limited_number}
use Rattle.pb_base.specs.Tokens.{is_white}
use Rattle.pb_base.specs.Words.{goes_on}

-- an integer, with which a word ends
pub record IsIntegerAt (bytes : List ℕ) (n : ℤ) (count : ℕ) : Type 0 where
  pub some : 0 < count
  pub within : count ≤ length bytes
  pub black : AllByRecursion (λ b. is_white b ≡ false) (take count bytes)
  pub value : limited_number (take count bytes) ≡ Value n
  pub ends : goes_on (drop count bytes) ≡ false

-- there is a first byte, and it is this one
pub record BeginsByte (byte : ℕ) (bytes : List ℕ) : Type 0 where
  pub some : 1 ≤ length bytes
  pub first : slice_index_or bytes 0 0 ≡ byte
