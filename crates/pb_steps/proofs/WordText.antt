-- How long printed numbers are.
use Rattle.std.proofs.Common.{◌≤◌, ◌<◌, ◌^◌, ℕ, length, arith}
use Rattle.std.specs.Prelude.{decimal}
use Rattle.std.proofs.lemmas.Fmt.{length-decimal-le}

-- a number of 64 bits has at most twenty digits
pub short : (n : ℕ) → n < 2 ^ 64 → length (decimal n) ≤ 20
short n below = length-decimal-le 20 n (omega arith) (omega arith) (omega arith)
