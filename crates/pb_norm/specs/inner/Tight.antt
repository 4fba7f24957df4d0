-- Terms that each reach a degree alone, and weigh no more than a slack. These serve the proofs of the reduction.
use Rattle.std.specs.Prelude.{◌&&◌, nat_lt, ℕ, Bool, not}
use Rattle.pb_norm.specs.Constraints.{Weighted}
use Rattle.pb_norm.specs.Reduction.{is_within}

abbrev pub is_tight : ℕ → ℕ → Weighted → Bool
is_tight degree slack t = not (nat_lt t.coef degree) && is_within slack t
