-- Constraints that are known by their places.
use Rattle.std.proofs.Common.{◌≤◌, ◌<◌, ◌+◌, ℕ, zero, suc, arith}
use Rattle.std.specs.Prelude.{map}
use Rattle.std.specs.List.{range_with_len}
use Rattle.pb_norm.specs.Constraints.{Constraint}
use Rattle.pb_steps.specs.Database.{Database}
use Rattle.pb_derive.specs.Later.{Knows}
use Rattle.pb_derive.specs.inner.Follows.{AllKnown}

pub known_range : (db : Database) (id : ℕ → ℕ) (s : ℕ → Constraint) (a n : ℕ) → ((k : ℕ) → a ≤ k → k < a + n → Knows db (id k) (s k)) → AllKnown (Knows db) (map id (range_with_len a n)) (map s (range_with_len a n))
known_range db id s a zero h = tt
known_range db id s a (suc n) h = (h a (omega arith) (omega arith), known_range db id s (a + 1) n (λ k low high. h k (omega arith) (omega arith)))
