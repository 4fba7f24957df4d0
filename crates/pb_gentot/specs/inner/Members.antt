-- Lists with the same members.
use Rattle.std.specs.Prelude.{ℕ, List, Contains}

pub record SameMembers (xs ys : List ℕ) : Type 0 where
  pub to : (n : ℕ) → Contains xs n → Contains ys n
  pub from : (n : ℕ) → Contains ys n → Contains xs n
