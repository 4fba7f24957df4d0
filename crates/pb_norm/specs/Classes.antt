-- What is known of what is left of a constraint, by its class.
use Rattle.std.specs.Prelude.{◌≡◌, ◌≤◌, ◌+◌, true, length}
use Rattle.pb_norm.specs.declared.reduction.Rest.{Rest}
use Rattle.pb_norm.specs.declared.reduction.Rest.TheVariants.{Nothing, Empty, Clause, One, Card, General}
use Rattle.pb_norm.specs.BoundedSums.{BoundedSum, IsProper}
use Rattle.pb_norm.specs.Reduction.{all_weigh}

-- at most so many of more literals: two or more of them, and two or more are left out
pub record IsCardinality (m : BoundedSum) : Type 0 where
  pub two : 2 ≤ m.bound
  pub two_more : m.bound + 2 ≤ length m.terms
  pub units : all_weigh 1 m.terms ≡ true
  pub proper : IsProper m

-- at most one of at least three literals
pub record IsAtMostOne (m : BoundedSum) : Type 0 where
  pub one : m.bound ≡ 1
  pub three : 3 ≤ length m.terms
  pub units : all_weigh 1 m.terms ≡ true
  pub proper : IsProper m

abbrev pub RestIs : Rest → Type 0
RestIs Nothing = Unit {0}
RestIs Empty = Unit {0}
RestIs (Clause ls) = Unit {0}
RestIs (One m) = IsAtMostOne m
RestIs (Card m) = IsCardinality m
RestIs (General m) = IsProper m
