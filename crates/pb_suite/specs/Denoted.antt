-- That a text says a problem, with a bound on its objective where one is given. Our own.
use Rattle.std.specs.Prelude.{ℕ, ◌≡◌, ◌<◌, ◌^◌, ℤ, List, Option, Some, IfSome}
use Rattle.std.specs.Option.{option_map_or}
use Rattle.pb_base.specs.declared.problem.Problem.{Problem}
use Rattle.pb_opb.specs.Bounded.{bound_weight, bounded}
use Rattle.pb_opb.specs.Faults.{Reads}
use Rattle.pb_suite.specs.CommandSpec.{Shelf}

-- The text says a plain problem, to which a bound that is given may be added, and with it that is this one.
pub record Denotes (bound : Option ℤ) (text : List ℕ) (p : Problem) : Type 0 where
  pub plain : Problem
  pub reads : Reads text plain
  pub light : IfSome bound (λ b. bound_weight plain b < 2 ^ 100)
  pub is : p ≡ option_map_or (bounded plain) bound plain

-- the text of this name denotes this problem
pub record IsDenoted (shelf : Shelf) (name : List ℕ) (bound : Option ℤ) (p : Problem) : Type 0 where
  pub text : List ℕ
  pub on_shelf : shelf name ≡ Some text
  pub denotes : Denotes bound text p
