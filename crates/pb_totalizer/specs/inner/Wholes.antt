-- What always holds of the terms of a totalizer.
use Rattle.std.specs.Prelude.{◌≤◌, ◌<◌, ◌+◌, ◌^◌, ℕ, List, length}
use Rattle.pb_base.specs.declared.literal.Term.{Term}
use Rattle.pb_norm.specs.Constraints.{AllPositive, weight, weights}
use Rattle.pb_tree.specs.Walks.{fresh_over}
use Rattle.pb_totalizer.specs.Totalizer.{totalizer}

pub record IsWhole (ts : List Term) (bound first : ℕ) : Type 0 where
  pub from : 1 ≤ bound
  pub more : bound < length ts
  pub few : length ts < 2 ^ 31
  pub positive : AllPositive (weights ts)
  pub light : weight (weights ts) < 2 ^ 100
  pub low : 1 ≤ first
  pub fits : first + fresh_over (totalizer bound) ts ≤ 2 ^ 31
