-- What always holds of the terms of a generalized totalizer.
use Rattle.std.specs.Prelude.{◌≤◌, ◌<◌, ◌+◌, ◌^◌, ℕ, List, length}
use Rattle.pb_base.specs.declared.literal.Term.{Term}
use Rattle.pb_norm.specs.Constraints.{AllPositive, weight, weights}
use Rattle.pb_tree.specs.Walks.{fresh_over}
use Rattle.pb_gentot.specs.Generalized.{generalized}

pub record IsWhole (ts : List Term) (bound first : ℕ) : Type 0 where
  pub some : 1 ≤ length ts
  pub small : bound < 2 ^ 100
  pub positive : AllPositive (weights ts)
  pub light : weight (weights ts) < 2 ^ 100
  pub low : 1 ≤ first
  pub fits : first + fresh_over (generalized bound) ts ≤ 2 ^ 31
