-- What a walk along a tree asks of its parts.
use Rattle.std.specs.Prelude.{◌≡◌, ◌≤◌, ◌<◌, ◌+◌, ◌^◌, ℕ, List, All, length}
use Rattle.pb_base.specs.declared.literal.Term.{Term}
use Rattle.pb_norm.specs.Constraints.{AllPositive, weight, weights}
use Rattle.pb_tree.specs.Halves.{Halves}
use Rattle.pb_tree.specs.Scheme.{Scheme, fresh_of, values}
use Rattle.pb_tree.specs.Tree.{Tree, tree_of}

abbrev pub fresh_over : Scheme → List Term → ℕ
fresh_over s ts = fresh_of s (tree_of (weights ts))

-- positive terms that are not too heavy, whose fresh variables stand behind so many, and are no more than are left of all
pub record Suits (s : Scheme) (most : ℕ) (ts : List Term) (before : ℕ) : Type 0 where
  pub positive : AllPositive (weights ts)
  pub light : weight (weights ts) < 2 ^ 100
  pub fits : before + fresh_over s ts ≤ most

-- a node's own fresh variables stand behind those of its two halves
pub record AreParts (s : Scheme) (ts front back : List Term) (before next : ℕ) : Type 0 where
  pub halves : Halves ts front back
  pub behind : next ≡ before + fresh_over s front + fresh_over s back

-- positive terms that are not too heavy, with the first of their fresh variables; all values of parts are within their range
pub record IsTreeSum (s : Scheme) (ts : List Term) (first : ℕ) : Type 0 where
  pub some : 1 ≤ length ts
  pub positive : AllPositive (weights ts)
  pub light : weight (weights ts) < 2 ^ 100
  pub low : 1 ≤ first
  pub fits : first + fresh_over s ts ≤ 2 ^ 31
  pub small : (t : Tree) → All (λ u. u < 2 ^ 101) (values s t)
