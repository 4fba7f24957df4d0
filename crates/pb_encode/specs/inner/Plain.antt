-- Statements that plainly are clauses. They serve proofs alone.
use Rattle.std.specs.Prelude.{◌≡◌, ◌≤◌, List, length, map}
use Rattle.pb_base.specs.declared.literal.Lit.{Lit}
use Rattle.pb_base.specs.declared.problem.Raw.{Raw}
use Rattle.pb_norm.specs.ClauseForm.{one_of}
use Rattle.pb_norm.specs.Constraints.{Constraint, constraint_of}
use Rattle.pb_encode.specs.Groups.{group_of}
use Rattle.pb_encode.specs.declared.groups.Group.TheVariants.{Alone}

-- one of the literals is true
abbrev pub ones_of : List Lit → Constraint
ones_of ls = constraint_of (map one_of ls) 1

pub record IsPlain (s : Raw) (ls : List Lit) : Type 0 where
  pub group : group_of s ≡ Alone (ones_of ls)
  pub some : 2 ≤ length ls
