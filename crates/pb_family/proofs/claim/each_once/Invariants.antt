use Rattle.std.proofs.Common.{◌≡◌, ◌++◌, drop}
use Rattle.std.specs.Prelude.{map}
use Rattle.pb_norm.specs.ClauseForm.{one_of, distinct}
use Rattle.pb_family.proofs.claim.each_once.Given as goal

abbrev pub invariant-loop-place : goal.invariant-loop-place
invariant-loop-place l = l.terms.items ++ map one_of (distinct (drop l.place l.clause)) ≡ map one_of (distinct l.clause)
