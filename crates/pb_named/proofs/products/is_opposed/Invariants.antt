use Rattle.std.proofs.Common.{◌≡◌, length}
use Rattle.pb_named.specs.Products.{is_opposed}
use Rattle.pb_named.proofs.products.is_opposed.Given as goal

abbrev pub invariant-loop-lit : goal.invariant-loop-lit
invariant-loop-lit l = is_opposed l.rest ≡ is_opposed l.lits

abbrev pub decreases-loop-lit : goal.decreases-loop-lit
decreases-loop-lit l = length l.rest
