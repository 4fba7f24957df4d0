use Rattle.std.proofs.Common.{◌≡◌, ◌∷◌, map, take}
use Rattle.pb_base.specs.Literals.{negated}
use Rattle.pb_norm.proofs.products.literals_imply.Given as goal

abbrev pub invariant-loop-lit : goal.invariant-loop-lit
invariant-loop-lit l = l.clause ≡ l.fn.product ∷ map negated (take l.lit-index l.literals)
