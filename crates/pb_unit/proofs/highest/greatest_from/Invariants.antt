use Rattle.std.proofs.Common.{ℕ, take}
use Rattle.pb_base.specs.declared.literal.Lit.{Lit}
use Rattle.pb_unit.specs.Reaching.{IsUpTo, OfLit}
use Rattle.pb_unit.proofs.UpTo.{IsMost}
use Rattle.pb_unit.proofs.highest.greatest_from.Given as goal

abbrev pub invariant-loop-lit : goal.invariant-loop-lit
invariant-loop-lit l = IsMost (λ (m : ℕ) (k : Lit). OfLit (IsUpTo m) k) l.least (take l.lit-index l.lits) l.most
