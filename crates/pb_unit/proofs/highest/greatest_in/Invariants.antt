use Rattle.std.proofs.Common.{ℕ, take}
use Rattle.pb_base.specs.declared.literal.Term.{Term}
use Rattle.pb_unit.specs.Reaching.{IsUpTo}
use Rattle.pb_unit.proofs.UpTo.{IsMost}
use Rattle.pb_unit.proofs.highest.greatest_in.Given as goal

abbrev pub invariant-loop-term : goal.invariant-loop-term
invariant-loop-term l = IsMost (λ (m : ℕ) (t : Term). IsUpTo m t.lit.var) l.least (take l.term-index l.terms) l.most
