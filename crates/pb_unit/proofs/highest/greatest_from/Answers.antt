use Rattle.std.proofs.Common.{ℕ, arith}
use Rattle.pb_base.specs.declared.literal.Lit.{Lit}
use Rattle.pb_unit.specs.Reaching.{IsUpTo, OfLit}
use Rattle.pb_unit.proofs.UpTo.{most_all, most_next, up_to}
use Rattle.pb_unit.proofs.highest.greatest_from.Goals as goal

pub loop-lit-preserved : goal.loop-lit-preserved
loop-lit-preserved c =
    let is = c.max-most.ensures in
    most_next (λ (m : ℕ) (l : Lit). OfLit (IsUpTo m) l) (λ m n le l h. up_to m n le l.var h) c.args.lits.now c.loop-lit.lit-index c.lit-item.result (omega arith) c.lit-item.is c.loop-lit.invariant (omega (arith, is)) (omega (arith, is, c.loop-lit.invariant.few, c.index.ensures.value, c.index.ensures.high))
    (record { low = c.index.ensures.low; high = omega (arith, is, c.index.ensures.value) })

pub returns-clause-within : goal.returns-clause-within
returns-clause-within c = most_all (λ (m : ℕ) (l : Lit). OfLit (IsUpTo m) l) c.args.lits.now c.loop-lit.lit-index (omega arith) c.loop-lit.invariant
