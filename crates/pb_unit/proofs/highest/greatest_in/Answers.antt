use Rattle.std.proofs.Common.{ℕ, arith}
use Rattle.pb_base.specs.declared.literal.Term.{Term}
use Rattle.pb_unit.specs.Reaching.{IsUpTo}
use Rattle.pb_unit.proofs.UpTo.{most_all, most_next, up_to}
use Rattle.pb_unit.proofs.highest.greatest_in.Goals as goal

pub loop-term-preserved : goal.loop-term-preserved
loop-term-preserved c =
    let is = c.max-most.ensures in
    most_next (λ (m : ℕ) (t : Term). IsUpTo m t.lit.var) (λ m n le t h. up_to m n le t.lit.var h) c.args.terms.now c.loop-term.term-index c.term-item.result (omega arith) c.term-item.is c.loop-term.invariant (omega (arith, is)) (omega (arith, is, c.loop-term.invariant.few, c.index.ensures.value, c.index.ensures.high))
    (record { low = c.index.ensures.low; high = omega (arith, is, c.index.ensures.value) })

pub returns-clause-within : goal.returns-clause-within
returns-clause-within c = most_all (λ (m : ℕ) (t : Term). IsUpTo m t.lit.var) c.args.terms.now c.loop-term.term-index (omega arith) c.loop-term.invariant
