use Rattle.std.proofs.Common.{◌∷◌, [], refl, arith}
use Rattle.pb_base.specs.declared.literal.Term.{Term}
use Rattle.pb_steps.specs.declared.op.PolOp.TheVariants.{Push, Weaken}
use Rattle.pb_family.proofs.Gathered.{map_next, map_last}
use Rattle.pb_counter.proofs.halves.narrow_ops.Goals as goal

pub loop-term-preserved : goal.loop-term-preserved
loop-term-preserved c =
    map_next (λ (t : Term). Weaken t.lit.var) c.args.terms.now c.loop-term.term-index c.term-item.result (Push c.args.whole ∷ []) c.loop-term.ops.items c.push.new.self.items (Weaken c.term-item.result.lit.var) (omega arith) c.term-item.is
    c.loop-term.invariant c.in_ok-push.ensures.items refl

pub returns : goal.returns
returns c = map_last (λ (t : Term). Weaken t.lit.var) c.args.terms.now c.loop-term.term-index (Push c.args.whole ∷ []) c.loop-term.ops.items (omega arith) c.loop-term.invariant
