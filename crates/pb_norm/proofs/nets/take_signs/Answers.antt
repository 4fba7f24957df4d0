use Rattle.std.proofs.Common.{◌<◌, ◌^◌, ◌∙◌, length, arith, ap, sym, subst}
use Rattle.std.specs.Int.RustNames.{unsigned_abs}
use Rattle.pb_base.specs.declared.literal.Term.{Term}
use Rattle.pb_norm.specs.inner.Nets.{unsigned_term}
use Rattle.pb_norm.proofs.InPlace.{mapped_next, mapped_more, within}
use Rattle.pb_norm.proofs.nets.take_signs.Goals as goal

pub unsigned-requires : goal.unsigned-requires
unsigned-requires c =
    let f = unsigned_term c.args.half in
    let old = c.args.terms.now in
    let place = c.loop-term.term-index in
    let below_now : place < length c.loop-term.terms = omega (arith, c.loop-term-test.true, c.loop-term.auto.terms) in
    let next = mapped_next f old c.loop-term.terms place c.term-item.result c.loop-term.invariant below_now in
    let below = within f old c.loop-term.terms place c.loop-term.invariant below_now in
    subst (λ (t : Term). unsigned_abs t.coef < 2 ^ 126) (sym next) (c.requires place c.term-item.result below)

pub loop-term-preserved : goal.loop-term-preserved
loop-term-preserved c =
    let below : c.loop-term.term-index < length c.loop-term.terms = omega (arith, c.loop-term-test.true, c.loop-term.auto.terms) in
    mapped_more (unsigned_term c.args.half) c.args.terms.now c.loop-term.terms c.loop-term.term-index c.term-item.result c.unsigned.result c.loop-term.invariant below c.term-item.is (c.unsigned.ensures ∙ ap (unsigned_term c.args.half) (sym c.term-item.is))
