use Rattle.std.proofs.Common.{◌≤◌, ◌+◌, ◌^◌, List, length, subst, sym, arith}
use Rattle.pb_base.specs.declared.literal.Lit.{Lit}
use Rattle.pb_encode.proofs.ProductSizes.{length-more}
use Rattle.pb_encode.proofs.derivation_file.count_products.Goals as goal

pub loop-literals-preserved : goal.loop-literals-preserved
loop-literals-preserved c =
    let products = c.args.products.now in
    let i = c.loop-literals.literals-index in
    let ls : List Lit = c.literals-item.result in
    let short : length ls ≤ 2 ^ 20 = subst (λ (ks : List Lit). length ks ≤ 2 ^ 20) (sym c.literals-item.is) (c.requires.few i ls c.loop-literals-test.true) in
    let more = length-more (c.args.vars + 1) i products ls c.loop-literals-test.true c.literals-item.is in
    (omega (arith, c.loop-literals.invariant.0, more, c.len.ensures), omega (arith, c.loop-literals.invariant.1, short, c.len.ensures))
