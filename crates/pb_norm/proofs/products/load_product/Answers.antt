use Rattle.std.proofs.Common.{◌++◌, List, ap, ◌∙◌, arith}
use Rattle.pb_norm.specs.Constraints.{Constraint}
use Rattle.pb_norm.proofs.ProductLemmas.{product_pushed, product_all}
use Rattle.pb_norm.proofs.products.load_product.Goals as goal

pub loop-place-preserved : goal.loop-place-preserved
loop-place-preserved c =
    product_pushed c.args.product.now c.args.literals.now c.loop-place.place c.in_ok-constraint.constraint _ c.loop-place.list.items c.push.new.self.items
    (omega (arith, c.loop-place-test.true)) c.in_ok-constraint.ensures c.loop-place.invariant c.in_ok-push.ensures.items

pub returns : goal.returns
returns c =
    c.loop-place.invariant ∙ ap (λ (cs : List Constraint). c.args.list.now.items ++ cs) (product_all c.args.product.now c.args.literals.now c.loop-place.place (omega (arith, c.loop-place-test.false)))
