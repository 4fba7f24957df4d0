use Rattle.std.proofs.Common.{◌+◌, rules}
use Rattle.pb_norm.proofs.ProductLemmas.{defining_pushed}
use Rattle.pb_norm.proofs.products.load_products.Goals as goal

pub loop-place-preserved : goal.loop-place-preserved
loop-place-preserved c =
    defining_pushed (c.args.vars + 1) c.loop-place.place c.product_variable-product.result c.args.products.now c.as_slice.result.now _ c.loop-place.list.items c.load_product.new.list.items
    (search rules) c.product_variable-product.ensures (search rules) c.loop-place.invariant c.in_ok-load_product.ensures
