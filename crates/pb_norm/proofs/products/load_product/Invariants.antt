use Rattle.std.proofs.Common.{◌≡◌, ◌++◌, take}
use Rattle.pb_norm.specs.Products.{product_constraints}
use Rattle.pb_norm.proofs.products.load_product.Given as goal

abbrev pub invariant-loop-place : goal.invariant-loop-place
invariant-loop-place l = l.list.items ≡ l.initial.list.items ++ take l.place (product_constraints l.product l.literals)
