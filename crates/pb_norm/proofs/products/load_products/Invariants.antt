use Rattle.std.proofs.Common.{◌≡◌, ◌+◌, ◌++◌, take}
use Rattle.pb_norm.specs.Products.{defining}
use Rattle.pb_norm.proofs.products.load_products.Given as goal

abbrev pub invariant-loop-place : goal.invariant-loop-place
invariant-loop-place l = l.list.items ≡ l.initial.list.items ++ defining (l.vars + 1) (take l.place l.products)
