use Rattle.std.proofs.Common.{◌≡◌, ◌≤◌, ◌+◌, ◌*◌, ◌^◌, take, length}
use Rattle.pb_norm.specs.Products.{defining}
use Rattle.pb_encode.proofs.derivation_file.count_products.Given as goal

abbrev pub invariant-loop-literals : goal.invariant-loop-literals
invariant-loop-literals l = (l.count ≡ length (defining (l.vars + 1) (take l.literals-index l.products))) × (l.count ≤ (2 ^ 20 + 1) * l.literals-index)
