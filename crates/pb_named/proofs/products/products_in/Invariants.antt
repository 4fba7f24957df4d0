use Rattle.std.proofs.Common.{◌≡◌, map, take}
use Rattle.pb_named.proofs.products.products_in.Given as goal

abbrev pub invariant-loop-set : goal.invariant-loop-set
invariant-loop-set l = l.list ≡ map (λ s. s.items) (take l.set-index l.sets)
