use Rattle.std.proofs.Common.{◌≡◌, ◌+◌, ◌*◌, ◌∷◌, map}
use Rattle.std.specs.List.{range_with_len}
use Rattle.pb_amo.proofs.cells.ids_of.Given as goal

abbrev pub invariant-loop-line : goal.invariant-loop-line
invariant-loop-line l = l.ids.items ≡ l.fn.id ∷ map (λ k. l.fn.base + 2 * k) (range_with_len 0 l.line)
