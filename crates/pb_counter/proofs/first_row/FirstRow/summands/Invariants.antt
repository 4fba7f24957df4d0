use Rattle.std.proofs.Common.{◌≡◌, ◌+◌, ◌*◌, ◌∷◌, ℕ, map}
use Rattle.std.specs.List.{range_with_len}
use Rattle.pb_counter.proofs.first_row.FirstRow.summands.Given as goal

abbrev pub invariant-loop-place : goal.invariant-loop-place
invariant-loop-place l = l.ids.items ≡ l.fn.self.id ∷ map (λ (j : ℕ). l.fn.self.counts + 2 * j) (range_with_len 0 l.place)
