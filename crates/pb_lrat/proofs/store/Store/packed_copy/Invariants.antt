use Rattle.std.proofs.Common.{◌≡◌, ◌≤◌, ◌<◌, ℕ, take, length, get_or}
use Rattle.pb_lrat.specs.inner.Stores.{kept_in}
use Rattle.pb_lrat.proofs.store.Store.packed_copy.Given as goal

abbrev pub invariant-loop-place : goal.invariant-loop-place
invariant-loop-place l = record {
  live : l.store.live ≡ kept_in l.self-inside.lits.items (take l.place l.self-inside.ids.items) (take l.place l.self-inside.spans.items);
  most : l.store.last ≤ l.self-inside.last;
  next : (i : ℕ) → l.place ≤ i → i < length l.self-inside.ids.items → l.store.last < get_or l.self-inside.ids.items i 0;
}
