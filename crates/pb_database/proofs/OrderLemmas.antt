-- The ids of slots ascend.
use Rattle.std.proofs.Common.{◌≤◌, ◌<◌, ◌+◌, ℕ, List, [], ◌∷◌, Bool, arith, length, Option, Some, None}
use Rattle.std.specs.Prelude.{All}
use Rattle.std.specs.List.{AllPairs}
use Rattle.std.proofs.lemmas.List.Elements.{All-nil, All-cons, All-weaker}
use Rattle.std.proofs.lemmas.List.Kept.{AllPairs-cons}
use Rattle.pb_base.proofs.Pairs.{AllPairs-nil}
use Rattle.pb_norm.specs.Constraints.{Constraint}
use Rattle.pb_steps.specs.Database.{Entry}
use Rattle.pb_database.specs.Ordered.{IsOrdered}
use Rattle.pb_database.specs.declared.slots.Slot.{Slot}
use Rattle.pb_database.specs.inner.Slots.{with_entry, entries_from, database_of}

abbrev Ascends : Entry → Entry → Type 0
Ascends d e = d.id < e.id

with_entry-all : (P : Entry → Type 0) (n : ℕ) (o : Option Constraint) (out : Bool) (es : List Entry) → ((c : Constraint) → P (record { id = n; constraint = c; out = out })) → All P es → All P (with_entry n o out es)
with_entry-all P n None out es own rest = rest
with_entry-all P n (Some c) out es own rest = All-cons P (record { id = n; constraint = c; out = out }) es (own c) rest

slots-low : (n : ℕ) (ss : List Slot) → All (λ e. n ≤ e.id) (entries_from n ss)
slots-low n [] = All-nil {X = Entry} (λ e. n ≤ e.id)
slots-low n (s ∷ ss) =
    with_entry-all (λ e. n ≤ e.id) n s.constraint s.out (entries_from (n + 1) ss) (λ c. omega arith)
    (All-weaker {X = Entry} (λ e. n + 1 ≤ e.id) (λ e. n ≤ e.id) (λ e h. omega arith) (entries_from (n + 1) ss) (slots-low (n + 1) ss))

slots-high : (n : ℕ) (ss : List Slot) → All (λ e. e.id < n + length ss) (entries_from n ss)
slots-high n [] = All-nil {X = Entry} (λ e. e.id < n + 0)
slots-high n (s ∷ ss) =
    with_entry-all (λ e. e.id < n + length (s ∷ ss)) n s.constraint s.out (entries_from (n + 1) ss) (λ c. omega arith)
    (All-weaker {X = Entry} (λ e. e.id < n + 1 + length ss) (λ e. e.id < n + length (s ∷ ss)) (λ e h. omega arith) (entries_from (n + 1) ss) (slots-high (n + 1) ss))

with_entry-ascending : (n : ℕ) (o : Option Constraint) (out : Bool) (es : List Entry) → All (λ e. n + 1 ≤ e.id) es → AllPairs Ascends es → AllPairs Ascends (with_entry n o out es)
with_entry-ascending n None out es low ascending = ascending
with_entry-ascending n (Some c) out es low ascending =
    let own : Entry = record { id = n; constraint = c; out = out } in
    AllPairs-cons Ascends own es (All-weaker {X = Entry} (λ e. n + 1 ≤ e.id) (Ascends own) (λ e h. omega arith) es low) ascending

slots-ascending : (n : ℕ) (ss : List Slot) → AllPairs Ascends (entries_from n ss)
slots-ascending n [] = AllPairs-nil Ascends
slots-ascending n (s ∷ ss) = with_entry-ascending n s.constraint s.out (entries_from (n + 1) ss) (slots-low (n + 1) ss) (slots-ascending (n + 1) ss)

pub database_of-ordered : (original vars : ℕ) (ss : List Slot) → IsOrdered (database_of original vars ss)
database_of-ordered original vars ss = record {
  ascending = slots-ascending 1 ss;
  low = slots-low 1 ss;
  high = All-weaker {X = Entry} (λ e. e.id < 1 + length ss) (λ e. e.id < length ss + 1) (λ e h. omega arith) (entries_from 1 ss) (slots-high 1 ss);
}
