-- The bytes that a read put into a room, where nothing was ahead.
use Rattle.std.proofs.Common.{◌≡◌, ◌≤◌, ◌<◌, ◌++◌, ℕ, List, [], length, take, drop, sym, ap, ◌∙◌, subst}
use Rattle.std.proofs.lemmas.List.{length-take-le, take-append-drop}
use Rattle.pb_desk.specs.View.{taken}
use Rattle.pb_desk.specs.Desk.{DeskState, Reads, Advances, Gives, IfKept}
use Rattle.pb_desk.proofs.ReadLemmas.{weaker_told}

-- they are so many
took-length : (n count : ℕ) (items room : List ℕ) → n ≡ count → items ≡ room → count ≤ length room → length (take n items) ≡ count
took-length n count items room exact is le = ap (λ (k : ℕ). length (take k items)) exact ∙ ap (λ (xs : List ℕ). length (take count xs)) is ∙ length-take-le count room le

pub filled-taken : (slot n count : ℕ) (items room : List ℕ) (a b : DeskState) → n ≡ count → items ≡ room → count ≤ length room → Reads (taken slot count) a b → IfKept a b (λ t. Gives (t.left slot) count room) → Advances slot (length (take n items)) a b
filled-taken slot n count items room a b exact is le reached gives =
    subst (λ (k : ℕ). Advances slot k a b) (sym (took-length n count items room exact is le))
    (record { reached = reached; were_left = λ k. weaker_told a (λ t. Gives (t.left slot) count room) (λ t. count ≤ length (t.left slot)) (λ t g. g.enough) (gives k) })

pub filled-bytes : (slot n count : ℕ) (items room : List ℕ) (a b : DeskState) → n ≡ count → items ≡ room → count ≤ length room → IfKept a b (λ t. Gives (t.left slot) count room) → IfKept a b (λ t. t.left slot ≡ take n items ++ drop (length (take n items)) (t.left slot))
filled-bytes slot n count items room a b exact is le gives = λ k.
    weaker_told a (λ t. Gives (t.left slot) count room) (λ t. t.left slot ≡ take n items ++ drop (length (take n items)) (t.left slot))
    (λ t g. subst (λ (k : ℕ). t.left slot ≡ take n items ++ drop k (t.left slot)) (sym (took-length n count items room exact is le))
    (sym (take-append-drop count (t.left slot)) ∙ ap (λ (xs : List ℕ). xs ++ drop count (t.left slot)) (sym (ap (λ (k : ℕ). take k items) exact ∙ ap (take count) is ∙ g.bytes))))
    (gives k)

pub filled-end : (slot n count : ℕ) (items room : List ℕ) (a b : DeskState) → n ≡ count → items ≡ room → count ≤ length room → 0 < length room → IfKept a b (λ t. Gives (t.left slot) count room) → take n items ≡ [] → IfKept a b (λ t. t.left slot ≡ [])
filled-end slot n count items room a b exact is le some gives none = λ k.
    weaker_told a (λ t. Gives (t.left slot) count room) (λ t. t.left slot ≡ []) (λ t g. g.end (sym (took-length n count items room exact is le) ∙ ap length none) some) (gives k)
