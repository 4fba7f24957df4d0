-- Lemmas on the files of a desk in memory, for its laws: they say nothing that a reader must believe.
use Rattle.std.proofs.Common.{◌≡◌, ◌≤◌, ◌⊎◌, ℕ, Bool, true, false, [], ◌∷◌, ◌++◌, length, refl, inl, inr, sym, subst}
use Rattle.std.specs.Prelude.{◌==◌, if◌then◌else◌, All}
use Rattle.std.proofs.lemmas.Bool.{eqb-true}
use Rattle.std.proofs.lemmas.List.Elements.{All-nil, All-cons, All-append}
use Rattle.pb_desk.specs.declared.buffer.Buffer.{Buffer}
use Rattle.pb_desk.specs.declared.memory_file.MemoryFile.{MemoryFile}
use Rattle.pb_desk.specs.View.{Made}
use Rattle.pb_desk.specs.Desk.{HasSlot}
use Rattle.pb_desk.specs.MemoryState.{file_in, files_of, at_two}

-- the slot is among the files, where its own file was made
in_zero : (newest zero_made one_made : Bool) (zero one : Made) → zero.slot ≡ 0 → zero_made ≡ true → HasSlot 0 (if newest then (if one_made then one ∷ [] else []) ++ (if zero_made then zero ∷ [] else []) else (if zero_made then zero ∷ [] else []) ++ (if one_made then one ∷ [] else []))
in_zero true true true zero one at made = inr (inl at)
in_zero true true false zero one at made = inl at
in_zero false true one_made zero one at made = inl at
in_zero newest false one_made zero one at made = cc

in_one : (newest zero_made one_made : Bool) (zero one : Made) → one.slot ≡ 1 → one_made ≡ true → HasSlot 1 (if newest then (if one_made then one ∷ [] else []) ++ (if zero_made then zero ∷ [] else []) else (if zero_made then zero ∷ [] else []) ++ (if one_made then one ∷ [] else []))
in_one true zero_made true zero one at made = inl at
in_one false true true zero one at made = inr (inl at)
in_one false false true zero one at made = inl at
in_one newest zero_made false zero one at made = cc

-- an open slot is 0 or 1, and open there
open_at_two : (zero one : Bool) (slot : ℕ) → at_two zero one false slot ≡ true → ((slot ≡ 0) × (zero ≡ true)) ⊎ ((slot ≡ 1) × (one ≡ true))
open_at_two zero one slot is_open = by_tests (slot == 0) (slot == 1) refl refl
  where
    by_tests : (a b : Bool) → (slot == 0) ≡ a → (slot == 1) ≡ b → ((slot ≡ 0) × (zero ≡ true)) ⊎ ((slot ≡ 1) × (one ≡ true))
    by_tests true b is_a is_b = inl (eqb-true slot 0 is_a, simp is_a at is_open)
    by_tests false true is_a is_b = inr (eqb-true slot 1 is_b, simp (is_a, is_b) at is_open)
    by_tests false false is_a is_b = let no : false ≡ true = simp (is_a, is_b) at is_open in cc

pub in_files : (newest : Bool) (zero one : MemoryFile) (slot : ℕ) → at_two zero.is_open one.is_open false slot ≡ true → HasSlot slot (files_of newest zero one)
in_files newest zero one slot is_open = elim (open_at_two zero.is_open one.is_open slot is_open) [
  | inl h ↦ subst (λ (n : ℕ). HasSlot n (files_of newest zero one)) (sym h.0) (in_zero newest zero.is_made one.is_made _ _ refl (zero.open_is_made h.1))
  | inr h ↦ subst (λ (n : ℕ). HasSlot n (files_of newest zero one)) (sym h.0) (in_one newest zero.is_made one.is_made _ _ refl (one.open_is_made h.1))
]

-- a file that fits, made or not
one_fits : (most : ℕ) (made : Bool) (file : Made) → length file.bytes ≤ most → All (λ (f : Made). length f.bytes ≤ most) (if made then file ∷ [] else [])
one_fits most true file le = All-cons (λ (f : Made). length f.bytes ≤ most) file [] le (All-nil (λ (f : Made). length f.bytes ≤ most))
one_fits most false file le = All-nil (λ (f : Made). length f.bytes ≤ most)

pub in_room : (most : ℕ) (buffer : Buffer) → buffer.room ≡ most → length buffer.bytes.items ≤ most
in_room most buffer is = subst (λ (n : ℕ). length buffer.bytes.items ≤ n) is buffer.in_room

pub all_fit : (most : ℕ) (newest : Bool) (zero one : MemoryFile) → zero.bytes.room ≡ most → one.bytes.room ≡ most → All (λ (f : Made). length f.bytes ≤ most) (files_of newest zero one)
all_fit most newest zero one is_zero is_one =
    let fits_zero = one_fits most zero.is_made (record { slot = 0; name = zero.name.bytes.items; bytes = zero.bytes.bytes.items }) (in_room most zero.bytes is_zero) in
    let fits_one = one_fits most one.is_made (record { slot = 1; name = one.name.bytes.items; bytes = one.bytes.bytes.items }) (in_room most one.bytes is_one) in
    elim newest as (λ b. All (λ (f : Made). length f.bytes ≤ most) (files_of b zero one)) [
      | true ↦ All-append (λ (f : Made). length f.bytes ≤ most) (file_in 1 one) (file_in 0 zero) fits_one fits_zero
      | false ↦ All-append (λ (f : Made). length f.bytes ≤ most) (file_in 0 zero) (file_in 1 one) fits_zero fits_one
    ]
