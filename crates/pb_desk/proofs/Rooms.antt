-- A file that was full after some bytes of a text has no room for the text.
use Rattle.std.proofs.Common.{◌≡◌, ℕ, ◌+◌, ◌≤◌, ◌<◌, List, [], ◌∷◌, length, refl, subst, arith, length-append, true, false, Bool}
use Rattle.std.specs.Prelude.{◌==◌, IsSomeAnd}
use Rattle.std.specs.Option.{option_map}
use Rattle.std.specs.declared.option.Option.{Option}
use Rattle.std.specs.declared.option.Option.TheVariants.{Some, None}
use Rattle.pb_desk.specs.View.{Made, Told, View, appended, bytes_in, wrote}
use Rattle.pb_desk.specs.Desk.{DeskState, LacksRoom, written}

length-bytes_in-appended : (slot : ℕ) (xs : List ℕ) (files : List Made) → length (bytes_in slot (appended slot xs files)) ≤ length (bytes_in slot files) + length xs
length-bytes_in-appended slot xs [] = omega arith
length-bytes_in-appended slot xs (file ∷ files) = by_test (file.slot == slot) refl (length-bytes_in-appended slot xs files)
  where
    by_test : (found : Bool) → (file.slot == slot) ≡ found → length (bytes_in slot (appended slot xs files)) ≤ length (bytes_in slot files) + length xs → length (bytes_in slot (appended slot xs (file ∷ files))) ≤ length (bytes_in slot (file ∷ files)) + length xs
    by_test true is further = simp is (omega (arith, length-append file.bytes xs))
    by_test false is further = simp is further

pub lacks_room-wrote : (slot : ℕ) (xs : List ℕ) (n k : ℕ) (a b : DeskState) → b.view ≡ wrote slot xs a.view → length xs + n ≤ k → LacksRoom (written slot) n b → LacksRoom (written slot) k a
lacks_room-wrote slot xs n k a b is le lacks = by_parts a.view.room a.view.told (subst (λ (v : View). IsSomeAnd v.room (λ most. IsSomeAnd v.told (λ t. most < length (bytes_in slot t.made) + n))) is lacks)
  where
    by_parts : (room : Option ℕ) (told : Option Told) → IsSomeAnd room (λ most. IsSomeAnd (option_map (λ (t : Told). record t { made = appended slot xs t.made }) told) (λ t. most < length (bytes_in slot t.made) + n)) → IsSomeAnd room (λ most. IsSomeAnd told (λ t. most < length (bytes_in slot t.made) + k))
    by_parts None told h = absurd h
    by_parts (Some most) None h = absurd h
    by_parts (Some most) (Some t) h = omega (arith, length-bytes_in-appended slot xs t.made)
