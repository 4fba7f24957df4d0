-- The law of the desk of a system on its open files, proved.
use Rattle.std.proofs.Common.{◌≡◌, ℕ, Bool, true, false, List, [], ◌∷◌, refl, inl, inr}
use Rattle.std.specs.Prelude.{◌==◌, ◌||◌, IfSome}
use Rattle.std.specs.Option.{option_map, ForSome}
use Rattle.std.specs.declared.option.Option.{Option}
use Rattle.std.specs.declared.option.Option.TheVariants.{Some, None}
use Rattle.std.proofs.lemmas.Bool.{eqb-true, false≢true}
use Rattle.pb_desk.specs.View.{Made}
use Rattle.pb_desk.specs.Desk.{HasSlot}
use Rattle.pb_files.specs.Asked.{marked}
use Rattle.pb_files.specs.Calls.{Call}
use Rattle.pb_files.specs.Replay.{Shelf, has_slot, made_of, told_of}

slot_is_had : (slot : ℕ) (files : List Made) → has_slot slot files ≡ true → HasSlot slot files
slot_is_had slot [] has = absurd (false≢true has)
slot_is_had slot (file ∷ files) has = by_test (file.slot == slot) refl has (slot_is_had slot files)
  where
    by_test : (found : Bool) → (file.slot == slot) ≡ found → (found || has_slot slot files) ≡ true → (has_slot slot files ≡ true → HasSlot slot files) → HasSlot slot (file ∷ files)
    by_test true is has further = inl (eqb-true file.slot slot is)
    by_test false is has further = inr (further has)

-- an open slot has a file
pub open_files : (files : Shelf) (calls : Option (List Call)) (writing : List Bool) (slot : ℕ) → ((slot : ℕ) → marked writing slot ≡ true → ForSome calls (λ cs. has_slot slot (made_of cs) ≡ true))
    → marked writing slot ≡ true → IfSome (option_map (told_of files) calls) (λ t. HasSlot slot t.made)
open_files files None writing slot has is_open = tt
open_files files (Some cs) writing slot has is_open = slot_is_had slot (made_of cs) (has slot is_open cs refl)
