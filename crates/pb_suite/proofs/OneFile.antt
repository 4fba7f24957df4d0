-- How making one file and saying words ends a command that is to do both.
use Rattle.std.proofs.Common.{◌≡◌, ℕ, List, [], ◌∷◌, None, take, length, inl, inr, refl, false}
use Rattle.std.specs.Prelude.{IsSome}
use Rattle.pb_base.proofs.Members.{Contains-here}
use Rattle.pb_desk.specs.View.{View, spoke}
use Rattle.pb_desk.specs.Desk.{DeskState, FailsToWrite, IfTold, IsSteady, LacksRoom, Reaches, same, words}
use Rattle.pb_encode.specs.Encodings.{begun, made, LacksToMake, LeavesPart, StopsMaking}
use Rattle.pb_encode.specs.Encodings.LacksToMake.{is_taken as making_taken, no_room as making_room}
use Rattle.pb_encode.specs.Encodings.LeavesPart.{cut_off, left}
use Rattle.pb_encode.specs.Encodings.StopsMaking.{not_made as making_not, in_text as making_in}
use Rattle.pb_suite.specs.declared.outcome.Outcome.TheVariants as outcome
use Rattle.pb_suite.specs.Implementing.{Implements}
use Rattle.pb_suite.specs.Outputs.{nothing, IsPartOf, LacksFor, Output}
use Rattle.pb_suite.specs.Outputs.IsPartOf.{of_file, of_words}
use Rattle.pb_suite.specs.Outputs.LacksFor.{is_taken, no_room, no_words}
use Rattle.pb_suite.specs.CommandSpec.{LacksSpace, MayStand, CommandSpec}
use Rattle.pb_suite.specs.EncodeSpec.{file_of}
use Rattle.pb_suite.proofs.Endings.{all_done, always, is_unheld, is_unwritten, wants_memory}
use Rattle.pb_suite.proofs.Filing.{by_begun, by_made, by_spoken, only_files, spoken_keeps}
use Rattle.pb_suite.proofs.Going.{by_same, goes_by}
use Rattle.pb_suite.proofs.Texts.{is_told_so, told_more}

module _ (o : CommandSpec) (name text summary : List ℕ) (Fine : Type 0) (b d : DeskState) (tells : IsSteady b → IsSome b.view.told)
    (due : Fine → IfTold b (λ t. o.done t.shelf (record { made = file_of 0 name text ∷ []; said = summary }))) where
  abbrev whole : Output
  whole = record { made = file_of 0 name text ∷ []; said = summary }

  -- the file, and these words
  abbrev pub spoken : List ℕ → View → View
  spoken said view = spoke said (made 0 name text view)

  -- ---- first parts

  part_of : (out : Output) → IsPartOf whole out → Fine → IfTold b (λ t. MayStand o t.shelf out)
  part_of out is_part is = told_more b (λ t. o.done t.shelf whole) (λ t. MayStand o t.shelf out) (λ t holds. inr (whole, holds, is_part)) (due is)

  file_part : (n : ℕ) → Fine → IfTold b (λ t. MayStand o t.shelf (only_files name (take n text) None []))
  file_part n is = part_of (only_files name (take n text) None []) (of_file [] (file_of 0 name text) [] n refl) is

  words_part : (n : ℕ) → Fine → IfTold b (λ t. MayStand o t.shelf (record { made = whole.made; said = take n summary }))
  words_part n is = part_of (record { made = whole.made; said = take n summary }) (of_words n) is

  -- ---- what lacks

  lacks_file : LacksToMake 0 name text b → LacksFor whole b
  lacks_file (making_taken taken) = is_taken (file_of 0 name text) (Contains-here (file_of 0 name text) []) taken
  lacks_file (making_room lacks) = no_room (file_of 0 name text) (Contains-here (file_of 0 name text) []) lacks

  lacks : Fine → (IsSteady b → LacksFor whole b) → IsSteady b → LacksSpace o b
  lacks is why steady = (whole, is_told_so b (λ t. o.done t.shelf whole) (λ t. o.done t.shelf whole) (λ t holds. holds) (tells steady) (due is), why steady)

  -- ---- how it ends

  pub file_stops : Fine → (IsSteady b → LacksToMake 0 name text b) → StopsMaking 0 name text b d → Implements o b d outcome.WriteFault
  file_stops is why (making_not fails) = is_unwritten o b d nothing same (by_same (length o.texts)) fails (always b (λ t. MayStand o t.shelf nothing) (λ t. inl refl)) (lacks is (λ steady. lacks_file (why steady)))
  file_stops is why (making_in n fails) = is_unwritten o b d _ (begun 0 name (take n text)) (by_begun (length o.texts) name (take n text)) fails (file_part n is) (lacks is (λ steady. lacks_file (why steady)))

  pub file_wants : Fine → LeavesPart 0 name text b d → Implements o b d outcome.NoMemory
  file_wants is (left n reached) = wants_memory o b d _ (goes_by (length o.texts) _ (begun 0 name (take n text)) b d (by_begun (length o.texts) name (take n text)) reached) (file_part n is) refl
  file_wants is (cut_off n fails why) = is_unheld o b d _ (begun 0 name (take n text)) (by_begun (length o.texts) name (take n text)) (λ e. cc) fails (file_part n is) (lacks is (λ steady. lacks_file (why steady))) refl

  -- the file was made, and no word was said
  pub words_want : Fine → Reaches (made 0 name text) b d → Implements o b d outcome.NoMemory
  words_want is far = wants_memory o b d _ (goes_by (length o.texts) _ (made 0 name text) b d (by_made (length o.texts) name text) far) (words_part 0 is) refl

  pub words_stop : Fine → (n : ℕ) → FailsToWrite (spoken (take n summary)) b d → (IsSteady b → LacksRoom words (length summary) b) → Implements o b d outcome.WriteFault
  words_stop is n fails why = is_unwritten o b d _ (spoken (take n summary)) (by_spoken (length o.texts) name text (take n summary)) fails (words_part n is) (lacks is (λ steady. no_words (why steady)))

  pub all_said : Fine → Reaches (spoken summary) b d → ((slot : ℕ) → b.view.writing slot ≡ false) → Implements o b d outcome.Done
  all_said is far free = all_done o b d whole (goes_by (length o.texts) whole (spoken summary) b d (by_spoken (length o.texts) name text summary) far) (spoken_keeps name text summary b d far.view free) (due is)
