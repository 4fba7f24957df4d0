-- What is implemented after a step that adds nothing is implemented from before it.
use Rattle.std.proofs.Common.{◌∙◌, ◌<◌, ◌+◌, ℕ, List, Option, Some, None, inl, inr, length, subst}
use Rattle.std.specs.Prelude.{IsNone, IsSomeAnd}
use Rattle.std.proofs.lemmas.List.{append-nil}
use Rattle.pb_desk.specs.View.{Told}
use Rattle.pb_desk.specs.Desk.{DeskState, IfTold, IsTaken, IsTold}
use Rattle.pb_base.proofs.FaultCounts.{rose_later}
use Rattle.pb_suite.specs.declared.outcome.Outcome.{Outcome}
use Rattle.pb_suite.specs.declared.outcome.Outcome.TheVariants as outcome
use Rattle.pb_suite.specs.Implementing.{Answers, Counts, IsQuiet, Implements, WritesHeld}
use Rattle.pb_suite.specs.Implementing.Answers.{done, refused, read_fault, write_fault, no_memory}
use Rattle.pb_suite.specs.Implementing.WritesHeld.{cut_off, well}
use Rattle.pb_suite.specs.Outputs.{nothing, IsMore, LacksFor, Output}
use Rattle.pb_suite.specs.Outputs.LacksFor.{is_taken, no_room, no_words}
use Rattle.pb_suite.specs.CommandSpec.{LacksSpace, LacksText, MayStand, CommandSpec, Shelf}
use Rattle.pb_suite.proofs.Going.{adds_after, keeps, Goes, was_told, was_if_told}

module _ {few : ℕ} (a b : DeskState) (goes : Goes few nothing a b) where
  -- what holds of a shelf
  of_shelf : (P : Shelf → Type 0) (t u : Told) → IsMore nothing t u → P u.shelf → P t.shelf
  of_shelf P t u more holds = subst P more.shelf holds

  pub shelf_was : (P : Shelf → Type 0) → IsTold b (λ t. P t.shelf) → IsTold a (λ t. P t.shelf)
  shelf_was P holds = was_told (λ t. P t.shelf) (λ t. P t.shelf) a b goes (of_shelf P) holds

  pub shelf_was_if : (P : Shelf → Type 0) → IfTold b (λ t. P t.shelf) → IfTold a (λ t. P t.shelf)
  shelf_was_if P holds = was_if_told (λ t. P t.shelf) (λ t. P t.shelf) a b goes (of_shelf P) holds

  -- what holds of the room
  some_more : (x : Option ℕ) (P Q : ℕ → Type 0) → ((most : ℕ) → P most → Q most) → IsSomeAnd x P → IsSomeAnd x Q
  some_more None P Q gives holds = absurd holds
  some_more (Some most) P Q gives holds = gives most holds

  room_was : (P Q : ℕ → Type 0) → ((most : ℕ) → P most → Q most) → IsSomeAnd b.view.room P → IsSomeAnd a.view.room Q
  room_was P Q gives holds = some_more a.view.room P Q gives (subst (λ (x : Option ℕ). IsSomeAnd x P) goes.adds.room holds)

  lacks_for_was : (out : Output) → LacksFor out b → LacksFor out a
  lacks_for_was out (is_taken file has taken) = is_taken file has (was_told (λ u. IsTaken file.slot file.name u.made) (λ t. IsTaken file.slot file.name t.made) a b goes (λ t u more holds. subst (IsTaken file.slot file.name) more.made holds) taken)
  lacks_for_was out (no_room file has lacks) = no_room file has (room_was (λ most. most < length file.bytes) (λ most. most < length file.bytes) (λ most holds. holds) lacks)
  lacks_for_was out (no_words lacks) = no_words (room_was (λ most. IsTold b (λ t. most < length t.said + length out.said)) (λ most. IsTold a (λ t. most < length t.said + length out.said))
      (λ most holds. was_told (λ t. most < length t.said + length out.said) (λ t. most < length t.said + length out.said) a b goes (λ t u more full. words_were most t u more full) holds) lacks)
    where
      words_were : (most : ℕ) (t u : Told) → IsMore nothing t u → most < length u.said + length out.said → most < length t.said + length out.said
      words_were most t u more full = subst (λ (xs : List ℕ). most < length xs + length out.said) (more.said ∙ append-nil t.said) full

module _ (o : CommandSpec) (a b d : DeskState) (goes : Goes (length o.texts) nothing a b) where
  lacks_text_was : LacksText o b → LacksText o a
  lacks_text_was lacks = (lacks.0, lacks.1, shelf_was a b goes (λ shelf. IsNone (shelf lacks.0.name)) lacks.2, shelf_was a b goes (λ shelf. o.stops shelf outcome.ReadFault) lacks.3)

  lacks_space_was : LacksSpace o b → LacksSpace o a
  lacks_space_was lacks = (lacks.0, shelf_was a b goes (λ shelf. o.done shelf lacks.0) lacks.1, lacks_for_was a b goes lacks.0 lacks.2)

  held_after : (out : Output) → WritesHeld o out b d → WritesHeld o out a d
  held_after out (well same) = well (same ∙ goes.writes)
  held_after out (cut_off some lacks) = cut_off some (λ steady. lacks_space_was (lacks (goes.adds.steady ∙ steady)))

  answers_after : (answer : Outcome) → Answers o b d answer → Answers o a d answer
  answers_after _ (done out due adds stays) = done out (shelf_was_if a b goes (λ shelf. o.done shelf out) due) (adds_after out a b d goes adds) (λ slot. stays slot ∙ keeps a b goes slot)
  answers_after _ (refused answer is due adds) = refused answer is (shelf_was_if a b goes (λ shelf. o.stops shelf answer) due) (adds_after nothing a b d goes adds)
  answers_after _ (read_fault adds) = read_fault (adds_after nothing a b d goes adds)
  answers_after _ (write_fault out part adds) = write_fault out (shelf_was_if a b goes (λ shelf. MayStand o shelf out) part) (adds_after out a b d goes adds)
  answers_after _ (no_memory out part adds held silent) = no_memory out (shelf_was_if a b goes (λ shelf. MayStand o shelf out) part) (adds_after out a b d goes adds) (held_after out held) silent

  quiet_after : IsQuiet b d → IsQuiet a d
  quiet_after quiet = record { reads = quiet.reads ∙ goes.reads; writes = quiet.writes ∙ goes.writes }

  counts_after : (answer : Outcome) → Counts b d answer → Counts a d answer
  counts_after outcome.Done counts = quiet_after counts
  counts_after (outcome.Refused file place expected) counts = quiet_after counts
  counts_after outcome.Usage counts = quiet_after counts
  counts_after (outcome.Limit file which place) counts = quiet_after counts
  counts_after outcome.ReadFault counts = (rose_later a.read_faults b.read_faults d.read_faults goes.reads counts.0, counts.1 ∙ goes.writes)
  counts_after outcome.WriteFault counts = (counts.0 ∙ goes.reads, rose_later a.write_faults b.write_faults d.write_faults goes.writes counts.1)
  counts_after outcome.NoMemory (reads, inl same) = (reads ∙ goes.reads, inl (same ∙ goes.writes))
  counts_after outcome.NoMemory (reads, inr rose) = (reads ∙ goes.reads, inr (rose_later a.write_faults b.write_faults d.write_faults goes.writes rose))
  counts_after (outcome.Rejected line denied) counts = quiet_after counts
  counts_after (outcome.NotASolution statement) counts = quiet_after counts
  counts_after outcome.NoModel counts = quiet_after counts
  counts_after outcome.NoObjective counts = quiet_after counts
  counts_after (outcome.NotRefuted line why) counts = quiet_after counts

  pub implements_after : (answer : Outcome) → Implements o b d answer → Implements o a d answer
  implements_after answer implements = record {
    answers = answers_after answer implements.answers;
    opens = λ slot le. implements.opens slot le ∙ goes.reading slot le;
    counts = counts_after answer implements.counts;
    unsettled = implements.unsettled;
    no_text = λ steady is. lacks_text_was (implements.no_text (goes.adds.steady ∙ steady) is);
    no_space = λ steady is. lacks_space_was (implements.no_space (goes.adds.steady ∙ steady) is);
  }
