-- How a command ends over a desk, by its specification. Our own.
use Rattle.std.specs.Prelude.{ℕ, ◌≡◌, ◌≢◌, ◌⊎◌, ◌≤◌, List, [], length, Some, None}
use Rattle.pb_base.specs.declared.file.File.TheVariants.{Lrat, Model, Opb, Proof}
use Rattle.pb_base.specs.FaultCounts.{Rose}
use Rattle.pb_desk.specs.Desk.{DeskState, IfTold, IsSteady}
use Rattle.pb_suite.specs.declared.outcome.Outcome.{Outcome}
use Rattle.pb_suite.specs.declared.outcome.Outcome.TheVariants as outcome
use Rattle.pb_suite.specs.Outputs.{nothing, Adds, Output}
use Rattle.pb_suite.specs.CommandSpec.{HasKind, LacksSpace, LacksText, MayStand, CommandSpec, Text, taken_in}

-- a refusal of one of the texts, or of what is to be made of them; a step that is not allowed is one of a derivation's, values are those of a model, and a line that does not refute is one of a refutation's
abbrev pub IsRefusal : List Text → Outcome → Type 0
IsRefusal texts (outcome.Refused file place expected) = HasKind file texts
IsRefusal texts (outcome.Limit (Some file) which place) = HasKind file texts
IsRefusal texts (outcome.Limit None which place) = Unit {0}
IsRefusal texts (outcome.Rejected line denied) = HasKind Proof texts
IsRefusal texts (outcome.NotASolution statement) = HasKind Model texts
IsRefusal texts outcome.NoModel = HasKind Model texts
IsRefusal texts (outcome.NotRefuted line why) = HasKind Lrat texts
IsRefusal texts outcome.NoObjective = HasKind Opb texts
IsRefusal texts other = ⊥

-- no count rose
pub record IsQuiet (old new : DeskState) : Type 0 where
  pub reads : new.read_faults ≡ old.read_faults
  pub writes : new.write_faults ≡ old.write_faults

-- The count of the fault that is told rose by one, and any other stays. With `NoMemory` one write may have failed too.
abbrev pub Counts : DeskState → DeskState → Outcome → Type 0
Counts old new outcome.ReadFault = Rose old.read_faults new.read_faults × (new.write_faults ≡ old.write_faults)
Counts old new outcome.WriteFault = (new.read_faults ≡ old.read_faults) × Rose old.write_faults new.write_faults
Counts old new outcome.NoMemory = (new.read_faults ≡ old.read_faults) × ((new.write_faults ≡ old.write_faults) ⊎ Rose old.write_faults new.write_faults)
Counts old new other = IsQuiet old new

-- With `NoMemory` no write failed; or one did once a file was made, over a steady desk because something is missing for what is specified.
pub data WritesHeld (o : CommandSpec) (out : Output) (old new : DeskState) : Type 0 where
  well : new.write_faults ≡ old.write_faults → WritesHeld o out old new
  cut_off : out.made ≢ [] → (IsSteady old → LacksSpace o old) → WritesHeld o out old new

-- Over every desk, telling or not: all that is due was made and said, and the writing slots are as before; or the due refusal is told, or a read failed, and nothing was added; or a write failed, or memory was wanting before a word was said, and a first part was added.
pub data Answers (o : CommandSpec) (old new : DeskState) : Outcome → Type 0 where
  done : (out : Output) → IfTold old (λ t. o.done t.shelf out) → Adds out old new → ((slot : ℕ) → new.view.writing slot ≡ old.view.writing slot) → Answers o old new outcome.Done
  refused : (answer : Outcome) → IsRefusal o.texts answer → IfTold old (λ t. o.stops t.shelf answer) → Adds nothing old new → Answers o old new answer
  read_fault : Adds nothing old new → Answers o old new outcome.ReadFault
  write_fault : (out : Output) → IfTold old (λ t. MayStand o t.shelf out) → Adds out old new → Answers o old new outcome.WriteFault
  no_memory : (out : Output) → IfTold old (λ t. MayStand o t.shelf out) → Adds out old new → WritesHeld o out old new → out.said ≡ [] → Answers o old new outcome.NoMemory

-- What is specified was done, with a reading slot for each of the texts: no more of them were opened, over every desk. A failed read is told only where what was taken of the texts leaves the answer open, and over a steady desk a fault only for its cause.
pub record Implements (o : CommandSpec) (old new : DeskState) (answer : Outcome) : Type 0 where
  pub answers : Answers o old new answer
  pub opens : (slot : ℕ) → length o.texts ≤ slot → new.view.reading slot ≡ old.view.reading slot
  pub counts : Counts old new answer
  pub unsettled : answer ≡ outcome.ReadFault → IfTold new (λ t. o.leaves_open t.shelf (taken_in new.view t) new.ended)
  pub no_text : IsSteady old → answer ≡ outcome.ReadFault → LacksText o old
  pub no_space : IsSteady old → answer ≡ outcome.WriteFault → LacksSpace o old
