-- The ways in which a command ends, whatever its specification.
use Rattle.std.proofs.Common.{◌≡◌, ◌≢◌, List, [], Option, Some, None, inl, inr, refl, subst, ap, ◌∙◌, length, ℕ}
use Rattle.std.specs.Prelude.{IfSome}
use Rattle.pb_desk.specs.View.{Told, View}
use Rattle.pb_desk.specs.Desk.{DeskState, FailsToRead, FailsToWrite, IfTold, IsSteady}
use Rattle.pb_suite.specs.declared.outcome.Outcome.{Outcome}
use Rattle.pb_suite.specs.declared.outcome.Outcome.TheVariants as outcome
use Rattle.pb_suite.specs.Implementing.{Counts, IsQuiet, IsRefusal, Implements}
use Rattle.pb_suite.specs.Implementing.Answers.{done, refused, read_fault, write_fault, no_memory}
use Rattle.pb_suite.specs.Implementing.WritesHeld.{cut_off, well}
use Rattle.pb_suite.specs.Outputs.{nothing, Output}
use Rattle.pb_suite.specs.CommandSpec.{LacksSpace, LacksText, MayStand, CommandSpec, Text, taken_in}
use Rattle.pb_suite.proofs.Going.{adds_by, AddsBy, Goes}

pub always : (a : DeskState) (P : Told → Type 0) → ((t : Told) → P t) → IfTold a P
always a P holds = by_cases a.view.told
  where
    by_cases : (o : Option Told) → IfSome o P
    by_cases None = tt
    by_cases (Some t) = holds t

-- where the desk tells, what was taken leaves the answer open
abbrev pub IsOpenIn : CommandSpec → DeskState → Type 0
IsOpenIn o b = IfTold b (λ t. o.leaves_open t.shelf (taken_in b.view t) b.ended)

pub refusal_no_read : (texts : List Text) (answer : Outcome) → IsRefusal texts answer → answer ≢ outcome.ReadFault
refusal_no_read texts answer is e = subst (IsRefusal texts) e is

pub refusal_no_write : (texts : List Text) (answer : Outcome) → IsRefusal texts answer → answer ≢ outcome.WriteFault
refusal_no_write texts answer is e = subst (IsRefusal texts) e is

module _ (a b : DeskState) where
  -- no fault is told, and no count rose
  pub counts_quiet : (answer : Outcome) → answer ≢ outcome.ReadFault → answer ≢ outcome.WriteFault → IsQuiet a b → Counts a b answer
  counts_quiet outcome.Done no_read no_write quiet = quiet
  counts_quiet (outcome.Refused file place expected) no_read no_write quiet = quiet
  counts_quiet outcome.Usage no_read no_write quiet = quiet
  counts_quiet (outcome.Limit file which place) no_read no_write quiet = quiet
  counts_quiet outcome.ReadFault no_read no_write quiet = absurd (no_read refl)
  counts_quiet outcome.WriteFault no_read no_write quiet = absurd (no_write refl)
  counts_quiet outcome.NoMemory no_read no_write quiet = (quiet.reads, inl quiet.writes)
  counts_quiet (outcome.Rejected line denied) no_read no_write quiet = quiet
  counts_quiet (outcome.NotASolution statement) no_read no_write quiet = quiet
  counts_quiet outcome.NoModel no_read no_write quiet = quiet
  counts_quiet outcome.NoObjective no_read no_write quiet = quiet
  counts_quiet (outcome.NotRefuted line why) no_read no_write quiet = quiet

  pub quiet_counts : (answer : Outcome) → answer ≢ outcome.ReadFault → answer ≢ outcome.WriteFault → (answer ≡ outcome.NoMemory → b.write_faults ≡ a.write_faults) → Counts a b answer → IsQuiet a b
  quiet_counts outcome.Done no_read no_write kept counts = counts
  quiet_counts (outcome.Refused file place expected) no_read no_write kept counts = counts
  quiet_counts outcome.Usage no_read no_write kept counts = counts
  quiet_counts (outcome.Limit file which place) no_read no_write kept counts = counts
  quiet_counts outcome.ReadFault no_read no_write kept counts = absurd (no_read refl)
  quiet_counts outcome.WriteFault no_read no_write kept counts = absurd (no_write refl)
  quiet_counts outcome.NoMemory no_read no_write kept counts = record { reads = counts.0; writes = kept refl }
  quiet_counts (outcome.Rejected line denied) no_read no_write kept counts = counts
  quiet_counts (outcome.NotASolution statement) no_read no_write kept counts = counts
  quiet_counts outcome.NoModel no_read no_write kept counts = counts
  quiet_counts outcome.NoObjective no_read no_write kept counts = counts
  quiet_counts (outcome.NotRefuted line why) no_read no_write kept counts = counts

module _ (o : CommandSpec) (a b : DeskState) where
  quiet_of : {few : ℕ} (out : Output) → Goes few out a b → IsQuiet a b
  quiet_of out goes = record { reads = goes.reads; writes = goes.writes }

  pub all_done : (out : Output) → Goes (length o.texts) out a b → ((slot : ℕ) → b.view.writing slot ≡ a.view.writing slot) → IfTold a (λ t. o.done t.shelf out) → Implements o a b outcome.Done
  all_done out goes keeps due = record { answers = done out due goes.adds keeps; opens = goes.reading; counts = quiet_of out goes; unsettled = λ e. cc; no_text = λ steady e. cc; no_space = λ steady e. cc }

  pub is_refused : (answer : Outcome) → Goes (length o.texts) nothing a b → IsRefusal o.texts answer → IfTold a (λ t. o.stops t.shelf answer) → Implements o a b answer
  is_refused answer goes is due =
      let no_read = refusal_no_read o.texts answer is in
      let no_write = refusal_no_write o.texts answer is in
      record { answers = refused answer is due goes.adds; opens = goes.reading; counts = counts_quiet a b answer no_read no_write (quiet_of nothing goes); unsettled = λ e. absurd (no_read e); no_text = λ steady e. absurd (no_read e); no_space = λ steady e. absurd (no_write e) }

  pub wants_memory : (out : Output) → Goes (length o.texts) out a b → IfTold a (λ t. MayStand o t.shelf out) → out.said ≡ [] → Implements o a b outcome.NoMemory
  wants_memory out goes part silent = record { answers = no_memory out part goes.adds (well goes.writes) silent; opens = goes.reading; counts = counts_quiet a b outcome.NoMemory (λ e. cc) (λ e. cc) (quiet_of out goes); unsettled = λ e. cc; no_text = λ steady e. cc; no_space = λ steady e. cc }

  pub bare_memory : Goes (length o.texts) nothing a b → Implements o a b outcome.NoMemory
  bare_memory goes = wants_memory nothing goes (always a (λ t. MayStand o t.shelf nothing) (λ t. inl refl)) refl

  pub is_unread : (f : View → View) → AddsBy (length o.texts) nothing f → FailsToRead f a b → (IsSteady a → LacksText o a) → IsOpenIn o b → Implements o a b outcome.ReadFault
  is_unread f by fails lacks unsettled = record {
    answers = read_fault (adds_by nothing f a b by fails.view);
    opens = λ slot le. ap (λ (v : View). v.reading slot) fails.view ∙ by.reading a.view slot le;
    counts = (fails.reads, fails.writes);
    unsettled = λ e. unsettled;
    no_text = λ steady e. lacks steady;
    no_space = λ steady e. cc;
  }

  pub is_unwritten : (out : Output) (f : View → View) → AddsBy (length o.texts) out f → FailsToWrite f a b → IfTold a (λ t. MayStand o t.shelf out) → (IsSteady a → LacksSpace o a) → Implements o a b outcome.WriteFault
  is_unwritten out f by fails part lacks = record {
    answers = write_fault out part (adds_by out f a b by fails.view);
    opens = λ slot le. ap (λ (v : View). v.reading slot) fails.view ∙ by.reading a.view slot le;
    counts = (fails.reads, fails.writes);
    unsettled = λ e. cc;
    no_text = λ steady e. cc;
    no_space = λ steady e. lacks steady;
  }

  -- memory was wanting, and what was held could not be written
  pub is_unheld : (out : Output) (f : View → View) → AddsBy (length o.texts) out f → out.made ≢ [] → FailsToWrite f a b → IfTold a (λ t. MayStand o t.shelf out) → (IsSteady a → LacksSpace o a) → out.said ≡ [] → Implements o a b outcome.NoMemory
  is_unheld out f by some fails part lacks silent = record {
    answers = no_memory out part (adds_by out f a b by fails.view) (cut_off some lacks) silent;
    opens = λ slot le. ap (λ (v : View). v.reading slot) fails.view ∙ by.reading a.view slot le;
    counts = (fails.reads, inr fails.writes);
    unsettled = λ e. cc;
    no_text = λ steady e. cc;
    no_space = λ steady e. cc;
  }
