-- What is true of every engine inside.
use Rattle.std.specs.Prelude.{◌≡◌, ◌≤◌, ℕ, List, Option, length}
use Rattle.pb_base.specs.declared.literal.Lit.{Lit}
use Rattle.pb_norm.specs.Constraints.{Constraint}
use Rattle.pb_unit.specs.declared.kept.Counters.{Counters}
use Rattle.pb_unit.specs.declared.queue.Phase.{Phase}
use Rattle.pb_unit.specs.declared.queue.Queue.{Queue}
use Rattle.pb_unit.specs.declared.queue.Phase.TheVariants.{Unpropagated, Fixpoint, Conflicting}
use Rattle.pb_unit.specs.States.{EngineState, IsEngine}
use Rattle.pb_unit.specs.Steps.{HasTooLittle}
use Rattle.pb_unit.specs.Trails.{oldest}
use Rattle.pb_unit.specs.Index.{Lists, AreCalm, IsCounted, AreListed, IsStore}

-- how far propagation has come
abbrev pub IsAtNow : Phase → List (Option Constraint) → List Counters → List Lit → Type 0
IsAtNow Unpropagated places kept held = Unit {0}
IsAtNow Fixpoint places kept held = AreCalm places kept held
IsAtNow (Conflicting place) places kept held = HasTooLittle places held place

-- the rooms count the oldest literals that hold
pub record IsQueue (vars : ℕ) (places : List (Option Constraint)) (lists : Lists) (kept : List Counters) (tight : List ℕ) (held : List Lit) (counted : ℕ) (phase : Phase) : Type 0 where
  pub in_held : counted ≤ length held
  pub counts : IsCounted vars places lists kept (oldest counted held)
  pub listed : AreListed places kept tight
  pub even : length kept ≡ length places
  pub fresh : phase ≡ Unpropagated → counted ≡ 0
  pub at : IsAtNow phase places kept held

abbrev pub IsInQueue : Queue → Type 0
IsInQueue q = IsQueue q.held.vars q.places q.lists q.kept.items q.tight.items q.held.lits q.counted q.phase

-- nothing is told, and what stands has its index and its rooms
abbrev pub IsUntold : Queue → Type 0
IsUntold q = IsStore q.held.vars q.places q.lists q.kept.items q.tight.items

-- the same literals hold, and as many of them are told
pub record OthersStay (before after : Queue) : Type 0 where
  pub held : after.held ≡ before.held
  pub counted : after.counted ≡ before.counted
  pub phase : after.phase ≡ before.phase

-- what contracts see
abbrev pub state_of : Queue → List Lit → EngineState
state_of q given = record { vars = q.held.vars; places = q.places; given = given; held = q.held.lits }

pub record IsKept (given_vars : ℕ) (lists : Lists) (kept : List Counters) (tight : List ℕ) (counted : ℕ) (phase : Phase) (s : EngineState) : Type 0 where
  pub same_vars : given_vars ≡ s.vars
  pub engine : IsEngine s
  pub queue : IsQueue s.vars s.places lists kept tight s.held counted phase
