-- What an engine holds, as contracts see it (our own).
use Rattle.std.specs.Prelude.{◌≡◌, ◌≤◌, ◌<◌, ◌++◌, ℕ, true, if◌then◌else◌, nat_lt, List, [], ◌∷◌, Option, Some, None, ℤ, pos, ◌-ℤ◌, map, slice_index_or, slice_set, length}
use Rattle.std.specs.Option.{option_map}
use Rattle.pb_base.specs.declared.literal.Lit.{Lit}
use Rattle.pb_base.specs.Literals.{is_among}
use Rattle.pb_norm.specs.Constraints.{Constraint, HasVarsWithin}
use Rattle.pb_norm.specs.Forced.{IsConsistent}
use Rattle.pb_norm.specs.Propagation.{room, Reached}
use Rattle.pb_unit.specs.Trails.{Held}

-- constraints by their places, the assumed literals, and the literals that hold, the newest first
pub record EngineState : Type 0 where
  pub vars : ℕ
  pub places : List (Option Constraint)
  pub given : List Lit
  pub held : List Lit

-- the constraints that stand
abbrev pub standing : List (Option Constraint) → List Constraint
standing [] = []
standing (None ∷ places) = standing places
standing (Some c ∷ places) = c ∷ standing places

-- what stands at a place
abbrev pub at_place : List (Option Constraint) → ℕ → Option Constraint
at_place places place = slice_index_or places place None

abbrev pub Stands : List (Option Constraint) → ℕ → Constraint → Type 0
Stands places place c = at_place places place ≡ Some c

-- the variables of the constraints that stand are at most this
abbrev pub StandWithin : ℕ → List (Option Constraint) → Type 0
StandWithin vars places = (place : ℕ) (c : Constraint) → Stands places place c → HasVarsWithin vars c.terms

-- the literals that hold are one reached list, with each assumed literal, and no two of them are opposite
pub record IsReached (s : EngineState) : Type 0 where
  pub reached : Reached (standing s.places) s.given s.held
  pub assumed : (l : Lit) → is_among s.given l ≡ true → is_among s.held l ≡ true
  pub consistent : IsConsistent s.held

-- what is true of every engine
pub record IsEngine (s : EngineState) : Type 0 where
  pub within : StandWithin s.vars s.places
  pub holds : IsReached s

-- ---- what calls make of it

-- nothing is assumed yet, and the constraints have the first places
abbrev pub started : ℕ → List Constraint → EngineState
started vars cs = record { vars = vars; places = map Some cs; given = []; held = [] }

-- literals are given beside constraints, and some hold
abbrev pub given_over : List Constraint → List Lit → Held → EngineState
given_over cs given h = record { vars = h.vars; places = map Some cs; given = given; held = h.lits }

-- the list with the literal, once
abbrev pub with_lit : Lit → List Lit → List Lit
with_lit l ls = if is_among ls l then ls else l ∷ ls

-- one more literal is assumed, and holds
abbrev pub assumed : Lit → EngineState → EngineState
assumed l s = record s { given = with_lit l s.given; held = with_lit l s.held }

-- nothing is assumed any more, and nothing holds
abbrev pub cleared : EngineState → EngineState
cleared s = record s { given = []; held = [] }

-- the constraint stands at the place, which is one of the list or the next
abbrev pub placed : ℕ → Constraint → List (Option Constraint) → List (Option Constraint)
placed place c places = if nat_lt place (length places) then slice_set places place (Some c) else places ++ Some c ∷ []

-- a constraint stands at the place, and nothing is assumed
abbrev pub added : ℕ → Constraint → EngineState → EngineState
added place c s = record s { places = placed place c s.places; given = []; held = [] }

-- nothing stands at the place, and nothing is assumed
abbrev pub removed : ℕ → EngineState → EngineState
removed place s = record s { places = slice_set s.places place None; given = []; held = [] }

-- nothing stands at the place, which is one of the list or the next
pub record IsFree (s : EngineState) (place : ℕ) : Type 0 where
  pub empty : at_place s.places place ≡ None
  pub near : place ≤ length s.places

-- by how much the room is above the degree
abbrev pub slack_of : List Lit → Constraint → ℤ
slack_of ls c = pos (room ls c.terms) -ℤ pos c.degree

-- the slack of what stands at the place
abbrev pub slack_at : EngineState → ℕ → Option ℤ
slack_at s place = option_map (slack_of s.held) (at_place s.places place)

-- the slack of the constraint at the place is negative under a reached list
pub record IsRefuted (places : List (Option Constraint)) (given : List Lit) (place : ℕ) : Type 0 where
  pub list : List Lit
  pub constraint : Constraint
  pub at : Stands places place constraint
  pub reached : Reached (standing places) given list
  pub short : room list constraint.terms < constraint.degree
