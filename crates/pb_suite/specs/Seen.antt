-- A desk as it is seen from a later state of it (our own).
use Rattle.std.specs.Prelude.{◌≡◌, true, false, if◌then◌else◌, IsTrue}
use Rattle.std.specs.declared.option.Option.TheVariants.{None}
use Rattle.pb_desk.specs.View.{View}
use Rattle.pb_desk.specs.Desk.{DeskState}

-- the view of a desk that tells nothing, and is not steady
abbrev pub hidden : View → View
hidden view = record view { told = None; steady = false }

-- the desk as it was, where each answer up to the later state was as it tells; else as one that tells nothing
abbrev pub seen_from : DeskState → DeskState → DeskState
seen_from later desk = record desk { view = if later.keeps then desk.view else hidden desk.view; keeps = true }

-- The desk kept to what it tells before, if it does after; and it is as steady as it was.
pub record Stays (old new : DeskState) : Type 0 where
  pub kept : IsTrue new.keeps → IsTrue old.keeps
  pub still : new.view.steady ≡ old.view.steady
