-- How making a file ends, by what making it, writing and ending it did to a desk.
use Rattle.std.proofs.Common.{◌≡◌, ◌∙◌, ◌<◌, ◌+◌, ℕ, List, [], ◌∷◌, Err, Some, None, length, take, refl, ap, sym, subst, arith, eq-eqb}
use Rattle.std.specs.Prelude.{◌==◌, Option, Result, IsErrAnd, IsSomeAnd, IsTrue, true}
use Rattle.pb_base.specs.declared.limit.LimitKind.{LimitKind}
use Rattle.std.proofs.Math.Seq.{take-length}
use Rattle.pb_desk.specs.View.{Told, View, created, wrote}
use Rattle.pb_desk.specs.Desk.{DeskState, FailsToWrite, IsSteady, LacksRoom, Reaches, same, written}
use Rattle.pb_desk.proofs.Steps.{then, then_fails_to_write}
use Rattle.pb_encode.specs.declared.fault.EncodeFault.{EncodeFault}
use Rattle.pb_encode.specs.declared.fault.EncodeFault.TheVariants as fault
use Rattle.pb_encode.specs.Encodings.{begun, LacksToMake, LeavesPart, StopsMaking}
use Rattle.pb_encode.specs.Encodings.LacksToMake.{no_room}
use Rattle.pb_encode.specs.Encodings.LeavesPart.{cut_off as leaves_cut, left}
use Rattle.pb_encode.specs.Encodings.StopsMaking.{in_text}
use Rattle.pb_encode.specs.inner.Sending.{LacksFor, Stops, StopsSending, WantsSending}
use Rattle.pb_encode.specs.inner.Sending.WantsSending.{cut_off, sent}
use Rattle.pb_encode.proofs.Residuals.{was_handed}

-- a file that was just made has no room for what has no room
new_lacks : (slot : ℕ) (name : List ℕ) (n : ℕ) (a b : DeskState) → b.view ≡ created slot name a.view → LacksRoom (written slot) n b → IsSomeAnd a.view.room (λ most. most < n)
new_lacks slot name n a b view lacks = by_parts a.view.room a.view.told (subst (λ (v : View). IsSomeAnd v.room (λ most. IsSomeAnd v.told (λ t. most < length (written slot t) + n))) view lacks)
  where
    by_parts : (room : Option ℕ) (told : Option Told) → IsSomeAnd room (λ most. IsSomeAnd (created slot name (record a.view { told = told })).told (λ t. most < length (written slot t) + n)) → IsSomeAnd room (λ most. most < n)
    by_parts None told h = absurd h
    by_parts (Some most) None h = absurd h
    by_parts (Some most) (Some t) h = let none : written slot (record t { made = record { slot = slot; name = name; bytes = [] } ∷ t.made }) ≡ [] = simp (eq-eqb slot slot refl) refl in omega (arith, h, ap length none)

-- an open slot is one that a file was made in
pub slot_open : (slot : ℕ) (name : List ℕ) (a b : DeskState) → b.view ≡ created slot name a.view → IsTrue (b.view.writing slot)
slot_open slot name a b view = let same : (slot == slot) ≡ true = eq-eqb slot slot refl in ap (λ (v : View). v.writing slot) view ∙ simp same refl

module _ (slot : ℕ) (name text : List ℕ) (a b d : DeskState) (opened : Reaches (created slot name) a b) where
  lacks_before : IsSteady a → (IsSteady b → LacksFor slot text b) → LacksToMake slot name text a
  lacks_before steady lacks = no_room (new_lacks slot name (length text) a b opened.view (lacks (ap (λ (v : View). v.steady) opened.view ∙ steady)))

  leaves_part : WantsSending slot text b d → LeavesPart slot name text a d
  leaves_part (sent part) = left part.count (then (created slot name) (wrote slot (take part.count text)) (begun slot name (take part.count text)) a b d (λ v. refl) opened part.reached)
  leaves_part (cut_off stop lacks) =
      leaves_cut stop.count (then_fails_to_write (created slot name) (wrote slot (take stop.count text)) (begun slot name (take stop.count text)) a b d (λ v. refl) opened stop.fails) (λ steady. lacks_before steady lacks)

  -- the text was not written whole
  module _ {T : Type 0} (r : Result T EncodeFault) (f : EncodeFault) (given : IsErrAnd r (λ g. g ≡ f)) (stopped : Stops slot text b d f) where
    -- for what is answered
    stops_as : (g : EncodeFault) → r ≡ Err g → Stops slot text b d g
    stops_as g is = subst (Stops slot text b d) (sym (was_handed r g f given is)) stopped

    pub no_limit : (k : LimitKind) → r ≡ Err (fault.Limit k) → ⊥
    no_limit k is = stops_as (fault.Limit k) is

    pub write_stops : r ≡ Err fault.WriteFault → StopsMaking slot name text a d
    write_stops is =
        let stop : StopsSending slot text b d = stops_as fault.WriteFault is in
        in_text stop.count (then_fails_to_write (created slot name) (wrote slot (take stop.count text)) (begun slot name (take stop.count text)) a b d (λ v. refl) opened stop.fails)

    pub memory_stops : r ≡ Err fault.NoMemory → LeavesPart slot name text a d
    memory_stops is = leaves_part (stops_as fault.NoMemory is)

    pub lacks_stops : (IsSteady b → fault.WriteFault ≡ f → LacksFor slot text b) → IsSteady a → r ≡ Err fault.WriteFault → LacksToMake slot name text a
    lacks_stops lacks steady is = lacks_before steady (λ still. lacks still (was_handed r fault.WriteFault f given is))

  -- it was written, but the file was not ended
  pub end_stops : (e : DeskState) → Reaches (wrote slot text) b d → FailsToWrite same d e → StopsMaking slot name text a e
  end_stops e written failed =
      let whole = then (created slot name) (wrote slot text) (begun slot name text) a b d (λ v. refl) opened written in
      in_text (length text) (then_fails_to_write (begun slot name text) same (begun slot name (take (length text) text)) a d e (λ v. ap (λ (xs : List ℕ). begun slot name xs v) (sym (take-length text))) whole failed)
