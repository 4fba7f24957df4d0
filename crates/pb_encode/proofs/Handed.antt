-- What a writer over a slot of a desk was handed, once it gave the desk and the outbox back.
use Rattle.std.proofs.Common.{◌≡◌, ◌∙◌, ℕ, List, [], Ok, Err, ap, refl, sym, subst, take}
use Rattle.std.specs.Prelude.{Result}
use Rattle.pb_desk.specs.Desk.{DeskState}
use Rattle.pb_family.specs.Handing.{Stops}
use Rattle.pb_family.specs.Sinks.{SinkState, Grows, Takes}
use Rattle.pb_family.specs.StepSinks.{HandsSteps, StepState, steps_text}
use Rattle.pb_family.specs.declared.sink.SinkFault.{SinkFault}
use Rattle.pb_family.specs.declared.sink.SinkFault.TheVariants as fault
use Rattle.pb_family.proofs.Deriving.{steps_text_stops}
use Rattle.pb_steps.specs.declared.step.Step.{Step}
use Rattle.pb_dimacs.specs.Outboxes.{SlotRest, slot_sink}
use Rattle.pb_dimacs.specs.inner.WriteBufferSinks.{shown}
use Rattle.pb_dimacs.proofs.Leads.{led}
use Rattle.pb_encode.specs.inner.SendingTexts.{HandsTextIfMemory}

-- the lines of steps are a text
pub steps_handed : {R T : Type 0} (steps : List Step) (r : Result T SinkFault) (a b : StepState R) → HandsSteps steps r a b → HandsTextIfMemory (steps_text steps) r a.sink b.sink
steps_handed steps (Ok x) a b h = h.taken
steps_handed steps (Err f) a b h = steps_text_stops steps a b f h

-- ---- a sink, seen otherwise: with nothing before the lines of clauses, and with something else that it stands over

module _ {R Q : Type 0} (f : R → Q) where
  abbrev seen : SinkState R → SinkState Q
  seen s = record { lead = []; lines = s.lines; room = s.room; faults = s.faults; sent = s.sent; others = s.others; rest = f s.rest }

  grows_seen : (text : List ℕ) (s t : SinkState R) → Grows text s t → Grows text (seen s) (seen t)
  grows_seen text s t h = record { lines = h.lines; faults = h.faults; sent = h.sent; others = h.others; room = h.room; lead = refl; rest = ap f h.rest }

  takes_seen : (text : List ℕ) (s t : SinkState R) → Takes text s t → Takes text (seen s) (seen t)
  takes_seen text s t h = record { grows = grows_seen text s t h.grows; quiet = h.quiet }

  stops_seen : (text : List ℕ) (s t : SinkState R) (g : SinkFault) → Stops text s t g → Stops text (seen s) (seen t) g
  stops_seen text s t fault.Failed h = record { count = h.count; grows = grows_seen (take h.count text) s t h.grows; rose = h.rose; lacks = h.lacks }
  stops_seen text s t fault.NoMemory h = record { count = h.count; taken = takes_seen (take h.count text) s t h.taken }

  hands_seen : {T : Type 0} (text : List ℕ) (r : Result T SinkFault) (s t : SinkState R) → HandsTextIfMemory text r s t → HandsTextIfMemory text r (seen s) (seen t)
  hands_seen text (Ok x) s t h = takes_seen text s t h
  hands_seen text (Err g) s t h = stops_seen text s t g h

stops_rest : {R : Type 0} (text : List ℕ) (s t : SinkState R) (g : SinkFault) → Stops text s t g → t.rest ≡ s.rest
stops_rest text s t fault.Failed h = h.grows.rest
stops_rest text s t fault.NoMemory h = h.taken.grows.rest

-- what the sink stands over stays
hands_rest : {R T : Type 0} (text : List ℕ) (r : Result T SinkFault) (s t : SinkState R) → HandsTextIfMemory text r s t → t.rest ≡ s.rest
hands_rest text (Ok x) s t h = h.grows.rest
hands_rest text (Err g) s t h = stops_rest text s t g h

-- what it stands over, without names
abbrev unnamed : {N : Type 0} → SlotRest N → SlotRest (Unit {0})
unnamed r = record { name = tt; slot = r.slot; view = r.view; ended = r.ended; keeps = r.keeps }

-- The writer began at a slot of a desk with an outbox that held nothing, and ended at another state of both. What comes back are these, if it kept their names.
module _ {A B T : Type 0} (lead : List ℕ) (n m : A × B) (slot k : ℕ) (a b d : DeskState) (held left now text : List ℕ) (s : SinkState (SlotRest (A × B)))
    (none : held ≡ []) (starts : s ≡ led lead (slot_sink n slot held a)) (desk_back : n.0 ≡ m.0 → d ≡ b) (held_back : n.1 ≡ m.1 → now ≡ left)
    (r : Result T SinkFault) (handed : HandsTextIfMemory text r s (led lead (slot_sink m k left b))) where
  stays : (slot_sink m k left b).rest ≡ (slot_sink n slot held a).rest
  stays = hands_rest text r s (led lead (slot_sink m k left b)) handed ∙ ap (λ (x : SinkState (SlotRest (A × B))). x.rest) starts

  ends : shown k left b ≡ shown slot now d
  ends =
      let same_slot : k ≡ slot = ap (λ (x : SlotRest (A × B)). x.slot) stays in
      let same_desk : d ≡ b = desk_back (ap (λ (x : SlotRest (A × B)). x.name.0) (sym stays)) in
      let same_held : now ≡ left = held_back (ap (λ (x : SlotRest (A × B)). x.name.1) (sym stays)) in
      ap (λ (j : ℕ). shown j left b) same_slot ∙ (ap (λ (xs : List ℕ). shown slot xs b) (sym same_held) ∙ ap (λ (x : DeskState). shown slot now x) (sym same_desk))

  -- so the text was handed to the slot
  pub handed_text : HandsTextIfMemory text r (shown slot [] a) (shown slot now d)
  handed_text =
      let begins : seen unnamed s ≡ shown slot [] a = ap (seen unnamed) starts ∙ ap (λ (xs : List ℕ). shown slot xs a) none in
      subst (HandsTextIfMemory text r (shown slot [] a)) ends
      (subst (λ (x : SinkState (SlotRest (Unit {0}))). HandsTextIfMemory text r x (shown k left b)) begins (hands_seen unnamed text r s (led lead (slot_sink m k left b)) handed))
