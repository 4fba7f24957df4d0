-- What is known of a sink, but for what it puts before clauses.
use Rattle.std.proofs.Common.{ℕ, List, refl, take, Ok, Err}
use Rattle.std.specs.Prelude.{Result, codes}
use Rattle.pb_base.specs.declared.fault.Failed.{Failed}
use Rattle.pb_desk.specs.Desk.{DeskState}
use Rattle.pb_family.specs.Sinks.{SinkState, Grows, Takes, FailsToTake}
use Rattle.pb_family.specs.Handing.{HandsText}
use Rattle.pb_dimacs.specs.Outboxes.{hard_sink, slot_sink}
use Rattle.pb_dimacs.specs.inner.WriteBufferSinks.{shown}
use Rattle.pb_dimacs.proofs.Holding.{named_hands}

-- the same sink with another lead
abbrev pub led : {R : Type 0} → List ℕ → SinkState R → SinkState R
led lead s = record s { lead = lead }

pub grows_led : {R : Type 0} (lead text : List ℕ) (a b : SinkState R) → Grows text a b → Grows text (led lead a) (led lead b)
grows_led lead text a b h = record { lines = h.lines; faults = h.faults; sent = h.sent; others = h.others; room = h.room; lead = refl; rest = h.rest }

pub takes_led : {R : Type 0} (lead text : List ℕ) (a b : SinkState R) → Takes text a b → Takes text (led lead a) (led lead b)
takes_led lead text a b h = record { grows = grows_led lead text a b h.grows; quiet = h.quiet }

pub fails_led : {R : Type 0} (lead text : List ℕ) (a b : SinkState R) → FailsToTake text a b → FailsToTake text (led lead a) (led lead b)
fails_led lead text a b h = record { count = h.count; grows = grows_led lead (take h.count text) a b h.grows; rose = h.rose; lacks = h.lacks }

pub hands_led : {R T : Type 0} (lead : List ℕ) (r : Result T Failed) (text : List ℕ) (a b : SinkState R) → HandsText text r a b → HandsText text r (led lead a) (led lead b)
hands_led lead (Ok x) text a b h = takes_led lead text a b h
hands_led lead (Err f) text a b h = fails_led lead text a b h

-- a slot of a desk, behind `h`
pub hard_hands : {N T : Type 0} (n : N) (r : Result T Failed) (slot : ℕ) (text held left : List ℕ) (a b : DeskState) → HandsText text r (shown slot held a) (shown slot left b) → HandsText text r (hard_sink n slot held a) (hard_sink n slot left b)
hard_hands n r slot text held left a b h = hands_led (codes "h ") r text (slot_sink n slot held a) (slot_sink n slot left b) (named_hands n r slot text held left a b h)
