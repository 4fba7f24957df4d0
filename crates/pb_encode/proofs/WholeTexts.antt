-- What is written of a text that a slot was handed, once its file was ended.
use Rattle.std.proofs.Common.{◌≡◌, ◌∙◌, ℕ, List, [], Ok, Err, ap, inl, inr, sym, subst}
use Rattle.std.specs.Prelude.{Result, OnOk, IsErrAnd, IsSome}
use Rattle.pb_desk.specs.View.{wrote}
use Rattle.pb_desk.specs.Desk.{DeskState, Reaches, IsSteady}
use Rattle.pb_desk.proofs.Steps.{begin}
use Rattle.pb_desk.proofs.Views.{wrote-nil}
use Rattle.pb_family.specs.Sinks.{Takes, FailsToTake}
use Rattle.pb_family.specs.declared.sink.SinkFault.{SinkFault}
use Rattle.pb_family.specs.declared.sink.SinkFault.TheVariants as sink
use Rattle.pb_dimacs.specs.Outboxes.{Ends, IsAllSent}
use Rattle.pb_dimacs.specs.inner.WriteBufferSinks.{shown}
use Rattle.pb_dimacs.proofs.Holding.{reaches_whole, reaches_part, fails_part, lacks_of, all_held}
use Rattle.pb_encode.specs.declared.fault.EncodeFault.TheVariants as fault
use Rattle.pb_encode.specs.inner.Faults.{of_sink}
use Rattle.pb_encode.specs.inner.Sending.{LacksFor, Sends, Stops, StopsSending}
use Rattle.pb_encode.specs.inner.Sending.WantsSending.{cut_off, sent}
use Rattle.pb_encode.specs.inner.SendingTexts.{BreaksOff, HandsTextIfMemory, SendsText}
use Rattle.pb_encode.proofs.Sends.{ends_sends}

-- the slot of a desk held nothing, and then this at another state of the desk
module _ (slot : ℕ) (a b : DeskState) (left text : List ℕ) where
  failed_at : FailsToTake text (shown slot [] a) (shown slot left b) → StopsSending slot text a b
  failed_at h =
      let found = fails_part tt tt slot slot a b text left h in
      record { count = found.0; fails = found.1 }

  failed_lacks : FailsToTake text (shown slot [] a) (shown slot left b) → IsSteady a → IsSome a.view.room → LacksFor slot text a
  failed_lacks h steady some = lacks_of tt tt slot slot a b text left h steady some

  stops_at : (IsSteady a → IsSome a.view.room) → (f : SinkFault) → BreaksOff text (shown slot [] a) (shown slot left b) f → Stops slot text a b (of_sink f)
  stops_at has_room sink.Failed h = failed_at h
  stops_at has_room sink.NoMemory (inl h) =
      let found = reaches_part tt tt slot slot a b text h.count left h.taken in
      sent (record { count = found.0; reached = found.1 })
  stops_at has_room sink.NoMemory (inr h) = cut_off (failed_at h) (λ steady. failed_lacks h steady (has_room steady))

  lacks_at : (f : SinkFault) → fault.WriteFault ≡ of_sink f → BreaksOff text (shown slot [] a) (shown slot left b) f → IsSteady a → IsSome a.view.room → LacksFor slot text a
  lacks_at sink.Failed is h steady some = failed_lacks h steady some
  lacks_at sink.NoMemory is h steady some = cc

  whole_sent : Takes text (shown slot [] a) (shown slot left b) → IsAllSent (shown slot left b) → Reaches (wrote slot text) a b
  whole_sent h all = reaches_whole tt tt slot slot a b text (subst (Takes text (shown slot [] a)) (all_held tt slot left b all) h)

  text_sent : {T : Type 0} (r : Result T SinkFault) → (IsSteady a → IsSome a.view.room) → SendsText text r (shown slot [] a) (shown slot left b) → OnOk r (IsAllSent (shown slot left b)) → Sends slot text r a b
  text_sent (Ok x) has_room h all = record { whole = whole_sent h all; stopped = tt; lacks = λ steady. tt }
  text_sent (Err f) has_room h all = record { whole = tt; stopped = stops_at has_room f h; lacks = λ steady is. lacks_at f is h steady (has_room steady) }

-- a text was handed over, and then the file was ended
pub file_sent : {T : Type 0} (slot : ℕ) (a b c : DeskState) (held left text : List ℕ) (handed r : Result T SinkFault) → (IsSteady a → IsSome a.view.room)
    → HandsTextIfMemory text handed (shown slot [] a) (shown slot held b) → Ends handed r (shown slot held b) (shown slot left c) → Sends slot text r a c
file_sent slot a b c held left text handed r has_room h ends =
    let both = ends_sends text (shown slot [] a) (shown slot held b) (shown slot left c) handed r h ends in
    text_sent slot a c left text r has_room both.0 both.1

-- memory was wanting before a byte was sent
pub none_sent : {T : Type 0} (slot : ℕ) (text : List ℕ) (a : DeskState) (r : Result T SinkFault) → IsErrAnd r (λ g. g ≡ sink.NoMemory) → Sends slot text r a a
none_sent slot text a (Ok x) is = absurd is
none_sent slot text a (Err f) is = record {
  whole = tt;
  stopped = subst (λ (g : SinkFault). Stops slot text a a (of_sink g)) (sym is) (sent (record { count = 0; reached = begin (wrote slot []) a (wrote-nil slot) }));
  lacks = λ steady write. let no : fault.WriteFault ≡ fault.NoMemory = write ∙ ap of_sink is in cc;
}
