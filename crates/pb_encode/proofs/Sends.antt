-- What was handed over, and then what is held, also where memory was wanting.
use Rattle.std.proofs.Common.{◌++◌, ℕ, List, [], inl, inr, Ok, Err, take, drop, subst, sym, append-nil}
use Rattle.std.specs.Prelude.{Result, OnOk}
use Rattle.std.proofs.lemmas.List.{take-append-drop}
use Rattle.pb_family.specs.Handing.{Stops}
use Rattle.pb_family.specs.Sinks.{SinkState, FailsToTake, Takes}
use Rattle.pb_family.specs.declared.sink.SinkFault.{SinkFault}
use Rattle.pb_family.specs.declared.sink.SinkFault.TheVariants as fault
use Rattle.pb_family.proofs.Taking.{fails_front, fails_same, takes_same, then_fails, then_takes}
use Rattle.pb_dimacs.specs.Outboxes.{Ends, IsAllSent, Settles}
use Rattle.pb_encode.specs.inner.SendingTexts.{BreaksOff, HandsTextIfMemory, SendsText}

module _ {R : Type 0} (text : List ℕ) (a b c : SinkState R) where
  -- the sink failed behind a first part of the text
  fails_behind : (n : ℕ) → Takes (take n text) a b → FailsToTake [] b c → FailsToTake text a c
  fails_behind n taken fails =
      fails_same (take n text ++ drop n text) text a c (take-append-drop n text)
      (fails_front (take n text) (drop n text) a c (fails_same (take n text ++ []) (take n text) a c (append-nil (take n text)) (then_fails (take n text) [] a b c taken fails)))

  -- what is held was written after a fault
  settle_sends : (f : SinkFault) → Stops text a b f → Settles f b c → BreaksOff text a c f
  settle_sends fault.Failed stops stays = subst (FailsToTake text a) (sym stays) stops
  settle_sends fault.NoMemory part (inl empties) = inl (record {
    count = part.count;
    taken = takes_same (take part.count text ++ []) (take part.count text) a c (append-nil (take part.count text)) (then_takes (take part.count text) [] a b c part.taken empties.taken);
    all_sent = empties.all_sent;
  })
  settle_sends fault.NoMemory part (inr fails) = inr (fails_behind part.count part.taken fails)

  -- however what is held was written
  pub ends_sends : {T : Type 0} (handed r : Result T SinkFault) → HandsTextIfMemory text handed a b → Ends handed r b c → SendsText text r a c × OnOk r (IsAllSent c)
  ends_sends (Ok x) (Ok y) taken more = (takes_same (text ++ []) text a c (append-nil text) (then_takes text [] a b c taken more.taken), more.all_sent)
  ends_sends (Ok x) (Err f) taken more = (subst (BreaksOff text a c) (sym more.0) (fails_same (text ++ []) text a c (append-nil text) (then_fails text [] a b c taken more.1)), tt)
  ends_sends {T} (Err f) r stops more = subst (λ (q : Result T SinkFault). SendsText text q a c × OnOk q (IsAllSent c)) (sym more.0) (settle_sends f stops more.1, tt)
