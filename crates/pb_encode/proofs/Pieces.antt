-- A text that is handed over piece by piece, where memory may be wanting.
use Rattle.std.proofs.Common.{◌≡◌, ◌++◌, ℕ, List, [], Ok, Err, ap, refl, subst, sym, ◌∙◌, append-nil, append_assoc}
use Rattle.std.specs.Prelude.{Result, IsErrAnd}
use Rattle.pb_family.specs.Sinks.{SinkState, Takes}
use Rattle.pb_base.specs.declared.literal.Lit.{Lit}
use Rattle.pb_family.specs.Handing.{HandsIfMemory, Stops, lines_for}
use Rattle.pb_family.specs.declared.sink.SinkFault.{SinkFault}
use Rattle.pb_family.specs.declared.sink.SinkFault.TheVariants as fault
use Rattle.pb_family.proofs.Taking.{fails_front, part_front, takes_nothing, takes_same, then_fails, then_part, then_takes}
use Rattle.pb_encode.specs.inner.SendingTexts.{HandsTextIfMemory}

-- of a text a first part was taken, and a part is left
pub record Sending {R : Type 0} (all left : List ℕ) (old now : SinkState R) : Type 0 where
  pub front : List ℕ
  pub whole : all ≡ front ++ left
  pub taken : Takes front old now

-- none was taken yet, of a text that is written another way
pub sending_from : {R : Type 0} {all left : List ℕ} (a : SinkState R) → all ≡ left → Sending all left a a
sending_from a same = record { front = []; whole = same; taken = takes_nothing a }

-- a piece was taken
pub sending_step : {R : Type 0} {all left : List ℕ} {old now : SinkState R} (piece rest : List ℕ) (after : SinkState R) → left ≡ piece ++ rest → Sending all left old now → Takes piece now after → Sending all rest old after
sending_step {old = old} {now} piece rest after parts e taken = record {
  front = e.front ++ piece;
  whole = e.whole ∙ ap (λ (xs : List ℕ). e.front ++ xs) parts ∙ sym (append_assoc e.front piece rest);
  taken = then_takes e.front piece old now after e.taken taken;
}

-- the last one was taken
pub sending_last : {R : Type 0} {all : List ℕ} {old now : SinkState R} (piece : List ℕ) (after : SinkState R) → Sending all piece old now → Takes piece now after → Sending all [] old after
sending_last piece after e taken = sending_step piece [] after (sym (append-nil piece)) e taken

-- nothing is left
pub sending_ends : {R : Type 0} {all : List ℕ} {old now : SinkState R} → Sending all [] old now → Takes all old now
sending_ends {old = old} {now} e = takes_same _ _ old now (sym (e.whole ∙ append-nil e.front)) e.taken

-- a first part of the next piece was taken
stops_next : {R : Type 0} (front piece rest : List ℕ) (a b c : SinkState R) (f : SinkFault) → Takes front a b → Stops piece b c f → Stops (front ++ (piece ++ rest)) a c f
stops_next front piece rest a b c fault.Failed taken part = then_fails front (piece ++ rest) a b c taken (fails_front piece rest b c part)
stops_next front piece rest a b c fault.NoMemory taken part = then_part front (piece ++ rest) a b c taken (part_front piece rest b c part)

-- its fault is handed on
pub sending_stops : {R T : Type 0} {all left : List ℕ} {old now : SinkState R} (r : Result T SinkFault) (f : SinkFault) (piece rest : List ℕ) (after : SinkState R) → left ≡ piece ++ rest → IsErrAnd r (λ g. g ≡ f) → Sending all left old now → Stops piece now after f
    → HandsTextIfMemory all r old after
sending_stops (Ok x) f piece rest after parts is e part = absurd is
sending_stops {all = all} {old = old} {now} (Err g) f piece rest after parts is e part =
    subst (Stops all old after) (sym is)
    (subst (λ (xs : List ℕ). Stops xs old after f) (sym (e.whole ∙ ap (λ (xs : List ℕ). e.front ++ xs) parts)) (stops_next e.front piece rest old now after f e.taken part))

-- that of the last one
pub sending_stops_last : {R T : Type 0} {all piece : List ℕ} {old now : SinkState R} (r : Result T SinkFault) (f : SinkFault) (after : SinkState R) → IsErrAnd r (λ g. g ≡ f) → Sending all piece old now → Stops piece now after f → HandsTextIfMemory all r old after
sending_stops_last {piece = piece} r f after is e part = sending_stops r f piece [] after (sym (append-nil piece)) is e part

-- the lines of clauses are a text
pub lines_handed : {R T : Type 0} (clauses : List (List Lit)) (r : Result T SinkFault) (a b : SinkState R) → HandsIfMemory clauses r a b → HandsTextIfMemory (lines_for a clauses) r a b
lines_handed clauses (Ok x) a b h = h
lines_handed clauses (Err f) a b h = h

-- what the last call hands over
pub sending_hands : {R T : Type 0} {all piece : List ℕ} {old now : SinkState R} (r : Result T SinkFault) (after : SinkState R) → Sending all piece old now → HandsTextIfMemory piece r now after → HandsTextIfMemory all r old after
sending_hands {piece = piece} (Ok x) after e h = sending_ends (sending_last piece after e h)
sending_hands {T = T} (Err f) after e h = sending_stops_last {T = T} (Err f) f after refl e h
