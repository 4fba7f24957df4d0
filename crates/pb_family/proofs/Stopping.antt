-- Handing over clauses where memory may be wanting.
use Rattle.std.proofs.Common.{◌≡◌, ◌++◌, List, [], sym, subst, append-nil, Ok, Err}
use Rattle.std.specs.Prelude.{Result, IsErrAnd}
use Rattle.pb_base.specs.declared.literal.Lit.{Lit}
use Rattle.pb_family.specs.Sinks.{SinkState}
use Rattle.pb_family.specs.Handing.{HandsIfMemory, StopsInClauses}
use Rattle.pb_family.specs.declared.sink.SinkFault.{SinkFault}
use Rattle.pb_family.specs.declared.sink.SinkFault.TheVariants as fault
use Rattle.pb_family.proofs.Taking.{part_of_nothing}
use Rattle.pb_family.proofs.Emission.{Emitting, emitting_ends, emitting_step, emitting_stops}

-- the fault of a piece is handed on
pub stops_fault : {R T : Type 0} {all : List (List Lit)} {old now : SinkState R} (r : Result T SinkFault) (f : SinkFault) (piece left : List (List Lit)) (after : SinkState R) → IsErrAnd r (λ g. g ≡ f) → Emitting all (piece ++ left) old now → StopsInClauses piece now after f → HandsIfMemory all r old after
stops_fault (Ok x) f piece left after is e part = absurd is
stops_fault {all = all} {old} (Err g) f piece left after is e part = subst (StopsInClauses all old after) (sym is) (emitting_stops piece left after f e part)

-- memory was wanting between two pieces
pub stops_between : {R T : Type 0} {all left : List (List Lit)} {old now : SinkState R} (r : Result T SinkFault) → IsErrAnd r (λ g. g ≡ fault.NoMemory) → Emitting all left old now → HandsIfMemory all r old now
stops_between {left = left} {now = now} r is e = stops_fault r fault.NoMemory [] left now is e (part_of_nothing [] now)

-- the last call hands over all that is left
pub stops_last : {R T : Type 0} {all : List (List Lit)} {old now : SinkState R} (r : Result T SinkFault) (piece : List (List Lit)) (after : SinkState R) → Emitting all piece old now → HandsIfMemory piece r now after → HandsIfMemory all r old after
stops_last {T = T} {all = all} {old} {now} r piece after e h = by_cases r h
  where
    ending : Emitting all (piece ++ []) old now
    ending = subst (λ (xs : List (List Lit)). Emitting all xs old now) (sym (append-nil piece)) e

    by_cases : (r : Result T SinkFault) → HandsIfMemory piece r now after → HandsIfMemory all r old after
    by_cases (Ok x) taken = emitting_ends (emitting_step piece after ending taken)
    by_cases (Err f) part = emitting_stops piece [] after f ending part
