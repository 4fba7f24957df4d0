-- The next line of a reader, from what was found in its slot.
use Rattle.std.proofs.Common.{◌≡◌, ℕ, ◌+◌, true, false, List, ◌∷◌, ◌++◌, length, refl, ap, sym, subst, arith, length-append}
use Rattle.std.specs.declared.option.Option.TheVariants.{Some}
use Rattle.pb_desk.specs.Desk.{DeskState}
use Rattle.pb_desk.specs.LineReaders.{Reader, GivesLine, IsNextLine, StopsAt, StopsReader, left_for, fault_at}
use Rattle.pb_desk.specs.LineReading.{Held, TakesAhead}
use Rattle.pb_desk.specs.inner.PieceReading.{Finds, Fits, StopsLine}
use Rattle.pb_desk.specs.declared.line.Found.{Found}
use Rattle.pb_desk.specs.declared.line.Found.TheVariants.{Nothing, Last, Ended}
use Rattle.pb_desk.specs.declared.lines.LineFault.{LineFault}
use Rattle.pb_desk.specs.declared.piece.Stop.{Stop}
use Rattle.pb_desk.specs.declared.piece.Stop.TheVariants as stop
use Rattle.pb_desk.proofs.ReadLemmas.{reads_ahead}

-- the reader, with other bytes ahead, elsewhere, and with another line
abbrev pub onward : Reader → Held → ℕ → ℕ → List ℕ → Reader
onward r ahead at number line = record { slot = r.slot; limits = r.limits; ahead = ahead; at = at; number = number; line = line; fault = r.fault }

-- what was taken, where that much is known of what was found
abbrev pub Takes : Reader → Found → Held → List ℕ → DeskState → DeskState → Type 0
Takes r found ahead line a b = TakesAhead r.slot r.ahead ahead a b (Finds (left_for r) found line)

pub gives_nothing : (r old : Reader) (found : Found) (ahead : Held) (line : List ℕ) (a b : DeskState) → r ≡ old → found ≡ Nothing → Fits (left_for r) found line → Takes r found ahead line a b → GivesLine false old (onward r ahead r.at r.number line) a b
gives_nothing r old found ahead line a b is nothing fits takes =
    subst (λ (o : Reader). GivesLine false o (onward r ahead r.at r.number line) a b) is (
      record { slot = refl; limits = refl; fault = refl },
      refl,
      refl,
      subst (λ (f : Found). Fits (left_for r) f line) nothing fits,
      subst (λ (f : Found). Takes r f ahead line a b) nothing takes,
    )

pub gives_last : (r old : Reader) (found : Found) (ahead : Held) (line : List ℕ) (count : ℕ) (a b : DeskState) → r ≡ old → found ≡ Last → count ≡ length line → Takes r found ahead line a b → GivesLine true old (onward r ahead (r.at + count) (r.number + 1) line) a b
gives_last r old found ahead line count a b is last counted takes =
    let new : Reader = onward r ahead (r.at + count) (r.number + 1) line in
    subst (λ (o : Reader). GivesLine true o new a b) is (
      record { slot = refl; limits = refl; fault = refl },
      refl,
      omega (arith, counted),
      reads_ahead r.slot r.ahead ahead ahead a b (Finds (left_for r) Last line) (IsNextLine r new) refl
          (λ text left p. let (whole, none, begins, limit) = p in record { begins = begins; limit = limit; at = omega (arith, counted, ap length whole, ap length none) })
          (subst (λ (f : Found). Takes r f ahead line a b) last takes),
    )

pub gives_ended : (r old : Reader) (found : Found) (ahead : Held) (line : List ℕ) (count : ℕ) (a b : DeskState) → r ≡ old → found ≡ Ended → count ≡ length line → Takes r found ahead line a b → GivesLine true old (onward r ahead (r.at + (count + 1)) (r.number + 1) line) a b
gives_ended r old found ahead line count a b is ended counted takes =
    let new : Reader = onward r ahead (r.at + (count + 1)) (r.number + 1) line in
    subst (λ (o : Reader). GivesLine true o new a b) is (
      record { slot = refl; limits = refl; fault = refl },
      refl,
      omega (arith, counted),
      reads_ahead r.slot r.ahead ahead ahead a b (Finds (left_for r) Ended line) (IsNextLine r new) refl
          (λ text left p. let (whole, begins, limit) = p in record { begins = begins; limit = limit; at = omega (arith, counted, ap length whole, length-append line (10 ∷ (ahead.bytes ++ left))) })
          (subst (λ (f : Found). Takes r f ahead line a b) ended takes),
    )

cause_of : (r new : Reader) (why : Stop) (a b : DeskState) → StopsLine (left_for r) r.slot r.ahead new.ahead a b why → StopsReader (fault_at (r.number + 1) why) r new a b
cause_of r new stop.Failed a b h = h
cause_of r new (stop.Limit which) a b h = (refl, h)
cause_of r new stop.NoMemory a b h = h

pub stops_reader : (r old : Reader) (why : Stop) (fault : LineFault) (ahead : Held) (line : List ℕ) (a b : DeskState) → r ≡ old → fault ≡ fault_at (r.number + 1) why → StopsLine (left_for r) r.slot r.ahead ahead a b why
    → StopsAt fault old (record { slot = r.slot; limits = r.limits; ahead = ahead; at = r.at; number = r.number; line = line; fault = Some fault }) a b
stops_reader r old why fault ahead line a b is told stops =
    let left_at : LineFault → Reader = λ f. record { slot = r.slot; limits = r.limits; ahead = ahead; at = r.at; number = r.number; line = line; fault = Some f } in
    subst (λ (o : Reader). StopsAt fault o (left_at fault) a b) is
    (subst (λ (f : LineFault). StopsAt f r (left_at f) a b) (sym told)
    (record { slot = refl; limits = refl; number = refl; at = refl; kept = refl; cause = cause_of r (left_at (fault_at (r.number + 1) why)) why a b stops }))
