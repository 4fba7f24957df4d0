-- Which pieces do not end their files.
use Rattle.std.proofs.Common.{◌≡◌, ◌<◌, ℕ, Bool, true, false, List, length, refl, ap, ◌∙◌, arith}
use Rattle.std.specs.Prelude.{◌==◌, ◌&&◌, nat_le}
use Rattle.std.proofs.lemmas.Bool.{lt-leb}
use Rattle.pb_desk.specs.View.{put}
use Rattle.pb_desk.specs.Desk.{is_last}
use Rattle.pb_desk.proofs.BothSlots.{differs}
use Rattle.pb_desk.proofs.Readings.{put-same}

and_false : (b : Bool) → (b && false) ≡ false
and_false true = refl
and_false false = refl

-- a piece of which some is left
pub some_left : (piece : List ℕ) (count : ℕ) → count < length piece → is_last piece count ≡ false
some_left piece count lt =
    ap (λ (b : Bool). nat_le (length piece) 65472 && b) (differs count (length piece) (λ e. omega (arith, e, lt))) ∙ and_false (nat_le (length piece) 65472)

-- a whole piece
pub whole_piece : (piece : List ℕ) (count : ℕ) → 65472 < length piece → is_last piece count ≡ false
whole_piece piece count lt = ap (λ (b : Bool). b && count == length piece) (lt-leb (length piece) 65472 lt)

-- after a write that did not end the file of its slot, that is not finished
pub goes_on : (slot count : ℕ) (piece : List ℕ) (f g : ℕ → Bool) → g ≡ put f slot (is_last piece count) → is_last piece count ≡ false → g slot ≡ false
goes_on slot count piece f g is not = ap (λ (h : ℕ → Bool). h slot) is ∙ put-same f slot (is_last piece count) ∙ not
