-- How the first line is cut from a text.
use Rattle.std.proofs.Common.{◌≡◌, ℕ, suc, ◌+◌, ◌<◌, ◌≤◌, Bool, true, false, List, [], ◌∷◌, ◌++◌, length, take, drop, get_or, refl, ap, sym, ◌∙◌, arith, add-one, eqb, length-take-le}
use Rattle.std.proofs.Math.Seq.{drop-cons}
use Rattle.std.proofs.lemmas.List.{take-append-drop, get_or-take}
use Rattle.std.proofs.lemmas.List.Elements.{All-from_get_or}
use Rattle.std.proofs.lemmas.Bool.Decides.{nat_tests}
use Rattle.memchr.specs.Find.{is_byte, NoneBefore, Passes}
use Rattle.pb_desk.specs.Lines.{BeginsWith, IsUnbroken}
use Rattle.pb_desk.proofs.LineLemmas.{begins_break, begins_last}

no_break : (b : Bool) → (b ≡ true → ⊥) → b ≡ false
no_break true h = absurd (h refl)
no_break false h = refl

is_break : (b : ℕ) → eqb b 10 ≡ true → b ≡ 10
is_break b e = grind (arith, nat_tests)

pub cut_at : (text : List ℕ) (stop : ℕ) → NoneBefore (Passes (is_byte 10) text) 0 (length text) stop → Passes (is_byte 10) text stop → BeginsWith (take stop text) text (drop (stop + 1) text)
cut_at text stop first here =
    let unbroken : IsUnbroken (take stop text) =
    All-from_get_or (λ b. eqb b 10 ≡ false) (take stop text) 0 (λ i h.
    let below : i < stop = omega (arith, length-take-le stop text, h) in
    rw (get_or-take stop text i 0 below) (no_break (eqb (get_or text i 0) 10) (first.before i (omega arith) below))) in
    let within : stop < length text = first.high in
    let seam : drop stop text ≡ 10 ∷ drop (stop + 1) text =
    drop-cons text stop 0 within ∙ ap (λ (b : ℕ). b ∷ drop (suc stop) text) (is_break (get_or text stop 0) here) ∙ ap (λ (n : ℕ). 10 ∷ drop n text) (sym (add-one stop)) in
    begins_break (take stop text) text (drop (stop + 1) text) unbroken (sym (take-append-drop stop text) ∙ ap (λ (xs : List ℕ). take stop text ++ xs) seam)

pub cut_none : (text : List ℕ) → 0 < length text → ((k : ℕ) → 0 ≤ k → k < length text → Passes (is_byte 10) text k → ⊥) → BeginsWith text text []
cut_none [] some none = absurd (omega arith)
cut_none (x ∷ xs) some none =
    let unbroken : IsUnbroken (x ∷ xs) = All-from_get_or (λ b. eqb b 10 ≡ false) (x ∷ xs) 0 (λ i h. no_break (eqb (get_or (x ∷ xs) i 0) 10) (none i (omega arith) h)) in
    begins_last x xs (x ∷ xs) [] unbroken refl refl
