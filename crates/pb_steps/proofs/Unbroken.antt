-- No line that is written of a step has an LF inside.
use Rattle.std.proofs.Common.{◌≡◌, ◌==◌, ◌||◌, ℕ, Bool, true, false, List, [], ◌∷◌, refl}
use Rattle.std.specs.Prelude.{All, drop}
use Rattle.std.proofs.lemmas.List.Elements.{All-nil, All-cons, All-append}
use Rattle.pb_base.specs.Tokens.{is_white}
use Rattle.pb_base.proofs.WordLemmas.{IsBlack}
use Rattle.pb_steps.specs.declared.step.Step.{Step}
use Rattle.pb_steps.specs.StepGrammar.{StepSymbol, step_symbols}
use Rattle.pb_steps.specs.StepText.{word_of, with_blanks, step_line}
use Rattle.pb_steps.specs.Sayable.{IsSayable}
use Rattle.pb_steps.proofs.Canonical.{AllWritten, step_written}

abbrev IsInside : ℕ → Type 0
IsInside b = (b == 10) ≡ false

last_no : (x y z w : Bool) → (x || y || z || w) ≡ false → w ≡ false
last_no true y z w h = cc
last_no false true z w h = cc
last_no false false true w h = cc
last_no false false false w h = h

inside : (b : ℕ) → is_white b ≡ false → IsInside b
inside b h = last_no (b == 32) (b == 9) (b == 13) (b == 10) h

black_inside : (bs : List ℕ) → IsBlack bs → All IsInside bs
black_inside [] h = All-nil IsInside
black_inside (b ∷ bs) h = All-cons IsInside b bs (inside b h.0) (black_inside bs h.1)

blanks_inside : (ks : List StepSymbol) → AllWritten ks → All IsInside (with_blanks ks)
blanks_inside [] all = All-nil IsInside
blanks_inside (k ∷ ks) all =
    All-append IsInside (32 ∷ word_of k) (with_blanks ks) (All-cons IsInside 32 (word_of k) refl (black_inside (word_of k) all.0.black)) (blanks_inside ks all.1)

spaced_inside : (ks : List StepSymbol) → AllWritten ks → All IsInside (drop 1 (with_blanks ks))
spaced_inside [] all = All-nil IsInside
spaced_inside (k ∷ ks) all = All-append IsInside (word_of k) (with_blanks ks) (black_inside (word_of k) all.0.black) (blanks_inside ks all.1)

pub line_unbroken : (s : Step) → IsSayable s → All (λ b. (b == 10) ≡ false) (step_line s)
line_unbroken s ok = spaced_inside (step_symbols s) (step_written s ok)
