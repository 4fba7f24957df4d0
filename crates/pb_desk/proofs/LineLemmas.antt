-- Lines of a text whose first bytes are known.
use Rattle.std.proofs.Common.{◌≡◌, ℕ, false, List, [], ◌∷◌, ◌++◌, arith, length, length-append, refl, ap, sym, ◌∙◌, eqb}
use Rattle.std.proofs.lemmas.List.Elements.{All-head, All-tail}
use Rattle.pb_base.specs.Lines.{first_line}
use Rattle.pb_desk.specs.Lines.{with_byte, lines_of, behind_first, IsUnbroken, BeginsWith}

-- bytes up to an LF are a line
pub lines_break : (xs ys : List ℕ) → IsUnbroken xs → lines_of (xs ++ 10 ∷ ys) ≡ xs ∷ lines_of ys
lines_break [] ys h = refl
lines_break (x ∷ xs) ys h =
    let first : eqb x 10 ≡ false = All-head (λ b. eqb b 10 ≡ false) x xs h in
    rw first (ap (with_byte x) (lines_break xs ys (All-tail (λ b. eqb b 10 ≡ false) x xs h)))

-- bytes without LF are one line
pub lines_last : (x : ℕ) (xs : List ℕ) → IsUnbroken (x ∷ xs) → lines_of (x ∷ xs) ≡ (x ∷ xs) ∷ []
lines_last x [] h = rw (All-head (λ b. eqb b 10 ≡ false) x [] h) refl
lines_last x (y ∷ ys) h =
    let first : eqb x 10 ≡ false = All-head (λ b. eqb b 10 ≡ false) x (y ∷ ys) h in
    rw first (ap (with_byte x) (lines_last y ys (All-tail (λ b. eqb b 10 ≡ false) x (y ∷ ys) h)))

first-break : (xs ys : List ℕ) → IsUnbroken xs → first_line (xs ++ 10 ∷ ys) ≡ xs
first-break [] ys h = refl
first-break (x ∷ xs) ys h =
    let first : eqb x 10 ≡ false = All-head (λ b. eqb b 10 ≡ false) x xs h in
    rw first (ap (λ (zs : List ℕ). x ∷ zs) (first-break xs ys (All-tail (λ b. eqb b 10 ≡ false) x xs h)))

behind-break : (xs ys : List ℕ) → IsUnbroken xs → behind_first (xs ++ 10 ∷ ys) ≡ ys
behind-break [] ys h = refl
behind-break (x ∷ xs) ys h =
    let first : eqb x 10 ≡ false = All-head (λ b. eqb b 10 ≡ false) x xs h in
    rw first (behind-break xs ys (All-tail (λ b. eqb b 10 ≡ false) x xs h))

first-last : (xs : List ℕ) → IsUnbroken xs → first_line xs ≡ xs
first-last [] h = refl
first-last (x ∷ xs) h =
    let first : eqb x 10 ≡ false = All-head (λ b. eqb b 10 ≡ false) x xs h in
    rw first (ap (λ (zs : List ℕ). x ∷ zs) (first-last xs (All-tail (λ b. eqb b 10 ≡ false) x xs h)))

behind-last : (xs : List ℕ) → IsUnbroken xs → behind_first xs ≡ []
behind-last [] h = refl
behind-last (x ∷ xs) h =
    let first : eqb x 10 ≡ false = All-head (λ b. eqb b 10 ≡ false) x xs h in
    rw first (behind-last xs (All-tail (λ b. eqb b 10 ≡ false) x xs h))

-- a line and its LF begin the text
pub begins_break : (line text rest : List ℕ) → IsUnbroken line → text ≡ line ++ 10 ∷ rest → BeginsWith line text rest
begins_break line text rest h e = record {
  some = omega (arith, ap length e, length-append line (10 ∷ rest));
  first = sym (ap first_line e ∙ first-break line rest h);
  behind = sym (ap behind_first e ∙ behind-break line rest h);
  lines = ap lines_of e ∙ lines_break line rest h;
}

-- a last line without LF is the text
pub begins_last : (x : ℕ) (xs text rest : List ℕ) → IsUnbroken (x ∷ xs) → text ≡ x ∷ xs → rest ≡ [] → BeginsWith (x ∷ xs) text rest
begins_last x xs text rest h e none = record {
  some = omega (arith, ap length e);
  first = sym (ap first_line e ∙ first-last (x ∷ xs) h);
  behind = none ∙ sym (ap behind_first e ∙ behind-last (x ∷ xs) h);
  lines = ap lines_of e ∙ lines_last x xs h ∙ ap (λ (zs : List ℕ). (x ∷ xs) ∷ lines_of zs) (sym none);
}
