-- The first limit that a line passes, piece by piece.
use Rattle.std.proofs.Common.{◌≡◌, ◌+◌, ◌-◌, ◌<◌, ℕ, zero, suc, Bool, true, false, cond, List, [], ◌∷◌, ◌++◌, Option, Some, None, arith, length, refl, ap, sym, ◌∙◌, subst, eqb, ◌&&◌, length-append}
use Rattle.std.specs.Option.{option_or}
use Rattle.std.specs.Prelude.{if◌then◌else◌, ◌==◌}
use Rattle.std.proofs.lemmas.List.Elements.{All-head, All-tail, All-nil, All-cons, All-append}
use Rattle.std.proofs.lemmas.Bool.Decides.{nat_tests}
use Rattle.pb_base.specs.declared.limit.LimitKind.{LimitKind}
use Rattle.pb_base.specs.declared.limit.LimitKind.TheVariants.{Text, Lines, Line}
use Rattle.pb_desk.specs.Lines.{IsUnbroken}
use Rattle.pb_desk.specs.declared.limits.Remaining.{Remaining}
use Rattle.pb_desk.specs.LineReading.{limit_in}
use Rattle.pb_desk.specs.Limits.{limit_of, limit_of_piece, IsLengthLimit}

-- the limit that a byte other than LF passes
abbrev limit_of_plain : ℕ → Bool → ℕ → Option LimitKind
limit_of_plain text is_last line = if text == 0 then Some Text else (if is_last then Some Lines else (if line == 0 then Some Line else None))

-- a piece with a byte more in front
piece_more : (text : ℕ) (is_last : Bool) (line n : ℕ) (is_ended : Bool) → limit_of_piece text is_last line (n + 1) is_ended ≡ option_or (limit_of_plain text is_last line) (limit_of_piece (text - 1) is_last (line - 1) n is_ended)
piece_more text is_last line n is_ended = grind (arith, nat_tests)

option_or_three : (a b c : Option LimitKind) → option_or a (option_or b c) ≡ option_or (option_or a b) c
option_or_three None b c = refl
option_or_three (Some w) b c = refl

-- a byte other than LF
limit_of-plain : (text : ℕ) (is_last : Bool) (line b : ℕ) (bytes : List ℕ) → eqb b 10 ≡ false → limit_of text is_last line (b ∷ bytes) ≡ option_or (limit_of_plain text is_last line) (limit_of (text - 1) is_last (line - 1) bytes)
limit_of-plain text is_last line b bytes e = rw e (by_test (eqb line 0))
  where
    by_test : (p : Bool) → option_or (cond (eqb text 0) (Some Text) (cond is_last (Some Lines) (cond (p && true) (Some Line) None))) (limit_of (text - 1) is_last (line - 1) bytes) ≡ option_or (cond (eqb text 0) (Some Text) (cond is_last (Some Lines) (cond p (Some Line) None))) (limit_of (text - 1) is_last (line - 1) bytes)
    by_test true = refl
    by_test false = refl

-- a piece without LF, and what follows
pub limit_of-piece : (text : ℕ) (is_last : Bool) (line : ℕ) (ps more : List ℕ) → IsUnbroken ps → limit_of text is_last line (ps ++ more) ≡ option_or (limit_of_piece text is_last line (length ps) false) (limit_of (text - length ps) is_last (line - length ps) more)
limit_of-piece text is_last line [] more h = nothing (text - 0) (line - 0) (omega arith) (omega arith) (none text is_last line)
  where
    none : (text : ℕ) (is_last : Bool) (line : ℕ) → limit_of_piece text is_last line 0 false ≡ None
    none text is_last line = grind (arith, nat_tests)

    nothing : (t l : ℕ) → t ≡ text → l ≡ line → limit_of_piece text is_last line 0 false ≡ None → limit_of text is_last line more ≡ option_or (limit_of_piece text is_last line 0 false) (limit_of t is_last l more)
    nothing t l e f g = rw (g, e, f) refl
limit_of-piece text is_last line (p ∷ ps) more h =
    let first : eqb p 10 ≡ false = All-head (λ b. eqb b 10 ≡ false) p ps h in
    let rest = limit_of-piece (text - 1) is_last (line - 1) ps more (All-tail (λ b. eqb b 10 ≡ false) p ps h) in
    limit_of-plain text is_last line p (ps ++ more) first ∙
    (ap (option_or (limit_of_plain text is_last line)) rest ∙
    (option_or_three (limit_of_plain text is_last line) (limit_of_piece (text - 1) is_last (line - 1) (length ps) false) (limit_of (text - 1 - length ps) is_last (line - 1 - length ps) more) ∙
    (ap (λ (o : Option LimitKind). option_or o (limit_of (text - 1 - length ps) is_last (line - 1 - length ps) more)) (sym (piece_more text is_last line (length ps) false)) ∙
    joined (length ps + 1) (text - 1 - length ps) (line - 1 - length ps) (omega arith) (omega arith) (omega arith))))
  where
    joined : (n t l : ℕ) → n ≡ length (p ∷ ps) → t ≡ text - length (p ∷ ps) → l ≡ line - length (p ∷ ps) → option_or (limit_of_piece text is_last line n false) (limit_of t is_last l more) ≡ option_or (limit_of_piece text is_last line (length (p ∷ ps)) false) (limit_of (text - length (p ∷ ps)) is_last (line - length (p ∷ ps)) more)
    joined n t l e f g = rw (e, f, g) refl

-- a piece that LF follows
pub limit_of-ended : (text : ℕ) (is_last : Bool) (line : ℕ) (ps more : List ℕ) → IsUnbroken ps → limit_of text is_last line (ps ++ 10 ∷ more) ≡ limit_of_piece text is_last line (length ps) true
limit_of-ended text is_last line [] more h = end text is_last line
  where
    end : (text : ℕ) (is_last : Bool) (line : ℕ) → limit_of text is_last line (10 ∷ more) ≡ limit_of_piece text is_last line 0 true
    end text is_last line = grind (arith, nat_tests)
limit_of-ended text is_last line (p ∷ ps) more h =
    let first : eqb p 10 ≡ false = All-head (λ b. eqb b 10 ≡ false) p ps h in
    let rest = limit_of-ended (text - 1) is_last (line - 1) ps more (All-tail (λ b. eqb b 10 ≡ false) p ps h) in
    limit_of-plain text is_last line p (ps ++ 10 ∷ more) first ∙
    (ap (option_or (limit_of_plain text is_last line)) rest ∙
    (sym (piece_more text is_last line (length ps) true) ∙ ap (λ (n : ℕ). limit_of_piece text is_last line n true) (omega arith)))

-- ---- a line may always go on until it passes a limit

-- there is a limit, by length
abbrev Passed : Option LimitKind → Type 0
Passed None = ⊥
Passed (Some which) = IsLengthLimit which

passed-long : (text : ℕ) (is_last : Bool) (line : ℕ) (xs : List ℕ) → IsUnbroken xs → line < length xs → Passed (limit_of text is_last line xs)
passed-long text is_last line [] h long = absurd (omega (arith, long))
passed-long text is_last line (x ∷ xs) h long =
    subst Passed (sym (limit_of-plain text is_last line x xs (All-head (λ b. eqb b 10 ≡ false) x xs h)))
    (by_tests (text == 0) is_last (line == 0) refl (λ more. passed-long (text - 1) is_last (line - 1) xs (All-tail (λ b. eqb b 10 ≡ false) x xs h) more))
  where
    by_tests : (t l m : Bool) → (line == 0) ≡ m → (line - 1 < length xs → Passed (limit_of (text - 1) is_last (line - 1) xs))
        → Passed (option_or (if t then Some Text else (if l then Some Lines else (if m then Some Line else None))) (limit_of (text - 1) is_last (line - 1) xs))
    by_tests true l m is later = tt
    by_tests false true m is later = tt
    by_tests false false true is later = tt
    by_tests false false false is later = later (let some : 0 < line = grind (arith, nat_tests, is) in omega (arith, some, long))

blanks : ℕ → List ℕ
blanks zero = []
blanks (suc n) = 32 ∷ blanks n

blanks-unbroken : (n : ℕ) → IsUnbroken (blanks n)
unfolding blanks
blanks-unbroken zero = All-nil (λ b. eqb b 10 ≡ false)
blanks-unbroken (suc n) = All-cons (λ b. eqb b 10 ≡ false) 32 (blanks n) refl (blanks-unbroken n)

blanks-length : (n : ℕ) → length (blanks n) ≡ n
unfolding blanks
blanks-length zero = refl
blanks-length (suc n) = ap suc (blanks-length n)

-- what stands behind a part of a line so that a limit is passed
pub record Overflow (left : Remaining) (part : List ℕ) : Type 0 where
  pub behind : List ℕ
  pub which : LimitKind
  pub passes : limit_in left (part ++ behind) ≡ Some which
  pub by_length : IsLengthLimit which

pub overflows : (left : Remaining) (part : List ℕ) → IsUnbroken part → Overflow left part
overflows left part unbroken = by_limit (limit_in left (part ++ behind)) refl
    (passed-long left.text left.is_last left.line (part ++ behind) (All-append (λ b. eqb b 10 ≡ false) part behind unbroken (blanks-unbroken (left.line + 1)))
    (omega (arith, length-append part behind, blanks-length (left.line + 1))))
  where
    behind : List ℕ
    behind = blanks (left.line + 1)

    by_limit : (o : Option LimitKind) → limit_in left (part ++ behind) ≡ o → Passed o → Overflow left part
    by_limit None is h = absurd h
    by_limit (Some which) is h = record { behind = behind; which = which; passes = is; by_length = h }
