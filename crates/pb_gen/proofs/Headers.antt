-- What the first line of a generated text tells.
use Rattle.std.proofs.Common.{◌≡◌, ◌<◌, ◌^◌, ◌==◌, ◌&&◌, ℕ, Bool, true, false, not, cond, List, [], ◌∷◌, ◌++◌, map, refl, ap, ◌∙◌, arith, append_assoc, Option, Some, None}
use Rattle.std.specs.Option.{option_map}
use Rattle.std.specs.Prelude.{codes, decimal, if◌then◌else◌}
use Rattle.std.specs.Char.{is_ascii_digit}
use Rattle.std.specs.List.{AllByRecursion}
use Rattle.std.specs.Str.{all_ascii_digits, bytes_eq}
use Rattle.std.proofs.lemmas.Bool.Decides.{nat_tests}
use Rattle.pb_base.specs.Lines.{first_line}
use Rattle.pb_base.specs.Numbers.{natural_of}
use Rattle.pb_base.specs.Words.{words_of, Chunk}
use Rattle.pb_base.proofs.NumeralLemmas.{natural_printed, numeral_is_black, printed}
use Rattle.pb_base.proofs.WordLemmas.{bare_from, word_ends}
use Rattle.pb_opb.specs.FirstLine.{count_of, counted, told_vars, vars_or_none}
use Rattle.pb_gen.proofs.Tests.{both, not_true}
use Rattle.pb_gen.specs.Generated.{header_text}

-- ---- a line

abbrev pub Inside : ℕ → Type 0
Inside b = (b == 10) ≡ false

abbrev pub IsLine : List ℕ → Type 0
IsLine bytes = AllByRecursion Inside bytes

abbrev has_no_end : List ℕ → Bool
has_no_end [] = true
has_no_end (b ∷ bytes) = not (b == 10) && has_no_end bytes

no_end-line : (bytes : List ℕ) → has_no_end bytes ≡ true → IsLine bytes
no_end-line [] h = tt
no_end-line (b ∷ bytes) h = let parts = both (not (b == 10)) (has_no_end bytes) h in (not_true (b == 10) parts.0, no_end-line bytes parts.1)

digits-line : (ds : List ℕ) → all_ascii_digits ds ≡ true → IsLine ds
digits-line [] h = tt
digits-line (d ∷ ds) h =
    let parts = both (is_ascii_digit d) (all_ascii_digits ds) h in
    let digit = parts.0 in
    (grind (arith, nat_tests), digits-line ds parts.1)

line-append : (a b : List ℕ) → IsLine a → IsLine b → IsLine (a ++ b)
line-append [] b first second = second
line-append (x ∷ a) b first second = (first.0, line-append a b first.1 second)

first_line-is : (line rest : List ℕ) → IsLine line → first_line (line ++ 10 ∷ rest) ≡ line
first_line-is [] rest is = refl
first_line-is (b ∷ line) rest is = ap (λ (e : Bool). cond e [] (b ∷ first_line (line ++ 10 ∷ rest))) is.0 ∙ ap (λ (xs : List ℕ). b ∷ xs) (first_line-is line rest is.1)

-- ---- the first line

-- behind its `*`
abbrev pub header_rest : ℕ → ℕ → List ℕ
header_rest vars n = codes " #variable= " ++ (decimal vars ++ (codes " #constraint= " ++ decimal n))

regroup : (a v b c e rest : List ℕ) → (a ++ v ++ b ++ c ++ e) ++ rest ≡ (a ++ (v ++ (b ++ c))) ++ (e ++ rest)
regroup a v b c e rest = simp append_assoc

pub header_is : (vars n : ℕ) (rest : List ℕ) → header_text vars n ++ rest ≡ 42 ∷ header_rest vars n ++ 10 ∷ rest
header_is vars n rest = regroup (codes "* #variable= ") (decimal vars) (codes " #constraint= ") (decimal n) (10 ∷ []) rest

pub rest_is_line : (vars n : ℕ) → vars < 2 ^ 31 → n < 2 ^ 31 → IsLine (header_rest vars n)
rest_is_line vars n many few =
    line-append (codes " #variable= ") _ (no_end-line (codes " #variable= ") refl)
    (line-append (decimal vars) _ (digits-line (decimal vars) (printed vars (omega arith)).digits)
    (line-append (codes " #constraint= ") _ (no_end-line (codes " #constraint= ") refl) (digits-line (decimal n) (printed n (omega arith)).digits)))

-- ---- what it tells

abbrev value_or_none : Option ℕ → ℕ
value_or_none None = 0
value_or_none (Some n) = n

abbrev told_by : List (List ℕ) → ℕ
told_by (star ∷ name ∷ digits ∷ rest) = if bytes_eq star (codes "*") && bytes_eq name (codes "#variable=") then value_or_none (natural_of digits) else 0
told_by _ = 0

told_by-words : (ws : List Chunk) → vars_or_none (counted ws) ≡ told_by (map (λ w. w.text) ws)
told_by-words [] = refl
told_by-words (a ∷ []) = refl
told_by-words (a ∷ b ∷ []) = refl
told_by-words (a ∷ b ∷ c ∷ rest) = by_test (bytes_eq a.text (codes "*") && bytes_eq b.text (codes "#variable="))
  where
    by_number : (o : Option ℕ) → vars_or_none (option_map (λ n. record { column = c.column; vars = n }) o) ≡ value_or_none o
    by_number None = refl
    by_number (Some n) = refl

    by_test : (t : Bool) → vars_or_none (cond t (count_of c) None) ≡ cond t (value_or_none (natural_of c.text)) 0
    by_test true = by_number (natural_of c.text)
    by_test false = refl

pub header_told : (vars n : ℕ) (rest : List ℕ) → vars < 2 ^ 31 → n < 2 ^ 31 → told_vars (header_text vars n ++ rest) ≡ vars
header_told vars n rest many few =
    let number = printed vars (omega arith) in
    let line : List ℕ = 42 ∷ header_rest vars n in
    ap told_vars (header_is vars n rest)
    ∙ ap (λ (xs : List ℕ). vars_or_none (counted (words_of xs))) (first_line-is line rest (refl, rest_is_line vars n many few))
    ∙ told_by-words (words_of line)
    ∙ ap told_by (bare_from 1 line)
    ∙ ap (λ (ws : List (List ℕ)). told_by (codes "*" ∷ codes "#variable=" ∷ ws)) (word_ends (decimal vars) (codes " #constraint= " ++ decimal n) number.some (numeral_is_black vars (decimal vars) number) refl)
    ∙ ap value_or_none (natural_printed vars (decimal vars) number)
