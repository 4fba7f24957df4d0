-- Numbers that were printed are read back.
use Rattle.std.proofs.Common.{◌≡◌, ◌<◌, ◌^◌, ◌==◌, ◌&&◌, ℕ, Bool, true, false, cond, List, [], ◌∷◌, length, refl, ap, ◌∙◌, arith, rules, Some, None}
use Rattle.std.specs.Prelude.{pos, neg_ℤ, decimal}
use Rattle.std.specs.Char.{is_ascii_digit}
use Rattle.std.specs.Option.{option_map}
use Rattle.std.specs.Str.{all_ascii_digits}
use Rattle.std.proofs.lemmas.Bool.Decides.{nat_tests}
use Rattle.std.proofs.lemmas.Fmt.{decimal_is_IsNumeral_wide}
use Rattle.std.proofs.lemmas.Str.Parse.{IsNumeralModel, numerals_by_weight, tells_all_ascii_digits}
use Rattle.pb_base.specs.Numbers.{weighed, natural_of, integer_of}
use Rattle.pb_base.proofs.WordLemmas.{Black, IsBlack}

weighs : IsNumeralModel (λ ds. all_ascii_digits ds ≡ true) weighed
weighs = numerals_by_weight _ tells_all_ascii_digits weighed (search rules)

both : (a b : Bool) → (a && b) ≡ true → (a ≡ true) × (b ≡ true)
both true true h = (refl, refl)
both true false h = cc
both false b h = cc

digit_is_black : (b : ℕ) → is_ascii_digit b ≡ true → Black b
digit_is_black b h = grind (arith, nat_tests)

digits_are_black : (ds : List ℕ) → all_ascii_digits ds ≡ true → IsBlack ds
digits_are_black [] h = tt
digits_are_black (d ∷ ds) h = let parts = both (is_ascii_digit d) (all_ascii_digits ds) h in (digit_is_black d parts.0, digits_are_black ds parts.1)

-- a word of digits, and the number that it spells
pub record IsNumeralOf (n : ℕ) (ds : List ℕ) : Type 0 where
  pub some : 0 < length ds
  pub digits : all_ascii_digits ds ≡ true
  pub value : weighed ds ≡ n

pub printed : (n : ℕ) → n < 10 ^ 64 → IsNumeralOf n (decimal n)
printed n fits =
    let (is, same) = decimal_is_IsNumeral_wide n fits in
    record { some = is.0; digits = weighs.from (decimal n) is.1; value = weighs.same (decimal n) is.1 ∙ same }

pub numeral_is_black : (n : ℕ) (ds : List ℕ) → IsNumeralOf n ds → IsBlack ds
numeral_is_black n ds is = digits_are_black ds is.digits

pub natural_printed : (n : ℕ) (ds : List ℕ) → IsNumeralOf n ds → natural_of ds ≡ Some n
natural_printed n [] is = absurd (omega (arith, is.some))
natural_printed n (d ∷ ds) is = ap (λ (b : Bool). cond b (Some (weighed (d ∷ ds))) None) is.digits ∙ ap Some is.value

-- the first byte of a numeral is no `-` and no `+`, and opens no comment
pub no_sign : (n d : ℕ) (ds : List ℕ) → IsNumeralOf n (d ∷ ds) → ((d == 45) ≡ false) × ((d == 43) ≡ false) × ((d == 99) ≡ false)
no_sign n d ds is =
    let digit = (both (is_ascii_digit d) (all_ascii_digits ds) is.digits).0 in
    (grind (arith, nat_tests), grind (arith, nat_tests), grind (arith, nat_tests))

pub integer_printed : (n : ℕ) (ds : List ℕ) → IsNumeralOf n ds → integer_of ds ≡ Some (pos n)
integer_printed n [] is = absurd (omega (arith, is.some))
integer_printed n (d ∷ ds) is =
    let plain = no_sign n d ds is in
    ap (λ (b : Bool). cond b (option_map (λ n. neg_ℤ (pos n)) (natural_of ds)) (option_map pos (natural_of (cond (d == 43) ds (d ∷ ds))))) plain.0
    ∙ ap (λ (b : Bool). option_map pos (natural_of (cond b ds (d ∷ ds)))) plain.1
    ∙ ap (option_map pos) (natural_printed n (d ∷ ds) is)
