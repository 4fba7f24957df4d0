-- Integers at the front of a part of a line, and behind one blank.
use Rattle.std.proofs.Common.{◌≡◌, ◌<◌, ◌+◌, ◌^◌, ℕ, zero, suc, Bool, true, false, cond, not, List, [], ◌∷◌, ◌++◌, length, take, drop, Some, refl, sym, ap, ◌∙◌, subst, arith, length-take-le, take-append-drop}
use Rattle.std.specs.Prelude.{ℤ, pos, neg_ℤ, unsigned_abs, nat_lt}
use Rattle.std.specs.Option.{option_map}
use Rattle.std.specs.Char.{digit_value}
use Rattle.std.specs.Str.Parse.{AllDigits}
use Rattle.std.proofs.lemmas.Bool.Decides.{nat_tests}
use Rattle.std.proofs.lemmas.Str.Parse.{digit_from_value}
use Rattle.pb_base.specs.declared.number.Number.{Number}
use Rattle.pb_base.specs.declared.number.Number.TheVariants.{Value, TooWide}
use Rattle.pb_base.specs.Numbers.{limited}
use Rattle.pb_base.specs.Tokens.{is_white}
use Rattle.pb_base.specs.Words.{goes_on, lead, words_from}
use Rattle.pb_base.proofs.WordLemmas.{IsBlack}
use Rattle.pb_steps.specs.Fronts.{IsNumberAt}
use Rattle.pb_steps.proofs.Shorts.{plain_told}
use Rattle.pb_dimacs.specs.CnfSymbols.{BeginsWith, symbols_at}
use Rattle.pb_dimacs.specs.CnfSymbols.CnfSymbol.{word}
use Rattle.pb_dimacs.specs.inner.Fronts.{BeginsByte, IsIntegerAt}

-- ---- the first word

-- bytes that are not white are the first word, where nothing goes on behind them
chunk_front : (column b : ℕ) (bytes rest : List ℕ) → IsBlack (b ∷ bytes) → goes_on rest ≡ false → words_from column (b ∷ bytes ++ rest) ≡ record { column = column; text = b ∷ bytes } ∷ words_from (column + length (b ∷ bytes)) rest
chunk_front column b [] rest black ends =
    ap (λ (w : Bool). cond w (words_from (column + 1) rest) (lead (goes_on rest) column b (words_from (column + 1) rest))) black.0
    ∙ ap (λ (g : Bool). lead g column b (words_from (column + 1) rest)) ends
chunk_front column b (c ∷ bytes) rest black ends =
    let far : column + 1 + length (c ∷ bytes) ≡ column + length (b ∷ c ∷ bytes) = omega arith in
    ap (λ (w : Bool). cond w (words_from (column + 1) (c ∷ bytes ++ rest)) (lead (not (is_white c)) column b (words_from (column + 1) (c ∷ bytes ++ rest)))) black.0
    ∙ ap (λ (w : Bool). lead (not w) column b (words_from (column + 1) (c ∷ bytes ++ rest))) black.1.0
    ∙ ap (lead true column b) (chunk_front (column + 1) c bytes rest black.1 ends)
    ∙ ap (λ (k : ℕ). record { column = column; text = b ∷ c ∷ bytes } ∷ words_from k rest) far

whole_front : (column : ℕ) (text rest : List ℕ) → 0 < length text → IsBlack text → goes_on rest ≡ false → words_from column (text ++ rest) ≡ record { column = column; text = text } ∷ words_from (column + length text) rest
whole_front column [] rest some black ends = absurd (omega arith)
whole_front column (b ∷ bytes) rest some black ends = chunk_front column b bytes rest black ends

module _ (bytes : List ℕ) (n : ℤ) (count : ℕ) (is : IsIntegerAt bytes n count) where
  abbrev front : List ℕ
  front = take count bytes

  words_first : (column : ℕ) → words_from column bytes ≡ record { column = column; text = front } ∷ words_from (column + count) (drop count bytes)
  words_first column =
      let long : length front ≡ count = length-take-le count bytes is.within in
      ap (words_from column) (sym (take-append-drop count bytes))
      ∙ whole_front column front (drop count bytes) (omega (arith, long, is.some)) is.black is.ends
      ∙ ap (λ (k : ℕ). record { column = column; text = front } ∷ words_from (column + k) (drop count bytes)) long

  pub symbols_first : (line column : ℕ) → symbols_at line (words_from column bytes) ≡ word (record { line = line; column = column }) (Value n) ∷ symbols_at line (words_from (column + count) (drop count bytes))
  symbols_first line column =
      ap (symbols_at line) (words_first column)
      ∙ ap (λ (m : Number). word (record { line = line; column = column }) m ∷ symbols_at line (words_from (column + count) (drop count bytes))) is.value

-- behind a gap
pub begins_behind : (bytes : List ℕ) (gap count : ℕ) (n : ℤ) → ((at : ℕ) → words_from (at + 1) bytes ≡ words_from (at + gap + 1) (drop gap bytes)) → drop count (drop gap bytes) ≡ drop (gap + count) bytes → IsIntegerAt (drop gap bytes) n count → BeginsWith bytes gap (gap + count) (Value n)
begins_behind bytes gap count n same left is = λ line at.
    let far : at + gap + 1 + count ≡ at + (gap + count) + 1 = omega arith in
    ap (symbols_at line) (same at)
    ∙ symbols_first (drop gap bytes) n count is line (at + gap + 1)
    ∙ ap (λ (k : ℕ). word (record { line = line; column = at + gap + 1 }) (Value n) ∷ symbols_at line (words_from k (drop count (drop gap bytes)))) far
    ∙ ap (λ (r : List ℕ). word (record { line = line; column = at + gap + 1 }) (Value n) ∷ symbols_at line (words_from (at + (gap + count) + 1) r)) left

-- ---- integers

digit-black : (c : ℕ) → digit_value c < 10 → is_white c ≡ false
digit-black c h = let range = digit_from_value c h in grind (arith, nat_tests, range)

pub digits-black : (ds : List ℕ) → AllDigits 10 ds → IsBlack ds
digits-black [] h = tt
digits-black (c ∷ cs) h = (digit-black c h.0, digits-black cs h.1)

-- a narrow one is told
told : (z : ℤ) → unsigned_abs z < 2 ^ 126 → limited (Some z) ≡ Value z
told z narrow =
    let test : nat_lt (unsigned_abs z) (2 ^ 126) ≡ true = grind (arith, nat_tests) in
    ap (λ (b : Bool). cond b (Value z) TooWide) test

pub plain_integer : (bytes : List ℕ) (n count : ℕ) → n < 2 ^ 126 → IsNumberAt bytes n count → IsIntegerAt bytes (pos n) count
plain_integer bytes n count narrow is = record {
  some = is.some;
  within = is.within;
  black = digits-black (take count bytes) is.digits;
  value = ap limited (plain_told (take count bytes) n is.digits is.value) ∙ told (pos n) narrow;
  ends = is.ends;
}

unsigned_neg : (n : ℕ) → unsigned_abs (neg_ℤ (pos n)) ≡ n
unsigned_neg zero = refl
unsigned_neg (suc n) = refl

negative_front : (digits : List ℕ) (n count : ℕ) → n < 2 ^ 126 → IsNumberAt digits n count → IsIntegerAt (45 ∷ digits) (neg_ℤ (pos n)) (suc count)
negative_front digits n count narrow is = record {
  some = omega arith;
  within = omega (arith, is.within);
  black = (refl, digits-black (take count digits) is.digits);
  value = ap (λ o. limited (option_map (λ m. neg_ℤ (pos m)) o)) is.value ∙ told (neg_ℤ (pos n)) (omega (arith, unsigned_neg n, narrow));
  ends = is.ends;
}

pub negative_integer : (bytes : List ℕ) (n count : ℕ) → BeginsByte 45 bytes → n < 2 ^ 126 → IsNumberAt (drop 1 bytes) n count → IsIntegerAt bytes (neg_ℤ (pos n)) (count + 1)
negative_integer [] n count begins narrow is = absurd (omega (arith, begins.some))
negative_integer (b ∷ digits) n count begins narrow is =
    let same : suc count ≡ count + 1 = omega arith in
    subst (IsIntegerAt (b ∷ digits) (neg_ℤ (pos n))) same
    (subst (λ (c : ℕ). IsIntegerAt (c ∷ digits) (neg_ℤ (pos n)) (suc count)) (sym begins.first) (negative_front digits n count narrow is))
