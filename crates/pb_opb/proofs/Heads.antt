-- The token at the front of a text, by its first bytes.
use Rattle.std.proofs.Common.{◌≡◌, ℕ, suc, ◌+◌, ◌-◌, ◌*◌, ◌<◌, ◌≤◌, Bool, true, false, ◌==◌, cond, List, [], ◌∷◌, length, get_or, take, drop, Some, None, sym, refl, ap, ◌∙◌, arith, rules, add-one, length-take-le}
use Rattle.std.specs.Prelude.{pos, neg_ℤ}
use Rattle.std.specs.Option.{option_map}
use Rattle.std.specs.Char.{is_ascii_digit, digit_value}
use Rattle.std.specs.Str.{all_ascii_digits}
use Rattle.std.specs.Str.Parse.{AllDigits, digits_value}
use Rattle.std.proofs.lemmas.Int.Digits.{digits_value_more}
use Rattle.std.proofs.lemmas.Str.Parse.{IsNumeralModel, numerals_by_weight, tells_all_ascii_digits}
use Rattle.std.proofs.lemmas.Bool.Decides.{nat_tests}
use Rattle.pb_base.specs.declared.place.Place.{Place}
use Rattle.pb_base.specs.Places.{start, along}
use Rattle.pb_base.specs.Numbers.{natural_of, weighed}
use Rattle.pb_base.specs.Tokens.{Piece, is_word_byte, joins, joins_next, uncommented, tokens_from, tokens_of}
use Rattle.pb_base.specs.inner.Scans.{run_len, BeginsToken}
use Rattle.pb_base.proofs.Cuts.{run_len_le, tokens_from-split}
use Rattle.pb_named.specs.Names.{named}
use Rattle.pb_named.specs.Names.Name.{index}
use Rattle.pb_opb.specs.declared.head.Digits.{Digits}
use Rattle.pb_opb.specs.Grammar.{kind_of, spelled, named_literal, with_sign}
use Rattle.pb_opb.specs.Grammar.Kind.{integer, literal}
use Rattle.pb_opb.specs.reader.Heads.{AreDigits, behind, behind_x, ends_word, token_at}

-- where the next byte joins, and where not
run-joined : (b : ℕ) (rest : List ℕ) → joins_next b rest ≡ true → run_len (b ∷ rest) ≡ suc (run_len rest)
run-joined b rest joined = ap (λ (j : Bool). cond j (run_len rest + 1) 1) joined ∙ add-one (run_len rest)

run-apart : (b : ℕ) (rest : List ℕ) → joins_next b rest ≡ false → run_len (b ∷ rest) ≡ 1
run-apart b rest apart = ap (λ (j : Bool). cond j (run_len rest + 1) 1) apart

pub token-joined : (b : ℕ) (rest : List ℕ) → joins_next b rest ≡ true → token_at (b ∷ rest) ≡ b ∷ token_at rest
token-joined b rest joined = ap (λ (n : ℕ). take n (b ∷ rest)) (run-joined b rest joined)

pub behind-joined : (b : ℕ) (rest : List ℕ) → joins_next b rest ≡ true → behind (b ∷ rest) ≡ behind rest
behind-joined b rest joined = ap (λ (n : ℕ). drop n (b ∷ rest)) (run-joined b rest joined)

pub token-apart : (b : ℕ) (rest : List ℕ) → joins_next b rest ≡ false → token_at (b ∷ rest) ≡ b ∷ []
token-apart b rest apart = ap (λ (n : ℕ). take n (b ∷ rest)) (run-apart b rest apart)

pub behind-apart : (b : ℕ) (rest : List ℕ) → joins_next b rest ≡ false → behind (b ∷ rest) ≡ rest
behind-apart b rest apart = ap (λ (n : ℕ). drop n (b ∷ rest)) (run-apart b rest apart)

-- a digit joins the byte of a word before it, and what ends a word joins none
joins-digit : (b c : ℕ) → is_word_byte b ≡ true → (b == 58) ≡ false → is_ascii_digit c ≡ true → joins b c ≡ true
joins-digit b c word mark digit = grind (arith, nat_tests)

digit-word : (b : ℕ) → is_ascii_digit b ≡ true → (is_word_byte b ≡ true) × ((b == 58) ≡ false)
digit-word b digit = (grind (arith, nat_tests), grind (arith, nat_tests))

digit-ends : (b c : ℕ) → is_ascii_digit b ≡ true → ends_word c ≡ true → joins b c ≡ false
digit-ends b c digit ends = grind (arith, nat_tests)

pub joins_next-digit : (b : ℕ) (rest : List ℕ) → is_word_byte b ≡ true → (b == 58) ≡ false → is_ascii_digit (get_or rest 0 0) ≡ true → joins_next b rest ≡ true
joins_next-digit b [] word mark digit = absurd (let no : false ≡ true = digit in cc)
joins_next-digit b (c ∷ rest) word mark digit = joins-digit b c word mark digit

-- digits up to a byte that ends a word
run-digits : (i : ℕ) (bytes : List ℕ) → suc i < length bytes → ((k : ℕ) → k < suc i → is_ascii_digit (get_or bytes k 0) ≡ true) → ends_word (get_or bytes (suc i) 0) ≡ true → run_len bytes ≡ suc i
run-digits i [] inside each ends = absurd (omega arith)
run-digits i (b ∷ []) inside each ends = absurd (omega arith)
run-digits ℕ.zero (b ∷ c ∷ rest) inside each ends = run-apart b (c ∷ rest) (digit-ends b c (each 0 (omega arith)) ends)
run-digits (suc i) (b ∷ c ∷ rest) inside each ends =
    let w = digit-word b (each 0 (omega arith)) in
    run-joined b (c ∷ rest) (joins-digit b c w.0 w.1 (each 1 (omega arith)))
    ∙ ap suc (run-digits i (c ∷ rest) (omega arith) (λ k below. each (suc k) (omega arith)) ends)

weighs : IsNumeralModel (λ ds. all_ascii_digits ds ≡ true) weighed
weighs = numerals_by_weight _ tells_all_ascii_digits weighed (search rules)

natural_of-digits : (ds : List ℕ) → 0 < length ds → AllDigits 10 ds → natural_of ds ≡ Some (digits_value 10 ds)
natural_of-digits [] some digits = absurd (omega arith)
natural_of-digits (d ∷ ds) some digits =
    ap (λ (b : Bool). cond b (Some (weighed (d ∷ ds))) None) (weighs.from (d ∷ ds) digits) ∙ ap Some (weighs.same (d ∷ ds) digits)

pub one-more : (bytes : List ℕ) (i v d : ℕ) → i < length bytes → is_ascii_digit (get_or bytes i 0) ≡ true → v ≡ digits_value 10 (take i bytes) → d ≡ get_or bytes i 0 - 48 → v * 10 + d ≡ digits_value 10 (take (i + 1) bytes)
one-more bytes i v d inside digit so_far at =
    let value : digit_value (get_or bytes i 0) ≡ get_or bytes i 0 - 48 = grind (arith, nat_tests) in
    omega (arith, digits_value_more 10 bytes i inside)

pub are-digits : (bytes : List ℕ) (i : ℕ) (d : Digits) → 1 ≤ i → i < length bytes → AllDigits 10 (take i bytes) → d.value ≡ digits_value 10 (take i bytes) → ((k : ℕ) → k < i → is_ascii_digit (get_or bytes k 0) ≡ true) → ends_word (get_or bytes i 0) ≡ true → d.rest.now ≡ drop i bytes → AreDigits bytes d
are-digits bytes i d some inside digits value each ends rest =
    let j = i - 1 in
    let more : suc j ≡ i = omega arith in
    let run : run_len bytes ≡ i = run-digits j bytes (omega arith) (λ k below. each k (omega arith)) (ap (λ (n : ℕ). ends_word (get_or bytes n 0)) more ∙ ends) ∙ more in
    record {
      first = each 0 (omega arith);
      value = ap (λ (n : ℕ). natural_of (take n bytes)) run ∙ natural_of-digits (take i bytes) (omega (arith, length-take-le i bytes (omega arith))) digits ∙ ap Some (sym value);
      rest = rest ∙ ap (λ (n : ℕ). drop n bytes) (sym run);
    }

-- the token at the front is not empty
run_len-some : (b : ℕ) (rest : List ℕ) → 1 ≤ run_len (b ∷ rest)
run_len-some b rest = elim (joins_next b rest) as (λ j. 1 ≤ cond j (run_len rest + 1) 1) [ true ↦ omega arith | false ↦ omega arith ]

pub token-length : (text : List ℕ) → length (token_at text) ≡ run_len text
token-length text = length-take-le (run_len text) text (run_len_le text)

-- the tokens of a text are the one at the front, and those of what stands behind it
pub head-cut : (p : Place) (text : List ℕ) → 1 ≤ length text → BeginsToken text → tokens_from p (uncommented text) ≡ record { place = p; text = token_at text } ∷ tokens_from (along (run_len text) p) (uncommented (behind text))
head-cut p [] some front = absurd (omega arith)
head-cut p (b ∷ rest) some front =
    let text = b ∷ rest in
    let long : 1 ≤ length (token_at text) = omega (arith, token-length text, run_len-some b rest) in
    tokens_from-split text (token_at text) (behind text) p (along (length (token_at text)) p) (run_len text) front refl refl refl refl (grind (arith, nat_tests))
    ∙ ap (λ (n : ℕ). record { place = p; text = token_at text } ∷ tokens_from (along n p) (uncommented (behind text))) (token-length text)

pub first-token : (text : List ℕ) (t : Piece) (ts : List Piece) → 1 ≤ length text → BeginsToken text → tokens_of text ≡ t ∷ ts → t.text ≡ token_at text
first-token text t ts some front cut = let head = head-cut start text some front in let same : t ∷ ts ≡ record { place = start; text = token_at text } ∷ tokens_from (along (run_len text) start) (uncommented (behind text)) = sym cut ∙ head in cc

pub some-token : (text : List ℕ) → 1 ≤ length text → BeginsToken text → tokens_of text ≡ [] → ⊥
some-token text some front none = let head = head-cut start text some front in let same = sym none ∙ head in cc

-- what a word of digits behind other bytes stands for
nonzero : (n : ℕ) → 1 ≤ n → (n == 0) ≡ false
nonzero n some = grind (arith, nat_tests)

index-is : (positive : Bool) (word : List ℕ) (n : ℕ) → natural_of word ≡ Some n → 1 ≤ n → kind_of (behind_x positive word) ≡ literal (record { name = index n; positive = positive })
index-is true word n value some =
    ap (λ o. spelled None (option_map (with_sign true) (named o (120 ∷ word)))) value
    ∙ ap (λ (z : Bool). spelled None (option_map (with_sign true) (cond z None (Some (index n))))) (nonzero n some)
index-is false word n value some =
    ap (λ o. spelled None (option_map (with_sign false) (named o (120 ∷ word)))) value
    ∙ ap (λ (z : Bool). spelled None (option_map (with_sign false) (cond z None (Some (index n))))) (nonzero n some)

module _ (rest : List ℕ) (d : Digits) (digits : AreDigits rest d) where
  pub positive-kind : kind_of (token_at (43 ∷ rest)) ≡ integer (pos d.value)
  positive-kind =
      ap kind_of (token-joined 43 rest (joins_next-digit 43 rest refl refl digits.first))
      ∙ ap (λ o. spelled (option_map pos o) (named_literal (43 ∷ token_at rest))) digits.value

  pub positive-rest : d.rest.now ≡ behind (43 ∷ rest)
  positive-rest = digits.rest ∙ sym (behind-joined 43 rest (joins_next-digit 43 rest refl refl digits.first))

  pub negative-kind : kind_of (token_at (45 ∷ rest)) ≡ integer (neg_ℤ (pos d.value))
  negative-kind =
      ap kind_of (token-joined 45 rest (joins_next-digit 45 rest refl refl digits.first))
      ∙ ap (λ o. spelled (option_map (λ n. neg_ℤ (pos n)) o) (named_literal (45 ∷ token_at rest))) digits.value

  pub negative-rest : d.rest.now ≡ behind (45 ∷ rest)
  negative-rest = digits.rest ∙ sym (behind-joined 45 rest (joins_next-digit 45 rest refl refl digits.first))

  x-token : token_at (120 ∷ rest) ≡ 120 ∷ token_at rest
  x-token = token-joined 120 rest (joins_next-digit 120 rest refl refl digits.first)

  x-behind : behind (120 ∷ rest) ≡ behind rest
  x-behind = behind-joined 120 rest (joins_next-digit 120 rest refl refl digits.first)

  index-token : (positive : Bool) → token_at (behind_x positive rest) ≡ behind_x positive (token_at rest)
  index-token true = x-token
  index-token false = token-joined 126 (120 ∷ rest) refl ∙ ap (λ (w : List ℕ). 126 ∷ w) x-token

  pub index-kind : (positive : Bool) → 1 ≤ d.value → kind_of (token_at (behind_x positive rest)) ≡ literal (record { name = index d.value; positive = positive })
  index-kind positive some = ap kind_of (index-token positive) ∙ index-is positive (token_at rest) d.value digits.value some

  pub index-rest : (positive : Bool) → d.rest.now ≡ behind (behind_x positive rest)
  index-rest true = digits.rest ∙ sym x-behind
  index-rest false = digits.rest ∙ sym (behind-joined 126 (120 ∷ rest) refl ∙ x-behind)

-- a word that begins with a digit
digit-kind : (b : ℕ) (bs : List ℕ) → is_ascii_digit b ≡ true → kind_of (b ∷ bs) ≡ spelled (option_map pos (natural_of (b ∷ bs))) (named_literal (b ∷ bs))
digit-kind b bs digit =
    let min : (b == 109) ≡ false = grind (arith, nat_tests) in
    let end : (b == 59) ≡ false = grind (arith, nat_tests) in
    let more : (b == 62) ≡ false = grind (arith, nat_tests) in
    let less : (b == 60) ≡ false = grind (arith, nat_tests) in
    let same : (b == 61) ≡ false = grind (arith, nat_tests) in
    let minus : (b == 45) ≡ false = grind (arith, nat_tests) in
    let plus : (b == 43) ≡ false = grind (arith, nat_tests) in
    rw (min, end, more, less, same, minus, plus) refl

pub unsigned-kind : (text : List ℕ) (d : Digits) → AreDigits text d → kind_of (token_at text) ≡ integer (pos d.value)
unsigned-kind [] d digits = absurd (let no : false ≡ true = digits.first in cc)
unsigned-kind (b ∷ rest) d digits =
    let n = run_len (b ∷ rest) - 1 in
    let long : run_len (b ∷ rest) ≡ suc n = omega (arith, run_len-some b rest) in
    let word : token_at (b ∷ rest) ≡ b ∷ take n rest = ap (λ (m : ℕ). take m (b ∷ rest)) long in
    ap kind_of word ∙ digit-kind b (take n rest) digits.first
    ∙ ap (λ (w : List ℕ). spelled (option_map pos (natural_of w)) (named_literal w)) (sym word)
    ∙ ap (λ o. spelled (option_map pos o) (named_literal (token_at (b ∷ rest)))) digits.value

-- `;` and `=` join no byte behind them
pub alone : (b : ℕ) (rest : List ℕ) → ((c : ℕ) → joins b c ≡ false) → joins_next b rest ≡ false
alone b [] apart = refl
alone b (c ∷ rest) apart = apart c

pub equal-rest : (rest : List ℕ) → rest ≡ behind (61 ∷ rest)
equal-rest rest = sym (behind-apart 61 rest (alone 61 rest (λ c. refl)))
