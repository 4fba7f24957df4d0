-- Words behind one blank each, and what they stand for.
use Rattle.std.proofs.Common.{◌≡◌, ◌≤◌, ◌<◌, ◌+◌, ◌-◌, ◌*◌, ◌==◌, ℕ, suc, Bool, true, false, cond, List, [], ◌∷◌, ◌++◌, length, take, drop, get_or, Option, Some, None, refl, sym, ap, ◌∙◌, subst, arith, rules, append_assoc, length-append, length-drop, length-take-le, take-append-drop}
use Rattle.std.specs.Prelude.{pos, neg_ℤ}
use Rattle.std.specs.Option.{option_map}
use Rattle.std.specs.Char.{is_ascii_digit, digit_value}
use Rattle.std.proofs.lemmas.Int.Digits.{digits_value_more}
use Rattle.std.specs.Str.{all_ascii_digits}
use Rattle.std.specs.Str.Parse.{AllDigits, digits_value}
use Rattle.std.proofs.lemmas.List.{take_all}
use Rattle.std.proofs.lemmas.Bool.Decides.{nat_tests}
use Rattle.std.proofs.lemmas.Str.Parse.{IsNumeralModel, numerals_by_weight, tells_all_ascii_digits, digit_from_value}
use Rattle.pb_base.specs.declared.literal.Lit.{Lit}
use Rattle.pb_base.specs.Numbers.{weighed, natural_of, integer_of}
use Rattle.pb_base.specs.LiteralWords.{indexed}
use Rattle.pb_base.specs.Tokens.{is_white}
use Rattle.pb_base.specs.Words.{words_of, goes_on}
use Rattle.pb_base.proofs.WordLemmas.{bare_words, bare_from, IsBlack, word_ends}
use Rattle.pb_steps.specs.StepGrammar.{StepSymbol, SpellsSymbol, SpellAll, texts}
use Rattle.pb_steps.specs.Fronts.{IsNumberAt, IsShort, Spells}

-- ---- digits

-- one digit more
pub digit_more : (ds : List ℕ) (i d v : ℕ) → i < length ds → d ≡ get_or ds i 0 → is_ascii_digit d ≡ true → v ≡ digits_value 10 (take i ds) → v * 10 + (d - 48) ≡ digits_value 10 (take (i + 1) ds)
digit_more ds i d v inside at digit so_far =
    let value : digit_value d ≡ d - 48 = grind (arith, nat_tests) in
    let more = digits_value_more 10 ds i inside in
    let same : digit_value (get_or ds i 0) ≡ d - 48 = ap digit_value (sym at) ∙ value in
    omega arith

weighs : IsNumeralModel (λ ds. all_ascii_digits ds ≡ true) weighed
weighs = numerals_by_weight _ tells_all_ascii_digits weighed (search rules)

-- a word of digits, read from the left
natural_is : (ds : List ℕ) → 0 < length ds → AllDigits 10 ds → natural_of ds ≡ Some (digits_value 10 ds)
natural_is [] some digits = absurd (omega arith)
natural_is (d ∷ ds) some digits =
    ap (λ (b : Bool). cond b (Some (weighed (d ∷ ds))) None) (weighs.from (d ∷ ds) digits) ∙ ap (λ (n : ℕ). Some n) (weighs.same (d ∷ ds) digits)

pub number-is : (bytes : List ℕ) (n count : ℕ) → 0 < count → count ≤ length bytes → AllDigits 10 (take count bytes) → n ≡ digits_value 10 (take count bytes) → goes_on (drop count bytes) ≡ false → IsNumberAt bytes n count
number-is bytes n count some within digits value ends = record {
  some = some;
  within = within;
  digits = digits;
  value = natural_is (take count bytes) (omega (arith, length-take-le count bytes within, some)) digits ∙ ap (λ (m : ℕ). Some m) (sym value);
  ends = ends;
}

digit-black : (c : ℕ) → digit_value c < 10 → is_white c ≡ false
digit-black c h = let range = digit_from_value c h in grind (arith, nat_tests, range)

digits-black : (ds : List ℕ) → AllDigits 10 ds → IsBlack ds
digits-black [] h = tt
digits-black (c ∷ cs) h = (digit-black c h.0, digits-black cs h.1)

black-append : (xs ys : List ℕ) → IsBlack xs → IsBlack ys → IsBlack (xs ++ ys)
black-append [] ys h k = k
black-append (x ∷ xs) ys h k = (h.0, black-append xs ys h.1 k)

-- ---- a word and what is behind it

bare : (line : List ℕ) → texts (words_of line) ≡ bare_words line
bare line = bare_from 1 line

abbrev SpelledAs : List StepSymbol → List (List ℕ) → Type 0
SpelledAs ks ws = SpellAll ws ks

front : (word rest : List ℕ) (k : StepSymbol) (ks : List StepSymbol) → 0 < length word → IsBlack word → goes_on rest ≡ false → SpellsSymbol word k → SpellAll (bare_words rest) ks → SpellAll (bare_words (word ++ rest)) (k ∷ ks)
front word rest k ks some black ends spelled behind = subst (SpelledAs (k ∷ ks)) (sym (word_ends word rest some black ends)) (spelled, behind)

-- the word that is the first bytes of a line
pub word-spells : (line : List ℕ) (n : ℕ) (k : StepSymbol) → 0 < n → n ≤ length line → IsBlack (take n line) → goes_on (drop n line) ≡ false → SpellsSymbol (take n line) k → Spells line (k ∷ []) n
word-spells line n k some within black ends spelled = λ rest behind.
    let long : 0 < length (take n line) = omega (arith, length-take-le n line within, some) in
    let whole = front (take n line) (drop n line) k rest long black ends spelled (subst (SpelledAs rest) (bare (drop n line)) behind) in
    subst (SpelledAs (k ∷ rest)) (sym (bare line)) (subst (λ (bytes : List ℕ). SpellAll (bare_words bytes) (k ∷ rest)) (take-append-drop n line) whole)

-- a number behind a blank, and perhaps behind other bytes of its word
module _ (p word : List ℕ) (n count m : ℕ) (k : StepSymbol) (number : IsNumberAt word n count) (size : m ≡ length p + count + 1) (at : drop m (32 ∷ (p ++ word)) ≡ drop count word) (black : IsBlack p) (spelled : SpellsSymbol (p ++ take count word) k) where
  text-long : length (p ++ take count word) ≡ length p + count
  text-long = omega (arith, length-append p (take count word), length-take-le count word number.within)

  text-whole : (p ++ take count word) ++ drop count word ≡ p ++ word
  text-whole = append_assoc p (take count word) (drop count word) ∙ ap (λ (bytes : List ℕ). p ++ bytes) (take-append-drop count word)

  number-spells : IsShort (32 ∷ (p ++ word)) (k ∷ []) m
  number-spells = record {
    some = omega (arith, size);
    within = omega (arith, size, length-append p word, number.within);
    spells = λ rest behind.
        let left = subst (λ (bytes : List ℕ). SpellAll (bare_words bytes) rest) at (subst (SpelledAs rest) (bare (drop m (32 ∷ (p ++ word)))) behind) in
        let long : 0 < length (p ++ take count word) = omega (arith, text-long, number.some) in
        let all = front (p ++ take count word) (drop count word) k rest long (black-append p (take count word) black (digits-black (take count word) number.digits)) number.ends spelled left in
        subst (SpelledAs (k ∷ rest)) (sym (bare (32 ∷ (p ++ word)))) (subst (λ (bytes : List ℕ). SpellAll (bare_words bytes) (k ∷ rest)) text-whole all);
  }

number_behind : (word : List ℕ) (n count m : ℕ) (k : StepSymbol) → IsNumberAt word n count → m ≡ count + 1 → SpellsSymbol (take count word) k → IsShort (32 ∷ word) (k ∷ []) m
number_behind word n count m k number size spelled =
    let same : m ≡ suc count = omega (arith, size) in
    number-spells [] word n count m k number (omega (arith, size)) (ap (λ (i : ℕ). drop i (32 ∷ word)) same) tt spelled

number_behind_one : (b : ℕ) (word : List ℕ) (n count m : ℕ) (k : StepSymbol) → IsNumberAt word n count → m ≡ count + 2 → is_white b ≡ false → SpellsSymbol (b ∷ take count word) k → IsShort (32 ∷ b ∷ word) (k ∷ []) m
number_behind_one b word n count m k number size black spelled =
    let same : m ≡ suc (suc count) = omega (arith, size) in
    number-spells (b ∷ []) word n count m k number (omega (arith, size)) (ap (λ (i : ℕ). drop i (32 ∷ b ∷ word)) same) (black, tt) spelled

number_behind_two : (b c : ℕ) (word : List ℕ) (n count m : ℕ) (k : StepSymbol) → IsNumberAt word n count → m ≡ count + 3 → is_white b ≡ false → is_white c ≡ false → SpellsSymbol (b ∷ c ∷ take count word) k → IsShort (32 ∷ b ∷ c ∷ word) (k ∷ []) m
number_behind_two b c word n count m k number size black also spelled =
    let same : m ≡ suc (suc (suc count)) = omega (arith, size) in
    number-spells (b ∷ c ∷ []) word n count m k number (omega (arith, size)) (ap (λ (i : ℕ). drop i (32 ∷ b ∷ c ∷ word)) same) (black, (also, tt)) spelled

-- a word of one byte behind a blank
mark-short : (b : ℕ) (word : List ℕ) → is_white b ≡ false → goes_on word ≡ false → IsShort (32 ∷ b ∷ word) (StepSymbol.key (b ∷ []) ∷ []) 2
mark-short b word black ends = record {
  some = omega arith;
  within = omega arith;
  spells = λ rest behind.
      let all = front (b ∷ []) word (StepSymbol.key (b ∷ [])) rest (omega arith) (black, tt) ends refl (subst (SpelledAs rest) (bare word) behind) in
      subst (SpelledAs (StepSymbol.key (b ∷ []) ∷ rest)) (sym (bare (32 ∷ b ∷ word))) all;
}

-- a word of two bytes behind a blank
pair-short : (b c : ℕ) (word : List ℕ) → is_white b ≡ false → is_white c ≡ false → goes_on word ≡ false → IsShort (32 ∷ b ∷ c ∷ word) (StepSymbol.key (b ∷ c ∷ []) ∷ []) 3
pair-short b c word black also ends = record {
  some = omega arith;
  within = omega arith;
  spells = λ rest behind.
      let all = front (b ∷ c ∷ []) word (StepSymbol.key (b ∷ c ∷ [])) rest (omega arith) (black, (also, tt)) ends refl (subst (SpelledAs rest) (bare word) behind) in
      subst (SpelledAs (StepSymbol.key (b ∷ c ∷ []) ∷ rest)) (sym (bare (32 ∷ b ∷ c ∷ word))) all;
}

-- ---- the same by the bytes at places

-- what a pattern leaves
pub behind_front : (left : List ℕ) (j : ℕ) → take (length left - j) (drop j left) ≡ drop j left
behind_front left j = take_all (length left - j) (drop j left) (omega (arith, length-drop j left))

pub number_here : (left word : List ℕ) (n count m : ℕ) (k : StepSymbol) → 1 ≤ length left → get_or left 0 0 ≡ 32 → word ≡ drop 1 left → IsNumberAt word n count → m ≡ count + 1 → SpellsSymbol (take count word) k → IsShort left (k ∷ []) m
number_here [] word n count m k long blank rest number size spelled = absurd (omega arith)
number_here (a ∷ bytes) word n count m k long blank rest number size spelled =
    let same : 32 ∷ word ≡ a ∷ bytes = cc in
    subst (λ (line : List ℕ). IsShort line (k ∷ []) m) same (number_behind word n count m k number size spelled)

pub number_here_one : (b : ℕ) (left word : List ℕ) (n count m : ℕ) (k : StepSymbol) → 2 ≤ length left → get_or left 0 0 ≡ 32 → get_or left 1 0 ≡ b → word ≡ drop 2 left → IsNumberAt word n count → m ≡ count + 2 → is_white b ≡ false → SpellsSymbol (b ∷ take count word) k → IsShort left (k ∷ []) m
number_here_one b [] word n count m k long blank one rest number size black spelled = absurd (omega arith)
number_here_one b (_ ∷ []) word n count m k long blank one rest number size black spelled = absurd (omega arith)
number_here_one b (a ∷ i ∷ bytes) word n count m k long blank one rest number size black spelled =
    let same : 32 ∷ b ∷ word ≡ a ∷ i ∷ bytes = cc in
    subst (λ (line : List ℕ). IsShort line (k ∷ []) m) same (number_behind_one b word n count m k number size black spelled)

pub number_here_two : (b c : ℕ) (left word : List ℕ) (n count m : ℕ) (k : StepSymbol) → 3 ≤ length left → get_or left 0 0 ≡ 32 → get_or left 1 0 ≡ b → get_or left 2 0 ≡ c → word ≡ drop 3 left → IsNumberAt word n count → m ≡ count + 3 → is_white b ≡ false → is_white c ≡ false → SpellsSymbol (b ∷ c ∷ take count word) k → IsShort left (k ∷ []) m
number_here_two b c [] word n count m k long blank one two rest number size black also spelled = absurd (omega arith)
number_here_two b c (_ ∷ []) word n count m k long blank one two rest number size black also spelled = absurd (omega arith)
number_here_two b c (_ ∷ _ ∷ []) word n count m k long blank one two rest number size black also spelled = absurd (omega arith)
number_here_two b c (a ∷ i ∷ j ∷ bytes) word n count m k long blank one two rest number size black also spelled =
    let same : 32 ∷ b ∷ c ∷ word ≡ a ∷ i ∷ j ∷ bytes = cc in
    subst (λ (line : List ℕ). IsShort line (k ∷ []) m) same (number_behind_two b c word n count m k number size black also spelled)

pub mark_here : (b : ℕ) (left : List ℕ) → 2 ≤ length left → get_or left 0 0 ≡ 32 → get_or left 1 0 ≡ b → is_white b ≡ false → goes_on (drop 2 left) ≡ false → IsShort left (StepSymbol.key (b ∷ []) ∷ []) 2
mark_here b [] long blank one black ends = absurd (omega arith)
mark_here b (_ ∷ []) long blank one black ends = absurd (omega arith)
mark_here b (a ∷ i ∷ word) long blank one black ends =
    let same : 32 ∷ b ∷ word ≡ a ∷ i ∷ word = cc in
    subst (λ (line : List ℕ). IsShort line (StepSymbol.key (b ∷ []) ∷ []) 2) same (mark-short b word black ends)

pub pair_here : (b c : ℕ) (left : List ℕ) → 3 ≤ length left → get_or left 0 0 ≡ 32 → get_or left 1 0 ≡ b → get_or left 2 0 ≡ c → is_white b ≡ false → is_white c ≡ false → goes_on (drop 3 left) ≡ false → IsShort left (StepSymbol.key (b ∷ c ∷ []) ∷ []) 3
pair_here b c [] long blank one two black also ends = absurd (omega arith)
pair_here b c (_ ∷ []) long blank one two black also ends = absurd (omega arith)
pair_here b c (_ ∷ _ ∷ []) long blank one two black also ends = absurd (omega arith)
pair_here b c (a ∷ i ∷ j ∷ word) long blank one two black also ends =
    let same : 32 ∷ b ∷ c ∷ word ≡ a ∷ i ∷ j ∷ word = cc in
    subst (λ (line : List ℕ). IsShort line (StepSymbol.key (b ∷ c ∷ []) ∷ []) 3) same (pair-short b c word black also ends)

-- ---- what the words stand for

-- a literal that is weakened: its sign does not matter
either_sign : (ws : List (List ℕ)) (l : Lit) (rest : List StepSymbol) → SpellAll ws (StepSymbol.literal l ∷ rest) → SpellAll ws (StepSymbol.weakened l.var ∷ rest)
either_sign [] l rest h = absurd h
either_sign (w ∷ ws) l rest h = ((l.positive, h.0), h.1)

pub weakened_here : (left : List ℕ) (l : Lit) (n : ℕ) → IsShort left (StepSymbol.literal l ∷ []) n → IsShort left (StepSymbol.weakened l.var ∷ []) n
weakened_here left l n h = record {
  some = h.some;
  within = h.within;
  spells = λ rest behind. either_sign (texts (words_of left)) l rest (h.spells rest behind);
}

pub literal_told : (positive : Bool) (o : Option ℕ) (n : ℕ) → o ≡ Some n → 1 ≤ n → indexed positive o ≡ Some (record { var = n; positive = positive })
literal_told positive o n told low =
    let test : (n == 0) ≡ false = grind (arith, nat_tests) in
    ap (indexed positive) told ∙ ap (λ (b : Bool). cond {A = Option Lit} b None (Some (record { var = n; positive = positive }))) test

-- digits alone spell an integer too
pub plain_told : (ds : List ℕ) (n : ℕ) → AllDigits 10 ds → natural_of ds ≡ Some n → integer_of ds ≡ Some (pos n)
plain_told [] n digits told = cc
plain_told (d ∷ ds) n digits told =
    let range = digit_from_value d digits.0 in
    let no_minus : (d == 45) ≡ false = grind (arith, nat_tests, range) in
    let no_plus : (d == 43) ≡ false = grind (arith, nat_tests, range) in
    ap (λ (b : Bool). cond b (option_map (λ m. neg_ℤ (pos m)) (natural_of ds)) (option_map pos (natural_of (cond (d == 43) ds (d ∷ ds))))) no_minus
    ∙ ap (λ (b : Bool). option_map pos (natural_of (cond b ds (d ∷ ds)))) no_plus
    ∙ ap (option_map pos) told
