-- A model text that is read beside fewer variables tells the front of what it tells beside more.
use Rattle.std.proofs.Common.{◌≡◌, ◌∙◌, ◌+◌, ◌≤◌, ◌<◌, ◌^◌, ◌∷◌, ◌++◌, [], ℕ, zero, suc, Bool, true, false, cond, List, Option, Some, None, Result, Ok, Err, length, map, take, refl, subst, sym, ap, arith}
use Rattle.std.specs.Prelude.{◌==◌, ◌||◌, ◌&&◌, if◌then◌else◌, not, nat_lt, nat_le, unsigned_abs, codes}
use Rattle.std.specs.Int.{is_positive}
use Rattle.std.specs.Option.{option_or}
use Rattle.std.specs.List.{list_any, range_with_len}
use Rattle.std.specs.Str.{bytes_eq}
use Rattle.std.proofs.lemmas.Bool.{leb-true, leb-false}
use Rattle.std.proofs.lemmas.List.{map-append}
use Rattle.std.proofs.lemmas.List.FromFn.{take-map-range_with_len}
use Rattle.pb_base.specs.declared.expected.Expected.TheVariants.{ModelLine, ModelLiteral, ModelZero, Opposite}
use Rattle.pb_base.specs.declared.limit.LimitKind.TheVariants.{Text}
use Rattle.pb_base.specs.declared.literal.Lit.{Lit}
use Rattle.pb_base.specs.declared.number.Number.{Number}
use Rattle.pb_base.specs.declared.number.Number.TheVariants.{Value, TooWide, NotANumber}
use Rattle.pb_base.specs.Literals.{negated, is_same}
use Rattle.pb_base.specs.Numbers.{limited_number}
use Rattle.pb_base.specs.Words.{Chunk, words_of}
use Rattle.pb_desk.specs.Lines.{lines_of}
use Rattle.pb_model.specs.declared.fault.ModelFault.{ModelFault}
use Rattle.pb_model.specs.declared.fault.ModelFault.TheVariants as fault
use Rattle.pb_model.specs.declared.meaning.Meaning.{Meaning}
use Rattle.pb_model.specs.declared.meaning.Meaning.TheVariants as meaning
use Rattle.pb_model.specs.declared.model.Model.{Model}
use Rattle.pb_model.specs.declared.model.Says.{Says}
use Rattle.pb_model.specs.ModelLines.{line_symbols, meaning_of, meant, opens_comment, place_in, said_by, symbols_from, symbols_of, word_symbol, Symbol}
use Rattle.pb_model.specs.ModelLines.Symbol.{status, values, word, other, end}
use Rattle.pb_suite.specs.Chain.{FrontsAreTold, TellsFront}
use Rattle.pb_model.specs.ModelReading.{ends_values, fault_at, first_fault, is_listed, is_said, lists, model_in, opens_values, refused_if, says_in, says_or, told_by, told_in, values_in, word_fault}

-- a literal of a later variable counts no more
abbrev pub shrunk_meaning : ℕ → Meaning → Meaning
shrunk_meaning small (meaning.Literal l) = if nat_le l.var small then meaning.Literal l else meaning.Beyond
shrunk_meaning small meaning.End = meaning.End
shrunk_meaning small meaning.Beyond = meaning.Beyond
shrunk_meaning small meaning.TooGreat = meaning.TooGreat
shrunk_meaning small meaning.Nothing = meaning.Nothing

abbrev pub shrunk : ℕ → Symbol → Symbol
shrunk small (word place m) = word place (shrunk_meaning small m)
shrunk small (status place says) = status place says
shrunk small (values place) = values place
shrunk small (other place) = other place
shrunk small (end place) = end place

module _ (small great : ℕ) (within : small ≤ great) (below : great < 2 ^ 31) where
  meaning_shrunk : (positive : Bool) (n : ℕ) → meaning_of small positive n ≡ shrunk_meaning small (meaning_of great positive n)
  meaning_shrunk positive n = by_tests (n == 0) (nat_le n small) (nat_le n great) (nat_lt n (2 ^ 31)) refl refl refl
    where
      by_tests : (z s g t : Bool) → nat_le n small ≡ s → nat_le n great ≡ g → nat_lt n (2 ^ 31) ≡ t
          → (if z then meaning.End else (if s then meaning.Literal (record { var = n; positive = positive }) else (if t then meaning.Beyond else meaning.TooGreat)))
          ≡ shrunk_meaning small (if z then meaning.End else (if g then meaning.Literal (record { var = n; positive = positive }) else (if t then meaning.Beyond else meaning.TooGreat)))
      by_tests true s g t is_s is_g is_t = refl
      by_tests false true true t is_s is_g is_t = ap (λ (b : Bool). cond b (meaning.Literal (record { var = n; positive = positive })) meaning.Beyond) (sym is_s)
      by_tests false true false t is_s is_g is_t = let low : n ≤ small = leb-true n small is_s in let high : great < n = leb-false n great is_g in absurd (omega (arith, within, low, high))
      by_tests false false true true is_s is_g is_t = ap (λ (b : Bool). cond b (meaning.Literal (record { var = n; positive = positive })) meaning.Beyond) (sym is_s)
      by_tests false false true false is_s is_g is_t = let high : n ≤ great = leb-true n great is_g in absurd (grind (arith, below, high, is_t))
      by_tests false false false true is_s is_g is_t = refl
      by_tests false false false false is_s is_g is_t = refl

  meant_shrunk : (number : Number) → meant small number ≡ shrunk_meaning small (meant great number)
  meant_shrunk (Value z) = meaning_shrunk (is_positive z) (unsigned_abs z)
  meant_shrunk TooWide = refl
  meant_shrunk NotANumber = refl

  words_shrunk : (number : ℕ) (ws : List Chunk) → map (word_symbol small number) ws ≡ map (shrunk small) (map (word_symbol great number) ws)
  words_shrunk number [] = refl
  words_shrunk number (w ∷ ws) =
      ap (λ (m : Meaning). word (place_in number w) m ∷ map (word_symbol small number) ws) (meant_shrunk (limited_number w.text))
      ∙ ap (λ (ss : List Symbol). word (place_in number w) (shrunk_meaning small (meant great (limited_number w.text))) ∷ ss) (words_shrunk number ws)

  line_shrunk : (number : ℕ) (ws : List Chunk) → line_symbols small number ws ≡ map (shrunk small) (line_symbols great number ws)
  line_shrunk number [] = refl
  line_shrunk number (w ∷ ws) = by_tests (opens_comment w.text) (bytes_eq w.text (codes "s")) (bytes_eq w.text (codes "v"))
    where
      says : Says
      says = said_by ws

      by_tests : (c s v : Bool) → (if c then [] else (if s then status (place_in number w) says ∷ [] else (if v then values (place_in number w) ∷ map (word_symbol small number) ws else other (place_in number w) ∷ [])))
          ≡ map (shrunk small) (if c then [] else (if s then status (place_in number w) says ∷ [] else (if v then values (place_in number w) ∷ map (word_symbol great number) ws else other (place_in number w) ∷ [])))
      by_tests true s v = refl
      by_tests false true v = refl
      by_tests false false true = ap (λ (ss : List Symbol). values (place_in number w) ∷ ss) (words_shrunk number ws)
      by_tests false false false = refl

  lines_shrunk : (number : ℕ) (lines : List (List ℕ)) → symbols_from small number lines ≡ map (shrunk small) (symbols_from great number lines)
  lines_shrunk number [] = refl
  lines_shrunk number (line ∷ lines) =
      ap (λ (ss : List Symbol). ss ++ symbols_from small (number + 1) lines) (line_shrunk number (words_of line))
      ∙ ap (λ (ss : List Symbol). map (shrunk small) (line_symbols great number (words_of line)) ++ ss) (lines_shrunk (number + 1) lines)
      ∙ sym (map-append (shrunk small) (line_symbols great number (words_of line)) (symbols_from great (number + 1) lines))

-- ---- what symbols say

module _ (small : ℕ) where
  says_shrunk : (ss : List Symbol) → says_in (map (shrunk small) ss) ≡ says_in ss
  says_shrunk [] = refl
  says_shrunk (status place says ∷ ss) = ap (says_or says) (says_shrunk ss)
  says_shrunk (values place ∷ ss) = says_shrunk ss
  says_shrunk (word place m ∷ ss) = says_shrunk ss
  says_shrunk (other place ∷ ss) = says_shrunk ss
  says_shrunk (end place ∷ ss) = says_shrunk ss

  any_shrunk : (f : Symbol → Bool) → ((s : Symbol) → f (shrunk small s) ≡ f s) → (ss : List Symbol) → list_any f (map (shrunk small) ss) ≡ list_any f ss
  any_shrunk f same [] = refl
  any_shrunk f same (s ∷ ss) = ap (λ (b : Bool). b || list_any f (map (shrunk small) ss)) (same s) ∙ ap (λ (b : Bool). f s || b) (any_shrunk f same ss)

  opens_shrunk : (s : Symbol) → opens_values (shrunk small s) ≡ opens_values s
  opens_shrunk (status place says) = refl
  opens_shrunk (values place) = refl
  opens_shrunk (word place m) = refl
  opens_shrunk (other place) = refl
  opens_shrunk (end place) = refl

  ends_shrunk : (s : Symbol) → ends_values (shrunk small s) ≡ ends_values s
  ends_shrunk (status place says) = refl
  ends_shrunk (values place) = refl
  ends_shrunk (word place meaning.End) = refl
  ends_shrunk (word place (meaning.Literal l)) = by_test (nat_le l.var small)
    where
      by_test : (b : Bool) → ends_values (word place (if b then meaning.Literal l else meaning.Beyond)) ≡ false
      by_test true = refl
      by_test false = refl
  ends_shrunk (word place meaning.Beyond) = refl
  ends_shrunk (word place meaning.TooGreat) = refl
  ends_shrunk (word place meaning.Nothing) = refl
  ends_shrunk (other place) = refl
  ends_shrunk (end place) = refl

  lists_shrunk : (l : Lit) → l.var ≤ small → (s : Symbol) → lists l (shrunk small s) ≡ lists l s
  lists_shrunk l low (status place says) = refl
  lists_shrunk l low (values place) = refl
  lists_shrunk l low (word place meaning.End) = refl
  lists_shrunk l low (word place (meaning.Literal k)) = by_test (nat_le k.var small) refl
    where
      by_test : (b : Bool) → nat_le k.var small ≡ b → lists l (word place (if b then meaning.Literal k else meaning.Beyond)) ≡ is_same k l
      by_test true is = refl
      by_test false is = let high : small < k.var = leb-false k.var small is in grind (arith, low, high)
  lists_shrunk l low (word place meaning.Beyond) = refl
  lists_shrunk l low (word place meaning.TooGreat) = refl
  lists_shrunk l low (word place meaning.Nothing) = refl
  lists_shrunk l low (other place) = refl
  lists_shrunk l low (end place) = refl

  listed_shrunk : (l : Lit) → l.var ≤ small → (ss : List Symbol) → is_listed (map (shrunk small) ss) l ≡ is_listed ss l
  listed_shrunk l low ss = any_shrunk (lists l) (lists_shrunk l low) ss

  -- ---- faults

  fault_shrunk : (before : List Symbol) (s : Symbol) → fault_at before s ≡ None → fault_at (map (shrunk small) before) (shrunk small s) ≡ None
  fault_shrunk before (status place says) none = ap (λ (x : Says). refused_if (is_said x) (fault.Token place ModelLine)) (says_shrunk before) ∙ none
  fault_shrunk before (values place) none = ap (λ (b : Bool). refused_if b (fault.Token place ModelLine)) (any_shrunk ends_values ends_shrunk before) ∙ none
  fault_shrunk before (word place m) none = by_end (list_any ends_values before) (any_shrunk ends_values ends_shrunk before) none
    where
      literal : (l : Lit) (b : Bool) → nat_le l.var small ≡ b → word_fault before place (meaning.Literal l) ≡ None → word_fault (map (shrunk small) before) place (if b then meaning.Literal l else meaning.Beyond) ≡ None
      literal l true is none = ap (λ (b : Bool). refused_if b (fault.Token place Opposite)) (listed_shrunk (negated l) (leb-true l.var small is) before) ∙ none
      literal l false is none = refl

      by_meaning : (m : Meaning) → word_fault before place m ≡ None → word_fault (map (shrunk small) before) place (shrunk_meaning small m) ≡ None
      by_meaning meaning.End none = refl
      by_meaning (meaning.Literal l) none = literal l (nat_le l.var small) refl none
      by_meaning meaning.Beyond none = refl
      by_meaning meaning.TooGreat none = none
      by_meaning meaning.Nothing none = none

      by_end : (e : Bool) → list_any ends_values (map (shrunk small) before) ≡ e
          → (if e then Some (fault.Token place ModelLiteral) else word_fault before place m) ≡ None → fault_at (map (shrunk small) before) (word place (shrunk_meaning small m)) ≡ None
      by_end true is none = cc
      by_end false is none =
          ap (λ (b : Bool). cond b (Some (fault.Token place ModelLiteral)) (word_fault (map (shrunk small) before) place (shrunk_meaning small m))) is ∙ by_meaning m none
  fault_shrunk before (other place) none = cc
  fault_shrunk before (end place) none =
      ap (λ (b : Bool). refused_if (b && not (list_any ends_values (map (shrunk small) before))) (fault.Token place ModelZero)) (any_shrunk opens_values opens_shrunk before)
      ∙ ap (λ (b : Bool). refused_if (list_any opens_values before && not b) (fault.Token place ModelZero)) (any_shrunk ends_values ends_shrunk before) ∙ none

  first_none : (o : Option ModelFault) (later : Option ModelFault) → option_or o later ≡ None → (o ≡ None) × (later ≡ None)
  first_none None later none = (refl, none)
  first_none (Some f) later none = let no : Some f ≡ None = none in absurd (let bad : ⊥ = cc in bad)

  faults_shrunk : (before ss : List Symbol) → first_fault before ss ≡ None → first_fault (map (shrunk small) before) (map (shrunk small) ss) ≡ None
  faults_shrunk before [] none = refl
  faults_shrunk before (s ∷ ss) none =
      let both = first_none (fault_at before s) (first_fault (before ++ s ∷ []) ss) none in
      let behind = subst (λ (xs : List Symbol). first_fault xs (map (shrunk small) ss) ≡ None) (map-append (shrunk small) before (s ∷ [])) (faults_shrunk (before ++ s ∷ []) ss both.1) in
      ap (λ (o : Option ModelFault). option_or o (first_fault (map (shrunk small) before ++ shrunk small s ∷ []) (map (shrunk small) ss))) (fault_shrunk before s both.0) ∙ behind

  -- ---- values

  range_shrunk : (ss : List Symbol) (a n : ℕ) → a + n ≤ small → map (λ k. is_listed (map (shrunk small) ss) (record { var = k + 1; positive = true })) (range_with_len a n) ≡ map (λ k. is_listed ss (record { var = k + 1; positive = true })) (range_with_len a n)
  range_shrunk ss a zero low = refl
  range_shrunk ss a (suc n) low =
      ap (λ (b : Bool). b ∷ map (λ k. is_listed (map (shrunk small) ss) (record { var = k + 1; positive = true })) (range_with_len (a + 1) n)) (listed_shrunk (record { var = a + 1; positive = true }) (omega (arith, low)) ss)
      ∙ ap (λ (bs : List Bool). is_listed ss (record { var = a + 1; positive = true }) ∷ bs) (range_shrunk ss (a + 1) n (omega (arith, low)))

  values_shrunk : (great : ℕ) → small ≤ great → (ss : List Symbol) → values_in small (map (shrunk small) ss) ≡ take small (values_in great ss)
  values_shrunk great within ss = range_shrunk ss 0 small (omega arith) ∙ sym (take-map-range_with_len (λ k. is_listed ss (record { var = k + 1; positive = true })) 0 great small within)

-- ---- the whole text

not_fault : (o : Option ModelFault) (m k : Model) → told_by o m ≡ Ok k → (o ≡ None) × (m ≡ k)
not_fault None m k is = (refl, cc)
not_fault (Some f) m k is = absurd (let bad : ⊥ = cc in bad)

pub told_front : FrontsAreTold
told_front small great text all within below is = by_length (nat_lt (2 ^ 32) (length text)) refl is
  where
    by_length : (long : Bool) → nat_lt (2 ^ 32) (length text) ≡ long → cond {A = Result Model ModelFault} long (Err (fault.Limit None Text)) (told_in great (symbols_of great text)) ≡ Ok all → TellsFront small text all
    by_length true long is = absurd (let bad : ⊥ = cc in bad)
    by_length false long is =
        let ss = symbols_of great text in
        let both = not_fault (first_fault [] ss) (model_in great ss) all is in
        let symbols : symbols_of small text ≡ map (shrunk small) ss = lines_shrunk small great within below 1 (lines_of text) in
        record {
          front = model_in small (map (shrunk small) ss);
          tells = ap (λ (b : Bool). cond {A = Result Model ModelFault} b (Err (fault.Limit None Text)) (told_in small (symbols_of small text))) long ∙ ap (told_in small) symbols
              ∙ ap (λ (o : Option ModelFault). told_by o (model_in small (map (shrunk small) ss))) (faults_shrunk small [] ss both.0);
          says = says_shrunk small ss ∙ ap (λ (m : Model). m.says) both.1;
          values_are = values_shrunk small great within ss ∙ ap (λ (m : Model). take small m.values) both.1;
        }
