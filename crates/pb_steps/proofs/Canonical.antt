-- The words that are written of a step stand for it.
use Rattle.std.proofs.Common.{◌≡◌, ◌≤◌, ◌<◌, ◌^◌, ◌==◌, ◌&&◌, ◌++◌, ℕ, suc, zero, Bool, true, false, not, cond, List, [], ◌∷◌, length, map, Some, None, refl, sym, ap, ◌∙◌, subst, arith}
use Rattle.std.specs.Prelude.{ℤ, pos, negsuc, neg_ℤ, unsigned_abs, decimal, codes, drop}
use Rattle.std.specs.Fmt.{signed_decimal}
use Rattle.std.specs.List.{flat_map, list_all, AllByRecursion}
use Rattle.std.specs.Option.{option_map}
use Rattle.std.proofs.lemmas.Int.{ints}
use Rattle.std.proofs.lemmas.Bool.Decides.{nat_tests}
use Rattle.pb_base.specs.declared.literal.Lit.{Lit}
use Rattle.pb_base.specs.declared.literal.Term.{Term}
use Rattle.pb_base.specs.Numbers.{natural_of, integer_of}
use Rattle.pb_base.specs.Tokens.{is_white}
use Rattle.pb_base.specs.Words.{goes_on, words_of}
use Rattle.pb_base.specs.LiteralWords.{indexed}
use Rattle.pb_steps.specs.declared.op.Set.{Set}
use Rattle.pb_steps.specs.declared.op.PolOp.{PolOp}
use Rattle.pb_steps.specs.declared.op.PolOp.TheVariants.{Push, Axiom, Add, Mul, Div, Saturate, Weaken}
use Rattle.pb_steps.specs.declared.step.Step.{Step}
use Rattle.pb_steps.specs.declared.step.Step.TheVariants.{Blank, Head, Loaded, Pol, Rup, Red, Del, Out, End}
use Rattle.pb_steps.specs.StepGrammar.{StepSymbol, SpellsSymbol, SpellAll, op_symbols, term_symbols, bit_word, set_symbols, constraint_symbols, step_symbols, texts, SaysStep}
use Rattle.pb_steps.specs.Sayable.{IsId, IsFactor, IsVariable, IsOp, IsTerm, Ascend, IsSayable}
use Rattle.pb_steps.specs.StepGrammar.StepSymbol.{key, number, factor, integer, coefficient, literal, variable, weakened}
use Rattle.pb_steps.specs.StepText.{variable_word, word_of, with_blanks, step_line}
use Rattle.pb_base.proofs.WordLemmas.{IsBlack, bare_words, bare_from, word_ends}
use Rattle.pb_base.proofs.NumeralLemmas.{printed, numeral_is_black, natural_printed, integer_printed}

-- what is written of a symbol is a word, and stands for it
pub record IsWritten (k : StepSymbol) : Type 0 where
  pub spells : SpellsSymbol (word_of k) k
  pub some : 0 < length (word_of k)
  pub black : IsBlack (word_of k)

seen_black : (b : ℕ) (bs : List ℕ) (t : Bool) → is_white b ≡ t → (not t && list_all (λ c. not (is_white c)) bs) ≡ true → (list_all (λ c. not (is_white c)) bs ≡ true → IsBlack bs) → IsBlack (b ∷ bs)
seen_black b bs true e h rest = cc
seen_black b bs false e h rest = (e, rest h)

blacks : (bs : List ℕ) → list_all (λ b. not (is_white b)) bs ≡ true → IsBlack bs
blacks [] h = tt
blacks (b ∷ bs) h = seen_black b bs (is_white b) refl h (λ r. blacks bs r)

-- a certain word
certain : (b : ℕ) (bs : List ℕ) → list_all (λ c. not (is_white c)) (b ∷ bs) ≡ true → IsWritten (key (b ∷ bs))
certain b bs black = record { spells = refl; some = omega arith; black = blacks (b ∷ bs) black }

number_written : (n : ℕ) → n < 2 ^ 63 → IsWritten (number n)
number_written n fits =
    let is = printed n (omega arith) in
    record { spells = natural_printed n (decimal n) is; some = is.some; black = numeral_is_black n (decimal n) is }

factor_written : (z : ℤ) → IsFactor z → IsWritten (factor z)
factor_written (pos n) ok =
    let is = printed n (omega (arith, ok.1)) in
    record { spells = ap (option_map pos) (natural_printed n (decimal n) is); some = is.some; black = numeral_is_black n (decimal n) is }
factor_written (negsuc n) ok = absurd (omega (arith, ints, ok.0))

-- an integer as it is printed
record IsPrinted (z : ℤ) (w : List ℕ) : Type 0 where
  spells : integer_of w ≡ Some z
  some : 0 < length w
  black : IsBlack w

signed_printed : (z : ℤ) → unsigned_abs z < 2 ^ 126 → IsPrinted z (signed_decimal z)
signed_printed (pos n) ok =
    let is = printed n (omega (arith, ok)) in
    record { spells = integer_printed n (decimal n) is; some = is.some; black = numeral_is_black n (decimal n) is }
signed_printed (negsuc n) ok =
    let is = printed (suc n) (omega (arith, ok)) in
    record {
      spells = ap (option_map (λ m. neg_ℤ (pos m))) (natural_printed (suc n) (decimal (suc n)) is);
      some = omega (arith, is.some);
      black = (refl, numeral_is_black (suc n) (decimal (suc n)) is);
    }

integer_written : (z : ℤ) → unsigned_abs z < 2 ^ 126 → IsWritten (integer z)
integer_written z ok = let p = signed_printed z ok in record { spells = p.spells; some = p.some; black = p.black }

coefficient_written : (z : ℤ) → unsigned_abs z < 2 ^ 126 → IsWritten (coefficient z)
coefficient_written (pos zero) ok = let p = signed_printed (pos zero) ok in record { spells = p.spells; some = p.some; black = p.black }
coefficient_written (pos (suc n)) ok =
    let is = printed (suc n) (omega (arith, ok)) in
    record {
      spells = ap (option_map pos) (natural_printed (suc n) (decimal (suc n)) is);
      some = omega (arith, is.some);
      black = (refl, numeral_is_black (suc n) (decimal (suc n)) is);
    }
coefficient_written (negsuc n) ok = let p = signed_printed (negsuc n) ok in record { spells = p.spells; some = p.some; black = p.black }

index_printed : (positive : Bool) (v : ℕ) → IsVariable v → indexed positive (natural_of (decimal v)) ≡ Some (record { var = v; positive = positive })
index_printed positive v ok =
    let is = printed v (omega (arith, ok.1)) in
    let some : (v == 0) ≡ false = grind (arith, nat_tests) in
    ap (indexed positive) (natural_printed v (decimal v) is) ∙ ap (λ (b : Bool). cond b None (Some (record { var = v; positive = positive }))) some

variable_black : (v : ℕ) → IsVariable v → IsBlack (variable_word v)
variable_black v ok = (refl, numeral_is_black v (decimal v) (printed v (omega (arith, ok.1))))

literal_written_by : (positive : Bool) (v : ℕ) → IsVariable v → IsWritten (literal (record { var = v; positive = positive }))
literal_written_by true v ok = record { spells = index_printed true v ok; some = omega arith; black = variable_black v ok }
literal_written_by false v ok = record { spells = index_printed false v ok; some = omega arith; black = (refl, variable_black v ok) }

literal_written : (l : Lit) → IsVariable l.var → IsWritten (literal l)
literal_written l ok = literal_written_by l.positive l.var ok

variable_written : (v : ℕ) → IsVariable v → IsWritten (variable v)
variable_written v ok = record { spells = index_printed true v ok; some = omega arith; black = variable_black v ok }

weakened_written : (v : ℕ) → IsVariable v → IsWritten (weakened v)
weakened_written v ok = record { spells = (true, index_printed true v ok); some = omega arith; black = variable_black v ok }

abbrev pub AllWritten : List StepSymbol → Type 0
AllWritten ks = AllByRecursion IsWritten ks

written_both : (ks ls : List StepSymbol) → AllWritten ks → AllWritten ls → AllWritten (ks ++ ls)
written_both [] ls a b = b
written_both (k ∷ ks) ls a b = (a.0, written_both ks ls a.1 b)

op_written : (op : PolOp) → IsOp op → AllWritten (op_symbols op)
op_written (Push id) ok = (number_written id ok.1, tt)
op_written (Axiom l) ok = (literal_written l ok, tt)
op_written Add ok = (certain 43 [] refl, tt)
op_written (Mul n) ok = (factor_written n ok, (certain 42 [] refl, tt))
op_written (Div n) ok = (factor_written n ok, (certain 100 [] refl, tt))
op_written Saturate ok = (certain 115 [] refl, tt)
op_written (Weaken v) ok = (weakened_written v ok, (certain 119 [] refl, tt))

ops_written : (ops : List PolOp) → AllByRecursion IsOp ops → AllWritten (flat_map op_symbols ops)
ops_written [] ok = tt
ops_written (op ∷ ops) ok = written_both (op_symbols op) (flat_map op_symbols ops) (op_written op ok.0) (ops_written ops ok.1)

terms_written : (ts : List Term) (rest : List StepSymbol) → AllByRecursion IsTerm ts → AllWritten rest → AllWritten (flat_map term_symbols ts ++ rest)
terms_written [] rest ok all = all
terms_written (t ∷ ts) rest ok all = (coefficient_written t.coef ok.0.0, (literal_written t.lit ok.0.1, terms_written ts rest ok.1 all))

constraint_written : (ts : List Term) (right : ℤ) (rest : List StepSymbol) → AllByRecursion IsTerm ts → unsigned_abs right < 2 ^ 126 → AllWritten rest → AllWritten (constraint_symbols ts right rest)
constraint_written ts right rest terms_ok right_ok all =
    terms_written ts (key (codes ">=") ∷ integer right ∷ key (codes ";") ∷ rest) terms_ok (certain 62 (61 ∷ []) refl, (integer_written right right_ok, (certain 59 [] refl, all)))

ids_written : (ids : List ℕ) → AllByRecursion IsId ids → AllWritten (map number ids)
ids_written [] ok = tt
ids_written (id ∷ ids) ok = (number_written id ok.0.1, ids_written ids ok.1)

bit_written : (b : Bool) → IsWritten (key (bit_word b))
bit_written true = certain 49 [] refl
bit_written false = certain 48 [] refl

sets_written : (above : ℕ) (sets : List Set) → Ascend above sets → AllWritten (flat_map set_symbols sets)
sets_written above [] ok = tt
sets_written above (s ∷ sets) ok =
    let low : 1 ≤ s.var = omega (arith, ok.0) in
    (variable_written s.var (low, ok.1), (certain 45 (62 ∷ []) refl, (bit_written s.value, sets_written s.var sets ok.2)))

pub step_written : (s : Step) → IsSayable s → AllWritten (step_symbols s)
step_written Blank ok = tt
step_written Head ok = (certain 112 _ refl, (certain 100 _ refl, (certain 112 _ refl, (certain 49 _ refl, tt))))
step_written (Loaded n) ok = (certain 102 _ refl, (number_written n ok, tt))
step_written (Pol ops) ok = (certain 112 _ refl, ops_written ops ok)
step_written (Rup ts right ids) ok = (certain 114 _ refl, constraint_written ts right (map number ids) ok.0 ok.1 (ids_written ids ok.2))
step_written (Red ts right sets) ok = (certain 114 _ refl, constraint_written ts right (flat_map set_symbols sets) ok.0 ok.1 (sets_written 0 sets ok.2))
step_written (Del ids) ok = (certain 100 _ refl, ids_written ids ok.0)
step_written (Out id) ok = (certain 111 _ refl, (number_written id ok.1, tt))
step_written End ok = (certain 101 _ refl, tt)

-- the words of what is written
starts_blank : (ks : List StepSymbol) → goes_on (with_blanks ks) ≡ false
starts_blank [] = refl
starts_blank (k ∷ ks) = refl

behind_words : (ks : List StepSymbol) → AllWritten ks → bare_words (with_blanks ks) ≡ map word_of ks
behind_words [] all = refl
behind_words (k ∷ ks) all = word_ends (word_of k) (with_blanks ks) all.0.some all.0.black (starts_blank ks) ∙ ap (λ (ws : List (List ℕ)). word_of k ∷ ws) (behind_words ks all.1)

spaced_words : (ks : List StepSymbol) → AllWritten ks → bare_words (drop 1 (with_blanks ks)) ≡ map word_of ks
spaced_words [] all = refl
spaced_words (k ∷ ks) all = word_ends (word_of k) (with_blanks ks) all.0.some all.0.black (starts_blank ks) ∙ ap (λ (ws : List (List ℕ)). word_of k ∷ ws) (behind_words ks all.1)

words_spell : (ks : List StepSymbol) → AllWritten ks → SpellAll (map word_of ks) ks
words_spell [] all = tt
words_spell (k ∷ ks) all = (all.0.spells, words_spell ks all.1)

line_spells : (s : Step) → IsSayable s → SpellAll (texts (words_of (step_line s))) (step_symbols s)
line_spells s ok =
    let all = step_written s ok in
    subst (λ (ws : List (List ℕ)). SpellAll ws (step_symbols s)) (sym (bare_from 1 (step_line s) ∙ spaced_words (step_symbols s) all)) (words_spell (step_symbols s) all)

pub line_says : (s : Step) → IsSayable s → SaysStep (step_line s) s
line_says Blank ok = refl
line_says Head ok = (line_spells Head ok, ok)
line_says (Loaded n) ok = (line_spells (Loaded n) ok, ok)
line_says (Pol ops) ok = (line_spells (Pol ops) ok, ok)
line_says (Rup ts right ids) ok = (line_spells (Rup ts right ids) ok, ok)
line_says (Red ts right sets) ok = (line_spells (Red ts right sets) ok, ok)
line_says (Del ids) ok = (line_spells (Del ids) ok, ok)
line_says (Out id) ok = (line_spells (Out id) ok, ok)
line_says End ok = (line_spells End ok, ok)
