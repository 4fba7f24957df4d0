-- What the words of generated statements stand for.
use Rattle.std.proofs.Common.{◌≡◌, ◌≤◌, ◌<◌, ◌^◌, ◌==◌, ◌&&◌, ℕ, Bool, true, false, cond, List, [], ◌∷◌, ◌++◌, map, refl, ap, sym, ◌∙◌, arith, append_assoc, Option, Some, None}
use Rattle.std.specs.Prelude.{ℤ, pos, decimal, codes, nat_eq}
use Rattle.std.specs.Char.{is_ascii_digit}
use Rattle.std.specs.Fmt.{signed_decimal}
use Rattle.std.specs.List.{AllByRecursion, flat_map}
use Rattle.std.specs.Option.{option_map}
use Rattle.std.specs.Str.{all_ascii_digits, bytes_eq}
use Rattle.std.proofs.lemmas.Bool.Decides.{nat_tests}
use Rattle.pb_base.specs.declared.literal.Term.{Term}
use Rattle.pb_base.specs.declared.problem.Raw.{Raw}
use Rattle.pb_base.specs.declared.problem.Relation.{Relation}
use Rattle.pb_base.specs.declared.problem.Relation.TheVariants.{AtLeast, AtMost, Equal}
use Rattle.pb_base.specs.Numbers.{integer_of}
use Rattle.pb_base.proofs.NumeralLemmas.{integer_printed, natural_printed, printed, IsNumeralOf}
use Rattle.pb_named.specs.Names.{named, Name}
use Rattle.pb_named.specs.Names.Name.{index}
use Rattle.pb_opb.specs.Grammar.{kind_of, named_literal, spelled, statement_kinds, sum_kinds, with_sign, Kind}
use Rattle.pb_opb.specs.Grammar.Kind.{integer, literal, minimise, relation, semicolon}
use Rattle.pb_gen.proofs.Indexed.{indexed_statement, indexed_term}
use Rattle.pb_gen.proofs.Tests.{both}
use Rattle.pb_gen.specs.Generated.{relation_text, sign_text, statement_text, term_text}
use Rattle.pb_gen.proofs.TokenLemmas.{bare_tokens, behind_line, tokens_in, word_token, IsPlain, Plain}

-- ---- numbers

digit_is_plain : (d : ℕ) → is_ascii_digit d ≡ true → Plain d
digit_is_plain d h = record { black = grind (arith, nat_tests); joined = grind (arith, nat_tests); no_colon = grind (arith, nat_tests); no_star = grind (arith, nat_tests) }

digits_are_plain : (ds : List ℕ) → all_ascii_digits ds ≡ true → IsPlain ds
digits_are_plain [] h = tt
digits_are_plain (d ∷ ds) h = let parts = both (is_ascii_digit d) (all_ascii_digits ds) h in (digit_is_plain d parts.0, digits_are_plain ds parts.1)

-- a digit begins no other word
record NoOther (d : ℕ) : Type 0 where
  minimise : nat_eq d 109 ≡ false
  semicolon : nat_eq d 59 ≡ false
  more : nat_eq d 62 ≡ false
  less : nat_eq d 60 ≡ false
  same : nat_eq d 61 ≡ false

digit_no_other : (d : ℕ) → is_ascii_digit d ≡ true → NoOther d
digit_no_other d h = record { minimise = grind (arith, nat_tests); semicolon = grind (arith, nat_tests); more = grind (arith, nat_tests); less = grind (arith, nat_tests); same = grind (arith, nat_tests) }

bare_kind : (n : ℕ) (ds : List ℕ) → IsNumeralOf n ds → kind_of ds ≡ integer (pos n)
bare_kind n [] is = absurd (omega (arith, is.some))
bare_kind n (d ∷ ds) is =
    let no = digit_no_other d (both (is_ascii_digit d) (all_ascii_digits ds) is.digits).0 in
    (λ i. cond (no.minimise i && bytes_eq ds (codes "in:")) minimise (cond (no.semicolon i && bytes_eq ds []) semicolon (cond (no.more i && bytes_eq ds (codes "=")) (relation AtLeast) (cond (no.less i && bytes_eq ds (codes "=")) (relation AtMost) (cond (no.same i && bytes_eq ds []) (relation Equal) (spelled (integer_of (d ∷ ds)) (named_literal (d ∷ ds))))))))
    ∙ ap (λ (o : Option ℤ). spelled o (named_literal (d ∷ ds))) (integer_printed n (d ∷ ds) is)

plus_kind : (n : ℕ) (ds : List ℕ) → IsNumeralOf n ds → kind_of (43 ∷ ds) ≡ integer (pos n)
plus_kind n ds is = ap (λ (o : Option ℕ). spelled (option_map pos o) (named_literal (43 ∷ ds))) (natural_printed n ds is)

-- ---- literals

index_named : (n : ℕ) (word : List ℕ) → 1 ≤ n → named (Some n) word ≡ Some (index n)
index_named n word low = let some : (n == 0) ≡ false = grind (arith, nat_tests) in ap (λ (z : Bool). cond z None (Some (index n))) some

positive_kind : (n : ℕ) (ds : List ℕ) → 1 ≤ n → IsNumeralOf n ds → kind_of (120 ∷ ds) ≡ literal (record { name = index n; positive = true })
positive_kind n ds low is = ap (λ (o : Option ℕ). spelled None (option_map (with_sign true) (named o (120 ∷ ds)))) (natural_printed n ds is) ∙ ap (λ (o : Option Name). spelled None (option_map (with_sign true) o)) (index_named n (120 ∷ ds) low)

negative_kind : (n : ℕ) (ds : List ℕ) → 1 ≤ n → IsNumeralOf n ds → kind_of (126 ∷ 120 ∷ ds) ≡ literal (record { name = index n; positive = false })
negative_kind n ds low is = ap (λ (o : Option ℕ). spelled None (option_map (with_sign false) (named o (120 ∷ ds)))) (natural_printed n ds is) ∙ ap (λ (o : Option Name). spelled None (option_map (with_sign false) o)) (index_named n (120 ∷ ds) low)

-- ---- statements

-- the kinds of the words of what stands behind a blank
abbrev pub kinds_in : List ℕ → List Kind
kinds_in text = map kind_of (tokens_in text)

-- a term that can be printed
pub record IsPrintable (t : Term) : Type 0 where
  pub weight : ℕ
  pub is : t.coef ≡ pos weight
  pub small : weight < 10 ^ 64
  pub low : 1 ≤ t.lit.var
  pub near : t.lit.var < 10 ^ 64

-- words before a blank
plus_word : (n : ℕ) (rest : List ℕ) → n < 10 ^ 64 → kinds_in (43 ∷ decimal n ++ 32 ∷ rest) ≡ integer (pos n) ∷ kinds_in rest
plus_word n rest fits =
    let plus : Plain 43 = record { black = refl; joined = refl; no_colon = refl; no_star = refl } in
    ap (map kind_of) (word_token 43 (decimal n) rest (plus, digits_are_plain (decimal n) (printed n fits).digits)) ∙ ap (λ (k : Kind). k ∷ kinds_in rest) (plus_kind n (decimal n) (printed n fits))

letter : Plain 120
letter = record { black = refl; joined = refl; no_colon = refl; no_star = refl }

sign : Plain 126
sign = record { black = refl; joined = refl; no_colon = refl; no_star = refl }

positive_word : (n : ℕ) (rest : List ℕ) → 1 ≤ n → n < 10 ^ 64 → kinds_in (120 ∷ decimal n ++ 32 ∷ rest) ≡ literal (record { name = index n; positive = true }) ∷ kinds_in rest
positive_word n rest low fits =
    ap (map kind_of) (word_token 120 (decimal n) rest (letter, digits_are_plain (decimal n) (printed n fits).digits)) ∙ ap (λ (k : Kind). k ∷ kinds_in rest) (positive_kind n (decimal n) low (printed n fits))

negative_word : (n : ℕ) (rest : List ℕ) → 1 ≤ n → n < 10 ^ 64 → kinds_in (126 ∷ 120 ∷ decimal n ++ 32 ∷ rest) ≡ literal (record { name = index n; positive = false }) ∷ kinds_in rest
negative_word n rest low fits =
    ap (map kind_of) (word_token 126 (120 ∷ decimal n) rest (sign, (letter, digits_are_plain (decimal n) (printed n fits).digits))) ∙ ap (λ (k : Kind). k ∷ kinds_in rest) (negative_kind n (decimal n) low (printed n fits))

number_word : (n : ℕ) (ds rest : List ℕ) → IsNumeralOf n ds → kinds_in (ds ++ 32 ∷ rest) ≡ integer (pos n) ∷ kinds_in rest
number_word n [] rest is = absurd (omega (arith, is.some))
number_word n (d ∷ ds) rest is = ap (map kind_of) (word_token d ds rest (digits_are_plain (d ∷ ds) is.digits)) ∙ ap (λ (k : Kind). k ∷ kinds_in rest) (bare_kind n (d ∷ ds) is)

regroup : (a b c d rest : List ℕ) → (a ++ b ++ c ++ d) ++ rest ≡ a ++ (b ++ (c ++ (d ++ rest)))
regroup a b c d rest = simp append_assoc

signed_word : (positive : Bool) (n : ℕ) (rest : List ℕ) → 1 ≤ n → n < 10 ^ 64 → (w : ℕ) → w < 10 ^ 64 →
    kinds_in (43 ∷ decimal w ++ (sign_text positive ++ (decimal n ++ 32 ∷ rest))) ≡ integer (pos w) ∷ literal (record { name = index n; positive = positive }) ∷ kinds_in rest
signed_word true n rest low fits w small = plus_word w (120 ∷ decimal n ++ 32 ∷ rest) small ∙ ap (λ (ks : List Kind). integer (pos w) ∷ ks) (positive_word n rest low fits)
signed_word false n rest low fits w small = plus_word w (126 ∷ 120 ∷ decimal n ++ 32 ∷ rest) small ∙ ap (λ (ks : List Kind). integer (pos w) ∷ ks) (negative_word n rest low fits)

term_front : (t : Term) (rest : List ℕ) → IsPrintable t → kinds_in (term_text t ++ rest) ≡ integer t.coef ∷ literal (indexed_term t).lit ∷ kinds_in rest
term_front t rest is =
    ap (λ (z : ℤ). kinds_in ((codes "+" ++ signed_decimal z ++ sign_text t.lit.positive ++ decimal t.lit.var ++ codes " ") ++ rest)) is.is
    ∙ ap kinds_in (regroup (43 ∷ decimal is.weight) (sign_text t.lit.positive) (decimal t.lit.var) (32 ∷ []) rest)
    ∙ signed_word t.lit.positive t.lit.var rest is.low is.near is.weight is.small
    ∙ ap (λ (z : ℤ). integer z ∷ literal (indexed_term t).lit ∷ kinds_in rest) (sym is.is)

terms_front : (ts : List Term) (rest : List ℕ) → AllByRecursion IsPrintable ts → kinds_in (flat_map term_text ts ++ rest) ≡ sum_kinds (map indexed_term ts) ++ kinds_in rest
terms_front [] rest are = refl
terms_front (t ∷ ts) rest are =
    ap kinds_in (append_assoc (term_text t) (flat_map term_text ts) rest)
    ∙ term_front t (flat_map term_text ts ++ rest) are.0
    ∙ ap (λ (ks : List Kind). integer t.coef ∷ literal (indexed_term t).lit ∷ ks) (terms_front ts rest are.1)

relation_front : (r : Relation) (rest : List ℕ) → kinds_in (relation_text r ++ rest) ≡ relation r ∷ kinds_in rest
relation_front AtLeast rest = refl
relation_front AtMost rest = refl
relation_front Equal rest = refl

line_end : (rest : List ℕ) → kinds_in (59 ∷ 10 ∷ rest) ≡ semicolon ∷ kinds_in rest
line_end rest = ap (λ (xs : List ℕ). semicolon ∷ map kind_of (bare_tokens xs)) (behind_line rest)

-- a statement that can be printed
pub record CanBePrinted (s : Raw) : Type 0 where
  pub terms : AllByRecursion IsPrintable s.terms
  pub right : ℕ
  pub is : s.right ≡ pos right
  pub small : right < 10 ^ 64

statement_front : (s : Raw) (rest : List ℕ) → CanBePrinted s → kinds_in (statement_text s ++ rest) ≡ statement_kinds (indexed_statement s) ++ kinds_in rest
statement_front s rest can =
    ap kinds_in (regroup (flat_map term_text s.terms) (relation_text s.relation) (signed_decimal s.right) (codes " ;\n") rest)
    ∙ terms_front s.terms (relation_text s.relation ++ (signed_decimal s.right ++ 32 ∷ 59 ∷ 10 ∷ rest)) can.terms
    ∙ ap (λ (ks : List Kind). sum_kinds (map indexed_term s.terms) ++ ks) (relation_front s.relation (signed_decimal s.right ++ 32 ∷ 59 ∷ 10 ∷ rest))
    ∙ ap (λ (z : ℤ). sum_kinds (map indexed_term s.terms) ++ relation s.relation ∷ kinds_in (signed_decimal z ++ 32 ∷ 59 ∷ 10 ∷ rest)) can.is
    ∙ ap (λ (ks : List Kind). sum_kinds (map indexed_term s.terms) ++ relation s.relation ∷ ks) (number_word can.right (decimal can.right) (59 ∷ 10 ∷ rest) (printed can.right can.small))
    ∙ ap (λ (ks : List Kind). sum_kinds (map indexed_term s.terms) ++ relation s.relation ∷ integer (pos can.right) ∷ ks) (line_end rest)
    ∙ ap (λ (z : ℤ). sum_kinds (map indexed_term s.terms) ++ relation s.relation ∷ integer z ∷ semicolon ∷ kinds_in rest) (sym can.is)
    ∙ sym (append_assoc (sum_kinds (map indexed_term s.terms)) (relation s.relation ∷ integer s.right ∷ semicolon ∷ []) (kinds_in rest))

-- the words of statements are those of what they say
pub statements_spelled : (ss : List Raw) → AllByRecursion CanBePrinted ss → kinds_in (flat_map statement_text ss) ≡ flat_map statement_kinds (map indexed_statement ss)
statements_spelled [] can = refl
statements_spelled (s ∷ ss) can = statement_front s (flat_map statement_text ss) can.0 ∙ ap (λ (ks : List Kind). statement_kinds (indexed_statement s) ++ ks) (statements_spelled ss can.1)
