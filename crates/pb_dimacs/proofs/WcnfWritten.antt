-- Weighted CNF text that is written says the hard clauses and the soft literals.
use Rattle.std.proofs.Common.{◌≡◌, ◌<◌, ◌^◌, ℕ, Bool, true, cond, List, [], ◌∷◌, ◌++◌, map, refl, sym, ap, ◌∙◌, subst, arith, append_assoc}
use Rattle.std.specs.Prelude.{ℤ, pos, negsuc, suc, not, All, filter, codes, decimal, unsigned_abs}
use Rattle.std.specs.Fmt.{signed_decimal}
use Rattle.std.specs.List.{AllZip}
use Rattle.std.proofs.lemmas.List.Elements.{All-append, All-cons, All-from_recursion, All-head, All-nil, All-tail}
use Rattle.pb_base.specs.declared.literal.Lit.{Lit}
use Rattle.pb_base.proofs.NumeralLemmas.{IsNumeralOf, natural_printed, numeral_is_black, printed}
use Rattle.pb_base.proofs.WordLemmas.{IsBlack, bare_from, bare_words, word_ends}
use Rattle.pb_norm.specs.Constraints.{Weighted}
use Rattle.pb_family.specs.ClauseText.{clause_text}
use Rattle.pb_dimacs.specs.CnfReading.{is_said, line_words, said_lines}
use Rattle.pb_dimacs.specs.WcnfReading.{LineSays, WcnfReads, WeightedClause, hard_and_soft, soft_literal}
use Rattle.pb_dimacs.specs.WcnfReading.WeightedClause.{hard}
use Rattle.pb_dimacs.specs.WcnfText.{hard_text, offset_text, soft_text, softs_text, wcnf_text}
use Rattle.pb_dimacs.specs.WcnfLaws.{IsSoftWithin}
use Rattle.pb_dimacs.proofs.LineLemmas.{Inside, lines_break}
use Rattle.pb_dimacs.proofs.NumberLemmas.{black_is_unbroken, digits_spell}
use Rattle.pb_dimacs.proofs.Written.{Fits, clause_is_line, clause_line, clause_line_words, clause_words, clause_words_spell}

-- ---- a text line by line

abbrev said_of : List (List ℕ) → List (List (List ℕ)) → List (List (List ℕ))
said_of words others = cond (is_said words) (words ∷ others) others

-- the words of the first line, and what the others say
said_first : (line rest : List ℕ) (words : List (List ℕ)) → All Inside line → bare_words line ≡ words → said_lines (line ++ 10 ∷ rest) ≡ said_of words (said_lines rest)
said_first line rest words inside are =
    ap (λ (lines : List (List ℕ)). filter is_said (map line_words lines)) (lines_break line rest inside)
    ∙ ap (λ (ws : List (List ℕ)). said_of ws (said_lines rest)) (bare_from 1 line ∙ are)

-- a line that says a clause, before others
says_first : (line rest : List ℕ) (words : List (List ℕ)) (c : WeightedClause) (cs : List WeightedClause) → All Inside line → bare_words line ≡ words → is_said words ≡ true → LineSays words c → AllZip LineSays (said_lines rest) cs → AllZip LineSays (said_lines (line ++ 10 ∷ rest)) (c ∷ cs)
says_first line rest words c cs inside are said says others =
    let same = said_first line rest words inside are ∙ ap (λ (b : Bool). cond b (words ∷ said_lines rest) (said_lines rest)) said in
    subst (λ (lines : List (List (List ℕ))). AllZip LineSays lines (c ∷ cs)) (sym same) (says, others)

-- ---- soft lines

soft_line : (s : Weighted) (rest : List ℕ) → soft_text (pos s.coef) s.lit ++ rest ≡ (decimal s.coef ++ 32 ∷ clause_line (s.lit ∷ [])) ++ 10 ∷ rest
soft_line s rest = simp append_assoc

soft_is_line : (s : Weighted) → IsSoftWithin s → All Inside (decimal s.coef ++ 32 ∷ clause_line (s.lit ∷ []))
soft_is_line s within =
    let number : IsNumeralOf s.coef (decimal s.coef) = printed s.coef (omega (arith, within.high)) in
    let clause = clause_is_line (s.lit ∷ []) (All-cons Fits s.lit [] within.var (All-nil Fits)) in
    All-append Inside (decimal s.coef) (32 ∷ clause_line (s.lit ∷ [])) (black_is_unbroken (decimal s.coef) (numeral_is_black s.coef (decimal s.coef) number)) (All-cons Inside 32 (clause_line (s.lit ∷ [])) refl clause)

soft_words : (s : Weighted) → IsSoftWithin s → bare_words (decimal s.coef ++ 32 ∷ clause_line (s.lit ∷ [])) ≡ decimal s.coef ∷ clause_words (s.lit ∷ [])
soft_words s within =
    let number : IsNumeralOf s.coef (decimal s.coef) = printed s.coef (omega (arith, within.high)) in
    word_ends (decimal s.coef) (32 ∷ clause_line (s.lit ∷ [])) number.some (numeral_is_black s.coef (decimal s.coef) number) refl
    ∙ ap (λ (ws : List (List ℕ)). decimal s.coef ∷ ws) (clause_line_words (s.lit ∷ []) (All-cons Fits s.lit [] within.var (All-nil Fits)))

numeral_is_said : (n : ℕ) (ds : List ℕ) (words : List (List ℕ)) → IsNumeralOf n ds → is_said (ds ∷ words) ≡ true
numeral_is_said n ds words is = ap not (digits_spell n ds is).quiet

softs_say : (softs : List Weighted) → All IsSoftWithin softs → AllZip LineSays (said_lines (softs_text softs)) (map soft_literal softs)
softs_say [] within = tt
softs_say (s ∷ softs) within =
    let here = All-head IsSoftWithin s softs within in
    let number : IsNumeralOf s.coef (decimal s.coef) = printed s.coef (omega (arith, here.high)) in
    let fits = All-cons Fits s.lit [] here.var (All-nil Fits) in
    subst (λ (text : List ℕ). AllZip LineSays (said_lines text) (map soft_literal (s ∷ softs))) (sym (soft_line s (softs_text softs)))
    (says_first (decimal s.coef ++ 32 ∷ clause_line (s.lit ∷ [])) (softs_text softs) (decimal s.coef ∷ clause_words (s.lit ∷ [])) (soft_literal s) (map soft_literal softs)
    (soft_is_line s here) (soft_words s here) (numeral_is_said s.coef (decimal s.coef) (clause_words (s.lit ∷ [])) number)
    (natural_printed s.coef (decimal s.coef) number, here.low, clause_words_spell (s.lit ∷ []) fits)
    (softs_say softs (All-tail IsSoftWithin s softs within)))

-- ---- hard lines, before others

hard_line : (ls : List Lit) (rest : List ℕ) → (codes "h " ++ clause_text ls) ++ rest ≡ (codes "h " ++ clause_line ls) ++ 10 ∷ rest
hard_line ls rest = simp append_assoc

hard_is_line : (ls : List Lit) → All Fits ls → All Inside (codes "h " ++ clause_line ls)
hard_is_line ls fits = All-cons Inside 104 (32 ∷ clause_line ls) refl (All-cons Inside 32 (clause_line ls) refl (clause_is_line ls fits))

hards_say : (clauses : List (List Lit)) (rest : List ℕ) (others : List WeightedClause) → All (All Fits) clauses → AllZip LineSays (said_lines rest) others → AllZip LineSays (said_lines (hard_text clauses ++ rest)) (map hard clauses ++ others)
hards_say [] rest others fits say = say
hards_say (c ∷ cs) rest others fits say =
    let here = All-head (All Fits) c cs fits in
    let line = append_assoc (codes "h " ++ clause_text c) (hard_text cs) rest ∙ hard_line c (hard_text cs ++ rest) in
    subst (λ (text : List ℕ). AllZip LineSays (said_lines text) (map hard (c ∷ cs) ++ others)) (sym line)
    (says_first (codes "h " ++ clause_line c) (hard_text cs ++ rest) (codes "h" ∷ clause_words c) (hard c) (map hard cs ++ others)
    (hard_is_line c here) (ap (λ (ws : List (List ℕ)). codes "h" ∷ ws) (clause_line_words c here)) refl
    (refl, clause_words_spell c here)
    (hards_say cs rest others (All-tail (All Fits) c cs fits) say))

-- ---- the comment with the offset says nothing

signed_is_black : (z : ℤ) → unsigned_abs z < 2 ^ 126 → IsBlack (signed_decimal z)
signed_is_black (pos n) fits = numeral_is_black n (decimal n) (printed n (omega (arith, fits)))
signed_is_black (negsuc n) fits = (refl, numeral_is_black (suc n) (decimal (suc n)) (printed (suc n) (omega (arith, fits))))

offset_is_line : (offset : ℤ) → unsigned_abs offset < 2 ^ 126 → All Inside (codes "c offset " ++ signed_decimal offset)
offset_is_line offset fits =
    All-append Inside (codes "c offset ") (signed_decimal offset) (All-from_recursion Inside (codes "c offset ") (refl, (refl, (refl, (refl, (refl, (refl, (refl, (refl, (refl, tt))))))))))
    (black_is_unbroken (signed_decimal offset) (signed_is_black offset fits))

offset_says_nothing : (offset : ℤ) (rest : List ℕ) → unsigned_abs offset < 2 ^ 126 → said_lines (offset_text offset ++ rest) ≡ said_lines rest
offset_says_nothing offset rest fits =
    let line : offset_text offset ++ rest ≡ (codes "c offset " ++ signed_decimal offset) ++ 10 ∷ rest = simp append_assoc in
    ap said_lines line ∙ said_first (codes "c offset " ++ signed_decimal offset) rest (codes "c" ∷ codes "offset" ∷ bare_words (signed_decimal offset)) (offset_is_line offset fits) refl

pub written_wcnf_reads : (offset : ℤ) (clauses : List (List Lit)) (softs : List Weighted) → unsigned_abs offset < 2 ^ 126 → All (All Fits) clauses → All IsSoftWithin softs → WcnfReads (wcnf_text offset clauses softs) (hard_and_soft clauses softs)
written_wcnf_reads offset clauses softs small fits within =
    subst (λ (lines : List (List (List ℕ))). AllZip LineSays lines (hard_and_soft clauses softs)) (sym (offset_says_nothing offset (hard_text clauses ++ softs_text softs) small))
    (hards_say clauses (softs_text softs) (map soft_literal softs) fits (softs_say softs within))
