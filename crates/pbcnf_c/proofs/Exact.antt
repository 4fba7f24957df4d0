-- Integers are told by their text.
use Rattle.std.proofs.Common.{◌≡◌, ◌≤◌, ◌<◌, ◌^◌, ◌∙◌, ◌++◌, [], ◌∷◌, zero, suc, Bool, true, false, List, ℕ, ℤ, pos, negsuc, Option, Some, None, ap, append_assoc, arith, map, refl, sym}
use Rattle.std.specs.Prelude.{All, codes, decimal}
use Rattle.std.specs.List.{flat_map}
use Rattle.std.proofs.lemmas.Grind.{flat_map-append}
use Rattle.std.proofs.lemmas.List.Elements.{All-nil, All-cons, All-head, All-tail, All-append}
use Rattle.std.proofs.lemmas.Fmt.{decimal_digit}
use Rattle.pb_base.specs.declared.literal.Lit.{Lit}
use Rattle.pb_base.specs.Numbers.{integer_of}
use Rattle.pb_base.specs.Words.{goes_on}
use Rattle.pb_base.proofs.WordLemmas.{bare_words, word_ends}
use Rattle.pb_family.specs.ClauseText.{clause_text, clauses_text, literal_text}
use Rattle.pb_dimacs.specs.CnfReading.{clause_numbers, literal_number, IsLitWithin}
use Rattle.pb_dimacs.proofs.NumberLemmas.{literal_spells, Spells}
use Rattle.pbcnf_c.specs.Integers.{integer_text, integers_text, IsSmall}
use Rattle.pbcnf_c.proofs.Pushed.{positive, negative}

-- ---- from the text to the integers

abbrev word : ℤ → List ℕ
word (pos n) = decimal n
word (negsuc n) = 45 ∷ decimal (suc n)

abbrev blank : ℤ → ℕ
blank (pos zero) = 10
blank (pos (suc n)) = 32
blank (negsuc n) = 32

parts : (z : ℤ) → integer_text z ≡ word z ++ blank z ∷ []
parts (pos zero) = ap (λ (t : List ℕ). t ++ 10 ∷ []) (sym (decimal_digit 0 (omega arith)))
parts (pos (suc n)) = refl
parts (negsuc n) = refl

ends : (z : ℤ) (rest : List ℕ) → goes_on (blank z ∷ rest) ≡ false
ends (pos zero) rest = refl
ends (pos (suc n)) rest = refl
ends (negsuc n) rest = refl

behind : (z : ℤ) (rest : List ℕ) → bare_words (blank z ∷ rest) ≡ bare_words rest
behind (pos zero) rest = refl
behind (pos (suc n)) rest = refl
behind (negsuc n) rest = refl

spells : (z : ℤ) → IsSmall z → Spells (word z) z
spells (pos n) fits = literal_spells (record { var = n; positive = true }) fits
spells (negsuc n) fits = literal_spells (record { var = suc n; positive = false }) fits

numbers_are : (zs : List ℤ) → All IsSmall zs → map integer_of (bare_words (integers_text zs)) ≡ map Some zs
numbers_are [] small = refl
numbers_are (z ∷ zs) small =
    let here = spells z (All-head IsSmall z zs small) in
    let rest = integers_text zs in
    ap (λ (t : List ℕ). map integer_of (bare_words (t ++ rest))) (parts z)
    ∙ ap (λ (t : List ℕ). map integer_of (bare_words t)) (append_assoc (word z) (blank z ∷ []) rest)
    ∙ ap (map integer_of) (word_ends (word z) (blank z ∷ rest) here.some here.black (ends z rest))
    ∙ ap (λ (ws : List (List ℕ)). integer_of (word z) ∷ map integer_of ws) (behind z rest)
    ∙ ap (λ (one : Option ℤ). one ∷ map integer_of (bare_words rest)) here.number
    ∙ ap (λ (more : List (Option ℤ)). Some z ∷ more) (numbers_are zs (All-tail IsSmall z zs small))

abbrev strip : List (Option ℤ) → List ℤ
strip [] = []
strip (None ∷ rest) = strip rest
strip (Some z ∷ rest) = z ∷ strip rest

stripped : (zs : List ℤ) → strip (map Some zs) ≡ zs
stripped [] = refl
stripped (z ∷ zs) = ap (λ (ys : List ℤ). z ∷ ys) (stripped zs)

same_text : (xs ys : List ℤ) → All IsSmall xs → All IsSmall ys → integers_text xs ≡ integers_text ys → xs ≡ ys
same_text xs ys small little same =
    sym (stripped xs) ∙ ap strip (sym (numbers_are xs small)) ∙ ap (λ (t : List ℕ). strip (map integer_of (bare_words t))) same ∙ ap strip (numbers_are ys little) ∙ stripped ys

-- ---- from clauses to the text

literal : (v : ℕ) (b : Bool) → 1 ≤ v → integer_text (literal_number (record { var = v; positive = b })) ≡ literal_text (record { var = v; positive = b }) ++ codes " "
literal v true low = positive v low
literal v false low = negative v low

small_literal : (v : ℕ) (b : Bool) → 1 ≤ v → v < 2 ^ 63 → IsSmall (literal_number (record { var = v; positive = b }))
small_literal v true low few = omega (arith, few)
small_literal zero false low few = absurd (omega (arith, low))
small_literal (suc v) false low few = omega (arith, few)

of_clause : (vars : ℕ) (ls : List Lit) → All (IsLitWithin vars) ls → integers_text (clause_numbers ls) ≡ clause_text ls
of_clause vars [] within = refl
of_clause vars (l ∷ ls) within =
    let here = All-head (IsLitWithin vars) l ls within in
    let w = literal_text l ++ codes " " in
    ap (λ (t : List ℕ). t ++ integers_text (clause_numbers ls)) (literal l.var l.positive here.low)
    ∙ ap (λ (t : List ℕ). w ++ t) (of_clause vars ls (All-tail (IsLitWithin vars) l ls within))
    ∙ sym (append_assoc w (flat_map (λ (l : Lit). literal_text l ++ codes " ") ls) (codes "0\n"))

small_clause : (vars : ℕ) → vars < 2 ^ 63 → (ls : List Lit) → All (IsLitWithin vars) ls → All IsSmall (clause_numbers ls)
small_clause vars few [] within = All-cons IsSmall (pos 0) [] (omega arith) (All-nil IsSmall)
small_clause vars few (l ∷ ls) within =
    let here = All-head (IsLitWithin vars) l ls within in
    let high = here.high in
    All-cons IsSmall (literal_number l) (clause_numbers ls) (small_literal l.var l.positive here.low (omega (arith, high, few))) (small_clause vars few ls (All-tail (IsLitWithin vars) l ls within))

of_clauses : (vars : ℕ) (cs : List (List Lit)) → All (All (IsLitWithin vars)) cs → integers_text (flat_map clause_numbers cs) ≡ clauses_text cs
of_clauses vars [] within = refl
of_clauses vars (c ∷ cs) within =
    flat_map-append integer_text (clause_numbers c) (flat_map clause_numbers cs)
    ∙ ap (λ (t : List ℕ). t ++ integers_text (flat_map clause_numbers cs)) (of_clause vars c (All-head (All (IsLitWithin vars)) c cs within))
    ∙ ap (λ (t : List ℕ). clause_text c ++ t) (of_clauses vars cs (All-tail (All (IsLitWithin vars)) c cs within))

small_clauses : (vars : ℕ) → vars < 2 ^ 63 → (cs : List (List Lit)) → All (All (IsLitWithin vars)) cs → All IsSmall (flat_map clause_numbers cs)
small_clauses vars few [] within = All-nil IsSmall
small_clauses vars few (c ∷ cs) within =
    All-append IsSmall (clause_numbers c) (flat_map clause_numbers cs) (small_clause vars few c (All-head (All (IsLitWithin vars)) c cs within)) (small_clauses vars few cs (All-tail (All (IsLitWithin vars)) c cs within))

-- integers whose text is that of clauses are the clauses' numbers
pub exact : (vars : ℕ) (cs : List (List Lit)) (zs : List ℤ) → vars < 2 ^ 63 → All (All (IsLitWithin vars)) cs → All IsSmall zs → integers_text zs ≡ clauses_text cs → zs ≡ flat_map clause_numbers cs
exact vars cs zs few within small same = same_text zs (flat_map clause_numbers cs) small (small_clauses vars few cs within) (same ∙ sym (of_clauses vars cs within))
