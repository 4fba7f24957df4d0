-- A line is read as what its words stand for.
use Rattle.std.proofs.Common.{◌≡◌, ◌≤◌, ◌<◌, ◌^◌, ◌+◌, ◌++◌, ◌==◌, ◌&&◌, ℕ, Bool, true, false, not, cond, List, [], ◌∷◌, map, length, Option, Some, None, refl, ap, ◌∙◌, subst, arith}
use Rattle.std.specs.Prelude.{ℤ, pos, Ok, codes}
use Rattle.std.specs.Char.{is_ascii_digit}
use Rattle.std.specs.List.{AllByRecursion}
use Rattle.std.specs.Str.{bytes_eq, all_ascii_digits}
use Rattle.std.proofs.lemmas.Bool.Decides.{nat_tests}
use Rattle.pb_base.specs.declared.literal.Lit.{Lit}
use Rattle.pb_base.specs.declared.expected.Expected.TheVariants.{LratEnd, LratHint, LratId}
use Rattle.pb_base.specs.declared.number.Number.{Number}
use Rattle.pb_base.specs.Numbers.{integer_of, limited, limited_number, natural_of, weighed}
use Rattle.pb_base.specs.Words.{Chunk, words_of}
use Rattle.pb_dimacs.specs.declared.meaning.Meaning.{Meaning}
use Rattle.pb_dimacs.specs.declared.meaning.Meaning.TheVariants as meaning
use Rattle.pb_dimacs.specs.CnfReading.{clause_numbers, literal_number, opens_comment, IsLitWithin}
use Rattle.pb_dimacs.specs.CnfSymbols.{meant}
use Rattle.pb_dimacs.proofs.MeaningLemmas.{end_meant, literal_meant, meant_literal}
use Rattle.pb_dimacs.proofs.Whole.{limited_fits, limited_is, literal_narrow}
use Rattle.pb_steps.specs.LineWords.{and_then, id_in, number_between}
use Rattle.pb_steps.specs.LineSteps.{with_item, ends_here}
use Rattle.pb_steps.specs.Sayable.{IsId}
use Rattle.pb_steps.specs.StepGrammar.{SpellAll, StepSymbol, texts}
use Rattle.pb_steps.specs.StepGrammar.StepSymbol.{integer, key}
use Rattle.pb_steps.proofs.ReadWords.{and_then_from, counted_from, id_from}
use Rattle.pb_steps.proofs.SpelledWords.{counted_is, id_is, key_from, key_is, other_than}
use Rattle.pb_lrat.specs.declared.said.Said.{Said}
use Rattle.pb_lrat.specs.declared.said.Said.TheVariants.{Nothing, Adds, Deletes}
use Rattle.pb_lrat.specs.laws.LineLaws.{ReadsWhatIsTold}
use Rattle.pb_lrat.specs.LratGrammar.{id_symbols, WordsTell}
use Rattle.pb_lrat.specs.LratLines.{addition_of, behind_id, clause_of, ids_of, said_in, with_id, with_literal}
use Rattle.pb_lrat.specs.LratWords.{hint_in, literal_in, some_literal}

-- ---- ids

abbrev pub some_id : ℕ → Option ℕ
some_id n = cond (n == 0) None (Some n)

hint_is : (w : Chunk) (n : ℕ) → natural_of w.text ≡ Some n → n < 2 ^ 63 → hint_in w ≡ Ok (some_id n)
hint_is w n is high = ap (and_then (λ m. Ok (some_id m))) (counted_is 0 (2 ^ 63) LratHint w.column (natural_of w.text) n is (omega arith) high)

some_id_is : (id : ℕ) → 1 ≤ id → some_id id ≡ Some id
some_id_is id low = by_test (id == 0) refl
  where
    by_test : (b : Bool) → (id == 0) ≡ b → cond b None (Some id) ≡ Some id
    by_test true e = absurd (grind (arith, nat_tests))
    by_test false e = refl

-- what a hint was read from
abbrev HintIs : Chunk → Option ℕ → Type 0
HintIs w None = natural_of w.text ≡ Some 0
HintIs w (Some id) = (natural_of w.text ≡ Some id) × IsId id

hint_from : (w : Chunk) (o : Option ℕ) → hint_in w ≡ Ok o → HintIs w o
hint_from w o h =
    let (n, read, made) = and_then_from (λ m. Ok (some_id m)) (number_between 0 (2 ^ 63) LratHint w.column (natural_of w.text)) o h in
    let c = counted_from 0 (2 ^ 63) LratHint w.column (natural_of w.text) n read in
    let same : some_id n ≡ o = cc in
    subst (HintIs w) same (by_test n c.0 c.2 (n == 0) refl)
  where
    by_test : (n : ℕ) → natural_of w.text ≡ Some n → n < 2 ^ 63 → (b : Bool) → (n == 0) ≡ b → HintIs w (cond b None (Some n))
    by_test n is high true e = let zero_is : n ≡ 0 = grind (arith, nat_tests) in is ∙ ap (λ (m : ℕ). Some m) zero_is
    by_test n is high false e = (is, (grind (arith, nat_tests), high))

ids_spelled : (end : ℕ) (ws : List Chunk) (ids : List ℕ) → SpellAll (texts ws) (id_symbols ids) → AllByRecursion IsId ids → ids_of end ws ≡ Ok ids
ids_spelled end [] [] sp ok = absurd sp
ids_spelled end [] (id ∷ ids) sp ok = absurd sp
ids_spelled end (w ∷ []) [] sp ok = ap (and_then (λ o. with_id o [] (ids_of end []))) (hint_is w 0 sp.0 (omega arith))
ids_spelled end (w ∷ v ∷ ws) [] sp ok = absurd sp.1
ids_spelled end (w ∷ ws) (id ∷ ids) sp ok =
    ap (and_then (λ o. with_id o ws (ids_of end ws))) (hint_is w id sp.0 ok.0.1 ∙ ap (λ (o : Option ℕ). Ok o) (some_id_is id ok.0.0))
    ∙ ap (with_item id) (ids_spelled end ws ids sp.1 ok.1)

abbrev Ids : List Chunk → List ℕ → Type 0
Ids ws ids = SpellAll (texts ws) (id_symbols ids) × AllByRecursion IsId ids

last_from : (w : Chunk) (ws : List Chunk) (ids : List ℕ) → natural_of w.text ≡ Some 0 → ends_here LratEnd [] ws ≡ Ok ids → Ids (w ∷ ws) ids
last_from w [] ids is h = let e : [] ≡ ids = cc in subst (Ids (w ∷ [])) e ((is, tt), tt)
last_from w (v ∷ ws) ids is h = cc

ids_from : (end : ℕ) (ws : List Chunk) (ids : List ℕ) → ids_of end ws ≡ Ok ids → Ids ws ids
ids_from end [] ids h = cc
ids_from end (w ∷ ws) ids h =
    let (o, first, behind) = and_then_from (λ o. with_id o ws (ids_of end ws)) (hint_in w) ids h in
    by_hint o (hint_from w o first) behind (λ others g. ids_from end ws others g)
  where
    by_hint : (o : Option ℕ) → HintIs w o → with_id o ws (ids_of end ws) ≡ Ok ids → ((others : List ℕ) → ids_of end ws ≡ Ok others → Ids ws others) → Ids (w ∷ ws) ids
    by_hint None is h later = last_from w ws ids is h
    by_hint (Some id) is h later =
        let (others, read, made) = and_then_from (λ xs. Ok (id ∷ xs)) (ids_of end ws) ids h in
        let e : id ∷ others ≡ ids = cc in
        let more = later others read in
        subst (Ids (w ∷ ws)) e ((is.0, more.0), (is.1, more.1))

-- ---- literals

literal_is : (vars : ℕ) (w : Chunk) (l : Lit) → vars < 2 ^ 31 → integer_of w.text ≡ Some (literal_number l) → IsLitWithin vars l → literal_in vars w ≡ Ok (Some l)
literal_is vars w l few is within =
    ap (λ (n : Number). some_literal w.column (meant vars n)) (ap limited is ∙ limited_fits (literal_number l) (literal_narrow l.var l.positive (omega (arith, few, within.high))))
    ∙ ap (some_literal w.column) (meant_literal vars l within)

zero_is : (vars : ℕ) (w : Chunk) → integer_of w.text ≡ Some (pos 0) → literal_in vars w ≡ Ok None
zero_is vars w is = ap (λ (n : Number). some_literal w.column (meant vars n)) (ap limited is)

-- what a literal was read from
abbrev LiteralIs : ℕ → Chunk → Option Lit → Type 0
LiteralIs vars w None = integer_of w.text ≡ Some (pos 0)
LiteralIs vars w (Some l) = (integer_of w.text ≡ Some (literal_number l)) × IsLitWithin vars l

literal_from : (vars : ℕ) (w : Chunk) (o : Option Lit) → literal_in vars w ≡ Ok o → LiteralIs vars w o
literal_from vars w o h = by_meaning (meant vars (limited_number w.text)) refl h
  where
    by_meaning : (m : Meaning) → meant vars (limited_number w.text) ≡ m → some_literal w.column m ≡ Ok o → LiteralIs vars w o
    by_meaning meaning.End is h =
        let e : None ≡ o = cc in
        subst (LiteralIs vars w) e (limited_is (integer_of w.text) (pos 0) (end_meant vars (limited_number w.text) is))
    by_meaning (meaning.Literal l) is h =
        let e : Some l ≡ o = cc in
        let found = literal_meant vars (limited_number w.text) l is in
        subst (LiteralIs vars w) e (limited_is (integer_of w.text) (literal_number l) found.0, found.1)
    by_meaning meaning.Nothing is h = cc

abbrev Clause : ℕ → ℕ → List Chunk → List Lit → List StepSymbol → Type 0
Clause vars end ws ls rest = (vs : List Chunk) × (clause_of vars end ws ≡ Ok (ls, vs)) × SpellAll (texts vs) rest

clause_spelled : (vars end : ℕ) (ws : List Chunk) (ls : List Lit) (rest : List StepSymbol) → vars < 2 ^ 31 → SpellAll (texts ws) (map integer (clause_numbers ls) ++ rest) → AllByRecursion (IsLitWithin vars) ls → Clause vars end ws ls rest
clause_spelled vars end [] [] rest few sp ok = absurd sp
clause_spelled vars end [] (l ∷ ls) rest few sp ok = absurd sp
clause_spelled vars end (w ∷ ws) [] rest few sp ok = (ws, ap (and_then (λ o. with_literal o ws (clause_of vars end ws))) (zero_is vars w sp.0), sp.1)
clause_spelled vars end (w ∷ ws) (l ∷ ls) rest few sp ok =
    let (vs, read, left) = clause_spelled vars end ws ls rest few sp.1 ok.1 in (
      vs,
      ap (and_then (λ o. with_literal o ws (clause_of vars end ws))) (literal_is vars w l few sp.0 ok.0) ∙ ap (and_then (λ p. Ok (l ∷ p.0, p.1))) read,
      left,
    )

-- the words before those that are left stand for a clause
abbrev Lits : ℕ → List Chunk → List Lit × List Chunk → Type 0
Lits vars ws p = ((rest : List StepSymbol) → SpellAll (texts p.1) rest → SpellAll (texts ws) (map integer (clause_numbers p.0) ++ rest)) × AllByRecursion (IsLitWithin vars) p.0

clause_from : (vars end : ℕ) (ws : List Chunk) (p : List Lit × List Chunk) → clause_of vars end ws ≡ Ok p → Lits vars ws p
clause_from vars end [] p h = cc
clause_from vars end (w ∷ ws) p h =
    let (o, first, behind) = and_then_from (λ o. with_literal o ws (clause_of vars end ws)) (literal_in vars w) p h in
    by_literal o (literal_from vars w o first) behind (λ q g. clause_from vars end ws q g)
  where
    by_literal : (o : Option Lit) → LiteralIs vars w o → with_literal o ws (clause_of vars end ws) ≡ Ok p → ((q : List Lit × List Chunk) → clause_of vars end ws ≡ Ok q → Lits vars ws q) → Lits vars (w ∷ ws) p
    by_literal None is h later = let e : ([], ws) ≡ p = cc in subst (Lits vars (w ∷ ws)) e ((λ rest sp. (is, sp)), tt)
    by_literal (Some l) is h later =
        let (q, read, made) = and_then_from (λ q. Ok (l ∷ q.0, q.1)) (clause_of vars end ws) p h in
        let e : (l ∷ q.0, q.1) ≡ p = cc in
        let more = later q read in
        subst (Lits vars (w ∷ ws)) e ((λ rest sp. (is.0, more.0 rest sp)), (is.1, more.1))

-- ---- first words

digit_is_quiet : (b : ℕ) (ds : List ℕ) (n : ℕ) → natural_of (b ∷ ds) ≡ Some n → (b == 99) ≡ false
digit_is_quiet b ds n is = by_test (b == 99) refl
  where
    by_test : (t : Bool) → (b == 99) ≡ t → t ≡ false
    by_test true e =
        let letter : is_ascii_digit b ≡ false = let same : b ≡ 99 = grind (arith, nat_tests) in ap is_ascii_digit same in
        let none : natural_of (b ∷ ds) ≡ None = ap (λ (d : Bool). cond (d && all_ascii_digits ds) (Some (weighed (b ∷ ds))) None) letter in
        let no : ⊥ = cc in absurd no
    by_test false e = refl

-- a number is no comment
number_is_quiet : (w : List ℕ) (n : ℕ) → natural_of w ≡ Some n → opens_comment w ≡ false
number_is_quiet [] n is = refl
number_is_quiet (b ∷ ds) n is = digit_is_quiet b ds n is

no_letter : (w : List ℕ) (z : ℤ) → integer_of w ≡ Some z → bytes_eq w (codes "d") ≡ false
no_letter w z is = other_than integer_of w (codes "d") (λ e. cc)

-- the first word of a clause is an integer
clause_word : (w : Chunk) (ws : List Chunk) (ls : List Lit) (rest : List StepSymbol) → SpellAll (texts (w ∷ ws)) (map integer (clause_numbers ls) ++ rest) → bytes_eq w.text (codes "d") ≡ false
clause_word w ws [] rest sp = no_letter w.text (pos 0) sp.0
clause_word w ws (l ∷ ls) rest sp = no_letter w.text (literal_number l) sp.0

-- ---- lines

addition_is : (vars end id : ℕ) (ws : List Chunk) (ls : List Lit) (hints : List ℕ) → vars < 2 ^ 31 → SpellAll (texts ws) (map integer (clause_numbers ls) ++ id_symbols hints) → AllByRecursion (IsLitWithin vars) ls → AllByRecursion IsId hints
    → behind_id vars end id ws ≡ Ok (Adds id ls hints)
addition_is vars end id [] [] hints few sp lits ids = absurd sp
addition_is vars end id [] (l ∷ ls) hints few sp lits ids = absurd sp
addition_is vars end id (w ∷ ws) ls hints few sp lits ids =
    let (vs, read, left) = clause_spelled vars end (w ∷ ws) ls (id_symbols hints) few sp lits in
    ap (λ (b : Bool). cond b (and_then (λ ids. Ok (Deletes ids)) (ids_of end ws)) (addition_of vars end id (w ∷ ws))) (clause_word w ws ls (id_symbols hints) sp)
    ∙ ap (and_then (λ p. and_then (λ hs. Ok (Adds id p.0 hs)) (ids_of end p.1))) read
    ∙ ap (and_then (λ hs. Ok (Adds id ls hs))) (ids_spelled end vs hints left ids)

deletion_is : (vars end id : ℕ) (ws : List Chunk) (ids : List ℕ) → SpellAll (texts ws) (key (codes "d") ∷ id_symbols ids) → AllByRecursion IsId ids → behind_id vars end id ws ≡ Ok (Deletes ids)
deletion_is vars end id [] ids sp ok = absurd sp
deletion_is vars end id (w ∷ ws) ids sp ok =
    ap (λ (b : Bool). cond b (and_then (λ ids. Ok (Deletes ids)) (ids_of end ws)) (addition_of vars end id (w ∷ ws))) (key_is w.text (codes "d") sp.0)
    ∙ ap (and_then (λ is. Ok (Deletes is))) (ids_spelled end ws ids sp.1 ok)

-- behind the line's id
behind_first : (vars end : ℕ) (w : Chunk) (ws : List Chunk) (id : ℕ) (said : Said) → natural_of w.text ≡ Some id → IsId id → behind_id vars end id ws ≡ Ok said → said_in vars end (w ∷ ws) ≡ Ok said
behind_first vars end w ws id said is range later =
    ap (λ (b : Bool). cond b (Ok Nothing) (and_then (λ i. behind_id vars end i ws) (id_in LratId w))) (number_is_quiet w.text id is)
    ∙ ap (and_then (λ i. behind_id vars end i ws)) (id_is LratId w id is range)
    ∙ later

quiet : (b : Bool) → not b ≡ false → b ≡ true
quiet true h = refl
quiet false h = cc

pub said_is : (vars end : ℕ) (ws : List Chunk) (said : Said) → vars < 2 ^ 31 → WordsTell vars (texts ws) said → said_in vars end ws ≡ Ok said
said_is vars end [] Nothing few tells = refl
said_is vars end (w ∷ ws) Nothing few tells = ap (λ (b : Bool). cond b (Ok Nothing) (and_then (λ i. behind_id vars end i ws) (id_in LratId w))) (quiet (opens_comment w.text) tells)
said_is vars end [] (Adds id ls hints) few tells = absurd tells.0
said_is vars end (w ∷ ws) (Adds id ls hints) few tells = behind_first vars end w ws id (Adds id ls hints) tells.0.0 tells.1 (addition_is vars end id ws ls hints few tells.0.1 tells.2 tells.3)
said_is vars end [] (Deletes ids) few tells = absurd tells.1
said_is vars end (w ∷ ws) (Deletes ids) few tells = behind_first vars end w ws tells.0 (Deletes ids) tells.1.0 tells.2 (deletion_is vars end tells.0 ws ids tells.1.1 tells.3)

-- ---- and back

abbrev Follow : ℕ → Chunk → List Chunk → Said → Type 0
Follow vars w ws said = WordsTell vars (texts (w ∷ ws)) said

deletion_from : (vars end id : ℕ) (w d : Chunk) (ws : List Chunk) (said : Said) → natural_of w.text ≡ Some id → IsId id → d.text ≡ codes "d" → and_then (λ ids. Ok (Deletes ids)) (ids_of end ws) ≡ Ok said → Follow vars w (d ∷ ws) said
deletion_from vars end id w d ws said is range letter h =
    let (ids, read, made) = and_then_from (λ xs. Ok (Deletes xs)) (ids_of end ws) said h in
    let e : Deletes ids ≡ said = cc in
    let i = ids_from end ws ids read in
    subst (Follow vars w (d ∷ ws)) e (id, (is, (letter, i.0)), range, i.1)

addition_from : (vars end id : ℕ) (w : Chunk) (ws : List Chunk) (said : Said) → natural_of w.text ≡ Some id → IsId id → addition_of vars end id ws ≡ Ok said → Follow vars w ws said
addition_from vars end id w ws said is range h =
    let (p, read, behind) = and_then_from (λ p. and_then (λ hints. Ok (Adds id p.0 hints)) (ids_of end p.1)) (clause_of vars end ws) said h in
    let (hints, read_hints, made) = and_then_from (λ hs. Ok (Adds id p.0 hs)) (ids_of end p.1) said behind in
    let e : Adds id p.0 hints ≡ said = cc in
    let c = clause_from vars end ws p read in
    let i = ids_from end p.1 hints read_hints in
    subst (Follow vars w ws) e ((is, c.0 (id_symbols hints) i.0), range, c.1, i.1)

behind_from : (vars end id : ℕ) (w : Chunk) (ws : List Chunk) (said : Said) → natural_of w.text ≡ Some id → IsId id → behind_id vars end id ws ≡ Ok said → Follow vars w ws said
behind_from vars end id w [] said is range h = cc
behind_from vars end id w (d ∷ ws) said is range h = by_letter (bytes_eq d.text (codes "d")) (key_from d.text (codes "d")) h
  where
    by_letter : (b : Bool) → (b ≡ true → d.text ≡ codes "d") → cond b (and_then (λ ids. Ok (Deletes ids)) (ids_of end ws)) (addition_of vars end id (d ∷ ws)) ≡ Ok said → Follow vars w (d ∷ ws) said
    by_letter true same h = deletion_from vars end id w d ws said is range (same refl) h
    by_letter false same h = addition_from vars end id w (d ∷ ws) said is range h

pub said_from : (vars end : ℕ) (ws : List Chunk) (said : Said) → said_in vars end ws ≡ Ok said → WordsTell vars (texts ws) said
said_from vars end [] said h = let e : Nothing ≡ said = cc in subst (WordsTell vars []) e refl
said_from vars end (w ∷ ws) said h = by_comment (opens_comment w.text) refl h
  where
    by_comment : (b : Bool) → opens_comment w.text ≡ b → cond b (Ok Nothing) (and_then (λ i. behind_id vars end i ws) (id_in LratId w)) ≡ Ok said → Follow vars w ws said
    by_comment true is h = let e : Nothing ≡ said = cc in subst (Follow vars w ws) e (ap not is)
    by_comment false is h =
        let (id, first, behind) = and_then_from (λ i. behind_id vars end i ws) (id_in LratId w) said h in
        let i = id_from LratId w id first in
        behind_from vars end id w ws said i.0 i.1 behind

pub reads_what_is_told : ReadsWhatIsTold
reads_what_is_told vars line said few = (said_from vars (length line + 1) (words_of line) said, said_is vars (length line + 1) (words_of line) said few)
