-- How long a CNF text is, by how many literals and clauses it has.
use Rattle.std.proofs.Common.{◌≤◌, ◌<◌, ◌+◌, ◌*◌, ◌^◌, ◌++◌, ℕ, Bool, true, false, cond, List, [], ◌∷◌, length, arith, length-append}
use Rattle.std.specs.Prelude.{All, codes, decimal}
use Rattle.std.specs.List.{flat_map}
use Rattle.std.proofs.lemmas.Fmt.{length-decimal-le}
use Rattle.std.proofs.lemmas.List.Elements.{All-head, All-tail}
use Rattle.pb_base.specs.declared.literal.Lit.{Lit}
use Rattle.pb_family.specs.ClauseText.{clause_text, clauses_text, literal_text}
use Rattle.pb_dimacs.specs.CnfReading.{IsLitWithin}
use Rattle.pb_dimacs.specs.CnfText.{cnf_text, header_text}
use Rattle.pb_choice.proofs.LiteralTotals.{literal_total, total_cons}

-- a literal, with its blank
abbrev word_of : Lit → List ℕ
word_of l = literal_text l ++ codes " "

module _ (vars : ℕ) (few : vars < 2 ^ 31) where
  word_size : (l : Lit) → IsLitWithin vars l → length (word_of l) ≤ 12
  word_size l within = by_sign l.positive
    where
      digits : length (decimal l.var) ≤ 10
      digits = length-decimal-le 10 l.var (omega arith) (omega (arith, within.high, few)) (omega (arith, within.high, few))

      by_sign : (b : Bool) → length (cond b (decimal l.var) (45 ∷ decimal l.var) ++ codes " ") ≤ 12
      by_sign true = omega (arith, digits, length-append (decimal l.var) (codes " "))
      by_sign false = omega (arith, digits, length-append (decimal l.var) (codes " "))

  words_size : (ls : List Lit) → All (IsLitWithin vars) ls → length (flat_map word_of ls) ≤ 12 * length ls
  words_size [] within = omega arith
  words_size (l ∷ ls) within =
      omega (arith, length-append (word_of l) (flat_map word_of ls), word_size l (All-head (IsLitWithin vars) l ls within), words_size ls (All-tail (IsLitWithin vars) l ls within))

  clause_size : (ls : List Lit) → All (IsLitWithin vars) ls → length (clause_text ls) ≤ 12 * length ls + 2
  clause_size ls within = omega (arith, length-append (flat_map word_of ls) (codes "0\n"), words_size ls within)

  clauses_size : (cs : List (List Lit)) → All (All (IsLitWithin vars)) cs → length (clauses_text cs) ≤ 12 * literal_total cs + 2 * length cs
  clauses_size [] within = omega arith
  clauses_size (c ∷ cs) within =
      omega (
        arith,
        length-append (clause_text c) (clauses_text cs),
        total_cons c cs,
        clause_size c (All-head (All (IsLitWithin vars)) c cs within),
        clauses_size cs (All-tail (All (IsLitWithin vars)) c cs within),
      )

  header_size : (count : ℕ) → count < 2 ^ 64 → length (header_text vars count) ≤ 64
  header_size count fits =
      let before = codes "p cnf " ++ decimal vars in
      omega (
        arith,
        length-append (before ++ codes " " ++ decimal count) (codes "\n"),
        length-append (before ++ codes " ") (decimal count),
        length-append before (codes " "),
        length-append (codes "p cnf ") (decimal vars),
        length-decimal-le 20 vars (omega arith) (omega (arith, few)) (omega (arith, few)),
        length-decimal-le 20 count (omega arith) (omega (arith, fits)) fits,
      )

  -- the p line, 12 bytes a literal, and two more a clause
  pub cnf_size : (cs : List (List Lit)) → length cs < 2 ^ 64 → All (All (IsLitWithin vars)) cs → length (cnf_text vars cs) ≤ 64 + 12 * literal_total cs + 2 * length cs
  cnf_size cs fits within = omega (arith, length-append (header_text vars (length cs)) (clauses_text cs), header_size (length cs) fits, clauses_size cs within)
