-- Written text is within the limits of a CNF where no clause has too many literals.
use Rattle.std.proofs.Common.{◌≡◌, ◌≤◌, ◌<◌, ◌+◌, ◌*◌, ◌^◌, ℕ, Bool, true, false, cond, List, [], ◌∷◌, ◌++◌, length, map, refl, sym, ap, subst, ◌∙◌, arith, append_assoc, length-append}
use Rattle.std.specs.Prelude.{All, codes, decimal}
use Rattle.std.proofs.lemmas.Fmt.{length-decimal-le}
use Rattle.std.proofs.lemmas.List.{length-map}
use Rattle.std.proofs.lemmas.List.Elements.{All-nil, All-cons, All-head, All-tail}
use Rattle.pb_base.specs.declared.literal.Lit.{Lit}
use Rattle.pb_desk.specs.Lines.{lines_of}
use Rattle.pb_family.specs.ClauseText.{literal_text, clauses_text}
use Rattle.pb_dimacs.specs.CnfText.{cnf_text}
use Rattle.pb_dimacs.specs.CnfReading.{IsLitWithin}
use Rattle.pb_dimacs.specs.CnfWholeLaws.{IsCnfWithin}
use Rattle.pb_dimacs.proofs.LineLemmas.{lines_break}
use Rattle.pb_dimacs.proofs.Written.{clause_fits, clause_is_line, clause_line, clause_line-cons, header_is_line, header_line}

-- no clause has more literals than this
abbrev Brief : List Lit → Type 0
Brief ls = length ls ≤ 2 ^ 21

-- no line is longer than this
abbrev Fits : List ℕ → Type 0
Fits line = length line ≤ 2 ^ 28

module _ (vars : ℕ) (few : vars < 2 ^ 31) where
  literal_short : (l : Lit) → IsLitWithin vars l → length (literal_text l) ≤ 11
  literal_short l within =
      let digits : length (decimal l.var) ≤ 10 = length-decimal-le 10 l.var (omega arith) (omega (arith, within.high, few)) (omega (arith, within.high, few)) in
      elim l.positive as (λ (b : Bool). length (cond b (decimal l.var) (45 ∷ decimal l.var)) ≤ 11) [ true ↦ omega (arith, digits) | false ↦ omega (arith, digits) ]

  clause_size : (ls : List Lit) → All (IsLitWithin vars) ls → length (clause_line ls) ≤ 12 * length ls + 1
  clause_size [] within = omega arith
  clause_size (l ∷ ls) within =
      let here = literal_short l (All-head (IsLitWithin vars) l ls within) in
      omega (arith, here, clause_size ls (All-tail (IsLitWithin vars) l ls within), ap (λ (xs : List ℕ). length xs) (clause_line-cons l ls), length-append (literal_text l) (32 ∷ clause_line ls))

  clauses_line : (c : List Lit) (cs : List (List Lit)) → clauses_text (c ∷ cs) ≡ clause_line c ++ 10 ∷ clauses_text cs
  clauses_line c cs = simp append_assoc

  clauses_lines : (cs : List (List Lit)) → All (All (IsLitWithin vars)) cs → lines_of (clauses_text cs) ≡ map clause_line cs
  clauses_lines [] within = refl
  clauses_lines (c ∷ cs) within =
      ap lines_of (clauses_line c cs)
      ∙ lines_break (clause_line c) (clauses_text cs) (clause_is_line c (clause_fits vars (omega (arith, few)) c (All-head (All (IsLitWithin vars)) c cs within)))
      ∙ ap (λ (ls : List (List ℕ)). clause_line c ∷ ls) (clauses_lines cs (All-tail (All (IsLitWithin vars)) c cs within))

  clauses_size : (cs : List (List Lit)) → All (All (IsLitWithin vars)) cs → All Brief cs → length (clauses_text cs) ≤ 2 ^ 25 * length cs
  clauses_size [] within brief = omega arith
  clauses_size (c ∷ cs) within brief =
      let here = clause_size c (All-head (All (IsLitWithin vars)) c cs within) in
      let rest = clauses_size cs (All-tail (All (IsLitWithin vars)) c cs within) (All-tail Brief c cs brief) in
      omega (arith, here, rest, All-head Brief c cs brief, ap (λ (xs : List ℕ). length xs) (clauses_line c cs), length-append (clause_line c) (10 ∷ clauses_text cs))

  lines_fit : (cs : List (List Lit)) → All (All (IsLitWithin vars)) cs → All Brief cs → All Fits (map clause_line cs)
  lines_fit [] within brief = All-nil Fits
  lines_fit (c ∷ cs) within brief =
      All-cons Fits (clause_line c) (map clause_line cs)
      (omega (arith, clause_size c (All-head (All (IsLitWithin vars)) c cs within), All-head Brief c cs brief))
      (lines_fit cs (All-tail (All (IsLitWithin vars)) c cs within) (All-tail Brief c cs brief))

  header_size : (count : ℕ) → count < 2 ^ 64 → length (header_line vars count) ≤ 64
  header_size count fits =
      let first = length-decimal-le 20 vars (omega arith) (omega (arith, few)) (omega (arith, few)) in
      let second = length-decimal-le 20 count (omega arith) (omega (arith, fits)) fits in
      omega (arith, first, second, length-append (codes "p cnf " ++ decimal vars ++ codes " ") (decimal count), length-append (codes "p cnf " ++ decimal vars) (codes " "), length-append (codes "p cnf ") (decimal vars))

  pub written_within : (cs : List (List Lit)) → length cs ≤ 2 ^ 36 → All (All (IsLitWithin vars)) cs → All Brief cs → IsCnfWithin (cnf_text vars cs) vars cs
  written_within cs count within brief =
      let head = header_line vars (length cs) in
      let head_short = header_size (length cs) (omega (arith, count)) in
      let text : cnf_text vars cs ≡ head ++ 10 ∷ clauses_text cs = append_assoc head (codes "\n") (clauses_text cs) in
      let lines : lines_of (cnf_text vars cs) ≡ head ∷ map clause_line cs =
      ap lines_of text ∙ lines_break head (clauses_text cs) (header_is_line vars (length cs) (omega (arith, few)) (omega (arith, count))) ∙ ap (λ (ls : List (List ℕ)). head ∷ ls) (clauses_lines cs within) in
      record {
        in_text = record {
          bytes = omega (arith, ap (λ (xs : List ℕ). length xs) text, length-append head (10 ∷ clauses_text cs), head_short, clauses_size cs within brief, count);
          lines = omega (arith, ap (λ (ls : List (List ℕ)). length ls) lines, length-map cs clause_line, count);
          line = subst (All Fits) (sym lines) (All-cons Fits head (map clause_line cs) (omega (arith, head_short)) (lines_fit cs within brief));
        };
        few_vars = few;
        few_clauses = count;
      }
