-- Every text of the grammar runs through the automaton, so a front that doesn't begins no text.
use Rattle.std.proofs.Common.{◌≡◌, List, [], ◌∷◌, ◌++◌, map, Option, Some, None, Bool, true, false, ◌||◌, is_some, ℤ, sym, refl, ap, ◌∙◌, append_assoc}
use Rattle.std.specs.Option.{option_and_then}
use Rattle.std.specs.List.{flat_map}
use Rattle.pb_named.specs.declared.named.NamedLit.{NamedLit}
use Rattle.pb_named.specs.NamedTerms.{NamedTerm}
use Rattle.pb_base.specs.declared.problem.Relation.{Relation}
use Rattle.pb_named.specs.declared.named.NamedStatement.{NamedStatement}
use Rattle.pb_opb.specs.declared.stage.Part.{Part}
use Rattle.pb_opb.specs.declared.stage.Part.TheVariants.{Objective, Statement}
use Rattle.pb_opb.specs.Grammar.{Kind, term_kinds, sum_kinds, objective_kinds, statement_kinds, text_kinds}
use Rattle.pb_named.specs.declared.named.NamedProblem.{NamedProblem}
use Rattle.pb_opb.specs.Grammar.Kind.{integer, literal, relation, semicolon, end}
use Rattle.pb_opb.specs.Faults.{Begins}
use Rattle.pb_opb.specs.reader.Automaton.{ReaderState, step, run}
use Rattle.pb_opb.specs.reader.Automaton.ReaderState.{start, next, minimised, literals}

pub run-append : (xs ys : List Kind) (s : ReaderState) → run s (xs ++ ys) ≡ option_and_then (λ t. run t ys) (run s xs)
run-append [] ys s = refl
run-append (x ∷ xs) ys s =
    elim (step s x) as (λ o. option_and_then (λ t. run t (xs ++ ys)) o ≡ option_and_then (λ t. run t ys) (option_and_then (λ t. run t xs) o)) [
      | None ↦ refl
      | Some t ↦ run-append xs ys t
    ]

-- further literals lead back to where they stand, and so do terms
run-lits : (ls : List NamedLit) (part : Part) (rest : List Kind) → run (literals part) (map literal ls ++ rest) ≡ run (literals part) rest
run-lits [] part rest = refl
run-lits (l ∷ ls) Objective rest = run-lits ls Objective rest
run-lits (l ∷ ls) Statement rest = run-lits ls Statement rest

run-sum : (ts : List NamedTerm) (part : Part) (rest : List Kind) → run (literals part) (sum_kinds ts ++ rest) ≡ run (literals part) rest
run-sum [] part rest = refl
run-sum (t ∷ ts) Objective rest = ap (run (literals Objective)) (append_assoc (term_kinds t) (sum_kinds ts) rest) ∙ run-lits t.more Objective (sum_kinds ts ++ rest) ∙ run-sum ts Objective rest
run-sum (t ∷ ts) Statement rest = ap (run (literals Statement)) (append_assoc (term_kinds t) (sum_kinds ts) rest) ∙ run-lits t.more Statement (sum_kinds ts ++ rest) ∙ run-sum ts Statement rest

-- where a statement may begin: before anything was read, and after something
abbrev pub between : Bool → ReaderState
between false = start
between true = next

-- a statement leads to where the next may begin
run-statement : (b : Bool) (ts : List NamedTerm) (r : Relation) (n : ℤ) (rest : List Kind) →
    run (between b) ((sum_kinds ts ++ relation r ∷ integer n ∷ semicolon ∷ []) ++ rest) ≡ run next rest
run-statement false [] r n rest = refl
run-statement true [] r n rest = refl
run-statement b (t ∷ ts) r n rest =
    let end = relation r ∷ integer n ∷ semicolon ∷ [] in
    ap (run (between b)) (append_assoc (term_kinds t ++ sum_kinds ts) end rest ∙ append_assoc (term_kinds t) (sum_kinds ts) (end ++ rest))
    ∙ elim b as (λ c. run (between c) (term_kinds t ++ (sum_kinds ts ++ (end ++ rest))) ≡ run (literals Statement) (map literal t.more ++ (sum_kinds ts ++ (end ++ rest)))) [ false ↦ refl | true ↦ refl ]
    ∙ run-lits t.more Statement (sum_kinds ts ++ (end ++ rest)) ∙ run-sum ts Statement (end ++ rest)

abbrev pub any_of : {A : Type 0} → List A → Bool
any_of [] = false
any_of (_ ∷ _) = true

pub run-statements : (ss : List NamedStatement) (b : Bool) (rest : List Kind) → run (between b) (flat_map statement_kinds ss ++ rest) ≡ run (between (b || any_of ss)) rest
run-statements [] false rest = refl
run-statements [] true rest = refl
run-statements (s ∷ ss) b rest =
    ap (run (between b)) (append_assoc (statement_kinds s) (flat_map statement_kinds ss) rest)
    ∙ run-statement b s.terms s.relation s.right (flat_map statement_kinds ss ++ rest)
    ∙ run-statements ss true rest
    ∙ elim b as (λ c. run next rest ≡ run (between (c || true)) rest) [ false ↦ refl | true ↦ refl ]

run-minimised : (ts : List NamedTerm) (rest : List Kind) → run minimised (sum_kinds ts ++ semicolon ∷ rest) ≡ run next rest
run-minimised [] rest = refl
run-minimised (t ∷ ts) rest =
    ap (run minimised) (append_assoc (term_kinds t) (sum_kinds ts) (semicolon ∷ rest)) ∙ run-lits t.more Objective (sum_kinds ts ++ semicolon ∷ rest) ∙ run-sum ts Objective (semicolon ∷ rest)

pub run-objective : (o : Option (List NamedTerm)) (rest : List Kind) → run start (objective_kinds o ++ rest) ≡ run (between (is_some o)) rest
run-objective None rest = refl
run-objective (Some ts) rest =
    ap (run minimised) (append_assoc (sum_kinds ts) (semicolon ∷ []) rest) ∙ run-minimised ts rest

-- what stands behind an objective and statements
pub run-front : (o : Option (List NamedTerm)) (ss : List NamedStatement) (rest : List Kind) → run start (objective_kinds o ++ flat_map statement_kinds ss ++ rest) ≡ run (between (is_some o || any_of ss)) rest
run-front o ss rest =
    ap (run start) (append_assoc (objective_kinds o) (flat_map statement_kinds ss) rest)
    ∙ run-objective o (flat_map statement_kinds ss ++ rest) ∙ run-statements ss (is_some o) rest

-- every text runs
accepted : (p : NamedProblem) → run start (text_kinds p) ≡ Some (between (is_some p.objective || any_of p.statements))
accepted p =
    run-front p.objective p.statements (end ∷ [])
    ∙ elim (is_some p.objective || any_of p.statements) as (λ b. run (between b) (end ∷ []) ≡ Some (between b)) [ false ↦ refl | true ↦ refl ]

-- so no text begins with what does not
pub refused : (ks : List Kind) (k : Kind) (s : ReaderState) → run start ks ≡ Some s → step s k ≡ None → Begins (ks ++ k ∷ []) → ⊥
refused ks k s here stuck (p, rest, same) =
    let stops : run start (ks ++ k ∷ []) ≡ None =
    run-append ks (k ∷ []) start ∙ ap (option_and_then (λ t. run t (k ∷ []))) here ∙ ap (option_and_then (λ t. run t [])) stuck in
    let none : run start ((ks ++ k ∷ []) ++ rest) ≡ None = run-append (ks ++ k ∷ []) rest start ∙ ap (option_and_then (λ t. run t rest)) stops in
    let some = sym (accepted p) ∙ ap (run start) same ∙ none in
    cc
