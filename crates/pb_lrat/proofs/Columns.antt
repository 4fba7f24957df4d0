-- The fault of a line stands at the first word behind which no line goes on.
use Rattle.std.proofs.Common.{◌≡◌, ◌+◌, ◌<◌, ◌^◌, ℕ, Bool, true, false, cond, List, [], ◌∷◌, length, Option, Some, None, refl, sym, ap, ◌∙◌}
use Rattle.std.specs.Prelude.{Result, Ok, Err, option_map, unwrap_or, codes}
use Rattle.std.specs.Str.{bytes_eq}
use Rattle.std.specs.Result.{result_map_both}
use Rattle.pb_base.specs.declared.literal.Lit.{Lit}
use Rattle.pb_base.specs.declared.expected.Expected.{Expected}
use Rattle.pb_base.specs.declared.expected.Expected.TheVariants.{LratEnd, LratHint, LratId, LratLiteral}
use Rattle.pb_base.specs.Numbers.{limited_number, natural_of}
use Rattle.pb_base.specs.Words.{Chunk, words_of}
use Rattle.pb_dimacs.specs.declared.meaning.Meaning.{Meaning}
use Rattle.pb_dimacs.specs.declared.meaning.Meaning.TheVariants as meaning
use Rattle.pb_dimacs.specs.CnfReading.{opens_comment}
use Rattle.pb_dimacs.specs.CnfSymbols.{meant}
use Rattle.pb_steps.specs.declared.fault.StepFault.{StepFault}
use Rattle.pb_steps.specs.declared.fault.StepFault.TheVariants.{Token}
use Rattle.pb_steps.specs.declared.fault.StepFault.TheVariants as step_fault
use Rattle.pb_steps.specs.LineWords.{and_then, id_in, number_between}
use Rattle.pb_steps.specs.LineSteps.{ends_here}
use Rattle.pb_steps.specs.StepGrammar.{texts}
use Rattle.pb_steps.specs.laws.FirstWords.{begin_at, column_of}
use Rattle.pb_steps.proofs.Judged.{judged, judged_from, judged_then, FaultsAt, at_either, at_id, at_number, at_ok, at_then, at_token}
use Rattle.pb_steps.proofs.WordByWord.{run, splits, stands, word, Accepts, IsSound, States}
use Rattle.pb_lrat.specs.declared.denied.LratDenied.{LratDenied}
use Rattle.pb_lrat.specs.declared.fault.LratFault.TheVariants as fault
use Rattle.pb_lrat.specs.declared.said.Said.{Said}
use Rattle.pb_lrat.specs.declared.said.Said.TheVariants.{Nothing, Adds, Deletes}
use Rattle.pb_lrat.specs.laws.LineLaws.{IsAnything, IsLratLine, LinesNeedNoMemory, LratFaultsStandFirst}
use Rattle.pb_lrat.specs.LratLines.{addition_of, behind_id, clause_of, ids_of, said_in, said_of, with_id, with_literal}
use Rattle.pb_lrat.specs.LratStates.{after_said, fault_of, denied, with_clause, LratState}
use Rattle.pb_lrat.specs.LratWords.{hint_in, literal_in, some_literal}
use Rattle.pb_lrat.proofs.Spelling.{said_from, said_is, some_id}

-- what comes next
pub data LineState : Type 0 where
  start_due : LineState
  in_comment : LineState
  kind_due : LineState
  lits_due : LineState
  hints_due : LineState
  nothing_due : LineState

abbrev behind_literal : Option Lit → LineState
behind_literal None = hints_due
behind_literal (Some l) = lits_due

abbrev behind_hint : Option ℕ → LineState
behind_hint None = nothing_due
behind_hint (Some id) = hints_due

abbrev literal_step : ℕ → Chunk → Result LineState StepFault
literal_step vars w = and_then (λ o. Ok (behind_literal o)) (literal_in vars w)

abbrev step_from : ℕ → LineState → Chunk → Result LineState StepFault
step_from vars start_due w = cond (opens_comment w.text) (Ok in_comment) (and_then (λ _. Ok kind_due) (id_in LratId w))
step_from vars in_comment w = Ok in_comment
step_from vars kind_due w = cond (bytes_eq w.text (codes "d")) (Ok hints_due) (literal_step vars w)
step_from vars lits_due w = literal_step vars w
step_from vars hints_due w = and_then (λ o. Ok (behind_hint o)) (hint_in w)
step_from vars nothing_due w = Err (Token w.column LratEnd)

abbrev wanting_at : LineState → Option Expected
wanting_at start_due = None
wanting_at in_comment = None
wanting_at kind_due = Some LratLiteral
wanting_at lits_due = Some LratLiteral
wanting_at hints_due = Some LratHint
wanting_at nothing_due = None

abbrev states : ℕ → States LineState
states vars = record { step = step_from vars; wanting = wanting_at }

-- ---- a fault stands at its word, and each state can come to an end

at_meaning : (column : ℕ) (m : Meaning) → FaultsAt column (some_literal column m)
at_meaning column meaning.End = at_ok column None
at_meaning column (meaning.Literal l) = at_ok column (Some l)
at_meaning column meaning.Nothing = at_token column LratLiteral

at_literal : (vars : ℕ) (w : Chunk) → FaultsAt w.column (literal_step vars w)
at_literal vars w = at_then w.column (λ o. Ok (behind_literal o)) (literal_in vars w) (at_meaning w.column (meant vars (limited_number w.text))) (λ o. at_ok w.column (behind_literal o))

at_hint : (w : Chunk) → FaultsAt w.column (hint_in w)
at_hint w = at_then w.column (λ n. Ok (some_id n)) (number_between 0 (2 ^ 63) LratHint w.column (natural_of w.text)) (at_number 0 (2 ^ 63) LratHint w.column (natural_of w.text)) (λ n. at_ok w.column (some_id n))

stands_at : (vars : ℕ) (s : LineState) (w : Chunk) → FaultsAt w.column (step_from vars s w)
stands_at vars start_due w = at_either w.column (opens_comment w.text) (Ok in_comment) _ (at_ok w.column in_comment) (at_then w.column (λ _. Ok kind_due) (id_in LratId w) (at_id LratId w) (λ _. at_ok w.column kind_due))
stands_at vars in_comment w = at_ok w.column in_comment
stands_at vars kind_due w = at_either w.column (bytes_eq w.text (codes "d")) (Ok hints_due) (literal_step vars w) (at_ok w.column hints_due) (at_literal vars w)
stands_at vars lits_due w = at_literal vars w
stands_at vars hints_due w = at_then w.column (λ o. Ok (behind_hint o)) (hint_in w) (at_hint w) (λ o. at_ok w.column (behind_hint o))
stands_at vars nothing_due w = at_token w.column LratEnd

some_end : (vars end : ℕ) (s : LineState) → (more : List Chunk) × Accepts (states vars) end s more
some_end vars end start_due = ([], refl)
some_end vars end in_comment = ([], refl)
some_end vars end kind_due = (word (codes "0") ∷ word (codes "0") ∷ [], refl)
some_end vars end lits_due = (word (codes "0") ∷ word (codes "0") ∷ [], refl)
some_end vars end hints_due = (word (codes "0") ∷ [], refl)
some_end vars end nothing_due = ([], refl)

sound : (vars end : ℕ) → IsSound (states vars) end
sound vars end = record { stands = stands_at vars; some = some_end vars end }

-- ---- what is told of a line is what its words tell one by one

abbrev go : ℕ → ℕ → LineState → List Chunk → Result (Unit {0}) StepFault
go vars end s ws = run (states vars) end s ws

comment_go : (vars end : ℕ) (ws : List Chunk) → go vars end in_comment ws ≡ Ok tt
comment_go vars end [] = refl
comment_go vars end (w ∷ ws) = comment_go vars end ws

more_go : (vars end : ℕ) (ws : List Chunk) → judged (ends_here {A = List ℕ} LratEnd [] ws) ≡ go vars end nothing_due ws
more_go vars end [] = refl
more_go vars end (w ∷ ws) = refl

ids_go : (vars end : ℕ) (ws : List Chunk) → judged (ids_of end ws) ≡ go vars end hints_due ws
ids_go vars end [] = refl
ids_go vars end (w ∷ ws) = by_hint (ids_go vars end ws) (hint_in w)
  where
    by_hint : judged (ids_of end ws) ≡ go vars end hints_due ws → (r : Result (Option ℕ) StepFault) → judged (and_then (λ o. with_id o ws (ids_of end ws)) r) ≡ and_then (λ t. go vars end t ws) (and_then (λ o. Ok (behind_hint o)) r)
    by_hint later (Ok None) = more_go vars end ws
    by_hint later (Ok (Some id)) = judged_then (λ ids. id ∷ ids) (ids_of end ws) ∙ later
    by_hint later (Err fault) = refl

-- a clause, and what follows it
abbrev clause_then : ℕ → Result (List Lit × List Chunk) StepFault → Result (Unit {0}) StepFault
clause_then end r = and_then (λ p. judged (ids_of end p.1)) r

clause_more : (end : ℕ) (l : Lit) (r : Result (List Lit × List Chunk) StepFault) → clause_then end (and_then (λ p. Ok (l ∷ p.0, p.1)) r) ≡ clause_then end r
clause_more end l (Ok p) = refl
clause_more end l (Err fault) = refl

by_first : (vars end : ℕ) (ws : List Chunk) → clause_then end (clause_of vars end ws) ≡ go vars end lits_due ws → (r : Result (Option Lit) StepFault)
    → clause_then end (and_then (λ o. with_literal o ws (clause_of vars end ws)) r) ≡ and_then (λ t. go vars end t ws) (and_then (λ o. Ok (behind_literal o)) r)
by_first vars end ws later (Ok None) = ids_go vars end ws
by_first vars end ws later (Ok (Some l)) = clause_more end l (clause_of vars end ws) ∙ later
by_first vars end ws later (Err fault) = refl

clause_go : (vars end : ℕ) (ws : List Chunk) → clause_then end (clause_of vars end ws) ≡ go vars end lits_due ws
clause_go vars end [] = refl
clause_go vars end (w ∷ ws) = by_first vars end ws (clause_go vars end ws) (literal_in vars w)

added : (end id : ℕ) (r : Result (List Lit × List Chunk) StepFault) → judged (and_then (λ p. and_then (λ hints. Ok (Adds id p.0 hints)) (ids_of end p.1)) r) ≡ clause_then end r
added end id (Ok p) = judged_then (λ hints. Adds id p.0 hints) (ids_of end p.1)
added end id (Err fault) = refl

kind_go : (vars end id : ℕ) (ws : List Chunk) → judged (behind_id vars end id ws) ≡ go vars end kind_due ws
kind_go vars end id [] = refl
kind_go vars end id (w ∷ ws) = by_letter (bytes_eq w.text (codes "d"))
  where
    by_letter : (b : Bool) → judged (cond b (and_then (λ ids. Ok (Deletes ids)) (ids_of end ws)) (addition_of vars end id (w ∷ ws))) ≡ and_then (λ t. go vars end t ws) (cond b (Ok hints_due) (literal_step vars w))
    by_letter true = judged_then (λ ids. Deletes ids) (ids_of end ws) ∙ ids_go vars end ws
    by_letter false = added end id (clause_of vars end (w ∷ ws)) ∙ clause_go vars end (w ∷ ws)

start_go : (vars end : ℕ) (ws : List Chunk) → judged (said_in vars end ws) ≡ go vars end start_due ws
start_go vars end [] = refl
start_go vars end (w ∷ ws) = by_comment (opens_comment w.text)
  where
    by_id : (r : Result ℕ StepFault) → judged (and_then (λ id. behind_id vars end id ws) r) ≡ and_then (λ t. go vars end t ws) (and_then (λ _. Ok kind_due) r)
    by_id (Ok id) = kind_go vars end id ws
    by_id (Err fault) = refl

    by_comment : (b : Bool) → judged (cond b (Ok Nothing) (and_then (λ id. behind_id vars end id ws) (id_in LratId w))) ≡ and_then (λ t. go vars end t ws) (cond b (Ok in_comment) (and_then (λ _. Ok kind_due) (id_in LratId w)))
    by_comment true = sym (comment_go vars end ws)
    by_comment false = by_id (id_in LratId w)

-- ---- the law

says : (vars end : ℕ) (us : List Chunk) → Accepts (states vars) end start_due us → IsLratLine vars (texts us)
says vars end us read = let (s, is) = judged_from (said_in vars end us) (start_go vars end us ∙ read) in (s, said_from vars end us s is)

said : (vars end : ℕ) → vars < 2 ^ 31 → (us : List Chunk) → IsLratLine vars (texts us) → Accepts (states vars) end start_due us
said vars end few us line = sym (start_go vars end us) ∙ ap judged (said_is vars end us line.0 few line.1)

pub lrat_faults_stand_first : LratFaultsStandFirst
lrat_faults_stand_first vars line fault few h =
    let end : ℕ = length line + 1 in
    let ws : List Chunk = words_of line in
    stands (IsLratLine vars) IsAnything (Accepts (states vars) end start_due) (says vars end) (said vars end few) end ws (column_of fault) (λ front left more cut. tt)
    (splits (states vars) end (sound vars end) start_due ws fault (sym (start_go vars end ws) ∙ ap judged h))

-- ---- want of memory

denied_otherwise : (o : Option LratDenied) (s : LratState) → unwrap_or (option_map (λ why. Err (fault.Denied why)) o) (Ok s) ≡ Err fault.NoMemory → ⊥
denied_otherwise None s h = cc
denied_otherwise (Some why) s h = cc

no_memory : (s : LratState) (r : Result Said StepFault) → ((f : StepFault) → r ≡ Err f → (column : ℕ) × (column_of f ≡ Some column)) → and_then (after_said s) (result_map_both (λ said. said) fault_of r) ≡ Err fault.NoMemory → ⊥
no_memory s (Ok Nothing) placed h = cc
no_memory s (Ok (Deletes ids)) placed h = cc
no_memory s (Ok (Adds id ls hints)) placed h = denied_otherwise (denied s id ls hints) (with_clause s id ls) h
no_memory s (Err (step_fault.Token column e)) placed h = cc
no_memory s (Err (step_fault.Limit column which)) placed h = cc
no_memory s (Err step_fault.NoMemory) placed h = let (column, is) = placed step_fault.NoMemory refl in cc

pub lines_need_no_memory : LinesNeedNoMemory
lines_need_no_memory s line few h =
    no_memory s (said_of s.vars line) (λ f is. let first = lrat_faults_stand_first s.vars line f few is in (begin_at (length line + 1) first.left, first.at)) h
