-- What lines that are taken mean.
use Rattle.std.proofs.Common.{◌≡◌, ◌+◌, ℕ, Bool, true, false, not, List, [], ◌∷◌, Option, Some, None, ◌||◌, refl, ap, sym, ◌∙◌, inl, inr, subst, eqb}
use Rattle.std.specs.Prelude.{All, Result, Ok, Err, option_map, unwrap_or, nat_le, if◌then◌else◌}
use Rattle.std.specs.List.{list_any, list_all, cons_option}
use Rattle.std.specs.Result.{result_map_both}
use Rattle.std.proofs.lemmas.Bool.{cases_Bool, both_ways, or_cases, and_parts, false≢true, or_left, or_right}
use Rattle.std.proofs.lemmas.List.Elements.{All-nil, All-cons, All-head, All-tail, All-append, All-filter, All-map}
use Rattle.pb_base.specs.declared.literal.Lit.{Lit}
use Rattle.pb_base.specs.Literals.{Assignment, negated, lit_value, AllTrue, clause_value, IsModel, is_same, is_among}
use Rattle.pb_base.proofs.LiteralLemmas.{lit_value-negated, same_lit, among-true}
use Rattle.pb_norm.specs.ClauseForm.{is_tautology}
use Rattle.pb_norm.proofs.ClauseLaws.{tautology_true}
use Rattle.pb_lrat.specs.declared.denied.LratDenied.{LratDenied}
use Rattle.pb_lrat.specs.declared.denied.LratDenied.TheVariants.{OldId}
use Rattle.pb_lrat.specs.declared.fault.LratFault.{LratFault}
use Rattle.pb_lrat.specs.declared.said.Said.{Said}
use Rattle.pb_lrat.specs.declared.said.Said.TheVariants.{Nothing, Adds, Deletes}
use Rattle.pb_lrat.specs.Hints.{Kept, clause_at, clauses_at, with_true, falsified, left_of, with_single, is_nothing, reaches_conflict, follows, first_missing}
use Rattle.pb_steps.specs.LineWords.{and_then}
use Rattle.pb_steps.specs.declared.fault.StepFault.{StepFault}
use Rattle.pb_lrat.specs.declared.denied.LratDenied.TheVariants.{NoEmptyClause}
use Rattle.pb_lrat.specs.declared.fault.LratFault.TheVariants.{Token, Limit, Denied, NoMemory}
use Rattle.pb_dimacs.specs.CnfRows.{CnfRow, rows_of}
use Rattle.pb_dimacs.specs.CnfRows.CnfRow.{plain, too_long, last}
use Rattle.pb_lrat.specs.LratWalk.{LratEnding, ending_of, walk_by, walk_from}
use Rattle.pb_lrat.specs.LratWalk.LratEnding.{refuted, not_refuted, refused, limited}
use Rattle.pb_lrat.specs.LratLaws.{AddedClausesHold, EmptyClausesRefute, RefutedHaveNoModel}
use Rattle.pb_lrat.specs.LratLines.{said_of}
use Rattle.pb_lrat.specs.inner.Looks.{denied_by}
use Rattle.pb_lrat.specs.LratStates.{LratState, numbered, started, denied, with_clause, without, after_said, fault_of, after_line, after_lines}

abbrev pub IsTrue_in : Assignment → Kept → Type 0
IsTrue_in a k = clause_value a k.clause ≡ true

-- ---- hinted clauses

at_true : (a : Assignment) (live : List Kept) (id : ℕ) (ls : List Lit) → All (IsTrue_in a) live → clause_at live id ≡ Some ls → clause_value a ls ≡ true
at_true a [] id ls h e = let no : ⊥ = cc in absurd no
at_true a (k ∷ live) id ls h e =
    elim (cases_Bool (eqb k.id id)) [
      | inl same ↦
          let is : Some k.clause ≡ Some ls = sym (ap (λ (b : Bool). if b then Some k.clause else clause_at live id) same) ∙ e in
          let eq : k.clause ≡ ls = cc in
          ap (clause_value a) (sym eq) ∙ All-head (IsTrue_in a) k live h
      | inr other ↦ at_true a live id ls (All-tail (IsTrue_in a) k live h) (sym (ap (λ (b : Bool). if b then Some k.clause else clause_at live id) other) ∙ e)
    ]

with_hinted : (a : Assignment) (o : Option (List Lit)) (others : List (List Lit)) → ((ls : List Lit) → o ≡ Some ls → clause_value a ls ≡ true) → IsModel a others → IsModel a (cons_option o others)
with_hinted a None others h m = m
with_hinted a (Some ls) others h m = All-cons (λ ks. clause_value a ks ≡ true) ls others (h ls refl) m

pub hinted_true : (a : Assignment) (live : List Kept) (ids : List ℕ) → All (IsTrue_in a) live → IsModel a (clauses_at live ids)
hinted_true a live [] h = All-nil (λ ls. clause_value a ls ≡ true)
hinted_true a live (id ∷ ids) h = with_hinted a (clause_at live id) (clauses_at live ids) (λ ls e. at_true a live id ls h e) (hinted_true a live ids h)

-- ---- propagation

with_true-true : (a : Assignment) (l : Lit) (held : List Lit) → lit_value a l ≡ true → AllTrue a held → AllTrue a (with_true l held)
with_true-true a l held is h =
    elim (cases_Bool (is_among held l)) as (λ _. AllTrue a (with_true l held)) [
      | inl there ↦ rw there h
      | inr absent ↦ rw absent (All-cons (λ k. lit_value a k ≡ true) l held is h)
    ]

falsified_true : (a : Assignment) (ls held : List Lit) → AllTrue a held → clause_value a ls ≡ false → AllTrue a (falsified held ls)
falsified_true a [] held h none = h
falsified_true a (l ∷ ls) held h none =
    let parts = or_none (lit_value a l) (clause_value a ls) none in
    let opposite : lit_value a (negated l) ≡ true = lit_value-negated a l ∙ ap not parts.0 in
    falsified_true a ls (with_true (negated l) held) (with_true-true a (negated l) held opposite h) parts.1
  where
    or_none : (p q : Bool) → (p || q) ≡ false → (p ≡ false) × (q ≡ false)
    or_none true q e = let no : ⊥ = cc in absurd no
    or_none false q e = (refl, e)

-- what is left of a true clause has a true literal
left_true : (a : Assignment) (held ls : List Lit) → AllTrue a held → clause_value a ls ≡ true → clause_value a (left_of held ls) ≡ true
left_true a held [] h e = e
left_true a held (l ∷ ls) h e =
    elim (cases_Bool (is_among held (negated l))) as (λ _. clause_value a (left_of held (l ∷ ls)) ≡ true) [
      | inl there ↦
          let opposite : lit_value a (negated l) ≡ true = among-true a held (negated l) h there in
          let is_false : lit_value a l ≡ false = flipped (lit_value a l) (sym (lit_value-negated a l) ∙ opposite) in
          rw there (left_true a held ls h (ap (λ (b : Bool). b || clause_value a ls) (sym is_false) ∙ e))
      | inr absent ↦
          rw absent (elim (or_cases (lit_value a l) (clause_value a ls) e) as (λ _. (lit_value a l || clause_value a (left_of held ls)) ≡ true) [
            | inl first ↦ or_left (lit_value a l) (clause_value a (left_of held ls)) first
            | inr rest ↦ or_right (lit_value a l) (clause_value a (left_of held ls)) (left_true a held ls h rest)
          ])
    ]
  where
    flipped : (b : Bool) → not b ≡ true → b ≡ false
    flipped true e = let no : ⊥ = cc in absurd no
    flipped false e = refl

same_true : (a : Assignment) (l : Lit) (ls : List Lit) → list_all (is_same l) ls ≡ true → clause_value a (l ∷ ls) ≡ true → lit_value a l ≡ true
same_true a l [] same e = last (lit_value a l) e
  where
    last : (b : Bool) → (b || false) ≡ true → b ≡ true
    last true e = refl
    last false e = e
same_true a l (k ∷ ls) same e =
    let parts = and_parts (is_same l k) (list_all (is_same l) ls) same in
    elim (or_cases (lit_value a l) (clause_value a (k ∷ ls)) e) [
      | inl first ↦ first
      | inr rest ↦
          elim (or_cases (lit_value a k) (clause_value a ls) rest) [
            | inl second ↦ ap (lit_value a) (same_lit l k parts.0) ∙ second
            | inr more ↦ same_true a l ls parts.1 (or_right (lit_value a l) (clause_value a ls) more)
          ]
    ]

single_true : (a : Assignment) (held ls : List Lit) → AllTrue a held → clause_value a ls ≡ true → AllTrue a (with_single held ls)
single_true a held [] h e = h
single_true a held (l ∷ ls) h e =
    elim (cases_Bool (list_all (is_same l) ls)) as (λ _. AllTrue a (with_single held (l ∷ ls))) [
      | inl same ↦ rw same (with_true-true a l held (same_true a l ls same e) h)
      | inr others ↦ rw others h
    ]

something : (a : Assignment) (ls : List Lit) → clause_value a ls ≡ true → is_nothing ls ≡ false
something a [] e = let no : ⊥ = cc in absurd no
something a (l ∷ ls) e = refl

pub no_conflict : (a : Assignment) (clauses : List (List Lit)) (held : List Lit) → AllTrue a held → IsModel a clauses → reaches_conflict held clauses ≡ false
no_conflict a [] held h m = refl
no_conflict a (ls ∷ clauses) held h m =
    let left : clause_value a (left_of held ls) ≡ true = left_true a held ls h (All-head (λ ks. clause_value a ks ≡ true) ls clauses m) in
    ap (λ (b : Bool). b || reaches_conflict (with_single held (left_of held ls)) clauses) (something a (left_of held ls) left) ∙
    no_conflict a clauses (with_single held (left_of held ls)) (single_true a held (left_of held ls) h left) (All-tail (λ ks. clause_value a ks ≡ true) ls clauses m)

pub follows_true : (a : Assignment) (ls : List Lit) (hinted : List (List Lit)) → IsModel a hinted → follows ls hinted ≡ true → clause_value a ls ≡ true
follows_true a ls hinted m e =
    elim (or_cases (is_tautology ls) (reaches_conflict (falsified [] ls) hinted) e) [
      | inl both ↦ tautology_true a ls both
      | inr conflict ↦
          elim (cases_Bool (clause_value a ls)) [
            | inl is ↦ is
            | inr none ↦ absurd (both_ways (reaches_conflict (falsified [] ls) hinted) (no_conflict a hinted (falsified [] ls) (falsified_true a ls [] (All-nil (λ l. lit_value a l ≡ true)) none) m) conflict)
          ]
    ]

-- ---- lines

-- under a model of the first clauses the live ones are true, and none was empty
pub record Holds (a : Assignment) (s : LratState) : Type 0 where
  pub live : All (IsTrue_in a) s.live
  pub open_yet : s.refuted ≡ false

numbered_holds : (a : Assignment) (id : ℕ) (clauses : List (List Lit)) → IsModel a clauses → All (IsTrue_in a) (numbered id clauses)
numbered_holds a id [] m = All-nil (IsTrue_in a)
numbered_holds a id (ls ∷ clauses) m =
    All-cons (IsTrue_in a) (record { id = id; clause = ls }) (numbered (id + 1) clauses) (All-head (λ ks. clause_value a ks ≡ true) ls clauses m) (numbered_holds a (id + 1) clauses (All-tail (λ ks. clause_value a ks ≡ true) ls clauses m))

none_empty : (a : Assignment) (clauses : List (List Lit)) → IsModel a clauses → list_any is_nothing clauses ≡ false
none_empty a [] m = refl
none_empty a (ls ∷ clauses) m =
    ap (λ (b : Bool). b || list_any is_nothing clauses) (something a ls (All-head (λ ks. clause_value a ks ≡ true) ls clauses m)) ∙
    none_empty a clauses (All-tail (λ ks. clause_value a ks ≡ true) ls clauses m)

pub started_holds : (a : Assignment) (vars : ℕ) (clauses : List (List Lit)) → IsModel a clauses → Holds a (started vars clauses)
started_holds a vars clauses m = record { live = numbered_holds a 1 clauses m; open_yet = none_empty a clauses m }

added_holds : (a : Assignment) (s : LratState) (id : ℕ) (ls : List Lit) → clause_value a ls ≡ true → Holds a s → Holds a (with_clause s id ls)
added_holds a s id ls e h = record {
  live = All-append (IsTrue_in a) s.live (record { id = id; clause = ls } ∷ []) h.live (All-cons (IsTrue_in a) (record { id = id; clause = ls }) [] e (All-nil (IsTrue_in a)));
  open_yet = ap (λ (b : Bool). b || is_nothing ls) h.open_yet ∙ something a ls e;
}

allowed_by : (o : Option ℕ) (b : Bool) → denied_by o b ≡ None → b ≡ true
allowed_by None true e = refl
allowed_by None false e = let no : ⊥ = cc in absurd no
allowed_by (Some id) b e = let no : ⊥ = cc in absurd no

allowed : (s : LratState) (id : ℕ) (ls : List Lit) (hints : List ℕ) → denied s id ls hints ≡ None → follows ls (clauses_at s.live hints) ≡ true
allowed s id ls hints e =
    elim (cases_Bool (nat_le id s.last)) [
      | inl old ↦ let no : ⊥ = cc (e, old) in absurd no
      | inr new ↦ allowed_by (first_missing s.live hints) (follows ls (clauses_at s.live hints)) (sym (ap (λ (b : Bool). if b then Some (OldId id) else denied_by (first_missing s.live hints) (follows ls (clauses_at s.live hints))) new) ∙ e)
    ]

said_holds : (a : Assignment) (s t : LratState) (said : Said) → after_said s said ≡ Ok t → Holds a s → Holds a t
said_holds a s t Nothing e h = let same : s ≡ t = cc in subst (Holds a) same h
said_holds a s t (Deletes ids) e h =
    let same : without s ids ≡ t = cc in
    subst (Holds a) same (record { live = All-filter (λ k. not (list_any (λ id. eqb k.id id) ids)) (IsTrue_in a) s.live h.live; open_yet = h.open_yet })
said_holds a s t (Adds id ls hints) e h = by_denial (denied s id ls hints) refl e
  where
    by_denial : (o : Option LratDenied) → denied s id ls hints ≡ o → unwrap_or (option_map (λ why. Err (Denied why)) o) (Ok (with_clause s id ls)) ≡ Ok t → Holds a t
    by_denial None allows e =
        let same : with_clause s id ls ≡ t = cc in
        subst (Holds a) same (added_holds a s id ls (follows_true a ls (clauses_at s.live hints) (hinted_true a s.live hints h.live) (allowed s id ls hints allows)) h)
    by_denial (Some why) denies e = let no : ⊥ = cc in absurd no

pub line_holds : (a : Assignment) (s t : LratState) (line : List ℕ) → after_line s line ≡ Ok t → Holds a s → Holds a t
line_holds a s t line e h = by_said (said_of s.vars line) e
  where
    by_said : (r : Result Said StepFault) → and_then (after_said s) (result_map_both (λ said. said) fault_of r) ≡ Ok t → Holds a t
    by_said (Ok said) e = said_holds a s t said e h
    by_said (Err fault) e = let no : ⊥ = cc in absurd no

behind : (a : Assignment) (t : LratState) (lines : List (List ℕ)) (r : Result LratState LratFault) → ((u : LratState) → r ≡ Ok u → after_lines u lines ≡ Ok t → Holds a t) → and_then (λ u. after_lines u lines) r ≡ Ok t → Holds a t
behind a t lines (Ok u) h e = h u refl e
behind a t lines (Err fault) h e = let no : ⊥ = cc in absurd no

pub lines_hold : (a : Assignment) (s t : LratState) (lines : List (List ℕ)) → after_lines s lines ≡ Ok t → Holds a s → Holds a t
lines_hold a s t [] e h = let same : s ≡ t = cc in subst (Holds a) same h
lines_hold a s t (line ∷ lines) e h = behind a t lines (after_line s line) (λ u first rest. lines_hold a u t lines rest (line_holds a s u line first h)) e

-- ---- texts

-- an ending that is no refutation
is_refuted : LratEnding → Bool
is_refuted refuted = true
is_refuted (not_refuted number why) = false
is_refuted (refused place e) = false
is_refuted (limited place which) = false

abbrev Ends : LratEnding → Type 0
Ends e = e ≡ refuted

by_fault : (number : ℕ) (fault : LratFault) → ending_of number fault ≡ refuted → ⊥
unfolding is_refuted
by_fault number (Token column e) h = let no : false ≡ true = ap is_refuted h in false≢true no
by_fault number (Limit column which) h = let no : false ≡ true = ap is_refuted h in false≢true no
by_fault number (Denied why) h = let no : false ≡ true = ap is_refuted h in false≢true no
by_fault number NoMemory h = let no : false ≡ true = ap is_refuted h in false≢true no

by_line : (number : ℕ) (others : LratState → LratEnding) (r : Result LratState LratFault) → walk_by number others r ≡ refuted → (t : LratState) × (r ≡ Ok t) × (others t ≡ refuted)
by_line number others (Ok t) h = (t, refl, h)
by_line number others (Err fault) h = absurd (by_fault number fault h)

at_end : (b : Bool) (number : ℕ) → (if b then refuted else not_refuted number NoEmptyClause) ≡ refuted → b ≡ true
unfolding is_refuted
at_end true number h = refl
at_end false number h = ap is_refuted h

pub walk_refutes : (a : Assignment) (s : LratState) (rows : List CnfRow) → Holds a s → walk_from s rows ≡ refuted → ⊥
unfolding is_refuted
walk_refutes a s [] h e = let no : false ≡ true = ap is_refuted e in false≢true no
walk_refutes a s (plain number line ∷ rows) h e =
    let step = by_line number (λ t. walk_from t rows) (after_line s line) e in
    walk_refutes a step.0 rows (line_holds a s step.0 line step.1 h) step.2
walk_refutes a s (too_long number which ∷ rows) h e = let no : false ≡ true = ap is_refuted e in false≢true no
walk_refutes a s (last number ∷ rows) h e = both_ways s.refuted h.open_yet (at_end s.refuted number e)

-- ---- the laws

pub added_clauses_hold : AddedClausesHold
added_clauses_hold vars clauses lines s e a m = All-map (λ ls. clause_value a ls ≡ true) (λ k. k.clause) s.live (lines_hold a (started vars clauses) s lines e (started_holds a vars clauses m)).live

pub empty_clauses_refute : EmptyClausesRefute
empty_clauses_refute vars clauses lines s e done a m = both_ways s.refuted (lines_hold a (started vars clauses) s lines e (started_holds a vars clauses m)).open_yet done

pub refuted_have_no_model : RefutedHaveNoModel
refuted_have_no_model vars clauses text e a m = walk_refutes a (started vars clauses) (rows_of text) (started_holds a vars clauses m) e
