-- What the definition that computes a step tells of a line is what its words tell one by one.
use Rattle.std.proofs.Common.{◌≡◌, ℕ, Bool, true, false, cond, List, [], ◌∷◌, refl, ◌∙◌}
use Rattle.std.specs.Prelude.{◌^◌, ℤ, Result, Ok, Err, codes}
use Rattle.std.specs.Str.{bytes_eq}
use Rattle.pb_base.specs.declared.literal.Lit.{Lit}
use Rattle.pb_base.specs.declared.literal.Term.{Term}
use Rattle.pb_base.specs.declared.expected.Expected.TheVariants as expected
use Rattle.pb_base.specs.Numbers.{natural_of}
use Rattle.pb_base.specs.Words.{Chunk}
use Rattle.pb_steps.specs.declared.fault.StepFault.{StepFault}
use Rattle.pb_steps.specs.declared.fault.StepFault.TheVariants.{Token}
use Rattle.pb_steps.specs.declared.step.Step.{Step}
use Rattle.pb_steps.specs.declared.step.Step.TheVariants.{Head, Loaded, Rup, Red, Del, Out}
use Rattle.pb_steps.specs.LineWords.{and_then, id_in, number_between, integer_in, literal_in, variable_in, bit_in}
use Rattle.pb_steps.specs.LineSteps.{with_item, with_first_term, ends_here, past, ids_in, terms_in, term_in, Written, right_in, constraint_by, sets_in, arrow_in, value_in, rup_in, red_in, del_in, out_in, loaded_in, head_in}
use Rattle.pb_steps.proofs.Judged.{judged, judged_item, judged_then}
use Rattle.pb_steps.proofs.StepStates.{LineState, behind_constraint, line_states}
use Rattle.pb_steps.proofs.StepStates.LineState.{arrow_due, count_due, ids_due, key_due, lit_due, nothing_due, one_id_due, right_due, semi_due, sets_due, some_ids_due, terms_due, value_due}
use Rattle.pb_steps.proofs.WordByWord.{run}

abbrev go : ℕ → LineState → List Chunk → Result (Unit {0}) StepFault
go end s ws = run line_states end s ws

-- a word, and what comes behind it
by_first : {A B : Type 0} (end : ℕ) (ws : List Chunk) (first : Result A StepFault) (f : A → Result B StepFault) (next : A → LineState) → ((a : A) → judged (f a) ≡ go end (next a) ws)
    → judged (and_then f first) ≡ and_then (λ t. go end t ws) (and_then (λ a. Ok (next a)) first)
by_first end ws (Ok a) f next later = later a
by_first end ws (Err fault) f next later = refl

by_either : (end : ℕ) (ws : List Chunk) (b : Bool) (r q : Result (Unit {0}) StepFault) (u v : Result LineState StepFault) → r ≡ and_then (λ t. go end t ws) u → q ≡ and_then (λ t. go end t ws) v
    → cond b r q ≡ and_then (λ t. go end t ws) (cond b u v)
by_either end ws true r q u v here there = here
by_either end ws false r q u v here there = there

judged_either : {A : Type 0} (b : Bool) (r q : Result A StepFault) → judged (cond b r q) ≡ cond b (judged r) (judged q)
judged_either true r q = refl
judged_either false r q = refl

pub ids_go : (end : ℕ) (ws : List Chunk) → judged (ids_in ws) ≡ go end ids_due ws
ids_go end [] = refl
ids_go end (w ∷ ws) =
    let later = ids_go end ws in
    by_first end ws (id_in expected.Id w) (λ id. with_item id (ids_in ws)) (λ _. ids_due) (λ id. judged_item id (ids_in ws) ∙ later)

pub sets_go : (end above : ℕ) (ws : List Chunk) → judged (sets_in end above ws) ≡ go end (sets_due above) ws
sets_go end above [] = refl
sets_go end above (w ∷ []) = by_first end [] (variable_in above w) (λ v. arrow_in end v []) (λ v. arrow_due v) (λ v. refl)
sets_go end above (w ∷ a ∷ []) =
    by_first end (a ∷ []) (variable_in above w) (λ v. arrow_in end v (a ∷ [])) (λ v. arrow_due v)
    (λ v. judged_either (bytes_eq a.text (codes "->")) (value_in end v []) (Err (Token a.column expected.Arrow))
    ∙ by_either end [] (bytes_eq a.text (codes "->")) (judged (value_in end v [])) (Err _) (Ok (value_due v)) (Err (Token a.column expected.Arrow)) refl refl)
sets_go end above (w ∷ a ∷ b ∷ ws) =
    let later : (v : ℕ) → judged (sets_in end v ws) ≡ go end (sets_due v) ws = λ v. sets_go end v ws in
    let of_value : (v : ℕ) → judged (value_in end v (b ∷ ws)) ≡ go end (value_due v) (b ∷ ws) =
    λ v. by_first end ws (bit_in b) (λ value. with_item (record { var = v; value = value }) (sets_in end v ws)) (λ _. sets_due v) (λ value. judged_item (record { var = v; value = value }) (sets_in end v ws) ∙ later v)
    in
    by_first end (a ∷ b ∷ ws) (variable_in above w) (λ v. arrow_in end v (a ∷ b ∷ ws)) (λ v. arrow_due v)
    (λ v. judged_either (bytes_eq a.text (codes "->")) (value_in end v (b ∷ ws)) (Err (Token a.column expected.Arrow))
    ∙ by_either end (b ∷ ws) (bytes_eq a.text (codes "->")) (judged (value_in end v (b ∷ ws))) (Err _) (Ok (value_due v)) (Err (Token a.column expected.Arrow)) (of_value v) refl)

-- ---- a constraint, and what follows it

abbrev rest_in : Bool → ℕ → List Chunk → Result (Unit {0}) StepFault
rest_in true end ws = judged (ids_in ws)
rest_in false end ws = judged (sets_in end 0 ws)

rest_go : (rup : Bool) (end : ℕ) (ws : List Chunk) → rest_in rup end ws ≡ go end (behind_constraint rup) ws
rest_go true end ws = ids_go end ws
rest_go false end ws = sets_go end 0 ws

abbrev right_then : Bool → ℕ → List Chunk → Result (Unit {0}) StepFault
right_then rup end ws = and_then (λ (p : ℤ × List Chunk). rest_in rup end p.1) (right_in end ws)

abbrev terms_then : Bool → ℕ → Result (List Term × List Chunk) StepFault → Result (Unit {0}) StepFault
terms_then rup end r = and_then (λ (p : List Term × List Chunk). right_then rup end p.1) r

semi_go : (rup : Bool) (end : ℕ) (right : ℤ) (ws : List Chunk) → and_then (λ (p : ℤ × List Chunk). rest_in rup end p.1) (and_then (λ rest. Ok (right, rest)) (past end (codes ";") expected.Semicolon ws)) ≡ go end (semi_due rup) ws
semi_go rup end right [] = refl
semi_go rup end right (w ∷ ws) = by_test (bytes_eq w.text (codes ";"))
  where
    by_test : (b : Bool) → and_then (λ (p : ℤ × List Chunk). rest_in rup end p.1) (and_then (λ rest. Ok (right, rest)) (cond b (Ok ws) (Err (Token w.column expected.Semicolon)))) ≡ and_then (λ t. go end t ws) (cond b (Ok (behind_constraint rup)) (Err (Token w.column expected.Semicolon)))
    by_test true = rest_go rup end ws
    by_test false = refl

right_go : (rup : Bool) (end : ℕ) (ws : List Chunk) → right_then rup end ws ≡ go end (right_due rup) ws
right_go rup end [] = refl
right_go rup end (w ∷ ws) = by_right (integer_in expected.Integer w)
  where
    by_right : (r : Result ℤ StepFault) → and_then (λ (p : ℤ × List Chunk). rest_in rup end p.1) (and_then (λ right. and_then (λ rest. Ok (right, rest)) (past end (codes ";") expected.Semicolon ws)) r) ≡ and_then (λ t. go end t ws) (and_then (λ _. Ok (semi_due rup)) r)
    by_right (Ok right) = semi_go rup end right ws
    by_right (Err fault) = refl

terms_more : (rup : Bool) (end : ℕ) (t : Term) (r : Result (List Term × List Chunk) StepFault) → terms_then rup end (with_first_term t r) ≡ terms_then rup end r
terms_more rup end t (Ok p) = refl
terms_more rup end t (Err fault) = refl

terms_go : (rup : Bool) (end : ℕ) (ws : List Chunk) → terms_then rup end (terms_in end ws) ≡ go end (terms_due rup) ws
terms_go rup end [] = refl
terms_go rup end (w ∷ []) = by_test (bytes_eq w.text (codes ">="))
  where
    by_coef : (r : Result ℤ StepFault) → terms_then rup end (and_then (λ coef. term_in end coef []) r) ≡ and_then (λ t. go end t []) (and_then (λ _. Ok (lit_due rup)) r)
    by_coef (Ok coef) = refl
    by_coef (Err fault) = refl

    by_test : (b : Bool) → terms_then rup end (cond b (Ok ([], [])) (and_then (λ coef. term_in end coef []) (integer_in expected.Term w))) ≡ and_then (λ t. go end t []) (cond b (Ok (right_due rup)) (and_then (λ _. Ok (lit_due rup)) (integer_in expected.Term w)))
    by_test true = right_go rup end []
    by_test false = by_coef (integer_in expected.Term w)
terms_go rup end (w ∷ v ∷ ws) = by_test (terms_go rup end ws) (bytes_eq w.text (codes ">="))
  where
    by_lit : terms_then rup end (terms_in end ws) ≡ go end (terms_due rup) ws → (coef : ℤ) (r : Result Lit StepFault) → terms_then rup end (and_then (λ l. with_first_term (record { coef = coef; lit = l }) (terms_in end ws)) r) ≡ and_then (λ t. go end t ws) (and_then (λ _. Ok (terms_due rup)) r)
    by_lit later coef (Ok l) = terms_more rup end (record { coef = coef; lit = l }) (terms_in end ws) ∙ later
    by_lit later coef (Err fault) = refl

    by_coef : terms_then rup end (terms_in end ws) ≡ go end (terms_due rup) ws → (r : Result ℤ StepFault) → terms_then rup end (and_then (λ coef. term_in end coef (v ∷ ws)) r) ≡ and_then (λ t. go end t (v ∷ ws)) (and_then (λ _. Ok (lit_due rup)) r)
    by_coef later (Ok coef) = by_lit later coef (literal_in expected.Literal v)
    by_coef later (Err fault) = refl

    by_test : terms_then rup end (terms_in end ws) ≡ go end (terms_due rup) ws → (b : Bool) → terms_then rup end (cond b (Ok ([], v ∷ ws)) (and_then (λ coef. term_in end coef (v ∷ ws)) (integer_in expected.Term w))) ≡ and_then (λ t. go end t (v ∷ ws)) (cond b (Ok (right_due rup)) (and_then (λ _. Ok (lit_due rup)) (integer_in expected.Term w)))
    by_test later true = right_go rup end (v ∷ ws)
    by_test later false = by_coef later (integer_in expected.Term w)

-- what is made of a constraint, by what follows it
parted : {A : Type 0} (rup : Bool) (end : ℕ) (made : Written → Result A StepFault) → ((c : Written) → judged (made c) ≡ rest_in rup end c.rest) → (r : Result (List Term × List Chunk) StepFault)
    → judged (and_then made (and_then (λ sum. constraint_by sum.0 (right_in end sum.1)) r)) ≡ terms_then rup end r
parted rup end made is (Err fault) = refl
parted rup end made is (Ok sum) = by_right (right_in end sum.1)
  where
    by_right : (q : Result (ℤ × List Chunk) StepFault) → judged (and_then made (constraint_by sum.0 q)) ≡ and_then (λ (p : ℤ × List Chunk). rest_in rup end p.1) q
    by_right (Ok p) = is (record { terms = sum.0; right = p.0; rest = p.1 })
    by_right (Err fault) = refl

pub rup_go : (end : ℕ) (ws : List Chunk) → judged (rup_in end ws) ≡ go end (terms_due true) ws
rup_go end ws =
    parted true end (λ c. and_then (λ ids. Ok (Rup c.terms c.right ids)) (ids_in c.rest)) (λ c. judged_then (λ ids. Rup c.terms c.right ids) (ids_in c.rest)) (terms_in end ws)
    ∙ terms_go true end ws

pub red_go : (end : ℕ) (ws : List Chunk) → judged (red_in end ws) ≡ go end (terms_due false) ws
red_go end ws =
    parted false end (λ c. and_then (λ sets. Ok (Red c.terms c.right sets)) (sets_in end 0 c.rest)) (λ c. judged_then (λ sets. Red c.terms c.right sets) (sets_in end 0 c.rest)) (terms_in end ws)
    ∙ terms_go false end ws

-- ---- the other lines

pub alone_go : (s : Step) (end : ℕ) (ws : List Chunk) → judged (ends_here expected.LineEnd s ws) ≡ go end nothing_due ws
alone_go s end [] = refl
alone_go s end (w ∷ ws) = refl

pub del_go : (end : ℕ) (ws : List Chunk) → judged (del_in end ws) ≡ go end some_ids_due ws
del_go end [] = refl
del_go end (w ∷ ws) = judged_then (λ ids. Del ids) (ids_in (w ∷ ws)) ∙ ids_go end (w ∷ ws)

pub out_go : (end : ℕ) (ws : List Chunk) → judged (out_in end ws) ≡ go end one_id_due ws
out_go end [] = refl
out_go end (w ∷ ws) = by_first end ws (id_in expected.Id w) (λ id. ends_here expected.LineEnd (Out id) ws) (λ _. nothing_due) (λ id. alone_go (Out id) end ws)

pub loaded_go : (end : ℕ) (ws : List Chunk) → judged (loaded_in end ws) ≡ go end count_due ws
loaded_go end [] = refl
loaded_go end (w ∷ ws) = by_first end ws (number_between 0 (2 ^ 63) expected.LoadedCount w.column (natural_of w.text)) (λ n. ends_here expected.LineEnd (Loaded n) ws) (λ _. nothing_due) (λ n. alone_go (Loaded n) end ws)

-- a certain word, and what comes behind it
key_go : {A : Type 0} (end : ℕ) (k : List ℕ) (next : LineState) (f : List Chunk → Result A StepFault) → ((ws : List Chunk) → judged (f ws) ≡ go end next ws) → (ws : List Chunk)
    → judged (and_then f (past end k expected.Head ws)) ≡ go end (key_due k next) ws
key_go end k next f later [] = refl
key_go end k next f later (w ∷ ws) = by_test (bytes_eq w.text k)
  where
    by_test : (b : Bool) → judged (and_then f (cond b (Ok ws) (Err (Token w.column expected.Head)))) ≡ and_then (λ t. go end t ws) (cond b (Ok next) (Err (Token w.column expected.Head)))
    by_test true = later ws
    by_test false = refl

abbrev pub head_state : LineState
head_state = key_due (codes "derivation") (key_due (codes "profile") (key_due (codes "1") nothing_due))

pub head_go : (end : ℕ) (ws : List Chunk) → judged (head_in end ws) ≡ go end head_state ws
head_go end ws =
    key_go end (codes "derivation") (key_due (codes "profile") (key_due (codes "1") nothing_due)) (λ us. and_then (λ vs. and_then (ends_here expected.LineEnd Head) (past end (codes "1") expected.Head vs)) (past end (codes "profile") expected.Head us))
    (λ us. key_go end (codes "profile") (key_due (codes "1") nothing_due) (λ vs. and_then (ends_here expected.LineEnd Head) (past end (codes "1") expected.Head vs))
    (λ vs. key_go end (codes "1") nothing_due (ends_here expected.LineEnd Head) (λ xs. alone_go Head end xs) vs) us) ws
