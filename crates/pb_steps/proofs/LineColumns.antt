-- The fault of a line stands at the first word behind which no line goes on.
use Rattle.std.proofs.Common.{◌≡◌, ◌++◌, ◌+◌, ◌&&◌, ◌⊎◌, inl, inr, ℕ, Bool, true, false, List, [], ◌∷◌, length, Option, refl, sym, ap, ◌∙◌, subst}
use Rattle.std.specs.Prelude.{Ok, Err, codes}
use Rattle.std.specs.Str.{bytes_eq}
use Rattle.std.proofs.lemmas.Bool.{and_parts}
use Rattle.std.proofs.lemmas.List.{append-nil}
use Rattle.pb_base.specs.declared.expected.Expected.TheVariants as expected
use Rattle.pb_base.specs.Words.{Chunk, words_of}
use Rattle.pb_steps.specs.declared.fault.StepFault.{StepFault}
use Rattle.pb_steps.specs.declared.fault.StepFault.TheVariants.{Token}
use Rattle.pb_steps.specs.declared.step.Step.TheVariants.{Blank, Pol, End}
use Rattle.pb_steps.specs.LineSteps.{next_text, ops_from, said_by, said_in}
use Rattle.pb_steps.specs.StepGrammar.{begins_with_star, texts}
use Rattle.pb_steps.specs.laws.FirstWords.{awaits_mark, column_of, ends_in_number, is_mark, is_marked, is_number, GoesOn, IsMarkedLike, StandsFirst}
use Rattle.pb_steps.specs.StepLines.{IsStepLine, StepFaultsStandFirst}
use Rattle.pb_steps.proofs.Judged.{judged, judged_fault, judged_from, judged_then, no_fault, one_fault}
use Rattle.pb_steps.proofs.PolColumns.{not_both, pol_splits, PolSplits, Reads}
use Rattle.pb_steps.proofs.ReadSteps.{said_from}
use Rattle.pb_steps.proofs.SaidSteps.{said_is}
use Rattle.pb_steps.proofs.SpelledWords.{key_from, key_is}
use Rattle.pb_steps.proofs.StepReadings.{alone_go, del_go, head_go, head_state, loaded_go, out_go, red_go, rup_go}
use Rattle.pb_steps.proofs.StepStates.{LineState, line_sound, line_states}
use Rattle.pb_steps.proofs.StepStates.LineState.{count_due, nothing_due, one_id_due, some_ids_due, terms_due}
use Rattle.pb_steps.proofs.WordByWord.{at_word, behind, run, splits, stands, texts-next, texts-whole, word, worded, Accepts, Splits}

-- the words are read as a step
abbrev IsRead : ℕ → List Chunk → Type 0
IsRead end us = judged (said_in end us) ≡ Ok tt

says : (end : ℕ) (us : List Chunk) → IsRead end us → IsStepLine (texts us)
says end us read = let (s, is) = judged_from (said_in end us) read in (s, said_from end us s is)

said : (end : ℕ) (us : List Chunk) → IsStepLine (texts us) → IsRead end us
said end us line = ap judged (said_is end us line.0 line.1)

-- ---- the first word

either_word : (w k : List ℕ) → (w ≡ k) ⊎ (bytes_eq w k ≡ false)
either_word w k = by_test (bytes_eq w k) refl (key_from w k)
  where
    by_test : (b : Bool) → bytes_eq w k ≡ b → (b ≡ true → w ≡ k) → (w ≡ k) ⊎ (bytes_eq w k ≡ false)
    by_test true is same = inl (same refl)
    by_test false is same = inr is

-- The word begins no line.
record IsStrange (w : List ℕ) : Type 0 where
  star : begins_with_star w ≡ false
  pol : bytes_eq w (codes "pol") ≡ false
  rup : bytes_eq w (codes "rup") ≡ false
  red : bytes_eq w (codes "red") ≡ false
  del : bytes_eq w (codes "del") ≡ false
  out : bytes_eq w (codes "out") ≡ false
  ended : bytes_eq w (codes "end") ≡ false
  loaded : bytes_eq w (codes "f") ≡ false
  head : bytes_eq w (codes "pseudo-Boolean") ≡ false

strange_said : (end : ℕ) (w : Chunk) (us : List Chunk) → IsStrange w.text → said_by end w us ≡ Err (Token w.column expected.StepWord)
strange_said end w us x = rw (x.pol, x.rup, x.red, x.del, x.out, x.star, x.ended, x.loaded, x.head) refl

-- a word that begins lines, whose other words a state reads
known : (end : ℕ) (w : Chunk) (ws : List Chunk) (fault : StepFault) (k : List ℕ) (s : LineState) → w.text ≡ k → ((us : List Chunk) → judged (said_by end (record { column = w.column; text = k }) us) ≡ run line_states end s us)
    → said_by end w ws ≡ Err fault → Splits (IsRead end) end (w ∷ ws) (column_of fault)
known end w ws fault k s is goes h =
    let same : (us : List Chunk) → judged (said_by end w us) ≡ run line_states end s us = λ us. ap (λ (t : List ℕ). judged (said_by end (record { column = w.column; text = t }) us)) is ∙ goes us in
    behind (IsRead end) (Accepts line_states end s) end w ws (column_of fault) (λ us p. same us ∙ p) (λ us p. sym (same us) ∙ p)
    (splits line_states end (line_sound end) s ws fault (sym (same ws) ∙ ap judged h))

-- a first word that does not begin a `pol` line
other_splits : (end : ℕ) (w : Chunk) (ws : List Chunk) (fault : StepFault) → bytes_eq w.text (codes "pol") ≡ false → said_by end w ws ≡ Err fault → Splits (IsRead end) end (w ∷ ws) (column_of fault)
other_splits end w ws fault no_pol h = by_star (begins_with_star w.text) refl
  where
    strange : IsStrange w.text → Splits (IsRead end) end (w ∷ ws) (column_of fault)
    strange x =
        let same : Token w.column expected.StepWord ≡ fault = one_fault (said_by end w ws) (Token w.column expected.StepWord) fault (strange_said end w ws x) h in
        subst (λ (c : Option ℕ). Splits (IsRead end) end (w ∷ ws) c) (ap column_of same)
        (at_word (IsRead end) end w ws (word (codes "end") ∷ []) refl (λ us p. no_fault (Token w.column expected.StepWord) tt (sym (ap judged (strange_said end w us x)) ∙ p)))

    by_words : begins_with_star w.text ≡ false → Splits (IsRead end) end (w ∷ ws) (column_of fault)
    by_words star = elim (either_word w.text (codes "rup")) [
      | inl is ↦ known end w ws fault (codes "rup") (terms_due true) is (λ us. rup_go end us) h
      | inr rup ↦ elim (either_word w.text (codes "red")) [
        | inl is ↦ known end w ws fault (codes "red") (terms_due false) is (λ us. red_go end us) h
        | inr red ↦ elim (either_word w.text (codes "del")) [
          | inl is ↦ known end w ws fault (codes "del") some_ids_due is (λ us. del_go end us) h
          | inr del ↦ elim (either_word w.text (codes "out")) [
            | inl is ↦ known end w ws fault (codes "out") one_id_due is (λ us. out_go end us) h
            | inr out ↦ elim (either_word w.text (codes "end")) [
              | inl is ↦ known end w ws fault (codes "end") nothing_due is (λ us. alone_go End end us) h
              | inr ended ↦ elim (either_word w.text (codes "f")) [
                | inl is ↦ known end w ws fault (codes "f") count_due is (λ us. loaded_go end us) h
                | inr loaded ↦ elim (either_word w.text (codes "pseudo-Boolean")) [
                  | inl is ↦ known end w ws fault (codes "pseudo-Boolean") head_state is (λ us. head_go end us) h
                  | inr head ↦ strange (record { star = star; pol = no_pol; rup = rup; red = red; del = del; out = out; ended = ended; loaded = loaded; head = head })
                ]
              ]
            ]
          ]
        ]
      ]
    ]

    by_star : (b : Bool) → begins_with_star w.text ≡ b → Splits (IsRead end) end (w ∷ ws) (column_of fault)
    by_star true star = absurd (no_fault fault Blank (sym h ∙ said_is end (w ∷ ws) Blank star))
    by_star false star = by_words star

-- no number waits for a mark there
none_awaited : (w : Chunk) (ws front left : List Chunk) → bytes_eq w.text (codes "pol") ≡ false → w ∷ ws ≡ front ++ left → awaits_mark (texts front) ≡ false
none_awaited w ws [] left no_pol cut = refl
none_awaited w ws (v ∷ front) left no_pol cut =
    let same : w ≡ v = cc in
    ap (λ (b : Bool). b && ends_in_number false (texts front)) (sym (ap (λ (u : Chunk). bytes_eq u.text (codes "pol")) same) ∙ no_pol)

other_stands : (end : ℕ) (w : Chunk) (ws : List Chunk) (fault : StepFault) → bytes_eq w.text (codes "pol") ≡ false → said_by end w ws ≡ Err fault → StandsFirst IsStepLine IsMarkedLike end (w ∷ ws) (column_of fault)
other_stands end w ws fault no_pol h =
    stands IsStepLine IsMarkedLike (IsRead end) (says end) (said end) end (w ∷ ws) (column_of fault)
    (λ front left more cut awaits. not_both (awaits_mark (texts front)) awaits (none_awaited w ws front left no_pol cut))
    (other_splits end w ws fault no_pol h)

-- ---- a `pol` line

pol_read : (end : ℕ) (w : Chunk) (us : List Chunk) → w.text ≡ codes "pol" → judged (said_by end w us) ≡ judged (ops_from false us)
pol_read end w us is =
    ap (λ (t : List ℕ). judged (said_by end (record { column = w.column; text = t }) us)) is ∙ judged_then (λ ops. Pol ops) (ops_from false us)

marked-texts : (ws : List Chunk) → is_marked (texts ws) ≡ is_mark (next_text ws)
marked-texts [] = refl
marked-texts (w ∷ ws) = refl

ends_last : (before : Bool) (ts : List (List ℕ)) (t : List ℕ) → ends_in_number before (ts ++ t ∷ []) ≡ is_number t
ends_last before [] t = refl
ends_last before (u ∷ ts) t = ends_last (is_number u) ts t

pol_stands : (end : ℕ) (w : Chunk) (ws : List Chunk) (fault : StepFault) → w.text ≡ codes "pol" → ops_from false ws ≡ Err fault → StandsFirst IsStepLine IsMarkedLike end (w ∷ ws) (column_of fault)
pol_stands end w ws fault is h =
    let s : PolSplits false false ws (column_of fault) = pol_splits false false ws fault (λ never. let no : ⊥ = cc in absurd no) (λ never. let no : ⊥ = cc in absurd no) h in
    record {
      front = w ∷ s.front;
      left = s.word ∷ s.after;
      cut = ap (λ (us : List Chunk). w ∷ us) s.cut;
      at = s.at;
      fine = fine_by s;
      stops = stops_by s;
    }
  where
    fine_by : (s : PolSplits false false ws (column_of fault)) → GoesOn IsStepLine IsMarkedLike (texts (w ∷ s.front)) (texts (s.word ∷ s.after))
    fine_by s = (
      [],
      (λ awaits. sym (s.plain (and_parts (bytes_eq w.text (codes "pol")) (ends_in_number false (texts s.front)) awaits).1)),
      subst IsStepLine (texts-whole (w ∷ s.front) []) (says end ((w ∷ s.front) ++ worded []) (pol_read end w (s.front ++ []) is ∙ subst (Reads false) (sym (append-nil s.front)) s.fine)),
    )

    awaited : (s : PolSplits false false ws (column_of fault)) → is_number s.word.text ≡ true → awaits_mark (texts (w ∷ s.front) ++ s.word.text ∷ []) ≡ true
    awaited s number = ap (λ (b : Bool). b && ends_in_number false (texts s.front ++ s.word.text ∷ [])) (key_is w.text (codes "pol") is) ∙ ends_last false (texts s.front) s.word.text ∙ number

    stops_by : (s : PolSplits false false ws (column_of fault)) → ¬ (GoesOn IsStepLine IsMarkedLike (texts (w ∷ s.front) ++ s.word.text ∷ []) (texts s.after))
    stops_by s goes =
        let more : List Chunk = worded goes.0 in
        let line : IsRead end ((w ∷ s.front) ++ s.word ∷ more) = said end ((w ∷ s.front) ++ s.word ∷ more) (subst IsStepLine (sym (texts-next (w ∷ s.front) s.word goes.0)) goes.2) in
        s.stops more
        (λ number. sym (marked-texts more) ∙ ap is_marked (texts-whole [] goes.0) ∙ goes.1 (awaited s number) ∙ marked-texts s.after)
        (sym (pol_read end w (s.front ++ s.word ∷ more) is) ∙ line)

-- ---- both

line_stands : (end : ℕ) (ws : List Chunk) (fault : StepFault) → said_in end ws ≡ Err fault → StandsFirst IsStepLine IsMarkedLike end ws (column_of fault)
line_stands end [] fault h = absurd (no_fault fault Blank (sym h))
line_stands end (w ∷ ws) fault h = elim (either_word w.text (codes "pol")) [
  | inl is ↦ pol_stands end w ws fault is (judged_fault (ops_from false ws) fault (sym (pol_read end w ws is) ∙ ap judged h))
  | inr no_pol ↦ other_stands end w ws fault no_pol h
]

pub faults_stand_first : StepFaultsStandFirst
faults_stand_first line fault h = line_stands (length line + 1) (words_of line) fault h
