-- A line that is read as a step says it.
use Rattle.std.proofs.Common.{◌≡◌, ◌≢◌, ◌^◌, ℕ, Bool, true, false, cond, List, [], ◌∷◌, map, refl, sym, subst}
use Rattle.std.specs.Prelude.{Result, Ok, Err, codes}
use Rattle.std.specs.List.{flat_map}
use Rattle.std.specs.Str.{bytes_eq}
use Rattle.pb_base.specs.declared.expected.Expected.TheVariants as expected
use Rattle.pb_base.specs.Numbers.{natural_of}
use Rattle.pb_base.specs.Words.{Chunk}
use Rattle.pb_steps.specs.declared.fault.StepFault.{StepFault}
use Rattle.pb_steps.specs.declared.fault.StepFault.TheVariants.{Token}
use Rattle.pb_steps.specs.declared.step.Step.{Step}
use Rattle.pb_steps.specs.declared.step.Step.TheVariants.{Blank, Head, Loaded, Pol, Rup, Red, Del, Out, End}
use Rattle.pb_steps.specs.LineWords.{and_then, id_in, number_between}
use Rattle.pb_steps.specs.LineSteps.{ends_here, past, ops_from, ids_in, sets_in, constraint_in, rup_in, red_in, del_in, out_in, loaded_in, head_in, place_by, said_in}
use Rattle.pb_steps.specs.StepGrammar.{begins_with_star, SpellAll, set_symbols, texts, WordsSay}
use Rattle.pb_steps.specs.StepGrammar.StepSymbol.{key, number}
use Rattle.pb_steps.proofs.SpelledWords.{key_from}
use Rattle.pb_steps.proofs.ReadWords.{and_then_from, counted_from, id_from}
use Rattle.pb_steps.proofs.ReadLines.{ids_read, past_read, constraint_read, sets_read}
use Rattle.pb_steps.proofs.ReadOps.{ops_read}

-- behind a first word
abbrev Follow : List ℕ → List Chunk → Step → Type 0
Follow verb ws s = WordsSay (verb ∷ texts ws) s

alone_read : (s t : Step) (ws : List Chunk) → ends_here expected.LineEnd s ws ≡ Ok t → (s ≡ t) × SpellAll (texts ws) []
alone_read s t [] h = (cc, tt)
alone_read s t (w ∷ ws) h = cc

pol_read : (ws : List Chunk) (s : Step) → and_then (λ ops. Ok (Pol ops)) (ops_from false ws) ≡ Ok s → Follow (codes "pol") ws s
pol_read ws s h =
    let (ops, read, all) = and_then_from (λ ops. Ok (Pol ops)) (ops_from false ws) s h in
    let e : Pol ops ≡ s = cc in
    let o = ops_read ws ops read in
    subst (Follow (codes "pol") ws) e ((refl, o.0), o.1)

rup_read : (end : ℕ) (ws : List Chunk) (s : Step) → rup_in end ws ≡ Ok s → Follow (codes "rup") ws s
rup_read end ws s h =
    let (c, read, behind) = and_then_from (λ c. and_then (λ ids. Ok (Rup c.terms c.right ids)) (ids_in c.rest)) (constraint_in end ws) s h in
    let (ids, read_ids, all) = and_then_from (λ ids. Ok (Rup c.terms c.right ids)) (ids_in c.rest) s behind in
    let e : Rup c.terms c.right ids ≡ s = cc in
    let k = constraint_read end ws c read in
    let i = ids_read c.rest ids read_ids in
    subst (Follow (codes "rup") ws) e ((refl, k.spelled (map number ids) i.0), (k.terms_ok, k.right_ok, i.1))

red_read : (end : ℕ) (ws : List Chunk) (s : Step) → red_in end ws ≡ Ok s → Follow (codes "red") ws s
red_read end ws s h =
    let (c, read, behind) = and_then_from (λ c. and_then (λ sets. Ok (Red c.terms c.right sets)) (sets_in end 0 c.rest)) (constraint_in end ws) s h in
    let (sets, read_sets, all) = and_then_from (λ sets. Ok (Red c.terms c.right sets)) (sets_in end 0 c.rest) s behind in
    let e : Red c.terms c.right sets ≡ s = cc in
    let k = constraint_read end ws c read in
    let i = sets_read end 0 c.rest sets read_sets in
    subst (Follow (codes "red") ws) e ((refl, k.spelled (flat_map set_symbols sets) i.0), (k.terms_ok, k.right_ok, i.1))

some_id : (w : List ℕ) (ws : List (List ℕ)) (ids : List ℕ) → SpellAll (w ∷ ws) (map number ids) → ids ≢ []
some_id w ws [] sp = absurd sp
some_id w ws (id ∷ ids) sp = λ e. cc

del_read : (end : ℕ) (ws : List Chunk) (s : Step) → del_in end ws ≡ Ok s → Follow (codes "del") ws s
del_read end [] s h = cc
del_read end (w ∷ ws) s h =
    let (ids, read, all) = and_then_from (λ ids. Ok (Del ids)) (ids_in (w ∷ ws)) s h in
    let e : Del ids ≡ s = cc in
    let i = ids_read (w ∷ ws) ids read in
    subst (Follow (codes "del") (w ∷ ws)) e ((refl, i.0), (i.1, some_id w.text (texts ws) ids i.0))

out_read : (end : ℕ) (ws : List Chunk) (s : Step) → out_in end ws ≡ Ok s → Follow (codes "out") ws s
out_read end [] s h = cc
out_read end (w ∷ ws) s h =
    let (id, read, behind) = and_then_from (λ id. ends_here expected.LineEnd (Out id) ws) (id_in expected.Id w) s h in
    let a = alone_read (Out id) s ws behind in
    let i = id_from expected.Id w id read in
    subst (Follow (codes "out") (w ∷ ws)) a.0 ((refl, (i.0, a.1)), i.1)

loaded_read : (end : ℕ) (ws : List Chunk) (s : Step) → loaded_in end ws ≡ Ok s → Follow (codes "f") ws s
loaded_read end [] s h = cc
loaded_read end (w ∷ ws) s h =
    let (n, read, behind) = and_then_from (λ n. ends_here expected.LineEnd (Loaded n) ws) (number_between 0 (2 ^ 63) expected.LoadedCount w.column (natural_of w.text)) s h in
    let a = alone_read (Loaded n) s ws behind in
    let i = counted_from 0 (2 ^ 63) expected.LoadedCount w.column (natural_of w.text) n read in
    subst (Follow (codes "f") (w ∷ ws)) a.0 ((refl, (i.0, a.1)), i.2)

head_read : (end : ℕ) (ws : List Chunk) (s : Step) → head_in end ws ≡ Ok s → Follow (codes "pseudo-Boolean") ws s
head_read end ws s h =
    let (us, first, behind) = and_then_from (λ us. and_then (λ vs. and_then (ends_here expected.LineEnd Head) (past end (codes "1") expected.Head vs)) (past end (codes "profile") expected.Head us)) (past end (codes "derivation") expected.Head ws) s h in
    let (vs, second, behind2) = and_then_from (λ vs. and_then (ends_here expected.LineEnd Head) (past end (codes "1") expected.Head vs)) (past end (codes "profile") expected.Head us) s behind in
    let (xs, third, last) = and_then_from (ends_here expected.LineEnd Head) (past end (codes "1") expected.Head vs) s behind2 in
    let a = alone_read Head s xs last in
    subst (Follow (codes "pseudo-Boolean") ws) a.0 (
      (
        refl,
        past_read end (codes "derivation") expected.Head ws us first (key (codes "profile") ∷ key (codes "1") ∷ [])
            (past_read end (codes "profile") expected.Head us vs second (key (codes "1") ∷ []) (past_read end (codes "1") expected.Head vs xs third [] a.1)),
      ),
      tt,
    )

end_read : (ws : List Chunk) (s : Step) → ends_here expected.LineEnd End ws ≡ Ok s → Follow (codes "end") ws s
end_read ws s h = let a = alone_read End s ws h in subst (Follow (codes "end") ws) a.0 ((refl, a.1), tt)

-- one first word, or another
by_word : (w : Chunk) (ws : List Chunk) (k : List ℕ) (r q : Result Step StepFault) (s : Step) → (r ≡ Ok s → Follow k ws s) → (q ≡ Ok s → Follow w.text ws s) → cond (bytes_eq w.text k) r q ≡ Ok s → Follow w.text ws s
by_word w ws k r q s here there h = by_test (bytes_eq w.text k) (key_from w.text k) h
  where
    by_test : (t : Bool) → (t ≡ true → w.text ≡ k) → cond t r q ≡ Ok s → Follow w.text ws s
    by_test true same h = subst (λ (verb : List ℕ). Follow verb ws s) (sym (same refl)) (here h)
    by_test false same h = there h

place_read : (end : ℕ) (w : Chunk) (ws : List Chunk) (s : Step) → place_by end w ws ≡ Ok s → Follow w.text ws s
place_read end w ws s h = by_star (begins_with_star w.text) refl h
  where
    none : Err (Token w.column expected.StepWord) ≡ Ok s → Follow w.text ws s
    none h = cc

    by_star : (t : Bool) → begins_with_star w.text ≡ t → cond t (Ok Blank) (cond (bytes_eq w.text (codes "end")) (ends_here expected.LineEnd End ws) (cond (bytes_eq w.text (codes "f")) (loaded_in end ws) (cond (bytes_eq w.text (codes "pseudo-Boolean")) (head_in end ws) (Err (Token w.column expected.StepWord))))) ≡ Ok s → Follow w.text ws s
    by_star true star h = let e : Blank ≡ s = cc in subst (Follow w.text ws) e star
    by_star false star h = by_word w ws (codes "end") _ _ s (end_read ws s) (by_word w ws (codes "f") _ _ s (loaded_read end ws s) (by_word w ws (codes "pseudo-Boolean") _ _ s (head_read end ws s) none)) h

pub said_from : (end : ℕ) (ws : List Chunk) (s : Step) → said_in end ws ≡ Ok s → WordsSay (texts ws) s
said_from end [] s h = let e : Blank ≡ s = cc in subst (WordsSay []) e refl
said_from end (w ∷ ws) s h =
    by_word w ws (codes "pol") _ _ s (pol_read ws s)
    (by_word w ws (codes "rup") _ _ s (rup_read end ws s)
    (by_word w ws (codes "red") _ _ s (red_read end ws s)
    (by_word w ws (codes "del") _ _ s (del_read end ws s)
    (by_word w ws (codes "out") _ _ s (out_read end ws s) (place_read end w ws s))))) h
