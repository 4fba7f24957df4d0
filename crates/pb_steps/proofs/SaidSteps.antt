-- Words that say a step are read as it.
use Rattle.std.proofs.Common.{◌≡◌, ◌^◌, ℕ, Bool, true, false, cond, List, [], ◌∷◌, map, refl, ap, ◌∙◌, arith}
use Rattle.std.specs.Prelude.{Result, Ok, Err, codes, ℤ}
use Rattle.std.specs.List.{flat_map}
use Rattle.std.specs.Str.{bytes_eq}
use Rattle.pb_base.specs.declared.literal.Term.{Term}
use Rattle.pb_base.specs.declared.expected.Expected.TheVariants as expected
use Rattle.pb_base.specs.Numbers.{natural_of}
use Rattle.pb_base.specs.Words.{Chunk}
use Rattle.pb_steps.specs.declared.fault.StepFault.{StepFault}
use Rattle.pb_steps.specs.declared.fault.StepFault.TheVariants.{Token}
use Rattle.pb_steps.specs.declared.op.Set.{Set}
use Rattle.pb_steps.specs.declared.step.Step.{Step}
use Rattle.pb_steps.specs.declared.step.Step.TheVariants.{Blank, Head, Loaded, Pol, Rup, Red, Del, Out, End}
use Rattle.pb_steps.specs.LineWords.{and_then}
use Rattle.pb_steps.specs.LineSteps.{ends_here, past, ids_in, sets_in, rup_in, red_in, del_in, out_in, loaded_in, head_in, said_by, said_in}
use Rattle.pb_steps.specs.StepGrammar.{begins_with_star, SpellAll, constraint_symbols, set_symbols, texts, WordsSay}
use Rattle.pb_steps.specs.Sayable.{IsSayable}
use Rattle.pb_steps.specs.StepGrammar.StepSymbol.{key, number}
use Rattle.pb_steps.proofs.SpelledWords.{counted_is, id_is, other_than}
use Rattle.pb_steps.proofs.SpelledLines.{ids_spelled, constraint_spelled, sets_spelled, ops_spelled, take_key, pass_key}

-- the first word decides
by_verb : (end : ℕ) (w : Chunk) (ws : List Chunk) (k : List ℕ) (r : Result Step StepFault) → w.text ≡ k → said_by end (record { column = w.column; text = k }) ws ≡ r → said_by end w ws ≡ r
by_verb end w ws k r is told = ap (λ (t : List ℕ). said_by end (record { column = w.column; text = t }) ws) is ∙ told

rup_is : (end : ℕ) (ws : List Chunk) (ts : List Term) (right : ℤ) (ids : List ℕ) → SpellAll (texts ws) (constraint_symbols ts right (map number ids)) → IsSayable (Rup ts right ids) → rup_in end ws ≡ Ok (Rup ts right ids)
rup_is end ws ts right ids sp ok =
    let (vs, read, left) = constraint_spelled end ws ts right (map number ids) sp ok.0 ok.1 in
    ap (and_then (λ c. and_then (λ is. Ok (Rup c.terms c.right is)) (ids_in c.rest))) read ∙ ap (and_then (λ is. Ok (Rup ts right is))) (ids_spelled vs ids left ok.2)

red_is : (end : ℕ) (ws : List Chunk) (ts : List Term) (right : ℤ) (sets : List Set) → SpellAll (texts ws) (constraint_symbols ts right (flat_map set_symbols sets)) → IsSayable (Red ts right sets) → red_in end ws ≡ Ok (Red ts right sets)
red_is end ws ts right sets sp ok =
    let (vs, read, left) = constraint_spelled end ws ts right (flat_map set_symbols sets) sp ok.0 ok.1 in
    ap (and_then (λ c. and_then (λ ss. Ok (Red c.terms c.right ss)) (sets_in end 0 c.rest))) read ∙ ap (and_then (λ ss. Ok (Red ts right ss))) (sets_spelled end 0 vs sets left ok.2)

del_is : (end : ℕ) (ws : List Chunk) (ids : List ℕ) → SpellAll (texts ws) (map number ids) → IsSayable (Del ids) → del_in end ws ≡ Ok (Del ids)
del_is end [] [] sp ok = absurd (ok.1 refl)
del_is end [] (id ∷ ids) sp ok = absurd sp
del_is end (w ∷ ws) ids sp ok = ap (and_then (λ is. Ok (Del is))) (ids_spelled (w ∷ ws) ids sp ok.0)

alone_is : (s : Step) (ws : List Chunk) → SpellAll (texts ws) [] → ends_here expected.LineEnd s ws ≡ Ok s
alone_is s [] sp = refl
alone_is s (w ∷ ws) sp = absurd sp

out_is : (end : ℕ) (ws : List Chunk) (id : ℕ) → SpellAll (texts ws) (number id ∷ []) → IsSayable (Out id) → out_in end ws ≡ Ok (Out id)
out_is end [] id sp ok = absurd sp
out_is end (w ∷ ws) id sp ok = ap (and_then (λ i. ends_here expected.LineEnd (Out i) ws)) (id_is expected.Id w id sp.0 ok) ∙ alone_is (Out id) ws sp.1

loaded_is : (end : ℕ) (ws : List Chunk) (n : ℕ) → SpellAll (texts ws) (number n ∷ []) → IsSayable (Loaded n) → loaded_in end ws ≡ Ok (Loaded n)
loaded_is end [] n sp ok = absurd sp
loaded_is end (w ∷ ws) n sp ok = ap (and_then (λ i. ends_here expected.LineEnd (Loaded i) ws)) (counted_is 0 (2 ^ 63) expected.LoadedCount w.column (natural_of w.text) n sp.0 (omega arith) ok) ∙ alone_is (Loaded n) ws sp.1

head_is : (end : ℕ) (ws : List Chunk) → SpellAll (texts ws) (key (codes "derivation") ∷ key (codes "profile") ∷ key (codes "1") ∷ []) → head_in end ws ≡ Ok Head
head_is end [] sp = absurd sp
head_is end (d ∷ []) sp = absurd sp.1
head_is end (d ∷ p ∷ []) sp = absurd sp.1.1
head_is end (d ∷ p ∷ one ∷ ws) sp =
    ap (and_then (λ us. and_then (λ vs. and_then (ends_here expected.LineEnd Head) (past end (codes "1") expected.Head vs)) (past end (codes "profile") expected.Head us))) (take_key d (codes "derivation") (Ok (p ∷ one ∷ ws)) (Err (Token d.column expected.Head)) sp.0)
    ∙ ap (and_then (λ vs. and_then (ends_here expected.LineEnd Head) (past end (codes "1") expected.Head vs))) (take_key p (codes "profile") (Ok (one ∷ ws)) (Err (Token p.column expected.Head)) sp.1.0)
    ∙ ap (and_then (ends_here expected.LineEnd Head)) (take_key one (codes "1") (Ok ws) (Err (Token one.column expected.Head)) sp.1.1.0)
    ∙ alone_is Head ws sp.1.1.1

-- a comment is no first word of a step
comment_is : (end : ℕ) (w : Chunk) (ws : List Chunk) → begins_with_star w.text ≡ true → said_by end w ws ≡ Ok Blank
comment_is end w ws star =
    let no : (k : List ℕ) → begins_with_star k ≡ false → bytes_eq w.text k ≡ false = λ k not. other_than begins_with_star w.text k (λ e. cc) in
    pass_key w (codes "pol") _ _ (no (codes "pol") refl)
    ∙ pass_key w (codes "rup") _ _ (no (codes "rup") refl)
    ∙ pass_key w (codes "red") _ _ (no (codes "red") refl)
    ∙ pass_key w (codes "del") _ _ (no (codes "del") refl)
    ∙ pass_key w (codes "out") _ _ (no (codes "out") refl)
    ∙ ap (λ (b : Bool). cond b (Ok Blank) (cond (bytes_eq w.text (codes "end")) (ends_here expected.LineEnd End ws) (cond (bytes_eq w.text (codes "f")) (loaded_in end ws) (cond (bytes_eq w.text (codes "pseudo-Boolean")) (head_in end ws) (Err (Token w.column expected.StepWord)))))) star

pub said_is : (end : ℕ) (ws : List Chunk) (s : Step) → WordsSay (texts ws) s → said_in end ws ≡ Ok s
said_is end [] Blank says = refl
said_is end (w ∷ ws) Blank says = comment_is end w ws says
said_is end [] Head says = absurd says.0
said_is end [] (Loaded n) says = absurd says.0
said_is end [] (Pol ops) says = absurd says.0
said_is end [] (Rup ts right ids) says = absurd says.0
said_is end [] (Red ts right sets) says = absurd says.0
said_is end [] (Del ids) says = absurd says.0
said_is end [] (Out id) says = absurd says.0
said_is end [] End says = absurd says.0
said_is end (w ∷ ws) Head says = by_verb end w ws (codes "pseudo-Boolean") (Ok Head) says.0.0 (head_is end ws says.0.1)
said_is end (w ∷ ws) (Loaded n) says = by_verb end w ws (codes "f") (Ok (Loaded n)) says.0.0 (loaded_is end ws n says.0.1 says.1)
said_is end (w ∷ ws) (Pol ops) says = by_verb end w ws (codes "pol") (Ok (Pol ops)) says.0.0 (ap (and_then (λ os. Ok (Pol os))) (ops_spelled ws ops says.0.1 says.1))
said_is end (w ∷ ws) (Rup ts right ids) says = by_verb end w ws (codes "rup") (Ok (Rup ts right ids)) says.0.0 (rup_is end ws ts right ids says.0.1 says.1)
said_is end (w ∷ ws) (Red ts right sets) says = by_verb end w ws (codes "red") (Ok (Red ts right sets)) says.0.0 (red_is end ws ts right sets says.0.1 says.1)
said_is end (w ∷ ws) (Del ids) says = by_verb end w ws (codes "del") (Ok (Del ids)) says.0.0 (del_is end ws ids says.0.1 says.1)
said_is end (w ∷ ws) (Out id) says = by_verb end w ws (codes "out") (Ok (Out id)) says.0.0 (out_is end ws id says.0.1 says.1)
said_is end (w ∷ ws) End says = by_verb end w ws (codes "end") (Ok End) says.0.0 (alone_is End ws says.0.1)
