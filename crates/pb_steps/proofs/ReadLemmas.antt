-- What was read of a list so far.
use Rattle.std.proofs.Common.{◌≡◌, ℕ, Bool, false, List, [], ◌∷◌, ◌++◌, refl, sym, ap, ◌∙◌, append_assoc}
use Rattle.std.specs.Prelude.{Result, Ok, Err, IfOk, IfErr, if◌then◌else◌, codes}
use Rattle.std.specs.Str.{bytes_eq}
use Rattle.pb_base.specs.declared.expected.Expected.TheVariants as expected
use Rattle.pb_base.specs.declared.literal.Term.{Term}
use Rattle.pb_base.specs.Words.{Chunk}
use Rattle.pb_steps.specs.declared.fault.StepFault.{StepFault}
use Rattle.pb_steps.specs.declared.op.Set.{Set}
use Rattle.pb_steps.specs.declared.step.Step.{Step}
use Rattle.pb_steps.specs.LineWords.{and_then, id_in, integer_in, variable_in}
use Rattle.pb_steps.specs.LineSteps.{IsFaultOf, said_by, place_by, with_item, with_first_term, ids_in, sets_in, arrow_in, term_in, terms_in}
use Rattle.pb_steps.specs.inner.Reading.{with_items, with_terms}

pub with_none : {A : Type 0} (r : Result (List A) StepFault) → with_items [] r ≡ r
with_none (Ok ys) = refl
with_none (Err fault) = refl

pub with_more : {A : Type 0} (xs : List A) (x : A) (r : Result (List A) StepFault) → with_items xs (with_item x r) ≡ with_items (xs ++ x ∷ []) r
with_more {A} xs x (Ok ys) = ap (λ (zs : List A). Ok zs) (sym (append_assoc xs (x ∷ []) ys))
with_more xs x (Err fault) = refl

-- what was read onto an empty list
pub read_whole : {A : Type 0} (start : List A) (r : Result (List A) StepFault) (xs : List A) → start ≡ [] → with_items start r ≡ Ok xs → r ≡ Ok xs
read_whole {A} start r xs none is = sym (with_none r) ∙ ap (λ (ys : List A). with_items ys r) (sym none) ∙ is

pub with_more_terms : (ts : List Term) (t : Term) (r : Result (List Term × List Chunk) StepFault) → with_terms ts (with_first_term t r) ≡ with_terms (ts ++ t ∷ []) r
with_more_terms ts t (Ok p) = ap (λ (us : List Term). Ok (us, p.1)) (sym (append_assoc ts (t ∷ []) p.0))
with_more_terms ts t (Err fault) = refl

-- an id more
pub id_more : (start : Result (List ℕ) StepFault) (ids more : List ℕ) (ws vs : List Chunk) (w : Chunk) (r : Result ℕ StepFault) (id : ℕ) →
    start ≡ with_items ids (ids_in ws) → ws ≡ w ∷ vs → r ≡ id_in expected.Id w → r ≡ Ok id → more ≡ ids ++ id ∷ [] →
    start ≡ with_items more (ids_in vs)
id_more start ids more ws vs w r id read step said was pushed =
    let first : ids_in ws ≡ with_item id (ids_in vs) = ap ids_in step ∙ ap (and_then (λ i. with_item i (ids_in vs))) (sym said ∙ was) in
    read ∙ ap (with_items ids) first ∙ with_more ids id (ids_in vs) ∙ ap (λ (xs : List ℕ). with_items xs (ids_in vs)) (sym pushed)

-- a set variable more
pub set_more : (end above next : ℕ) (start : Result (List Set) StepFault) (sets more : List Set) (ws vs us : List Chunk) (w : Chunk) (r : Result ℕ StepFault) (set : Set) →
    start ≡ with_items sets (sets_in end above ws) → ws ≡ w ∷ vs → r ≡ variable_in above w → r ≡ Ok set.var → arrow_in end set.var vs ≡ with_item set (sets_in end set.var us) → more ≡ sets ++ set ∷ [] → next ≡ set.var →
    start ≡ with_items more (sets_in end next us)
set_more end above next start sets more ws vs us w r set read step said was value pushed same =
    let first : sets_in end above ws ≡ with_item set (sets_in end set.var us) = ap (sets_in end above) step ∙ ap (and_then (λ v. arrow_in end v vs)) (sym said ∙ was) ∙ value in
    read ∙ ap (with_items sets) first ∙ with_more sets set (sets_in end set.var us)
    ∙ ap (λ (xs : List Set). with_items xs (sets_in end set.var us)) (sym pushed) ∙ ap (λ (v : ℕ). with_items more (sets_in end v us)) (sym same)

-- a term more
pub term_more : (end : ℕ) (start : Result (List Term × List Chunk) StepFault) (ts more : List Term) (ws vs us : List Chunk) (w : Chunk) (t : Term) →
    start ≡ with_terms ts (terms_in end ws) → ws ≡ w ∷ vs → bytes_eq w.text (codes ">=") ≡ false → and_then (λ coef. term_in end coef vs) (integer_in expected.Term w) ≡ with_first_term t (terms_in end us) → more ≡ ts ++ t ∷ [] →
    start ≡ with_terms more (terms_in end us)
term_more end start ts more ws vs us w t read step other first pushed =
    let here : terms_in end ws ≡ with_first_term t (terms_in end us) =
    ap (terms_in end) step ∙ ap (λ (b : Bool). if b then Ok ([], vs) else and_then (λ coef. term_in end coef vs) (integer_in expected.Term w)) other ∙ first in
    read ∙ ap (with_terms ts) here ∙ with_more_terms ts t (terms_in end us) ∙ ap (λ (xs : List Term). with_terms xs (terms_in end us)) (sym pushed)

-- what a result that is what is due says of it
pub due_ok : (r due : Result Step StepFault) → due ≡ r → IfOk r (λ s. due ≡ Ok s)
due_ok (Ok s) due is = is
due_ok (Err fault) due is = tt

pub due_err : (r due : Result Step StepFault) → due ≡ r → IfErr r (IsFaultOf due)
due_err (Ok s) due is = tt
due_err (Err fault) due is = λ _. is

-- none of the words of a rule
pub said_place : (end : ℕ) (w : Chunk) (ws : List Chunk) → bytes_eq w.text (codes "pol") ≡ false → bytes_eq w.text (codes "rup") ≡ false → bytes_eq w.text (codes "red") ≡ false → bytes_eq w.text (codes "del") ≡ false → bytes_eq w.text (codes "out") ≡ false → said_by end w ws ≡ place_by end w ws
said_place end w ws no_pol no_rup no_red no_del no_out = rw (no_pol, no_rup, no_red, no_del, no_out)
