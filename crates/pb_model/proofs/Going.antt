-- Symbols that are taken part after part.
use Rattle.std.proofs.Common.{◌≡◌, ℕ, List, [], ◌∷◌, ◌++◌, Some, None, refl, ap, sym, ◌∙◌, subst, append_assoc, append-nil}
use Rattle.std.specs.Prelude.{Option, Result, Ok, Err}
use Rattle.pb_base.specs.declared.place.Place.{Place}
use Rattle.pb_model.specs.declared.fault.ModelFault.{ModelFault}
use Rattle.pb_model.specs.declared.reader.Reader.{Reader}
use Rattle.pb_model.specs.ModelLines.{Symbol}
use Rattle.pb_model.specs.ModelLines.Symbol.{end}
use Rattle.pb_model.specs.declared.model.Model.{Model}
use Rattle.pb_model.specs.ModelReading.{first_fault, model_in, told_by, told_in}
use Rattle.pb_model.specs.inner.Reading.{Knows, TakesBy, ConcludesBy}
use Rattle.pb_model.proofs.Taking.{fine_one, refused_one, fine_then, refused_then}

-- some symbols were taken without a fault behind others, and these are left
pub record GoesOn (vars : ℕ) (ss all left : List Symbol) (r : Reader) : Type 0 where
  pub done : List Symbol
  pub cut : all ≡ done ++ left
  pub fine : first_fault ss done ≡ None
  pub knows : Knows vars (ss ++ done) r

pub goes_first : (vars : ℕ) (ss all : List Symbol) (r : Reader) → Knows vars ss r → GoesOn vars ss all all r
goes_first vars ss all r k = record { done = []; cut = refl; fine = refl; knows = subst (λ (zs : List Symbol). Knows vars zs r) (sym (append-nil ss)) k }

-- more of them
pub goes_more : (vars : ℕ) (ss all more left : List Symbol) (old new : Reader) →
    ((tt : List Symbol) → Knows vars tt old → (first_fault tt more ≡ None) × Knows vars (tt ++ more) new) → GoesOn vars ss all (more ++ left) old → GoesOn vars ss all left new
goes_more vars ss all more left old new takes going =
    let taken = takes (ss ++ going.done) going.knows in
    record {
      done = going.done ++ more;
      cut = going.cut ∙ sym (append_assoc going.done more left);
      fine = fine_then ss going.done more going.fine ∙ taken.0;
      knows = subst (λ (zs : List Symbol). Knows vars zs new) (append_assoc ss going.done more) taken.1;
    }

-- a fault among them
pub goes_wrong : (vars : ℕ) (ss all more left : List Symbol) (old : Reader) (f : ModelFault) →
    ((tt : List Symbol) → Knows vars tt old → first_fault tt more ≡ Some f) → GoesOn vars ss all (more ++ left) old → first_fault ss all ≡ Some f
goes_wrong vars ss all more left old f stops going =
    ap (first_fault ss) going.cut ∙ fine_then ss going.done (more ++ left) going.fine
    ∙ refused_then (ss ++ going.done) more left f (stops (ss ++ going.done) going.knows)

-- all of them
pub goes_through : (vars : ℕ) (ss all : List Symbol) (r : Reader) → GoesOn vars ss all [] r → (first_fault ss all ≡ None) × Knows vars (ss ++ all) r
goes_through vars ss all r going =
    let same : going.done ≡ all = sym (append-nil going.done) ∙ sym going.cut in
    (ap (first_fault ss) (sym same) ∙ going.fine, subst (λ (zs : List Symbol). Knows vars (ss ++ zs) r) same going.knows)

-- one part and then another
pub takes_then : (vars : ℕ) (ss xs ys : List Symbol) (new : Reader) (result : Result (Unit {0}) ModelFault) →
    first_fault ss xs ≡ None → TakesBy vars (ss ++ xs) ys new result → TakesBy vars ss (xs ++ ys) new result
takes_then vars ss xs ys new (Ok u) fine taken =
    (fine_then ss xs ys fine ∙ taken.0, subst (λ (zs : List Symbol). Knows vars zs new) (append_assoc ss xs ys) taken.1)
takes_then vars ss xs ys new (Err f) fine stopped = fine_then ss xs ys fine ∙ stopped

told_fault : (vars : ℕ) (all : List Symbol) (f : ModelFault) → first_fault [] all ≡ Some f → Err f ≡ told_in vars all
told_fault vars all f e = sym (ap (λ (o : Option ModelFault). told_by o (model_in vars all)) e)

-- a fault is what is told
pub tells_fault : (vars : ℕ) (all more left : List Symbol) (old : Reader) (f : ModelFault) →
    ((tt : List Symbol) → Knows vars tt old → first_fault tt more ≡ Some f) → GoesOn vars [] all (more ++ left) old → Err f ≡ told_in vars all
tells_fault vars all more left old f stops going = told_fault vars all f (goes_wrong vars [] all more left old f stops going)

-- what is concluded at the end is what is told
pub tells_end : (vars : ℕ) (all : List Symbol) (place : Place) (r : Reader) (result : Result Model ModelFault) →
    ((ss : List Symbol) → Knows vars ss r → ConcludesBy vars ss place result) → GoesOn vars [] all (end place ∷ []) r → result ≡ told_in vars all
tells_end vars all place r (Ok m) concludes going =
    let found = concludes going.done going.knows in
    let fine : first_fault [] all ≡ None = ap (first_fault []) going.cut ∙ fine_then [] going.done (end place ∷ []) going.fine ∙ fine_one going.done (end place) found.0 in
    sym (ap (λ (o : Option ModelFault). told_by o (model_in vars all)) fine ∙ ap (λ (zs : List Symbol). Ok (model_in vars zs)) going.cut ∙ ap (λ (x : Model). Ok x) (sym found.1))
tells_end vars all place r (Err f) concludes going =
    told_fault vars all f (ap (first_fault []) going.cut ∙ fine_then [] going.done (end place ∷ []) going.fine ∙ refused_one going.done (end place) f (concludes going.done going.knows))
