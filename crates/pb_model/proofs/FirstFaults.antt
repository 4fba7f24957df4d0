-- The first fault of symbols, by where they are cut.
use Rattle.std.proofs.Common.{◌≡◌, List, [], ◌∷◌, ◌++◌, Some, None, refl, ap, sym, ◌∙◌, subst, append_assoc, append-nil}
use Rattle.std.specs.Option.{option_or}
use Rattle.std.specs.Prelude.{Option, Ok, Err}
use Rattle.pb_model.specs.declared.fault.ModelFault.{ModelFault}
use Rattle.pb_model.specs.declared.model.Model.{Model}
use Rattle.pb_model.specs.ModelLines.{Symbol}
use Rattle.pb_model.specs.ModelReading.{fault_at, first_fault, model_in, told_by}
use Rattle.pb_model.specs.ModelLaws.{IsFirstFault, ToldExactly}
use Rattle.pb_model.proofs.Taking.{fine_then}

none_first : (a b : Option ModelFault) → option_or a b ≡ None → a ≡ None
none_first None b e = refl
none_first (Some f) b e = cc

none_later : (a b : Option ModelFault) → option_or a b ≡ None → b ≡ None
none_later None b e = e
none_later (Some f) b e = cc

-- without a fault, nothing is wrong
fine_from : (ss rest : List Symbol) → first_fault ss rest ≡ None → (before : List Symbol) (here : Symbol) (after : List Symbol) → rest ≡ before ++ here ∷ after → fault_at (ss ++ before) here ≡ None
fine_from ss rest e [] here after cut =
    subst (λ (xs : List Symbol). fault_at xs here ≡ None) (sym (append-nil ss))
    (none_first (fault_at ss here) (first_fault (ss ++ here ∷ []) after) (ap (first_fault ss) (sym cut) ∙ e))
fine_from ss rest e (x ∷ before) here after cut =
    subst (λ (xs : List Symbol). fault_at xs here ≡ None) (append_assoc ss (x ∷ []) before)
    (fine_from (ss ++ x ∷ []) (before ++ here ∷ after) (none_later (fault_at ss x) (first_fault (ss ++ x ∷ []) (before ++ here ∷ after)) (ap (first_fault ss) (sym cut) ∙ e)) before here after refl)

-- where nothing is wrong, there is no fault
none_from : (ss rest : List Symbol) → ((before : List Symbol) (here : Symbol) (after : List Symbol) → rest ≡ before ++ here ∷ after → fault_at (ss ++ before) here ≡ None) → first_fault ss rest ≡ None
none_from ss [] fine = refl
none_from ss (s ∷ rest) fine =
    let first : fault_at ss s ≡ None = subst (λ (xs : List Symbol). fault_at xs s ≡ None) (append-nil ss) (fine [] s rest refl) in
    ap (λ (o : Option ModelFault). option_or o (first_fault (ss ++ s ∷ []) rest)) first
    ∙ none_from (ss ++ s ∷ []) rest (λ before here after cut.
    subst (λ (xs : List Symbol). fault_at xs here ≡ None) (sym (append_assoc ss (s ∷ []) before)) (fine (s ∷ before) here after (ap (λ (xs : List Symbol). s ∷ xs) cut)))

-- where the first fault stands
record StandsAt (ss rest : List Symbol) (f : ModelFault) : Type 0 where
  before : List Symbol
  here : Symbol
  after : List Symbol
  cut : rest ≡ before ++ here ∷ after
  fine : first_fault ss before ≡ None
  wrong : fault_at (ss ++ before) here ≡ Some f

stands_first : (ss : List Symbol) (s : Symbol) (rest : List Symbol) (f : ModelFault) → fault_at ss s ≡ Some f → StandsAt ss (s ∷ rest) f
stands_first ss s rest f e = record { before = []; here = s; after = rest; cut = refl; fine = refl; wrong = subst (λ (xs : List Symbol). fault_at xs s ≡ Some f) (sym (append-nil ss)) e }

stands_later : (ss : List Symbol) (s : Symbol) (rest : List Symbol) (f : ModelFault) → fault_at ss s ≡ None → StandsAt (ss ++ s ∷ []) rest f → StandsAt ss (s ∷ rest) f
stands_later ss s rest f none at = record {
  before = s ∷ at.before;
  here = at.here;
  after = at.after;
  cut = ap (λ (xs : List Symbol). s ∷ xs) at.cut;
  fine = ap (λ (o : Option ModelFault). option_or o (first_fault (ss ++ s ∷ []) at.before)) none ∙ at.fine;
  wrong = subst (λ (xs : List Symbol). fault_at xs at.here ≡ Some f) (append_assoc ss (s ∷ []) at.before) at.wrong;
}

stands : (ss rest : List Symbol) (f : ModelFault) → first_fault ss rest ≡ Some f → StandsAt ss rest f
stands ss [] f e = cc
stands ss (s ∷ rest) f e = by_fault (fault_at ss s) refl e (stands (ss ++ s ∷ []) rest f)
  where
    by_fault : (o : Option ModelFault) → fault_at ss s ≡ o → option_or o (first_fault (ss ++ s ∷ []) rest) ≡ Some f → (first_fault (ss ++ s ∷ []) rest ≡ Some f → StandsAt (ss ++ s ∷ []) rest f) → StandsAt ss (s ∷ rest) f
    by_fault None is later on = stands_later ss s rest f is (on later)
    by_fault (Some g) is same on = stands_first ss s rest f (is ∙ same)

-- ---- what is told

no_fault : (o : Option ModelFault) (m n : Model) → told_by o m ≡ Ok n → (o ≡ None) × (n ≡ m)
no_fault None m n e = (refl, cc)
no_fault (Some f) m n e = (cc, cc)

a_fault : (o : Option ModelFault) (m : Model) (f : ModelFault) → told_by o m ≡ Err f → o ≡ Some f
a_fault None m f e = cc
a_fault (Some g) m f e = cc

pub tells_exactly : ToldExactly
tells_exactly vars ss = record {
  model = λ m. (
    (λ e. let found = no_fault (first_fault [] ss) (model_in vars ss) m e in (fine_from [] ss found.0, found.1)),
    (λ (fine, is). ap (λ (o : Option ModelFault). told_by o (model_in vars ss)) (none_from [] ss fine) ∙ ap (λ (n : Model). Ok n) (sym is)),
  );
  fault = λ f. (
    (λ e.
        let at = stands [] ss f (a_fault (first_fault [] ss) (model_in vars ss) f e) in
        record { before = at.before; here = at.here; after = at.after; cut = at.cut; fine = fine_from [] at.before at.fine; wrong = at.wrong }),
    (λ (at : IsFirstFault ss f).
        let first : first_fault [] ss ≡ Some f =
        ap (first_fault []) at.cut ∙ fine_then [] at.before (at.here ∷ at.after) (none_from [] at.before at.fine)
        ∙ ap (λ (o : Option ModelFault). option_or o (first_fault (at.before ++ at.here ∷ []) at.after)) at.wrong in
        ap (λ (o : Option ModelFault). told_by o (model_in vars ss)) first),
  );
}
