-- What is known once more symbols were taken.
use Rattle.std.proofs.Common.{◌≡◌, ℕ, ◌+◌, ◌<◌, Bool, true, false, cond, List, [], ◌∷◌, ◌++◌, Option, Some, None, refl, ap, sym, ◌∙◌, append_assoc, append-nil, ◌||◌, ◌&&◌, not, subst, length}
use Rattle.std.specs.Option.{option_or}
use Rattle.std.specs.List.{list_any}
use Rattle.std.proofs.lemmas.List.Folds.{list_any-append}
use Rattle.pb_base.specs.declared.literal.Lit.{Lit}
use Rattle.pb_base.specs.Literals.{negated}
use Rattle.pb_base.specs.declared.place.Place.{Place}
use Rattle.pb_base.specs.declared.expected.Expected.TheVariants.{ModelLine, ModelLiteral, Opposite, ModelZero}
use Rattle.std.proofs.lemmas.List.FromFn.{fill_by_all}
use Rattle.pb_model.specs.declared.fault.ModelFault.TheVariants.{Token}
use Rattle.pb_model.specs.declared.meaning.Meaning.{Meaning}
use Rattle.pb_model.specs.declared.meaning.Meaning.TheVariants as meaning
use Rattle.pb_model.specs.declared.fault.ModelFault.{ModelFault}
use Rattle.pb_model.specs.declared.listing.Listing.{Listing}
use Rattle.pb_model.specs.declared.model.Says.{Says}
use Rattle.pb_model.specs.declared.model.Says.TheVariants.{Satisfiable, Other, Missing}
use Rattle.pb_model.specs.declared.reader.Reader.{Reader}
use Rattle.pb_model.specs.ModelLines.{Symbol}
use Rattle.pb_model.specs.ModelLines.Symbol.{status, values, word, other, end}
use Rattle.pb_model.specs.ModelReading.{is_listed, is_said, lists, says_in, says_or, opens_values, ends_values, fault_at, first_fault, word_fault, refused_if, values_in, model_in}
use Rattle.pb_model.specs.inner.Reading.{Lists, Knows}

-- ---- the first fault

pub refused_one : (ss : List Symbol) (s : Symbol) (f : ModelFault) → fault_at ss s ≡ Some f → first_fault ss (s ∷ []) ≡ Some f
refused_one ss s f e = ap (λ (o : Option ModelFault). option_or o None) e

pub fine_one : (ss : List Symbol) (s : Symbol) → fault_at ss s ≡ None → first_fault ss (s ∷ []) ≡ None
fine_one ss s e = ap (λ (o : Option ModelFault). option_or o None) e

option_or-option_or : (a b c : Option ModelFault) → option_or a (option_or b c) ≡ option_or (option_or a b) c
option_or-option_or None b c = refl
option_or-option_or (Some f) b c = refl

-- of symbols one part after another
pub first_fault-append : (ss xs ys : List Symbol) → first_fault ss (xs ++ ys) ≡ option_or (first_fault ss xs) (first_fault (ss ++ xs) ys)
first_fault-append ss [] ys = ap (λ (zs : List Symbol). first_fault zs ys) (sym (append-nil ss))
first_fault-append ss (x ∷ xs) ys =
    ap (option_or (fault_at ss x)) (first_fault-append (ss ++ x ∷ []) xs ys)
    ∙ option_or-option_or (fault_at ss x) (first_fault (ss ++ x ∷ []) xs) (first_fault ((ss ++ x ∷ []) ++ xs) ys)
    ∙ ap (λ (zs : List Symbol). option_or (first_fault ss (x ∷ xs)) (first_fault zs ys)) (append_assoc ss (x ∷ []) xs)

-- none in a first part
pub fine_then : (ss xs ys : List Symbol) → first_fault ss xs ≡ None → first_fault ss (xs ++ ys) ≡ first_fault (ss ++ xs) ys
fine_then ss xs ys e = first_fault-append ss xs ys ∙ ap (λ (o : Option ModelFault). option_or o (first_fault (ss ++ xs) ys)) e

-- one in a first part
pub refused_then : (ss xs ys : List Symbol) (f : ModelFault) → first_fault ss xs ≡ Some f → first_fault ss (xs ++ ys) ≡ Some f
refused_then ss xs ys f e = first_fault-append ss xs ys ∙ ap (λ (o : Option ModelFault). option_or o (first_fault (ss ++ xs) ys)) e

-- ---- what is known

or_false : (b : Bool) → (b || false) ≡ b
or_false true = refl
or_false false = refl

-- a test that one more symbol does not meet
pub same_test : (p : Symbol → Bool) (ss : List Symbol) (s : Symbol) → p s ≡ false → list_any p (ss ++ s ∷ []) ≡ list_any p ss
same_test p ss s e = list_any-append p ss (s ∷ []) ∙ ap (λ (b : Bool). list_any p ss || (b || false)) e ∙ or_false (list_any p ss)

or_true : (b : Bool) → (b || true) ≡ true
or_true true = refl
or_true false = refl

pub met_test : (p : Symbol → Bool) (ss : List Symbol) (s : Symbol) → p s ≡ true → list_any p (ss ++ s ∷ []) ≡ true
met_test p ss s e = list_any-append p ss (s ∷ []) ∙ ap (λ (b : Bool). list_any p ss || (b || false)) e ∙ or_true (list_any p ss)

says_or-says_or : (a b c : Says) → says_or a (says_or b c) ≡ says_or (says_or a b) c
says_or-says_or Missing b c = refl
says_or-says_or Satisfiable b c = refl
says_or-says_or Other b c = refl

pub says_in-append : (xs ys : List Symbol) → says_in (xs ++ ys) ≡ says_or (says_in xs) (says_in ys)
says_in-append [] ys = refl
says_in-append (status p says ∷ xs) ys = ap (says_or says) (says_in-append xs ys) ∙ says_or-says_or says (says_in xs) (says_in ys)
says_in-append (values p ∷ xs) ys = says_in-append xs ys
says_in-append (word p m ∷ xs) ys = says_in-append xs ys
says_in-append (other p ∷ xs) ys = says_in-append xs ys
says_in-append (end p ∷ xs) ys = says_in-append xs ys

says_or-missing : (a : Says) → says_or a Missing ≡ a
says_or-missing Missing = refl
says_or-missing Satisfiable = refl
says_or-missing Other = refl

-- a symbol that says nothing
pub same_says : (ss : List Symbol) (s : Symbol) → says_in (s ∷ []) ≡ Missing → says_in (ss ++ s ∷ []) ≡ says_in ss
same_says ss s e = says_in-append ss (s ∷ []) ∙ ap (says_or (says_in ss)) e ∙ says_or-missing (says_in ss)

-- the first that says something
pub first_says : (ss : List Symbol) (s : Symbol) (says : Says) → says_in ss ≡ Missing → says_in (s ∷ []) ≡ says → says_in (ss ++ s ∷ []) ≡ says
first_says ss s says none e = says_in-append ss (s ∷ []) ∙ ap (λ (a : Says). says_or a (says_in (s ∷ []))) none ∙ e

-- a symbol that lists nothing
pub same_lists : (ss : List Symbol) (s : Symbol) (l : Listing) → ((k : Lit) → lists k s ≡ false) → Lists ss l → Lists (ss ++ s ∷ []) l
same_lists ss s l none known = record {
  positive = λ k h. known.positive k h ∙ sym (same_test (lists (record { var = k + 1; positive = true })) ss s (none (record { var = k + 1; positive = true })));
  negative = λ k h. known.negative k h ∙ sym (same_test (lists (record { var = k + 1; positive = false })) ss s (none (record { var = k + 1; positive = false })));
}

-- ---- symbol by symbol

pub word_fine : (ss : List Symbol) (place : Place) (m : Meaning) → list_any ends_values ss ≡ false → word_fault ss place m ≡ None → fault_at ss (word place m) ≡ None
word_fine ss place m going fine = ap (λ (b : Bool). cond b (Some (Token place ModelLiteral)) (word_fault ss place m)) going ∙ fine

pub literal_fine : (ss : List Symbol) (place : Place) (l : Lit) → is_listed ss (negated l) ≡ false → word_fault ss place (meaning.Literal l) ≡ None
literal_fine ss place l none = ap (λ (b : Bool). refused_if b (Token place Opposite)) none

pub takes_end : (vars : ℕ) (ss : List Symbol) (place : Place) (r : Reader) → Knows vars ss r → Knows vars (ss ++ word place meaning.End ∷ []) (record r { ended = true })
takes_end vars ss place r k =
    let s : Symbol = word place meaning.End in
    record {
      vars_are = k.vars_are;
      listed = same_lists ss s r.listing (λ l. refl) k.listed;
      says = k.says ∙ sym (same_says ss s refl);
      begun = k.begun ∙ sym (same_test opens_values ss s refl);
      ended = sym (met_test ends_values ss s refl);
    }

pub takes_beyond : (vars : ℕ) (ss : List Symbol) (place : Place) (r : Reader) → Knows vars ss r → Knows vars (ss ++ word place meaning.Beyond ∷ []) r
takes_beyond vars ss place r k =
    let s : Symbol = word place meaning.Beyond in
    record {
      vars_are = k.vars_are;
      listed = same_lists ss s r.listing (λ l. refl) k.listed;
      says = k.says ∙ sym (same_says ss s refl);
      begun = k.begun ∙ sym (same_test opens_values ss s refl);
      ended = k.ended ∙ sym (same_test ends_values ss s refl);
    }

pub takes_literal : (vars : ℕ) (ss : List Symbol) (place : Place) (l : Lit) (r : Reader) (listing : Listing) → Knows vars ss r → listing.vars ≡ r.listing.vars
    → Lists (ss ++ word place (meaning.Literal l) ∷ []) listing → Knows vars (ss ++ word place (meaning.Literal l) ∷ []) (record r { listing = listing })
takes_literal vars ss place l r listing k same listed =
    let s : Symbol = word place (meaning.Literal l) in
    record {
      vars_are = same ∙ k.vars_are;
      listed = listed;
      says = k.says ∙ sym (same_says ss s refl);
      begun = k.begun ∙ sym (same_test opens_values ss s refl);
      ended = k.ended ∙ sym (same_test ends_values ss s refl);
    }

pub takes_status : (vars : ℕ) (ss : List Symbol) (place : Place) (says : Says) (r : Reader) → Knows vars ss r → r.says ≡ Missing → Knows vars (ss ++ status place says ∷ []) (record r { says = says })
takes_status vars ss place says r k none =
    let s : Symbol = status place says in
    record {
      vars_are = k.vars_are;
      listed = same_lists ss s r.listing (λ l. refl) k.listed;
      says = sym (first_says ss s says (sym k.says ∙ none) (says_or-missing says));
      begun = k.begun ∙ sym (same_test opens_values ss s refl);
      ended = k.ended ∙ sym (same_test ends_values ss s refl);
    }

pub takes_values : (vars : ℕ) (ss : List Symbol) (place : Place) (r : Reader) → Knows vars ss r → Knows vars (ss ++ values place ∷ []) (record r { begun = true })
takes_values vars ss place r k =
    let s : Symbol = values place in
    record {
      vars_are = k.vars_are;
      listed = same_lists ss s r.listing (λ l. refl) k.listed;
      says = k.says ∙ sym (same_says ss s refl);
      begun = sym (met_test opens_values ss s refl);
      ended = k.ended ∙ sym (same_test ends_values ss s refl);
    }

-- what is told at the end
pub model_known : (vars : ℕ) (ss : List Symbol) (place : Place) (r : Reader) → Knows vars ss r → length r.listing.listed.items ≡ r.listing.vars
    → record { says = r.says; values = r.listing.listed.items } ≡ model_in vars (ss ++ end place ∷ [])
model_known vars ss place r k all =
    let s : Symbol = end place in
    let known : Lists (ss ++ s ∷ []) r.listing = same_lists ss s r.listing (λ l. refl) k.listed in
    let values : r.listing.listed.items ≡ values_in vars (ss ++ s ∷ []) =
    fill_by_all (λ i. is_listed (ss ++ s ∷ []) (record { var = i + 1; positive = true })) r.listing.listed.items vars false (all ∙ k.vars_are) (λ i h. known.positive i (subst (λ (n : ℕ). i < n) (sym k.vars_are) h)) in
    let says : r.says ≡ says_in (ss ++ s ∷ []) = k.says ∙ sym (same_says ss s refl) in
    cc

-- nothing was said
pub unsaid : (a : Says) → is_said a ≡ false → a ≡ Missing
unsaid Missing e = refl
unsaid Satisfiable e = cc
unsaid Other e = cc

pub status_fine : (ss : List Symbol) (place : Place) (says : Says) → is_said (says_in ss) ≡ false → fault_at ss (status place says) ≡ None
status_fine ss place says e = ap (λ (b : Bool). refused_if b (Token place ModelLine)) e

pub values_fine : (ss : List Symbol) (place : Place) → list_any ends_values ss ≡ false → fault_at ss (values place) ≡ None
values_fine ss place e = ap (λ (b : Bool). refused_if b (Token place ModelLine)) e

-- no values were begun, or their 0 was taken
pub unbegun_fine : (ss : List Symbol) (place : Place) → list_any opens_values ss ≡ false → fault_at ss (end place) ≡ None
unbegun_fine ss place e = ap (λ (b : Bool). refused_if (b && not (list_any ends_values ss)) (Token place ModelZero)) e

pub ended_fine : (ss : List Symbol) (place : Place) → list_any opens_values ss ≡ true → list_any ends_values ss ≡ true → fault_at ss (end place) ≡ None
ended_fine ss place e f = ap (λ (b : Bool). refused_if (b && not (list_any ends_values ss)) (Token place ModelZero)) e ∙ ap (λ (b : Bool). refused_if (not b) (Token place ModelZero)) f
