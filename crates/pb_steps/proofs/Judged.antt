-- Whether something was read, whatever it is, and where faults stand.
use Rattle.std.proofs.Common.{◌≡◌, ℕ, Bool, true, false, cond, List, Option, Some, None, refl, sym, ap, ◌∙◌}
use Rattle.std.specs.Prelude.{nat_lt, unsigned_abs, ◌^◌, Result, Ok, Err, codes}
use Rattle.std.specs.Str.{bytes_eq}
use Rattle.pb_base.specs.declared.expected.Expected.{Expected}
use Rattle.pb_base.specs.declared.expected.Expected.TheVariants.{Bit, SetVar}
use Rattle.pb_base.specs.declared.limit.LimitKind.{LimitKind}
use Rattle.pb_base.specs.declared.limit.LimitKind.TheVariants.{Number, Variables}
use Rattle.pb_base.specs.declared.literal.Lit.{Lit}
use Rattle.pb_base.specs.LiteralWords.{variable_of, literal_of}
use Rattle.pb_base.specs.Numbers.{natural_of, integer_of}
use Rattle.pb_base.specs.Words.{Chunk}
use Rattle.pb_steps.specs.declared.fault.StepFault.{StepFault}
use Rattle.pb_steps.specs.declared.fault.StepFault.TheVariants.{Token, Limit}
use Rattle.pb_steps.specs.LineWords.{and_then, within, number_between, id_in, integer_in, literal_by, literal_in, variable_in, bit_in}
use Rattle.pb_steps.specs.LineSteps.{with_item}
use Rattle.pb_steps.specs.laws.FirstWords.{column_of}

-- something was read, or a fault
abbrev pub judged : {A : Type 0} → Result A StepFault → Result (Unit {0}) StepFault
judged (Ok a) = Ok tt
judged (Err fault) = Err fault

pub no_fault : {A : Type 0} (fault : StepFault) (a : A) → Err fault ≡ Ok a → ⊥
no_fault fault a h = cc

pub one_fault : {A : Type 0} (r : Result A StepFault) (f g : StepFault) → r ≡ Err f → r ≡ Err g → f ≡ g
one_fault r f g first second = cc

pub judged_from : {A : Type 0} (r : Result A StepFault) → judged r ≡ Ok tt → (a : A) × (r ≡ Ok a)
judged_from (Ok a) h = (a, refl)
judged_from (Err fault) h = absurd (no_fault fault tt h)

pub judged_fault : {A : Type 0} (r : Result A StepFault) (fault : StepFault) → judged r ≡ Err fault → r ≡ Err fault
judged_fault (Ok a) fault h = absurd (no_fault fault tt (sym h))
judged_fault {A} (Err other) fault h = let e : other ≡ fault = cc in ap (λ (f : StepFault). Err f) e

-- what is made of what was read has no fault
pub judged_then : {A B : Type 0} (g : A → B) (r : Result A StepFault) → judged (and_then (λ a. Ok (g a)) r) ≡ judged r
judged_then g (Ok a) = refl
judged_then g (Err fault) = refl

pub judged_item : {A : Type 0} (x : A) (r : Result (List A) StepFault) → judged (with_item x r) ≡ judged r
judged_item x (Ok xs) = refl
judged_item x (Err fault) = refl

-- a part was read, and what stands behind it
pub both_judged : {A B : Type 0} (g : A → Result B StepFault) (r : Result A StepFault) → judged r ≡ Ok tt → ((a : A) → judged (g a) ≡ Ok tt) → judged (and_then g r) ≡ Ok tt
both_judged g (Ok a) h later = later a
both_judged g (Err fault) h later = absurd (no_fault fault tt h)

pub first_judged : {A B : Type 0} (g : A → Result B StepFault) (r : Result A StepFault) → judged (and_then g r) ≡ Ok tt → judged r ≡ Ok tt
first_judged g (Ok a) h = refl
first_judged g (Err fault) h = h

-- ---- where a fault stands

-- each fault of the result stands at a column
pub record FaultsAt {A : Type 0} (column : ℕ) (r : Result A StepFault) : Type 0 where
  pub stands : (fault : StepFault) → r ≡ Err fault → column_of fault ≡ Some column

pub at_ok : {A : Type 0} (column : ℕ) (a : A) → FaultsAt column (Ok a)
at_ok column a = record { stands = λ fault h. absurd (no_fault fault a (sym h)) }

at_err : {A : Type 0} (column : ℕ) (other : StepFault) → column_of other ≡ Some column → FaultsAt {A = A} column (Err other)
at_err column other is = record { stands = λ fault h. let e : other ≡ fault = cc in sym (ap column_of e) ∙ is }

pub at_token : {A : Type 0} (column : ℕ) (e : Expected) → FaultsAt {A = A} column (Err (Token column e))
at_token column e = at_err column (Token column e) refl

pub at_limit : {A : Type 0} (column : ℕ) (which : LimitKind) → FaultsAt {A = A} column (Err (Limit column which))
at_limit column which = at_err column (Limit column which) refl

pub at_either : {A : Type 0} (column : ℕ) (b : Bool) (r q : Result A StepFault) → FaultsAt column r → FaultsAt column q → FaultsAt column (cond b r q)
at_either column true r q here there = here
at_either column false r q here there = there

pub at_then : {A B : Type 0} (column : ℕ) (g : A → Result B StepFault) (r : Result A StepFault) → FaultsAt column r → ((a : A) → FaultsAt column (g a)) → FaultsAt column (and_then g r)
at_then column g (Ok a) here later = later a
at_then {A} {B} column g (Err other) here later = at_err column other (here.stands other refl)

-- ---- single words

at_within : {A : Type 0} (fits : A → Bool) (which : LimitKind) (e : Expected) (column : ℕ) (o : Option A) → FaultsAt column (within fits which e column o)
at_within fits which e column None = at_token column e
at_within fits which e column (Some x) = at_either column (fits x) (Ok x) (Err (Limit column which)) (at_ok column x) (at_limit column which)

pub at_number : (least bound : ℕ) (e : Expected) (column : ℕ) (o : Option ℕ) → FaultsAt column (number_between least bound e column o)
at_number least bound e column o =
    at_then column (λ n. cond (nat_lt n least) (Err (Token column e)) (Ok n)) (within (λ n. nat_lt n bound) Number e column o) (at_within (λ n. nat_lt n bound) Number e column o)
    (λ n. at_either column (nat_lt n least) (Err (Token column e)) (Ok n) (at_token column e) (at_ok column n))

pub at_id : (e : Expected) (w : Chunk) → FaultsAt w.column (id_in e w)
at_id e w = at_number 1 (2 ^ 63) e w.column (natural_of w.text)

pub at_integer : (e : Expected) (w : Chunk) → FaultsAt w.column (integer_in e w)
at_integer e w = at_within (λ z. nat_lt (unsigned_abs z) (2 ^ 126)) Number e w.column (integer_of w.text)

at_name : (e : Expected) (column : ℕ) (o : Option Lit) → FaultsAt column (literal_by e column o)
at_name e column o = at_within (λ l. nat_lt l.var (2 ^ 31)) Variables e column o

pub at_literal : (e : Expected) (w : Chunk) → FaultsAt w.column (literal_in e w)
at_literal e w = at_name e w.column (literal_of w.text)

pub at_variable : (above : ℕ) (w : Chunk) → FaultsAt w.column (variable_in above w)
at_variable above w =
    at_then w.column (λ l. cond (nat_lt above l.var) (Ok l.var) (Err (Token w.column SetVar))) (literal_by SetVar w.column (variable_of true w.text)) (at_name SetVar w.column (variable_of true w.text))
    (λ l. at_either w.column (nat_lt above l.var) (Ok l.var) (Err (Token w.column SetVar)) (at_ok w.column l.var) (at_token w.column SetVar))

pub at_bit : (w : Chunk) → FaultsAt w.column (bit_in w)
at_bit w =
    at_either w.column (bytes_eq w.text (codes "0")) (Ok false) _ (at_ok w.column false)
    (at_either w.column (bytes_eq w.text (codes "1")) (Ok true) (Err (Token w.column Bit)) (at_ok w.column true) (at_token w.column Bit))
