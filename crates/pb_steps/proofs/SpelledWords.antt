-- What words are read as, by what they stand for.
use Rattle.std.proofs.Common.{◌≡◌, ◌≤◌, ◌<◌, ◌^◌, ◌&&◌, ◌==◌, ℕ, Bool, true, false, cond, List, [], ◌∷◌, Option, Some, None, refl, ap, ◌∙◌, arith}
use Rattle.std.specs.Prelude.{ℤ, nat_lt, unsigned_abs, Ok, Err}
use Rattle.std.specs.Char.{is_ascii_digit}
use Rattle.std.specs.Str.{bytes_eq, all_ascii_digits}
use Rattle.std.proofs.lemmas.Bool.Decides.{nat_tests}
use Rattle.std.proofs.lemmas.Slice.Eq.{bytes_eq-Decides}
use Rattle.pb_base.specs.declared.literal.Lit.{Lit}
use Rattle.pb_base.specs.declared.expected.Expected.{Expected}
use Rattle.pb_base.specs.declared.expected.Expected.TheVariants.{SetVar}
use Rattle.pb_base.specs.declared.limit.LimitKind.{LimitKind}
use Rattle.pb_base.specs.declared.limit.LimitKind.TheVariants.{Number, Variables}
use Rattle.pb_base.specs.Numbers.{weighed, natural_of, integer_of}
use Rattle.pb_base.specs.Words.{Chunk}
use Rattle.pb_base.specs.LiteralWords.{indexed, variable_of, literal_of}
use Rattle.pb_steps.specs.declared.fault.StepFault.TheVariants.{Token, Limit}
use Rattle.pb_steps.specs.LineWords.{and_then, within, number_between, id_in, integer_in, literal_by, literal_in, variable_in}
use Rattle.pb_steps.specs.Sayable.{IsId, IsVariable}

-- what is within a limit is read
within_is : {A : Type 0} (fits : A → Bool) (which : LimitKind) (e : Expected) (column : ℕ) (o : Option A) (x : A) → o ≡ Some x → fits x ≡ true → within fits which e column o ≡ Ok x
within_is fits which e column o x is fit = ap (within fits which e column) is ∙ ap (λ (b : Bool). cond b (Ok x) (Err (Limit column which))) fit

pub counted_is : (least bound : ℕ) (e : Expected) (column : ℕ) (o : Option ℕ) (n : ℕ) → o ≡ Some n → least ≤ n → n < bound → number_between least bound e column o ≡ Ok n
counted_is least bound e column o n is low high =
    let not_low : nat_lt n least ≡ false = grind (arith, nat_tests) in
    let below : nat_lt n bound ≡ true = grind (arith, nat_tests) in
    ap (and_then (λ m. cond (nat_lt m least) (Err (Token column e)) (Ok m))) (within_is (λ m. nat_lt m bound) Number e column o n is below)
    ∙ ap (λ (b : Bool). cond b (Err (Token column e)) (Ok n)) not_low

pub id_is : (e : Expected) (w : Chunk) (id : ℕ) → natural_of w.text ≡ Some id → IsId id → id_in e w ≡ Ok id
id_is e w id is range = counted_is 1 (2 ^ 63) e w.column (natural_of w.text) id is range.0 range.1

pub integer_is : (e : Expected) (w : Chunk) (z : ℤ) → integer_of w.text ≡ Some z → unsigned_abs z < 2 ^ 126 → integer_in e w ≡ Ok z
integer_is e w z is high =
    within_is (λ z. nat_lt (unsigned_abs z) (2 ^ 126)) Number e w.column (integer_of w.text) z is (grind (arith, nat_tests))

named_is : (e : Expected) (column : ℕ) (o : Option Lit) (l : Lit) → o ≡ Some l → l.var < 2 ^ 31 → literal_by e column o ≡ Ok l
named_is e column o l is high = within_is (λ l. nat_lt l.var (2 ^ 31)) Variables e column o l is (grind (arith, nat_tests))

pub literal_is : (e : Expected) (w : Chunk) (l : Lit) → literal_of w.text ≡ Some l → IsVariable l.var → literal_in e w ≡ Ok l
literal_is e w l is range = named_is e w.column (literal_of w.text) l is range.1

pub variable_is : (above : ℕ) (w : Chunk) (v : ℕ) → variable_of true w.text ≡ Some (record { var = v; positive = true }) → above < v → v < 2 ^ 31 → variable_in above w ≡ Ok v
variable_is above w v is low high =
    let more : nat_lt above v ≡ true = grind (arith, nat_tests) in
    ap (and_then (λ l. cond (nat_lt above l.var) (Ok l.var) (Err (Token w.column SetVar)))) (named_is SetVar w.column (variable_of true w.text) (record { var = v; positive = true }) is high)
    ∙ ap (λ (b : Bool). cond b (Ok v) (Err (Token w.column SetVar))) more

pub key_is : (w k : List ℕ) → w ≡ k → bytes_eq w k ≡ true
key_is w k is = (bytes_eq-Decides w k).1 is

pub key_from : (w k : List ℕ) → bytes_eq w k ≡ true → w ≡ k
key_from w k is = (bytes_eq-Decides w k).0 is

-- a word of which something else is told is not this one
pub other_than : {T : Type 0} (f : List ℕ → T) (w k : List ℕ) → (f w ≡ f k → ⊥) → bytes_eq w k ≡ false
other_than f w k not = by_test (bytes_eq w k) (key_from w k)
  where
    by_test : (b : Bool) → (b ≡ true → w ≡ k) → b ≡ false
    by_test true same = absurd (not (ap f (same refl)))
    by_test false same = refl

-- a literal is no number
no_digit : (b : ℕ) (ds : List ℕ) → is_ascii_digit b ≡ false → natural_of (b ∷ ds) ≡ None
no_digit b ds not = ap (λ (d : Bool). cond (d && all_ascii_digits ds) (Some (weighed (b ∷ ds))) None) not

by_name : (b : ℕ) (ds : List ℕ) (o : Option Lit) (l : Lit) (n : Bool) → (b == 120) ≡ n → cond n o None ≡ Some l → is_ascii_digit b ≡ false
by_name b ds o l true e h = grind (arith, nat_tests)
by_name b ds o l false e h = cc

by_sign : (b : ℕ) (ds : List ℕ) (l : Lit) (s : Bool) → (b == 126) ≡ s → cond s (variable_of false ds) (variable_of true (b ∷ ds)) ≡ Some l → is_ascii_digit b ≡ false
by_sign b ds l true e h = grind (arith, nat_tests)
by_sign b ds l false e h = by_name b ds (indexed true (natural_of ds)) l (b == 120) refl h

pub literal_is_no_number : (w : List ℕ) (l : Lit) → literal_of w ≡ Some l → natural_of w ≡ None
literal_is_no_number [] l is = refl
literal_is_no_number (b ∷ ds) l is = no_digit b ds (by_sign b ds l (b == 126) refl is)
