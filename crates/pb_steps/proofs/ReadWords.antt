-- What a word stands for, by what it was read as.
use Rattle.std.proofs.Common.{◌≡◌, ◌≤◌, ◌<◌, ◌^◌, ◌==◌, ℕ, Bool, true, false, cond, List, [], ◌∷◌, Option, Some, None, refl, sym, ap, ◌∙◌, arith}
use Rattle.std.specs.Prelude.{ℤ, nat_lt, unsigned_abs, Result, Ok, Err, codes}
use Rattle.std.specs.Str.{bytes_eq}
use Rattle.std.proofs.lemmas.Bool.Decides.{nat_tests}
use Rattle.pb_base.specs.declared.literal.Lit.{Lit}
use Rattle.pb_base.specs.declared.expected.Expected.{Expected}
use Rattle.pb_base.specs.declared.expected.Expected.TheVariants.{Bit, SetVar}
use Rattle.pb_base.specs.declared.limit.LimitKind.{LimitKind}
use Rattle.pb_base.specs.declared.limit.LimitKind.TheVariants.{Number, Variables}
use Rattle.pb_base.specs.Numbers.{natural_of, integer_of}
use Rattle.pb_base.specs.Words.{Chunk}
use Rattle.pb_base.specs.LiteralWords.{indexed, variable_of, literal_of}
use Rattle.pb_steps.specs.declared.fault.StepFault.{StepFault}
use Rattle.pb_steps.specs.declared.fault.StepFault.TheVariants.{Token, Limit}
use Rattle.pb_steps.specs.LineWords.{and_then, within, number_between, id_in, integer_in, literal_by, literal_in, variable_in, bit_in}
use Rattle.pb_steps.specs.Sayable.{IsId, IsVariable}
use Rattle.pb_steps.specs.StepGrammar.{bit_word}
use Rattle.pb_steps.proofs.SpelledWords.{key_from}

-- what was read first, where a part was read behind it
pub and_then_from : {A B : Type 0} (f : A → Result B StepFault) (r : Result A StepFault) (b : B) → and_then f r ≡ Ok b → (a : A) × (r ≡ Ok a) × (f a ≡ Ok b)
and_then_from f (Ok a) b h = (a, refl, h)
and_then_from f (Err fault) b h = cc

-- a test that was passed, since else there is a fault
pub passed : {A : Type 0} (t : Bool) (r : Result A StepFault) (fault : StepFault) (a : A) → cond t r (Err fault) ≡ Ok a → (t ≡ true) × (r ≡ Ok a)
passed true r fault a h = (refl, h)
passed false r fault a h = cc

pub key_read : {A : Type 0} (w k : List ℕ) (r : Result A StepFault) (fault : StepFault) (a : A) → cond (bytes_eq w k) r (Err fault) ≡ Ok a → (w ≡ k) × (r ≡ Ok a)
key_read w k r fault a h = let p = passed (bytes_eq w k) r fault a h in (key_from w k p.0, p.1)

-- what was read within a limit
within_from : {A : Type 0} (fits : A → Bool) (which : LimitKind) (e : Expected) (column : ℕ) (o : Option A) (x : A) → within fits which e column o ≡ Ok x → (o ≡ Some x) × (fits x ≡ true)
within_from fits which e column None x h = cc
within_from fits which e column (Some y) x h =
    let p = passed (fits y) (Ok y) (Limit column which) x h in
    let same : y ≡ x = cc in
    (ap Some same, ap fits (sym same) ∙ p.0)

from_least : (least : ℕ) (fault : StepFault) (m n : ℕ) (low : Bool) → nat_lt m least ≡ low → cond low (Err fault) (Ok m) ≡ Ok n → (m ≡ n) × (least ≤ n)
from_least least fault m n true l h = cc
from_least least fault m n false l h = let same : m ≡ n = cc in (same, grind (arith, nat_tests))

pub counted_from : (least bound : ℕ) (e : Expected) (column : ℕ) (o : Option ℕ) (n : ℕ) → number_between least bound e column o ≡ Ok n → (o ≡ Some n) × (least ≤ n) × (n < bound)
counted_from least bound e column o n h =
    let (m, read, behind) = and_then_from (λ m. cond (nat_lt m least) (Err (Token column e)) (Ok m)) (within (λ m. nat_lt m bound) Number e column o) n h in
    let w = within_from (λ m. nat_lt m bound) Number e column o m read in
    let l = from_least least (Token column e) m n (nat_lt m least) refl behind in
    (w.0 ∙ ap Some l.0, l.1, grind (arith, nat_tests, l.0, w.1))

pub id_from : (e : Expected) (w : Chunk) (id : ℕ) → id_in e w ≡ Ok id → (natural_of w.text ≡ Some id) × IsId id
id_from e w id h = let c = counted_from 1 (2 ^ 63) e w.column (natural_of w.text) id h in (c.0, (c.1, c.2))

pub integer_from : (e : Expected) (w : Chunk) (z : ℤ) → integer_in e w ≡ Ok z → (integer_of w.text ≡ Some z) × (unsigned_abs z < 2 ^ 126)
integer_from e w z h =
    let n = within_from (λ z. nat_lt (unsigned_abs z) (2 ^ 126)) Number e w.column (integer_of w.text) z h in
    (n.0, grind (arith, nat_tests, n.1))

named_from : (e : Expected) (column : ℕ) (o : Option Lit) (l : Lit) → literal_by e column o ≡ Ok l → (o ≡ Some l) × (l.var < 2 ^ 31)
named_from e column o l h =
    let n = within_from (λ l. nat_lt l.var (2 ^ 31)) Variables e column o l h in
    (n.0, grind (arith, nat_tests, n.1))

-- an index is at least 1
from_one : (positive : Bool) (n : ℕ) (l : Lit) (z : Bool) → (n == 0) ≡ z → cond z None (Some (record { var = n; positive = positive })) ≡ Some l → (1 ≤ l.var) × (l.positive ≡ positive)
from_one positive n l true e h = cc
from_one positive n l false e h =
    let same : record { var = n; positive = positive } ≡ l = cc in
    let v : n ≡ l.var = ap (λ (k : Lit). k.var) same in
    (grind (arith, nat_tests), sym (ap (λ (k : Lit). k.positive) same))

indexed_from : (positive : Bool) (o : Option ℕ) (l : Lit) → indexed positive o ≡ Some l → (1 ≤ l.var) × (l.positive ≡ positive)
indexed_from positive None l h = cc
indexed_from positive (Some n) l h = from_one positive n l (n == 0) refl h

name_from : (positive : Bool) (ds : List ℕ) (l : Lit) (t : Bool) → cond t (indexed positive (natural_of ds)) None ≡ Some l → (1 ≤ l.var) × (l.positive ≡ positive)
name_from positive ds l true h = indexed_from positive (natural_of ds) l h
name_from positive ds l false h = cc

variable_from_one : (positive : Bool) (w : List ℕ) (l : Lit) → variable_of positive w ≡ Some l → (1 ≤ l.var) × (l.positive ≡ positive)
variable_from_one positive [] l h = cc
variable_from_one positive (b ∷ ds) l h = name_from positive ds l (b == 120) h

sign_from : (b : ℕ) (ds : List ℕ) (l : Lit) (t : Bool) → cond t (variable_of false ds) (variable_of true (b ∷ ds)) ≡ Some l → 1 ≤ l.var
sign_from b ds l true h = (variable_from_one false ds l h).0
sign_from b ds l false h = (variable_from_one true (b ∷ ds) l h).0

literal_from_one : (w : List ℕ) (l : Lit) → literal_of w ≡ Some l → 1 ≤ l.var
literal_from_one [] l h = cc
literal_from_one (b ∷ ds) l h = sign_from b ds l (b == 126) h

pub literal_from : (e : Expected) (w : Chunk) (l : Lit) → literal_in e w ≡ Ok l → (literal_of w.text ≡ Some l) × IsVariable l.var
literal_from e w l h = let n = named_from e w.column (literal_of w.text) l h in (n.0, (literal_from_one w.text l n.0, n.1))

greater_from : (above column v : ℕ) (l : Lit) → cond (nat_lt above l.var) (Ok l.var) (Err (Token column SetVar)) ≡ Ok v → (l.var ≡ v) × (above < v)
greater_from above column v l h =
    let p = passed (nat_lt above l.var) (Ok l.var) (Token column SetVar) v h in
    let same : l.var ≡ v = cc in
    let more : nat_lt above v ≡ true = ap (nat_lt above) (sym same) ∙ p.0 in
    (same, grind (arith, nat_tests))

lit_is : (l : Lit) (v : ℕ) → l.var ≡ v → l.positive ≡ true → l ≡ record { var = v; positive = true }
lit_is l v e p = ap (λ (x : ℕ). record { var = x; positive = l.positive }) e ∙ ap (λ (b : Bool). record { var = v; positive = b }) p

pub variable_from : (above : ℕ) (w : Chunk) (v : ℕ) → variable_in above w ≡ Ok v → (variable_of true w.text ≡ Some (record { var = v; positive = true })) × (above < v) × (v < 2 ^ 31)
variable_from above w v h =
    let (l, read, rest) = and_then_from (λ (l : Lit). cond (nat_lt above l.var) (Ok l.var) (Err (Token w.column SetVar))) (literal_by SetVar w.column (variable_of true w.text)) v h in
    let n = named_from SetVar w.column (variable_of true w.text) l read in
    let g = greater_from above w.column v l rest in
    (n.0 ∙ ap Some (lit_is l v g.0 (variable_from_one true w.text l n.0).1), g.1, omega (arith, g.0, n.1))

pub bit_from : (w : Chunk) (value : Bool) → bit_in w ≡ Ok value → w.text ≡ bit_word value
bit_from w value h = by_zero (bytes_eq w.text (codes "0")) (key_from w.text (codes "0")) h
  where
    by_one : (t : Bool) → (t ≡ true → w.text ≡ codes "1") → cond t (Ok true) (Err (Token w.column Bit)) ≡ Ok value → w.text ≡ bit_word value
    by_one true same h = let e : true ≡ value = cc in same refl ∙ ap bit_word e
    by_one false same h = cc

    by_zero : (t : Bool) → (t ≡ true → w.text ≡ codes "0") → cond t (Ok false) (cond (bytes_eq w.text (codes "1")) (Ok true) (Err (Token w.column Bit))) ≡ Ok value → w.text ≡ bit_word value
    by_zero true same h = let e : false ≡ value = cc in same refl ∙ ap bit_word e
    by_zero false same h = by_one (bytes_eq w.text (codes "1")) (key_from w.text (codes "1")) h
