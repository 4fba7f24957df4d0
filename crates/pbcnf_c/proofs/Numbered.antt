-- An outcome is told by its numbers.
use Rattle.std.proofs.Common.{◌≡◌, ◌≤◌, ◌∙◌, ℕ, Bool, true, false, Option, Some, None, ap, arith, refl, subst, sym}
use Rattle.std.proofs.Math.Dec.{T, eqb, eqb_refl}
use Rattle.std.proofs.lemmas.Bool.{eqb-true}
use Rattle.std.specs.Prelude.{IfSome, ◌==◌, ◌&&◌, option_and_then, if◌then◌else◌}
use Rattle.std.specs.Option.{option_map}
use Rattle.pb_base.specs.declared.expected.Expected.{Expected}
use Rattle.pb_base.specs.declared.file.File.{File}
use Rattle.pb_base.specs.declared.limit.LimitKind.{LimitKind}
use Rattle.pb_base.specs.declared.place.Place.{Place}
use Rattle.pb_steps.specs.declared.denied.Denied.{Denied}
use Rattle.pb_lrat.specs.declared.denied.LratDenied.{LratDenied}
use Rattle.pb_suite.specs.declared.outcome.Outcome.{Outcome}
use Rattle.pb_suite.specs.declared.outcome.Outcome.TheVariants as outcome
use Rattle.pbcnf_c.specs.declared.refusal.PbcnfRefusal.{PbcnfRefusal}
use Rattle.pbcnf_c.specs.Refusals.{denied_number, expected_number, file_number, limit_number, limit_told, lrat_number, refusal_of, refused_told}
use Rattle.pbcnf_c.specs.WordsSaid.{IsProper, IsVariable, NamesVariable}
use Rattle.pbcnf_c.specs.inner.Outcomes.{denied_at, expected_at, file_at, limit_at, lrat_at, outcome_at, place_at, var_at}

-- ---- of parts

file_back : (x : File) → file_at (file_number x) ≡ Some x
file_back x = grind arith

pub file_told : (x : File) → (file_number x == 0) ≡ false
file_told x = grind arith

limit_back : (x : LimitKind) → limit_at (limit_number x) ≡ Some x
limit_back x = grind arith

expected_back : (x : Expected) → expected_at (expected_number x) ≡ Some x
expected_back x = grind arith

abbrev place_of : ℕ → ℕ → Place
place_of line column = record { line = line; column = column }

from_one : (line : ℕ) → 1 ≤ line → (line == 0) ≡ false
from_one line low = grind arith

place_by : (line column : ℕ) → 1 ≤ line → (if line == 0 then None else Some (place_of line column)) ≡ Some (place_of line column)
place_by line column low = grind arith

place_back : (place : Place) → 1 ≤ place.line → (if place.line == 0 then None else Some (place_of place.line place.column)) ≡ Some place
place_back place low = place_by place.line place.column low

var_back : (n : ℕ) → IsVariable n → var_at n ≡ Some n
var_back n is = grind arith

abbrev rejected : ℕ → Option Denied → Option Outcome
rejected line d = option_and_then (λ d. Some (outcome.Rejected line d)) d

denied_back : (d : Denied) → NamesVariable d → denied_at (denied_number d).0 (denied_number d).1 ≡ Some d
denied_back d is = grind (arith, var_back)

lrat_back : (why : LratDenied) → lrat_at (lrat_number why).0 (lrat_number why).1 ≡ Some why
lrat_back x = grind arith

-- ---- of outcomes

abbrev refused : Option File → Option Place → Option Expected → Option Outcome
refused f place e = option_and_then (λ f. option_and_then (λ place. option_and_then (λ e. Some (outcome.Refused f place e)) e) place) f

refused_back : (f : File) (place : Place) (e : Expected) → 1 ≤ place.line → outcome_at (refused_told f place e) ≡ Some (outcome.Refused f place e)
refused_back f place e low =
    let at = place_at (refused_told f place e) in
    ap (λ (x : Bool). if x then Some outcome.NoObjective else refused (file_at (file_number f)) at (expected_at (expected_number e))) (from_one place.line low)
    ∙ ap (λ (x : Option File). refused x at (expected_at (expected_number e))) (file_back f)
    ∙ ap (λ (x : Option Place). refused (Some f) x (expected_at (expected_number e))) (place_back place low)
    ∙ ap (λ (x : Option Expected). refused (Some f) (Some place) x) (expected_back e)

abbrev limited : Option LimitKind → Bool → Option File → Option Place → Option Outcome
limited which none f place = option_and_then (λ which. if none then Some (outcome.Limit None which None) else option_and_then (λ f. Some (outcome.Limit (Some f) which place)) f) which

limited_back : (f : File) (which : LimitKind) (place : Option Place) → place_at (limit_told (Some f) which place) ≡ place → outcome_at (limit_told (Some f) which place) ≡ Some (outcome.Limit (Some f) which place)
limited_back f which place here =
    let at = place_at (limit_told (Some f) which place) in
    ap (λ (x : Option LimitKind). limited x (file_number f == 0) (file_at (file_number f)) at) (limit_back which)
    ∙ ap (λ (x : Bool). limited (Some which) x (file_at (file_number f)) at) (file_told f)
    ∙ ap (λ (x : Option File). limited (Some which) false x at) (file_back f)
    ∙ ap (λ (x : Option Place). limited (Some which) false (Some f) x) here

total_back : (which : LimitKind) → outcome_at (limit_told None which None) ≡ Some (outcome.Limit None which None)
total_back which = ap (λ (x : Option LimitKind). limited x true None None) (limit_back which)

pub told_back : (o : Outcome) → IsProper o → outcome_at (refusal_of o) ≡ Some o
told_back outcome.Done is = refl
told_back (outcome.Refused f place e) is = refused_back f place e is
told_back outcome.Usage is = refl
told_back (outcome.Limit (Some f) which None) is = limited_back f which None refl
told_back (outcome.Limit (Some f) which (Some place)) is = limited_back f which (Some place) (place_back place is)
told_back (outcome.Limit None which None) is = total_back which
told_back (outcome.Limit None which (Some place)) is = absurd is
told_back outcome.ReadFault is = absurd is
told_back outcome.WriteFault is = refl
told_back outcome.NoMemory is = refl
told_back (outcome.Rejected line d) is = ap (rejected line) (denied_back d is)
told_back (outcome.NotASolution statement) is = refl
told_back outcome.NoModel is = refl
told_back outcome.NoObjective is = refl
told_back (outcome.NotRefuted line why) is = ap (λ (x : Option LratDenied). option_and_then (λ why. Some (outcome.NotRefuted line why)) x) (lrat_back why)

-- and so are its numbers
pub numbers_back : (r : PbcnfRefusal) (o : Outcome) → IsProper o → r ≡ refusal_of o → option_map refusal_of (outcome_at r) ≡ Some r
numbers_back r o proper is = subst (λ (q : PbcnfRefusal). option_map refusal_of (outcome_at q) ≡ Some q) (sym is) (ap (λ (x : Option Outcome). option_map refusal_of x) (told_back o proper))

-- ---- numbers that are compared field by field

abbrev all_equal : PbcnfRefusal → PbcnfRefusal → Bool
all_equal a b = eqb a.line b.line && (eqb a.column b.column && (eqb a.number b.number && (eqb a.status b.status && (eqb a.file b.file && (eqb a.expected b.expected && (eqb a.limit b.limit && (eqb a.denied b.denied && (eqb a.unproved b.unproved))))))))

is_true : (a : Bool) → T a → a ≡ true
is_true true holds = refl
is_true false holds = absurd holds

and_true : (a b : Bool) → T a → b ≡ true → (a && b) ≡ true
and_true true b holds is = is
and_true false b holds is = absurd holds

equal : (a : PbcnfRefusal) → all_equal a a ≡ true
equal a = and_true (eqb a.line a.line) _ (eqb_refl a.line) (and_true (eqb a.column a.column) _ (eqb_refl a.column) (and_true (eqb a.number a.number) _ (eqb_refl a.number) (and_true (eqb a.status a.status) _ (eqb_refl a.status) (and_true (eqb a.file a.file) _ (eqb_refl a.file) (and_true (eqb a.expected a.expected) _ (eqb_refl a.expected) (and_true (eqb a.limit a.limit) _ (eqb_refl a.limit) (and_true (eqb a.denied a.denied) _ (eqb_refl a.denied) (is_true (eqb a.unproved a.unproved) (eqb_refl a.unproved)))))))))

abbrev given : PbcnfRefusal → Option PbcnfRefusal → PbcnfRefusal
given r None = r
given r (Some s) = s

-- what is told are these numbers, if a call has them
pub not_other : (r told : PbcnfRefusal) (o : Outcome) (numbers : Option PbcnfRefusal) (same : Bool) → IsProper o → r ≡ refusal_of o → numbers ≡ option_map refusal_of (outcome_at r) → numbers ≡ Some told → same ≡ all_equal told r → same ≡ false → ⊥
not_other r told o numbers same proper is are found compared differs =
    let here : told ≡ r = ap (given r) (sym found ∙ are ∙ numbers_back r o proper is) in
    let holds : same ≡ true = compared ∙ ap (λ (s : PbcnfRefusal). all_equal s r) here ∙ equal r in
    cc

-- and numbers that are all equal are the same
both_true : (a b : Bool) → (a && b) ≡ true → (a ≡ true) × (b ≡ true)
both_true true b is = (refl, is)
both_true false b is = cc

abbrev numbered : (line column number status file expected limit denied unproved : ℕ) → PbcnfRefusal
numbered line column number status file expected limit denied unproved = record { line = line; column = column; number = number; status = status; file = file; expected = expected; limit = limit; denied = denied; unproved = unproved }

same_numbers : (a b : PbcnfRefusal) → all_equal a b ≡ true → a ≡ b
same_numbers a b is =
    let line_is = both_true (eqb a.line b.line) _ is in
    let column_is = both_true (eqb a.column b.column) _ line_is.1 in
    let number_is = both_true (eqb a.number b.number) _ column_is.1 in
    let status_is = both_true (eqb a.status b.status) _ number_is.1 in
    let file_is = both_true (eqb a.file b.file) _ status_is.1 in
    let expected_is = both_true (eqb a.expected b.expected) _ file_is.1 in
    let limit_is = both_true (eqb a.limit b.limit) _ expected_is.1 in
    let denied_is = both_true (eqb a.denied b.denied) _ limit_is.1 in
    ap (λ (n : ℕ). numbered n a.column a.number a.status a.file a.expected a.limit a.denied a.unproved) (eqb-true a.line b.line line_is.0)
    ∙ ap (λ (n : ℕ). numbered b.line n a.number a.status a.file a.expected a.limit a.denied a.unproved) (eqb-true a.column b.column column_is.0)
    ∙ ap (λ (n : ℕ). numbered b.line b.column n a.status a.file a.expected a.limit a.denied a.unproved) (eqb-true a.number b.number number_is.0)
    ∙ ap (λ (n : ℕ). numbered b.line b.column b.number n a.file a.expected a.limit a.denied a.unproved) (eqb-true a.status b.status status_is.0)
    ∙ ap (λ (n : ℕ). numbered b.line b.column b.number b.status n a.expected a.limit a.denied a.unproved) (eqb-true a.file b.file file_is.0)
    ∙ ap (λ (n : ℕ). numbered b.line b.column b.number b.status b.file n a.limit a.denied a.unproved) (eqb-true a.expected b.expected expected_is.0)
    ∙ ap (λ (n : ℕ). numbered b.line b.column b.number b.status b.file b.expected n a.denied a.unproved) (eqb-true a.limit b.limit limit_is.0)
    ∙ ap (λ (n : ℕ). numbered b.line b.column b.number b.status b.file b.expected b.limit n a.unproved) (eqb-true a.denied b.denied denied_is.0)
    ∙ ap (λ (n : ℕ). numbered b.line b.column b.number b.status b.file b.expected b.limit b.denied n) (eqb-true a.unproved b.unproved denied_is.1)

-- the outcome that is found has these numbers
pub has_numbers : (r told : PbcnfRefusal) (found : Option Outcome) (numbers : Option PbcnfRefusal) (same : Bool) → numbers ≡ option_map refusal_of found → numbers ≡ Some told → same ≡ all_equal told r → same ≡ true → IfSome found (λ o. r ≡ refusal_of o)
has_numbers r told None numbers same are is compared holds = tt
has_numbers r told (Some o) numbers same are is compared holds = sym (same_numbers told r (sym compared ∙ holds)) ∙ ap (given r) (sym is ∙ are)
