-- A trail with one more literal.
use Rattle.std.proofs.Common.{◌≡◌, ◌≤◌, ◌<◌, ◌+◌, ◌-◌, inl, inr, ℕ, zero, suc, Bool, true, false, not, cond, List, [], ◌∷◌, ◌++◌, Option, Some, None, arith, length, get_or, set, refl, ap, sym, ◌∙◌, take}
use Rattle.std.specs.Prelude.{is_some, option_to_list}
use Rattle.std.specs.List.{count_by}
use Rattle.std.proofs.lemmas.Bool.{cases_lt, or_left, or_right}
use Rattle.std.proofs.lemmas.List.{get_or-set_same, get_or-set_other, length-set}
use Rattle.std.proofs.lemmas.List.Sums.{sum_by-set, count_by-le-length}
use Rattle.pb_base.specs.declared.literal.Lit.{Lit}
use Rattle.pb_base.specs.Literals.{negated, is_same, is_among}
use Rattle.pb_base.proofs.LiteralLemmas.{is_same-refl}
use Rattle.std.proofs.lemmas.List.{get_or-reverse, length-reverse, get_or_past, reverse-append}
use Rattle.std.proofs.Math.Seq.{drop-cons}
use Rattle.std.specs.Prelude.{reverse, drop}
use Rattle.pb_unit.specs.Trails.{is_value, IsTrail, AreDifferent, oldest}
use Rattle.pb_unit.proofs.TrailValues.{told_more as values_more, told_less as values_less}

-- a variable without a value
no_value : (o : Option Bool) (p : Bool) → is_value o p ≡ false → is_value o (not p) ≡ false → is_some o ≡ false
no_value None p a b = refl
no_value (Some true) true a b = cc
no_value (Some true) false a b = cc
no_value (Some false) true a b = cc
no_value (Some false) false a b = cc

told_more : (values : List (Option Bool)) (ls : List Lit) (l m : Lit) → l.var < length values → ((k : Lit) → is_among ls k ≡ is_value (get_or values k.var None) k.positive) → is_among ls l ≡ false → is_among ls (negated l) ≡ false → is_among (l ∷ ls) m ≡ is_value (get_or (set values l.var (Some l.positive)) m.var None) m.positive
told_more values ls l m within told absent undecided =
    values_more (λ v. get_or values v None) (λ v. get_or (set values l.var (Some l.positive)) v None) ls l (get_or-set_same values l.var (Some l.positive) None within)
    (λ v ne. get_or-set_other values l.var v (Some l.positive) None ne) told absent undecided m

-- one more variable has a value
count_more : (values : List (Option Bool)) (v : ℕ) (p : Bool) → v < length values → is_some (get_or values v None) ≡ false → count_by is_some (set values v (Some p)) ≡ count_by is_some values + 1
count_more values v p within nothing =
    let f : Option Bool → ℕ = λ o. cond (is_some o) 1 0 in
    let counts : count_by is_some (set values v (Some p)) + f (get_or values v None) ≡ count_by is_some values + 1 = sum_by-set f values v (Some p) None within in
    let none : f (get_or values v None) ≡ 0 = rw nothing refl in
    omega (arith, counts, none)

absent_value : (vars : ℕ) (values : List (Option Bool)) (ls : List Lit) (capacity : ℕ) (l : Lit) → IsTrail vars values ls capacity → is_among ls l ≡ false → is_among ls (negated l) ≡ false → is_some (get_or values l.var None) ≡ false
absent_value vars values ls capacity l h absent undecided =
    no_value (get_or values l.var None) l.positive (sym (h.told l) ∙ absent) (sym (h.told (negated l)) ∙ undecided)

-- a trail has room for a literal of a variable that it has neither way
pub room_left : (vars : ℕ) (values : List (Option Bool)) (ls : List Lit) (capacity : ℕ) (l : Lit) → IsTrail vars values ls capacity → l.var ≤ vars → is_among ls l ≡ false → is_among ls (negated l) ≡ false → length ls < capacity
room_left vars values ls capacity l h within absent undecided =
    let more = count_more values l.var l.positive (omega (arith, h.size)) (absent_value vars values ls capacity l h absent undecided) in
    let most : count_by is_some (set values l.var (Some l.positive)) ≤ length (set values l.var (Some l.positive)) = count_by-le-length is_some (set values l.var (Some l.positive)) in
    omega (arith, length-set values l.var (Some l.positive), h.size, h.count, h.room)

pub pushed : (vars : ℕ) (values : List (Option Bool)) (ls : List Lit) (capacity more : ℕ) (l : Lit) → IsTrail vars values ls capacity → l.var ≤ vars → is_among ls l ≡ false → is_among ls (negated l) ≡ false → capacity ≤ more → IsTrail vars (set values l.var (Some l.positive)) (l ∷ ls) more
pushed vars values ls capacity more l h within absent undecided grows =
    let counts = count_more values l.var l.positive (omega (arith, h.size)) (absent_value vars values ls capacity l h absent undecided) in
    record {
      size = omega (arith, length-set values l.var (Some l.positive), h.size);
      told = λ m. told_more values ls l m (omega (arith, h.size)) h.told absent undecided;
      count = omega (arith, h.count);
      room = omega (arith, h.room);
      different = (absent, h.different);
    }

-- ---- literals by their number, the oldest first

different_at : (ls : List Lit) (k : ℕ) (l : Lit) (rest : List Lit) → AreDifferent ls → drop k ls ≡ l ∷ rest → is_among rest l ≡ false
different_at [] zero l rest h e = let no : ⊥ = cc in absurd no
different_at [] (suc k) l rest h e = let no : ⊥ = cc in absurd no
different_at (m ∷ ms) zero l rest h e =
    let first : m ≡ l = cc in
    let more : ms ≡ rest = cc in
    ap (λ (ks : List Lit). is_among ks l) (sym more) ∙ (ap (is_among ms) (sym first) ∙ h.0)
different_at (m ∷ ms) (suc k) l rest h e = different_at ms k l rest h.1 e

among_front : (ls : List Lit) (k : ℕ) (l : Lit) (rest : List Lit) → drop k ls ≡ l ∷ rest → is_among ls l ≡ true
among_front [] zero l rest e = let no : ⊥ = cc in absurd no
among_front [] (suc k) l rest e = let no : ⊥ = cc in absurd no
among_front (m ∷ ms) zero l rest e =
    let first : m ≡ l = cc in
    ap (is_among (m ∷ ms)) (sym first) ∙ or_left (is_same m m) (is_among ms m) (is_same-refl m)
among_front (m ∷ ms) (suc k) l rest e = or_right (is_same m l) (is_among ms l) (among_front ms k l rest e)

pub nth_oldest : (ls : List Lit) (xs : List Lit) (i : ℕ) (l : Lit) → ls ≡ reverse xs → i < length ls → l ≡ get_or xs i l → oldest (i + 1) ls ≡ l ∷ oldest i ls
nth_oldest ls xs i l e below at =
    let k : ℕ = length ls - (i + 1) in
    let same_length : length ls ≡ length xs = ap (λ (ys : List Lit). length ys) e ∙ length-reverse xs in
    let in_list : k < length ls = omega arith in
    let here : get_or ls k l ≡ l =
    ap (λ (ys : List Lit). get_or ys k l) e ∙ (get_or-reverse xs k l (omega (arith, same_length)) ∙
    (ap (λ (n : ℕ). get_or xs n l) (omega (arith, same_length)) ∙ sym at)) in
    let next : suc k ≡ length ls - i = omega arith in
    drop-cons ls k l in_list ∙ (ap (λ (m : Lit). m ∷ drop (suc k) ls) here ∙ ap (λ (n : ℕ). l ∷ drop n ls) next)

-- the variable of a literal that holds
pub nth_within : (vars : ℕ) (values : List (Option Bool)) (ls : List Lit) (capacity k : ℕ) (l : Lit) (rest : List Lit) → IsTrail vars values ls capacity → drop k ls ≡ l ∷ rest → l.var ≤ vars
nth_within vars values ls capacity k l rest h e =
    let told : is_value (get_or values l.var None) l.positive ≡ true = sym (h.told l) ∙ among_front ls k l rest e in
    elim (cases_lt l.var (length values)) [
      | inl below ↦ omega (arith, h.size, below)
      | inr past ↦ let none : is_value (get_or values l.var None) l.positive ≡ false = ap (λ (o : Option Bool). is_value o l.positive) (get_or_past values l.var None past) in let no : ⊥ = cc (told, none) in absurd no
    ]

pub nth_absent : (vars : ℕ) (values : List (Option Bool)) (ls : List Lit) (capacity k : ℕ) (l : Lit) (rest : List Lit) → IsTrail vars values ls capacity → drop k ls ≡ l ∷ rest → is_among rest l ≡ false
nth_absent vars values ls capacity k l rest h e = different_at ls k l rest h.different e

-- ---- the newest literal holds no more

told_less : (values : List (Option Bool)) (ls : List Lit) (l m : Lit) → l.var < length values → ((k : Lit) → is_among (l ∷ ls) k ≡ is_value (get_or values k.var None) k.positive) → is_among ls l ≡ false → is_among ls m ≡ is_value (get_or (set values l.var None) m.var None) m.positive
told_less values ls l m within told absent =
    values_less (λ v. get_or values v None) (λ v. get_or (set values l.var None) v None) ls l (get_or-set_same values l.var None None within)
    (λ v ne. get_or-set_other values l.var v None None ne) told absent m

count_less : (values : List (Option Bool)) (v : ℕ) → v < length values → is_some (get_or values v None) ≡ true → count_by is_some (set values v None) + 1 ≡ count_by is_some values
count_less values v within there =
    let f : Option Bool → ℕ = λ o. cond (is_some o) 1 0 in
    let counts : count_by is_some (set values v None) + f (get_or values v None) ≡ count_by is_some values + 0 = sum_by-set f values v None None within in
    let one : f (get_or values v None) ≡ 1 = rw there refl in
    omega (arith, counts, one)

pub newest_within : (vars : ℕ) (values : List (Option Bool)) (l : Lit) (ls : List Lit) (capacity : ℕ) → IsTrail vars values (l ∷ ls) capacity → l.var < length values
newest_within vars values l ls capacity h = let e = nth_within vars values (l ∷ ls) capacity 0 l ls h refl in omega (arith, e, h.size)

pub popped : (vars : ℕ) (values : List (Option Bool)) (l : Lit) (ls : List Lit) (capacity less : ℕ) → IsTrail vars values (l ∷ ls) capacity → capacity ≤ less → IsTrail vars (set values l.var None) ls less
popped vars values l ls capacity less h grows =
    let within = newest_within vars values l ls capacity h in
    let there : is_some (get_or values l.var None) ≡ true = has_value (get_or values l.var None) l.positive (sym (h.told l) ∙ or_left (is_same l l) (is_among ls l) (is_same-refl l)) in
    let counts = count_less values l.var within there in
    record {
      size = length-set values l.var None ∙ h.size;
      told = λ m. told_less values ls l m within h.told h.different.0;
      count = omega (arith, h.count, counts);
      room = omega (arith, h.room, grows);
      different = h.different.1;
    }
  where
    has_value : (o : Option Bool) (p : Bool) → is_value o p ≡ true → is_some o ≡ true
    has_value None p e = let no : ⊥ = cc in absurd no
    has_value (Some v) p e = refl

pub popped_order : (old new : List Lit) (o : Option Lit) (l : Lit) → old ≡ new ++ option_to_list o → o ≡ Some l → reverse old ≡ l ∷ reverse new
popped_order old new o l e is = ap reverse (e ∙ ap (λ (p : Option Lit). new ++ option_to_list p) is) ∙ reverse-append new (l ∷ [])

pub take_none : (n : ℕ) (ls : List Lit) → n ≡ 0 → take n ls ≡ []
take_none n ls e = ap (λ (k : ℕ). take k ls) e ∙ take_zero ls
  where
    take_zero : (ls : List Lit) → take 0 ls ≡ []
    take_zero [] = refl
    take_zero (l ∷ ls) = refl
