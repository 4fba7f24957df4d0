-- The bits that a network ends with add up to what its inputs do.
use Rattle.std.proofs.Common.{◌≡◌, ◌≢◌, ◌<◌, ◌≤◌, ◌+◌, ◌*◌, ◌/◌, ◌%◌, ◌^◌, ◌==◌, ℕ, Bool, true, false, cond, List, [], ◌∷◌, ◌++◌, length, refl, sym, ap, ◌∙◌, arith, inl, inr, zero, suc, length-append}
use Rattle.std.specs.Prelude.{All, map, sum_by, count_by, Option, Some, None}
use Rattle.std.specs.List.{filter}
use Rattle.std.proofs.lemmas.Bool.{cases_Bool, eqb-true, eqb-false, eq-eqb, ne_eqb, cond-true, cond-false}
use Rattle.std.proofs.lemmas.List.{length-map}
use Rattle.std.proofs.lemmas.List.Sums.{sum_by-cons, sum_by-append, count_by-le-length, sum_by-le-sum_by}
use Rattle.std.proofs.lemmas.List.Elements.{All-head, All-tail}
use Rattle.std.proofs.Math.Nat.{two-pow-succ, div-div-eq-div-mul, div-one}
use Rattle.std.proofs.Math.Numerals.{add-one}
use Rattle.pb_norm.specs.Constraints.{Weighted, weight}
use Rattle.pb_base.proofs.Members.{All-append_both}
use Rattle.pb_family.proofs.UnitSums.{count_by-cons}
use Rattle.pb_adder.specs.declared.gate.Wire.{Wire}
use Rattle.pb_adder.specs.declared.gate.Wire.TheVariants.{Input, Made}
use Rattle.pb_adder.specs.declared.gate.Gate.TheVariants.{Full, Half}
use Rattle.pb_adder.specs.Gates.{carry_wire}
use Rattle.pb_adder.specs.laws.GateLaws.{Adds}
use Rattle.pb_adder.specs.laws.GateTables.{one}
use Rattle.pb_adder.specs.Network.{has_bit, inputs_at, level_gates, level_left, gates_of, oldest_of, level_end, queue_at, gates_from, ends_from, digits_within, level_count, network_gates, network_ends}

-- ---- one level

pub count_append : (p : Wire → Bool) (xs : List Wire) (x : Wire) → count_by p (xs ++ x ∷ []) ≡ count_by p xs + one (p x)
count_append p xs x = omega (arith, sum_by-append (λ y. cond (p y) 1 0) xs (x ∷ []), count_by-cons p x [])

-- the bits of a level add up to those left and twice the carries
pub level_adds : (p : Wire → Bool) (n : ℕ) (queue : List Wire) (made : ℕ) → All (Adds p) (level_gates n queue made)
    → count_by p queue ≡ count_by p (level_left n queue made) + 2 * count_by p (map carry_wire (level_gates n queue made))
level_adds p zero queue made all = omega arith
level_adds p (suc n) [] made all = refl
level_adds p (suc n) (a ∷ []) made all = omega arith
level_adds p (suc n) (a ∷ b ∷ []) made all =
    omega (
      arith,
      All-head (Adds p) (Half a b made) [] all,
      count_by-cons p a (b ∷ []),
      count_by-cons p b [],
      count_by-cons p (Made made) [],
      count_by-cons p (Made (made + 1)) [],
    )
level_adds p (suc n) (a ∷ b ∷ c ∷ rest) made all =
    let later = level_gates n (rest ++ Made made ∷ []) (made + 2) in
    omega (
      arith,
      All-head (Adds p) (Full a b c made) later all,
      level_adds p n (rest ++ Made made ∷ []) (made + 2) (All-tail (Adds p) (Full a b c made) later all),
      count_append p rest (Made made),
      count_by-cons p a (b ∷ c ∷ rest),
      count_by-cons p b (c ∷ rest),
      count_by-cons p c rest,
      count_by-cons p (Made (made + 1)) (map carry_wire later),
    )

-- each adder takes two bits away, but the last of an even level only one
pub level_length : (n : ℕ) (queue : List Wire) (made : ℕ) → 2 * n ≤ length queue → length (level_gates n queue made) ≡ n
level_length zero queue made within = refl
level_length (suc n) [] made within = absurd (omega arith)
level_length (suc n) (a ∷ []) made within = absurd (omega arith)
level_length (suc n) (a ∷ b ∷ []) made within = omega arith
level_length (suc n) (a ∷ b ∷ c ∷ rest) made within =
    let size = length-append rest (Made made ∷ []) in
    let later = level_length n (rest ++ Made made ∷ []) (made + 2) (omega arith) in
    omega arith

pub few_left : (n : ℕ) (queue : List Wire) (made : ℕ) → length queue ≤ 2 * n + 1 → length (level_left n queue made) ≤ 1
few_left zero queue made within = omega arith
few_left (suc n) [] made within = omega arith
few_left (suc n) (a ∷ []) made within = omega arith
few_left (suc n) (a ∷ b ∷ []) made within = omega arith
few_left (suc n) (a ∷ b ∷ c ∷ rest) made within =
    let size = length-append rest (Made made ∷ []) in
    few_left n (rest ++ Made made ∷ []) (made + 2) (omega arith)

pub gates_length : (queue : List Wire) (made : ℕ) → length (gates_of queue made) ≡ length queue / 2
gates_length queue made = level_length (length queue / 2) queue made (omega arith)

-- ---- numbers by their bits

abbrev pub end_value : (Wire → Bool) → Option Wire → ℕ
end_value p None = 0
end_value p (Some w) = one (p w)

abbrev pub number : (Wire → Bool) → List (Option Wire) → ℕ
number p [] = 0
number p (e ∷ es) = end_value p e + 2 * number p es

pub first_value : (p : Wire → Bool) (ws : List Wire) → length ws ≤ 1 → count_by p ws ≡ end_value p (oldest_of ws)
first_value p [] few = refl
first_value p (w ∷ []) few = omega arith
first_value p (w ∷ x ∷ ws) few = absurd (omega arith)

-- the bits of a level add up to its end and twice its carries
pub level_ends_add : (p : Wire → Bool) (queue : List Wire) (made : ℕ) → All (Adds p) (gates_of queue made)
    → count_by p queue ≡ end_value p (level_end queue made) + 2 * count_by p (map carry_wire (gates_of queue made))
level_ends_add p queue made all =
    let n = length queue / 2 in
    let left = level_left n queue made in
    omega (arith, level_adds p n queue made all, first_value p left (few_left n queue made (omega arith)))

-- ---- all levels

-- the inputs' weights from a level on
abbrev pub levels_value : (Wire → Bool) → List Weighted → ℕ → ℕ
levels_value p ts level = sum_by (λ t. cond (p (Input t.lit)) (t.coef / 2 ^ level) 0) ts

next_bit : (coef level : ℕ) → coef / 2 ^ level ≡ coef / 2 ^ level % 2 + 2 * (coef / 2 ^ (level + 1))
next_bit coef level =
    let power : 2 ^ (level + 1) ≡ 2 ^ level * 2 = ap (λ n. 2 ^ n) (add-one level) ∙ omega (arith, two-pow-succ level) in
    let halved : coef / 2 ^ level / 2 ≡ coef / 2 ^ (level + 1) = div-div-eq-div-mul coef (2 ^ level) 2 ∙ ap (λ n. coef / n) (sym power) in
    omega (arith, halved)

set_step : (b : Bool) (x y : ℕ) → x ≡ 1 + 2 * y → cond b x 0 ≡ one b + 2 * cond b y 0
set_step true x y e = e
set_step false x y e = refl

clear_step : (b : Bool) (x y : ℕ) → x ≡ 2 * y → cond b x 0 ≡ 2 * cond b y 0
clear_step true x y e = e
clear_step false x y e = refl

pub value_step : (p : Wire → Bool) (ts : List Weighted) (level : ℕ) → levels_value p ts level ≡ count_by p (inputs_at ts level) + 2 * levels_value p ts (level + 1)
value_step p [] level = refl
value_step p (t ∷ ts) level =
    let b = p (Input t.lit) in
    let x = t.coef / 2 ^ level in
    let y = t.coef / 2 ^ (level + 1) in
    let split = next_bit t.coef level in
    let here = sum_by-cons (λ (t : Weighted). cond (p (Input t.lit)) (t.coef / 2 ^ level) 0) t ts in
    let above = sum_by-cons (λ (t : Weighted). cond (p (Input t.lit)) (t.coef / 2 ^ (level + 1)) 0) t ts in
    let rest = value_step p ts level in
    elim (cases_Bool (has_bit level t)) as (λ _. levels_value p (t ∷ ts) level ≡ count_by p (inputs_at (t ∷ ts) level) + 2 * levels_value p (t ∷ ts) (level + 1)) [
      | inl set ↦
          let inputs : inputs_at (t ∷ ts) level ≡ Input t.lit ∷ inputs_at ts level = ap (map (λ (t : Weighted). Input t.lit)) (cond-true (has_bit level t) (t ∷ filter (has_bit level) ts) (filter (has_bit level) ts) set) in
          let count : count_by p (inputs_at (t ∷ ts) level) ≡ one b + count_by p (inputs_at ts level) = ap (count_by p) inputs ∙ count_by-cons p (Input t.lit) (inputs_at ts level) in
          let bit = eqb-true (x % 2) 1 set in
          let step = set_step b x y (omega arith) in
          omega (arith, here, above, rest, count, step)
      | inr clear ↦
          let inputs : inputs_at (t ∷ ts) level ≡ inputs_at ts level = ap (map (λ (t : Weighted). Input t.lit)) (cond-false (has_bit level t) (t ∷ filter (has_bit level) ts) (filter (has_bit level) ts) clear) in
          let count : count_by p (inputs_at (t ∷ ts) level) ≡ count_by p (inputs_at ts level) = ap (count_by p) inputs in
          let bit : x % 2 ≢ 1 = eqb-false (x % 2) 1 clear in
          let step = clear_step b x y (omega arith) in
          omega (arith, here, above, rest, count, step)
    ]

pub count_all : (ws : List Wire) → count_by (λ _. true) ws ≡ length ws
count_all [] = refl
count_all (w ∷ ws) = omega (arith, count_by-cons (λ _. true) w ws, count_all ws)

pub value_le : (p : Wire → Bool) (ts : List Weighted) (level : ℕ) → levels_value p ts level ≤ levels_value (λ _. true) ts level
value_le p ts level = sum_by-le-sum_by (λ (t : Weighted). cond (p (Input t.lit)) (t.coef / 2 ^ level) 0) (λ (t : Weighted). t.coef / 2 ^ level) ts (λ t. below (p (Input t.lit)) (t.coef / 2 ^ level))
  where
    below : (b : Bool) (x : ℕ) → cond b x 0 ≤ x
    below true x = omega arith
    below false x = omega arith

-- what is left for the levels above is at most half
pub room_step : (n level : ℕ) (ts : List Weighted) (carried : List Wire) (made : ℕ)
    → levels_value (λ _. true) ts level + length carried < 2 ^ suc n
    → levels_value (λ _. true) ts (level + 1) + length (map carry_wire (gates_of (queue_at ts level carried) made)) < 2 ^ n
room_step n level ts carried made bound =
    let queue = queue_at ts level carried in
    omega (
      arith,
      value_step (λ _. true) ts level,
      count_all (inputs_at ts level),
      length-append (inputs_at ts level) carried,
      length-map (gates_of queue made) carry_wire,
      gates_length queue made,
      two-pow-succ n,
    )

-- what the inputs and the carries add up to is the number of the ends
pub levels_add : (p : Wire → Bool) (n level : ℕ) (ts : List Weighted) (carried : List Wire) (made : ℕ)
    → All (Adds p) (gates_from n level ts carried made)
    → levels_value (λ _. true) ts level + length carried < 2 ^ n
    → levels_value p ts level + count_by p carried ≡ number p (ends_from n level ts carried made)
levels_add p zero level ts carried made all bound = omega (arith, value_le p ts level, count_by-le-length p carried)
levels_add p (suc n) level ts carried made all bound =
    let queue = queue_at ts level carried in
    let gates = gates_of queue made in
    let parts = All-append_both (Adds p) gates (gates_from n (level + 1) ts (map carry_wire gates) (made + 2 * length gates)) all in
    omega (
      arith,
      value_step p ts level,
      sum_by-append (λ y. cond (p y) 1 0) (inputs_at ts level) carried,
      level_ends_add p queue made parts.0,
      levels_add p n (level + 1) ts (map carry_wire gates) (made + 2 * length gates) parts.1 (room_step n level ts carried made bound),
    )

-- ---- the number of levels

digits_enough : (f m : ℕ) → m < 2 ^ f → m < 2 ^ digits_within f m
unfolding digits_within
digits_enough zero m within = within
digits_enough (suc f) m within =
    elim (cases_Bool (m == 0)) as (λ _. m < 2 ^ digits_within (suc f) m) [
      | inl none ↦
          let zero_digits : digits_within (suc f) m ≡ 0 = cond-true (m == 0) 0 (suc (digits_within f (m / 2))) none in
          let power : 2 ^ digits_within (suc f) m ≡ 1 = ap (λ n. 2 ^ n) zero_digits in
          let is_zero = eqb-true m 0 none in
          omega arith
      | inr some ↦
          let more_digits : digits_within (suc f) m ≡ suc (digits_within f (m / 2)) = cond-false (m == 0) 0 (suc (digits_within f (m / 2))) some in
          let half = digits_enough f (m / 2) (omega (arith, two-pow-succ f)) in
          let power : 2 ^ digits_within (suc f) m ≡ 2 ^ digits_within f (m / 2) + 2 ^ digits_within f (m / 2) = ap (λ n. 2 ^ n) more_digits ∙ two-pow-succ (digits_within f (m / 2)) in
          omega arith
    ]

below_power : (m : ℕ) → m < 2 ^ m
below_power zero = omega arith
below_power (suc m) = omega (arith, below_power m, two-pow-succ m)

pub levels_enough : (ts : List Weighted) → weight ts < 2 ^ level_count ts
levels_enough ts = digits_enough (weight ts) (weight ts) (below_power (weight ts))

pub whole_value : (p : Wire → Bool) (ts : List Weighted) → levels_value p ts 0 ≡ sum_by (λ t. cond (p (Input t.lit)) t.coef 0) ts
whole_value p [] = refl
whole_value p (t ∷ ts) =
    let head : cond (p (Input t.lit)) (t.coef / 1) 0 ≡ cond (p (Input t.lit)) t.coef 0 = ap (λ n. cond (p (Input t.lit)) n 0) (div-one t.coef) in
    omega (
      arith,
      head,
      whole_value p ts,
      sum_by-cons (λ (t : Weighted). cond (p (Input t.lit)) (t.coef / 1) 0) t ts,
      sum_by-cons (λ (t : Weighted). cond (p (Input t.lit)) t.coef 0) t ts,
    )

-- the inputs add up to the number of the ends
pub network_adds : (p : Wire → Bool) (ts : List Weighted) → All (Adds p) (network_gates ts) → sum_by (λ t. cond (p (Input t.lit)) t.coef 0) ts ≡ number p (network_ends ts)
network_adds p ts all =
    omega (
      arith,
      levels_add p (level_count ts) 0 ts [] 0 all (omega (arith, levels_enough ts, whole_value (λ _. true) ts)),
      whole_value p ts,
    )

-- ---- digits, one by one

digits_same : (f g m : ℕ) → m ≤ f → m ≤ g → digits_within f m ≡ digits_within g m
unfolding digits_within
digits_same zero zero m low high = refl
digits_same zero (suc g) m low high = sym (cond-true (m == 0) 0 (suc (digits_within g (m / 2))) (eq-eqb m 0 (omega arith)))
digits_same (suc f) zero m low high = cond-true (m == 0) 0 (suc (digits_within f (m / 2))) (eq-eqb m 0 (omega arith))
digits_same (suc f) (suc g) m low high =
    elim (cases_Bool (m == 0)) as (λ _. digits_within (suc f) m ≡ digits_within (suc g) m) [
      | inl none ↦ cond-true (m == 0) 0 (suc (digits_within f (m / 2))) none ∙ sym (cond-true (m == 0) 0 (suc (digits_within g (m / 2))) none)
      | inr some ↦
          let above : m ≢ 0 = eqb-false m 0 some in
          cond-false (m == 0) 0 (suc (digits_within f (m / 2))) some
          ∙ ap (λ n. suc n) (digits_same f g (m / 2) (omega arith) (omega arith))
          ∙ sym (cond-false (m == 0) 0 (suc (digits_within g (m / 2))) some)
    ]

pub digits_zero : digits_within 0 0 ≡ 0
unfolding digits_within
digits_zero = refl

pub digits_step : (m : ℕ) → 0 < m → digits_within m m ≡ 1 + digits_within (m / 2) (m / 2)
unfolding digits_within
digits_step zero above = absurd (omega arith)
digits_step (suc m) above =
    let rest = digits_same m (suc m / 2) (suc m / 2) (omega arith) (omega arith) in
    let here : digits_within (suc m) (suc m) ≡ suc (digits_within m (suc m / 2)) = cond-false (suc m == 0) 0 (suc (digits_within m (suc m / 2))) (ne_eqb (suc m) 0 (λ e. omega arith)) in
    omega (arith, here, rest)

-- a number below a power has few digits
pub digits_few : (d f m : ℕ) → m < 2 ^ d → digits_within f m ≤ d
unfolding digits_within
digits_few d zero m below = omega arith
digits_few zero (suc f) m below =
    let none : digits_within (suc f) m ≡ 0 = cond-true (m == 0) 0 (suc (digits_within f (m / 2))) (eq-eqb m 0 (omega arith)) in
    omega arith
digits_few (suc d) (suc f) m below =
    elim (cases_Bool (m == 0)) as (λ _. digits_within (suc f) m ≤ suc d) [
      | inl none ↦ let here : digits_within (suc f) m ≡ 0 = cond-true (m == 0) 0 (suc (digits_within f (m / 2))) none in omega arith
      | inr some ↦
          let here : digits_within (suc f) m ≡ suc (digits_within f (m / 2)) = cond-false (m == 0) 0 (suc (digits_within f (m / 2))) some in
          let rest = digits_few d f (m / 2) (omega (arith, two-pow-succ d)) in
          omega arith
    ]
