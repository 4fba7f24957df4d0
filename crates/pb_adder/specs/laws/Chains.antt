-- The sum along a network: what its inputs weigh becomes the number of its ends.
use Rattle.std.proofs.Common.{◌≡◌, ◌<◌, ◌≤◌, ◌+◌, ◌*◌, ◌/◌, ◌^◌, ℕ, Bool, true, false, cond, List, [], ◌∷◌, ◌++◌, length, refl, sym, ap, ◌∙◌, subst, arith, zero, suc, length-append, append_assoc}
use Rattle.std.specs.Prelude.{map, count_by}
use Rattle.std.proofs.lemmas.List.{length-map, append-nil}
use Rattle.std.proofs.lemmas.List.Sums.{sum_by-cons, sum_by-append, count_by-le-length}
use Rattle.std.proofs.Math.Nat.{two-pow-succ, mul-add, mul-le-mul_left, pow-le-pow_right}
use Rattle.std.proofs.Math.Numerals.{add-one}
use Rattle.pb_base.specs.declared.literal.Lit.{Lit}
use Rattle.pb_family.specs.Fresh.{positive_of}
use Rattle.pb_family.proofs.UnitSums.{count_by-cons}
use Rattle.pb_norm.specs.Constraints.{Weighted, weight}
use Rattle.pb_adder.specs.declared.gate.Wire.{Wire}
use Rattle.pb_adder.specs.declared.gate.Wire.TheVariants.{Made}
use Rattle.pb_adder.specs.Gates.{wire_lit, carry_wire}
use Rattle.pb_adder.specs.laws.GateTables.{one}
use Rattle.pb_adder.specs.Network.{inputs_at, level_gates, level_left, gates_of, oldest_of, level_end, queue_at, ends_from, level_count, network_ends}
use Rattle.pb_adder.specs.laws.NetworkLaws.{count_append, few_left, gates_length, end_value, number, levels_value, value_le, value_step, first_value, count_all, whole_value, levels_enough}
use Rattle.pb_derive.specs.Ones.{ones, unit_of}
use Rattle.pb_adder.specs.inner.RunningSums.{outputs, Sum, part, Exchanges, StaysUpTo, Chain}
use Rattle.pb_adder.specs.LeveledGates.{Leveled, at_level, leveled_from, leveled_gates}

-- ---- chains

pub chain_from : (first m : ℕ) (before other : Sum) (xs : List Leveled) (after : Sum) → ((p : Lit → Bool) → other p ≡ before p) → Chain first m before xs after → Chain first m other xs after
chain_from first m before other [] after same chain = λ p. same p ∙ chain p
chain_from first m before other (x ∷ xs) after same chain = (chain.0, (λ p. omega (arith, chain.1 p, same p)), chain.2, chain.3)

pub chain_then : (first m : ℕ) (before between after : Sum) (xs ys : List Leveled) → Chain first m before xs between → Chain first m between ys after → Chain first m before (xs ++ ys) after
chain_then first m before between after [] ys h k = chain_from first m between before ys after h k
chain_then first m before between after (x ∷ xs) ys h k = (h.0, h.1, h.2, chain_then first m h.0 between after xs ys h.3 k)

chain_to : (first m : ℕ) (before after other : Sum) (xs : List Leveled) → ((p : Lit → Bool) → after p ≡ other p) → Chain first m before xs after → Chain first m before xs other
chain_to first m before after other [] same chain = λ p. chain p ∙ same p
chain_to first m before after other (x ∷ xs) same chain = (chain.0, chain.1, chain.2, chain_to first m chain.0 after other xs same chain.3)

-- ---- the sum inside a level

-- a choice of literals as one of bits
abbrev pub on : ℕ → (Lit → Bool) → Wire → Bool
on first p w = p (wire_lit first w)

abbrev pub bits : ℕ → List Wire → Sum
bits first ws p = count_by (on first p) ws

-- the bits that wait at the level, the carries so far and the inputs above
abbrev pub waiting : ℕ → List Weighted → ℕ → List Wire → List Wire → Sum
waiting first ts level queue carries p = bits first queue p + 2 * (bits first carries p + levels_value (on first p) ts (level + 1))

abbrev pub level_sum : ℕ → List Weighted → ℕ → Sum → List Wire → List Wire → Sum
level_sum first ts level base queue carries p = base p + 2 ^ level * waiting first ts level queue carries p

times_both : (n x y u v : ℕ) → x + y ≡ u + v → n * x + n * y ≡ n * u + n * v
times_both n x y u v e = sym (mul-add n x y) ∙ ap (λ (k : ℕ). n * k) e ∙ mul-add n u v

part-unit : (p : Lit → Bool) (l : Lit) (ts : List Weighted) → part (unit_of l ∷ ts) p ≡ one (p l) + part ts p
part-unit p l ts = sum_by-cons (λ (t : Weighted). cond (p t.lit) t.coef 0) (unit_of l) ts

pub part-outputs : (p : Lit → Bool) (s d : ℕ) → part (outputs s d) p ≡ one (p (positive_of s)) + 2 * one (p (positive_of d))
part-outputs p s d =
    omega (arith, sum_by-cons (λ (t : Weighted). cond (p t.lit) t.coef 0) (unit_of (positive_of s)) (record { coef = 2; lit = positive_of d } ∷ []), double (p (positive_of d)))
  where
    double : (b : Bool) → cond b 2 0 ≡ 2 * one b
    double true = refl
    double false = refl

-- a sum at its level, after an exchange of what waits there
waiting_exchange : (first : ℕ) (ts : List Weighted) (level : ℕ) (base : Sum) (queue carries queue' carries' : List Wire) (inputs : List Lit) (s d : ℕ)
    → ((p : Lit → Bool) → waiting first ts level queue' carries' p + part (ones inputs) p ≡ waiting first ts level queue carries p + part (outputs s d) p)
    → Exchanges (2 ^ level) inputs s d (level_sum first ts level base queue carries) (level_sum first ts level base queue' carries')
waiting_exchange first ts level base queue carries queue' carries' inputs s d same p =
    omega (arith, times_both (2 ^ level) (waiting first ts level queue' carries' p) (part (ones inputs) p) (waiting first ts level queue carries p) (part (outputs s d) p) (same p))

-- how much may wait
abbrev room_at : List Weighted → ℕ → List Wire → List Wire → ℕ
room_at ts level queue carries = length queue + 1 + 2 * (length carries + levels_value (λ _. true) ts (level + 1))

waiting_le : (first : ℕ) (ts : List Weighted) (level : ℕ) (queue carries : List Wire) (p : Lit → Bool) → waiting first ts level queue carries p ≤ length queue + 2 * (length carries + levels_value (λ _. true) ts (level + 1))
waiting_le first ts level queue carries p =
    omega (arith, count_by-le-length (on first p) queue, count_by-le-length (on first p) carries, value_le (on first p) ts (level + 1))

stays : (first m : ℕ) (ts : List Weighted) (level : ℕ) (base : Sum) (queue carries : List Wire) (room : ℕ) → length queue + 2 * (length carries + levels_value (λ _. true) ts (level + 1)) ≤ room
    → ((p : Lit → Bool) → base p + 2 ^ level * room ≤ m) → StaysUpTo m (level_sum first ts level base queue carries)
stays first m ts level base queue carries room fits within p =
    let below : waiting first ts level queue carries p ≤ room = omega (arith, waiting_le first ts level queue carries p, fits) in
    omega (arith, within p, mul-le-mul_left (2 ^ level) below)

level_chain : (first m : ℕ) (ts : List Weighted) (level : ℕ) (base : Sum) (room n : ℕ) (queue carries : List Wire) (made : ℕ)
    → room_at ts level queue carries ≤ room → ((p : Lit → Bool) → base p + 2 ^ level * room ≤ m)
    → Chain first m (level_sum first ts level base queue carries) (at_level level (level_gates n queue made))
    (level_sum first ts level base (level_left n queue made) (carries ++ map carry_wire (level_gates n queue made)))
level_chain first m ts level base room zero queue carries made fits within =
    subst (λ (cs : List Wire). Chain first m (level_sum first ts level base queue carries) [] (level_sum first ts level base queue cs)) (sym (append-nil carries)) (λ p. refl)
level_chain first m ts level base room (suc n) [] carries made fits within =
    subst (λ (cs : List Wire). Chain first m (level_sum first ts level base [] carries) [] (level_sum first ts level base [] cs)) (sym (append-nil carries)) (λ p. refl)
level_chain first m ts level base room (suc n) (a ∷ []) carries made fits within =
    subst (λ (cs : List Wire). Chain first m (level_sum first ts level base (a ∷ []) carries) [] (level_sum first ts level base (a ∷ []) cs)) (sym (append-nil carries)) (λ p. refl)
level_chain first m ts level base room (suc n) (a ∷ b ∷ []) carries made fits within =
    let s = Made made in
    let d = Made (made + 1) in
    let inputs = wire_lit first a ∷ wire_lit first b ∷ [] in
    let size = length-append carries (d ∷ []) in (
      level_sum first ts level base (s ∷ []) (carries ++ d ∷ []),
      waiting_exchange first ts level base (a ∷ b ∷ []) carries (s ∷ []) (carries ++ d ∷ []) inputs (first + made) (first + (made + 1)) (λ p.
          omega (
            arith,
            count_append (on first p) carries d,
            count_by-cons (on first p) a (b ∷ []),
            count_by-cons (on first p) b [],
            count_by-cons (on first p) s [],
            part-unit p (wire_lit first a) (unit_of (wire_lit first b) ∷ []),
            part-unit p (wire_lit first b) [],
            part-outputs p (first + made) (first + (made + 1)),
          )),
      stays first m ts level base (s ∷ []) (carries ++ d ∷ []) room (omega (arith, size, fits)) within,
      (λ p. refl),
    )
level_chain first m ts level base room (suc n) (a ∷ b ∷ c ∷ rest) carries made fits within =
    let s = Made made in
    let d = Made (made + 1) in
    let inputs = wire_lit first a ∷ wire_lit first b ∷ wire_lit first c ∷ [] in
    let size = length-append carries (d ∷ []) in
    let longer = length-append rest (s ∷ []) in
    let later = level_gates n (rest ++ s ∷ []) (made + 2) in
    let queue = a ∷ b ∷ c ∷ rest in (
      level_sum first ts level base (rest ++ s ∷ []) (carries ++ d ∷ []),
      waiting_exchange first ts level base queue carries (rest ++ s ∷ []) (carries ++ d ∷ []) inputs (first + made) (first + (made + 1)) (λ p.
          omega (
            arith,
            count_append (on first p) carries d,
            count_append (on first p) rest s,
            count_by-cons (on first p) a (b ∷ c ∷ rest),
            count_by-cons (on first p) b (c ∷ rest),
            count_by-cons (on first p) c rest,
            part-unit p (wire_lit first a) (unit_of (wire_lit first b) ∷ unit_of (wire_lit first c) ∷ []),
            part-unit p (wire_lit first b) (unit_of (wire_lit first c) ∷ []),
            part-unit p (wire_lit first c) [],
            part-outputs p (first + made) (first + (made + 1)),
          )),
      stays first m ts level base (rest ++ s ∷ []) (carries ++ d ∷ []) room (omega (arith, size, longer, fits)) within,
      subst (λ (cs : List Wire). Chain first m (level_sum first ts level base (rest ++ s ∷ []) (carries ++ d ∷ [])) (at_level level later)
          (level_sum first ts level base (level_left n (rest ++ s ∷ []) (made + 2)) cs)) (append_assoc carries (d ∷ []) (map carry_wire later))
          (level_chain first m ts level base room n (rest ++ s ∷ []) (carries ++ d ∷ []) (made + 2) (omega (arith, size, longer, fits)) within),
    )

-- ---- all levels

-- the sum at the foot of a level
abbrev pub foot_sum : ℕ → List Weighted → ℕ → Sum → List Wire → Sum
foot_sum first ts level base carried p = base p + 2 ^ level * (levels_value (on first p) ts level + bits first carried p)

abbrev pub foot_room : List Weighted → ℕ → List Wire → ℕ
foot_room ts level carried = levels_value (λ _. true) ts level + length carried

end_le : (p : Wire → Bool) (ws : List Wire) → length ws ≤ 1 → end_value p (oldest_of ws) ≤ length ws
end_le p ws few = omega (arith, first_value p ws few, count_by-le-length p ws)

next_power : (level : ℕ) → 2 ^ (level + 1) ≡ 2 * 2 ^ level
next_power level = ap (λ n. 2 ^ n) (add-one level) ∙ omega (arith, two-pow-succ level)

-- 2 ^ level, once and twice
twice_both : (level x y : ℕ) → 2 ^ (level + 1) * x + 2 ^ level * y ≡ 2 ^ level * (y + 2 * x)
twice_both level x y =
    let n = 2 ^ level in
    let e : 2 ^ (level + 1) * x ≡ 2 * (n * x) = ap (λ (k : ℕ). k * x) (next_power level) ∙ grind arith in
    let f : n * (y + 2 * x) ≡ n * y + 2 * (n * x) = mul-add n y (2 * x) ∙ ap (λ (k : ℕ). n * y + k) (grind arith) in
    omega (arith, e, f)

-- the sum with the end of a level
abbrev pub with_end_of : ℕ → ℕ → Sum → List Wire → ℕ → Sum
with_end_of first level base queue made p = base p + 2 ^ level * end_value (on first p) (level_end queue made)

pub levels_chain : (first m w : ℕ) (ts : List Weighted) (n level : ℕ) (base : Sum) (carried : List Wire) (made : ℕ)
    → foot_room ts level carried < 2 ^ n
    → ((p : Lit → Bool) → base p + 2 ^ level * foot_room ts level carried ≤ w + 2 ^ level)
    → w + 2 ^ (level + n) ≤ m
    → Chain first m (foot_sum first ts level base carried) (leveled_from n level ts carried made)
    (λ p. base p + 2 ^ level * number (on first p) (ends_from n level ts carried made))
levels_chain first m w ts zero level base carried made few within fits = λ p.
    let none : levels_value (on first p) ts level + bits first carried p ≡ 0 = omega (arith, value_le (on first p) ts level, count_by-le-length (on first p) carried, few) in
    ap (λ (k : ℕ). base p + 2 ^ level * k) none
levels_chain first m w ts (suc n) level base carried made few within fits =
    let queue = queue_at ts level carried in
    let gates = gates_of queue made in
    let carries = map carry_wire gates in
    let left = level_left (length queue / 2) queue made in
    let next = made + 2 * length gates in
    let base' = with_end_of first level base queue made in
    let room = foot_room ts level carried + 1 in
    let unit_value = value_step (λ _. true) ts level in
    let inputs_all = count_all (inputs_at ts level) in
    let queue_size = length-append (inputs_at ts level) carried in
    let few_here : length left ≤ 1 = few_left (length queue / 2) queue made (omega arith) in
    let carries_size : length carries ≡ length queue / 2 = length-map gates carry_wire ∙ gates_length queue made in
    let above : (p : Lit → Bool) → base p + 2 ^ level * room ≤ w + 2 ^ (level + 1) = λ p. omega (arith, within p, mul-add (2 ^ level) (foot_room ts level carried) 1, next_power level) in
    let power : 2 ^ (level + 1) ≤ 2 ^ (level + suc n) =
    pow-le-pow_right {n = 2} (omega arith) {i = level + 1} {j = level + suc n} (omega arith) in
    let here = level_chain first m ts level base room (length queue / 2) queue [] made (omega (arith, unit_value, inputs_all, queue_size)) (λ p. omega (arith, above p, power, fits)) in
    let start : (p : Lit → Bool) → foot_sum first ts level base carried p ≡ level_sum first ts level base queue [] p = λ p.
    let inner : levels_value (on first p) ts level + bits first carried p ≡ waiting first ts level queue [] p =
    omega (arith, value_step (on first p) ts level, sum_by-append (λ y. cond (on first p y) 1 0) (inputs_at ts level) carried) in
    ap (λ (k : ℕ). base p + 2 ^ level * k) inner in
    let between : (p : Lit → Bool) → foot_sum first ts (level + 1) base' carries p ≡ level_sum first ts level base left carries p = λ p.
    let end = end_value (on first p) (level_end queue made) in
    let inner : end + 2 * (levels_value (on first p) ts (level + 1) + bits first carries p) ≡ waiting first ts level left carries p = omega (arith, first_value (on first p) left few_here) in
    omega (arith, twice_both level (levels_value (on first p) ts (level + 1) + bits first carries p) end, ap (λ (k : ℕ). 2 ^ level * k) inner) in
    let later = levels_chain first m w ts n (level + 1) base' carries next
    (omega (arith, unit_value, inputs_all, queue_size, carries_size, few, two-pow-succ n))
    (λ p.
    let end = end_value (on first p) (level_end queue made) in
    let small : end + 2 * foot_room ts (level + 1) carries ≤ room = omega (arith, end_le (on first p) left few_here, few_here, unit_value, inputs_all, queue_size, carries_size) in
    omega (arith, twice_both level (foot_room ts (level + 1) carries) end, mul-le-mul_left (2 ^ level) small, above p))
    (omega (arith, fits, ap (λ j. 2 ^ j) (let e : level + 1 + n ≡ level + suc n = omega arith in e))) in
    let es = ends_from n (level + 1) ts carries next in
    chain_then first m (foot_sum first ts level base carried) (level_sum first ts level base left carries) (λ p. base p + 2 ^ level * number (on first p) (ends_from (suc n) level ts carried made))
    (at_level level gates) (leveled_from n (level + 1) ts carries next)
    (chain_from first m (level_sum first ts level base queue []) (foot_sum first ts level base carried) (at_level level gates) (level_sum first ts level base left carries) start here)
    (chain_from first m (foot_sum first ts (level + 1) base' carries) (level_sum first ts level base left carries) (leveled_from n (level + 1) ts carries next) (λ p. base p + 2 ^ level * number (on first p) (ends_from (suc n) level ts carried made))
    (λ p. sym (between p))
    (chain_to first m (foot_sum first ts (level + 1) base' carries) (λ p. base' p + 2 ^ (level + 1) * number (on first p) es) (λ p. base p + 2 ^ level * number (on first p) (ends_from (suc n) level ts carried made))
    (leveled_from n (level + 1) ts carries next)
    (λ p. omega (arith, twice_both level (number (on first p) es) (end_value (on first p) (level_end queue made)))) later))

-- a whole network
pub network_chain : (first : ℕ) (ts : List Weighted) → Chain first (weight ts + 2 ^ level_count ts) (part ts) (leveled_gates ts) (λ p. number (on first p) (network_ends ts))
network_chain first ts =
    let m = weight ts + 2 ^ level_count ts in
    let whole = whole_value (λ _. true) ts in
    let power : 2 ^ (0 + level_count ts) ≡ 2 ^ level_count ts = ap (λ j. 2 ^ j) (let e : 0 + level_count ts ≡ level_count ts = omega arith in e) in
    let all = levels_chain first m (weight ts) ts (level_count ts) 0 (λ p. 0) [] 0 (omega (arith, whole, levels_enough ts)) (λ p. omega (arith, whole)) (omega (arith, power)) in
    chain_from first m (foot_sum first ts 0 (λ p. 0) []) (part ts) (leveled_gates ts) (λ p. number (on first p) (network_ends ts)) (λ p. omega (arith, whole_value (on first p) ts))
    (chain_to first m (foot_sum first ts 0 (λ p. 0) []) (λ p. 0 + 1 * number (on first p) (network_ends ts)) (λ p. number (on first p) (network_ends ts)) (leveled_gates ts) (λ p. omega arith) all)
