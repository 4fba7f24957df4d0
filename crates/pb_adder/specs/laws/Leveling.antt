-- The adders with their levels are those of the network.
use Rattle.std.proofs.Common.{◌≡◌, ◌≤◌, ◌<◌, ◌+◌, ◌*◌, ◌^◌, ℕ, List, [], ◌∷◌, ◌++◌, length, refl, sym, ap, ◌∙◌, subst, arith, zero, suc}
use Rattle.std.specs.Prelude.{All, map, flat_map}
use Rattle.std.proofs.lemmas.List.{length-map}
use Rattle.std.proofs.Math.Nat.{pow-le-pow_right}
use Rattle.std.proofs.lemmas.List.Elements.{All-nil, All-append, All-map, All-weaker}
use Rattle.std.proofs.lemmas.List.Folds.{flat_map-map}
use Rattle.pb_norm.specs.Constraints.{Weighted, weight}
use Rattle.pb_derive.proofs.Justified.{all_unmapped}
use Rattle.pb_adder.specs.declared.gate.Wire.{Wire}
use Rattle.pb_adder.specs.declared.gate.Gate.{Gate}
use Rattle.pb_adder.specs.Gates.{carry_wire}
use Rattle.pb_adder.specs.Network.{gates_of, queue_at, gates_from, level_count, network_gates}
use Rattle.pb_adder.specs.laws.NetworkLaws.{digits_few}
use Rattle.pb_adder.specs.GateReifications.{gate_reifications}
use Rattle.pb_adder.specs.LeveledGates.{Leveled, leveled, at_level, leveled_from, leveled_gates}
use Rattle.pb_adder.specs.laws.TreeOps.{reifications_of}

abbrev pub gates_in : List Leveled → List Gate
gates_in xs = map (λ (x : Leveled). x.gate) xs

gates-append : (level : ℕ) (gs : List Gate) (xs : List Leveled) → gates_in (at_level level gs ++ xs) ≡ gs ++ gates_in xs
gates-append level [] xs = refl
gates-append level (g ∷ gs) xs = ap (λ (hs : List Gate). g ∷ hs) (gates-append level gs xs)

leveled-gates : (n level : ℕ) (ts : List Weighted) (carried : List Wire) (made : ℕ) → gates_in (leveled_from n level ts carried made) ≡ gates_from n level ts carried made
leveled-gates zero level ts carried made = refl
leveled-gates (suc n) level ts carried made =
    let gates = gates_of (queue_at ts level carried) made in
    let next = made + 2 * length gates in
    gates-append level gates (leveled_from n (level + 1) ts (map carry_wire gates) next) ∙ ap (λ (hs : List Gate). gates ++ hs) (leveled-gates n (level + 1) ts (map carry_wire gates) next)

pub network_leveled : (ts : List Weighted) → gates_in (leveled_gates ts) ≡ network_gates ts
network_leveled ts = leveled-gates (level_count ts) 0 ts [] 0

pub leveled_length : (ts : List Weighted) → length (leveled_gates ts) ≡ length (network_gates ts)
leveled_length ts = sym (length-map (leveled_gates ts) (λ (x : Leveled). x.gate)) ∙ ap length (network_leveled ts)

-- what holds of each adder of the network holds of each with its level
pub network_each : (P : Gate → Type 0) (ts : List Weighted) → All P (network_gates ts) → All (λ (x : Leveled). P x.gate) (leveled_gates ts)
network_each P ts h = all_unmapped P (λ (x : Leveled). x.gate) (leveled_gates ts) (subst (All P) (sym (network_leveled ts)) h)

pub network_reifications : (first : ℕ) (ts : List Weighted) → reifications_of first (leveled_gates ts) ≡ flat_map (gate_reifications first) (network_gates ts)
network_reifications first ts = sym (flat_map-map (gate_reifications first) (λ (x : Leveled). x.gate) (leveled_gates ts)) ∙ ap (flat_map (gate_reifications first)) (network_leveled ts)

-- ---- no level is high

levels_low : (n level : ℕ) (ts : List Weighted) (carried : List Wire) (made : ℕ) → All (λ (x : Leveled). x.level < level + n) (leveled_from n level ts carried made)
levels_low zero level ts carried made = All-nil (λ (x : Leveled). x.level < level + 0)
levels_low (suc n) level ts carried made =
    let gates = gates_of (queue_at ts level carried) made in
    let next = made + 2 * length gates in
    let Q : Leveled → Type 0 = λ x. x.level < level + suc n in
    All-append Q (at_level level gates) (leveled_from n (level + 1) ts (map carry_wire gates) next)
    (All-map Q (leveled level) gates (λ k d h. (let here : level < level + suc n = omega arith in here)))
    (All-weaker (λ (x : Leveled). x.level < level + 1 + n) Q (λ x h. omega (arith, h)) (leveled_from n (level + 1) ts (map carry_wire gates) next) (levels_low n (level + 1) ts (map carry_wire gates) next))

pub few_levels : (ts : List Weighted) → weight ts < 2 ^ 100 → level_count ts ≤ 100
few_levels ts small = digits_few 100 (weight ts) (weight ts) small

pub network_low : (ts : List Weighted) → weight ts < 2 ^ 100 → All (λ (x : Leveled). 2 ^ x.level ≤ 2 ^ 100) (leveled_gates ts)
network_low ts small =
    All-weaker (λ (x : Leveled). x.level < 0 + level_count ts) (λ (x : Leveled). 2 ^ x.level ≤ 2 ^ 100) (λ x h. pow-le-pow_right {n = 2} (omega arith) {i = x.level} {j = 100} (omega (arith, h, few_levels ts small)))
    (leveled_gates ts) (levels_low (level_count ts) 0 ts [] 0)

pub count_power : (ts : List Weighted) → weight ts < 2 ^ 100 → 2 ^ level_count ts ≤ 2 ^ 100
count_power ts small = pow-le-pow_right {n = 2} (omega arith) {i = level_count ts} {j = 100} (few_levels ts small)

pub network_levels : (ts : List Weighted) → weight ts < 2 ^ 100 → All (λ (x : Leveled). x.level < 126) (leveled_gates ts)
network_levels ts small =
    All-weaker (λ (x : Leveled). x.level < 0 + level_count ts) (λ (x : Leveled). x.level < 126) (λ x h. omega (arith, h, few_levels ts small)) (leveled_gates ts) (levels_low (level_count ts) 0 ts [] 0)
