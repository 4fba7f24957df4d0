-- Each adder of a network reads inputs and what earlier adders made.
use Rattle.std.proofs.Common.{◌≡◌, ◌<◌, ◌≤◌, ◌+◌, ◌*◌, ◌/◌, ◌==◌, ℕ, cond, List, [], ◌∷◌, ◌++◌, length, refl, subst, arith, zero, suc, length-append}
use Rattle.std.specs.Prelude.{All, map, Option, Some, None}
use Rattle.std.specs.List.{filter}
use Rattle.std.proofs.lemmas.Bool.{cond_both}
use Rattle.std.proofs.lemmas.List.Elements.{All-append, All-cons, All-filter, All-head, All-map, All-nil, All-tail}
use Rattle.pb_base.specs.declared.literal.Lit.{Lit}
use Rattle.pb_base.proofs.Members.{All-append_both}
use Rattle.pb_norm.specs.Constraints.{Weighted}
use Rattle.pb_adder.specs.declared.gate.Wire.{Wire}
use Rattle.pb_adder.specs.declared.gate.Wire.TheVariants.{Input, Made}
use Rattle.pb_adder.specs.declared.gate.Gate.{Gate}
use Rattle.pb_adder.specs.declared.gate.Gate.TheVariants.{Full}
use Rattle.pb_adder.specs.Gates.{carry_wire, gate_inputs, made_of}
use Rattle.pb_adder.specs.Comparator.{is_odd, with_end, covering, row_of, comparator_rows}
use Rattle.pb_adder.specs.Network.{has_bit, inputs_at, level_gates, level_left, gates_of, oldest_of, level_end, queue_at, gates_from, ends_from, level_count, network_gates, network_ends}

-- an input with a property, or a fresh variable below a number
abbrev pub Known : (Lit → Type 0) → ℕ → Wire → Type 0
Known I m (Input l) = I l
Known I m (Made k) = k < m

-- the adders make two variables each, one after another, and read earlier ones
abbrev pub Wired : (Lit → Type 0) → ℕ → List Gate → Type 0
Wired I m [] = Unit {0}
Wired I m (g ∷ gs) = All (Known I m) (gate_inputs g) × (made_of g ≡ m) × Wired I (m + 2) gs

abbrev pub EndKnown : (Lit → Type 0) → ℕ → Option Wire → Type 0
EndKnown I m None = Unit {0}
EndKnown I m (Some w) = Known I m w

pub known_more : (I : Lit → Type 0) (m n : ℕ) → m ≤ n → (w : Wire) → Known I m w → Known I n w
known_more I m n le (Input l) h = h
known_more I m n le (Made k) h = omega arith

pub all_more : (I : Lit → Type 0) (m n : ℕ) → m ≤ n → (ws : List Wire) → All (Known I m) ws → All (Known I n) ws
all_more I m n le ws all = λ k d h. known_more I m n le _ (all k d h)

-- ---- one level

pub joined_known : (I : Lit → Type 0) (m : ℕ) (rest : List Wire) → All (Known I m) rest → All (Known I (m + 2)) (rest ++ Made m ∷ [])
joined_known I m rest all =
    All-append (Known I (m + 2)) rest (Made m ∷ []) (all_more I m (m + 2) (omega arith) rest all)
    (All-cons (Known I (m + 2)) (Made m) [] (let h : m < m + 2 = omega arith in h) (All-nil (Known I (m + 2))))

level_wired : (I : Lit → Type 0) (n : ℕ) (queue : List Wire) (m : ℕ) → All (Known I m) queue → Wired I m (level_gates n queue m)
level_wired I zero queue m all = tt
level_wired I (suc n) [] m all = tt
level_wired I (suc n) (a ∷ []) m all = tt
level_wired I (suc n) (a ∷ b ∷ []) m all = (all, refl, tt)
level_wired I (suc n) (a ∷ b ∷ c ∷ rest) m all =
    let parts = All-append_both (Known I m) (a ∷ b ∷ c ∷ []) rest all in
    (parts.0, refl, level_wired I n (rest ++ Made m ∷ []) (m + 2) (joined_known I m rest parts.1))

left_known : (I : Lit → Type 0) (n : ℕ) (queue : List Wire) (m : ℕ) → All (Known I m) queue → All (Known I (m + 2 * length (level_gates n queue m))) (level_left n queue m)
left_known I zero queue m all = all_more I m (m + 2 * 0) (omega arith) queue all
left_known I (suc n) [] m all = all_more I m (m + 2 * 0) (omega arith) [] all
left_known I (suc n) (a ∷ []) m all = all_more I m (m + 2 * 0) (omega arith) (a ∷ []) all
left_known I (suc n) (a ∷ b ∷ []) m all = All-cons (Known I (m + 2 * 1)) (Made m) [] (let h : m < m + 2 * 1 = omega arith in h) (All-nil (Known I (m + 2 * 1)))
left_known I (suc n) (a ∷ b ∷ c ∷ rest) m all =
    let parts = All-append_both (Known I m) (a ∷ b ∷ c ∷ []) rest all in
    let later = level_gates n (rest ++ Made m ∷ []) (m + 2) in
    all_more I (m + 2 + 2 * length later) (m + 2 * length (Full a b c m ∷ later)) (omega arith) (level_left n (rest ++ Made m ∷ []) (m + 2))
    (left_known I n (rest ++ Made m ∷ []) (m + 2) (joined_known I m rest parts.1))

pub carries_known : (I : Lit → Type 0) (gs : List Gate) (m : ℕ) → Wired I m gs → All (Known I (m + 2 * length gs)) (map carry_wire gs)
carries_known I [] m wired = All-nil (Known I (m + 2 * 0))
carries_known I (g ∷ gs) m wired =
    let same = wired.1 in
    All-cons (Known I (m + 2 * length (g ∷ gs))) (carry_wire g) (map carry_wire gs)
    (let h : made_of g + 1 < m + 2 * length (g ∷ gs) = omega arith in h)
    (all_more I (m + 2 + 2 * length gs) (m + 2 * length (g ∷ gs)) (omega arith) (map carry_wire gs) (carries_known I gs (m + 2) wired.2))

wired_append : (I : Lit → Type 0) (gs hs : List Gate) (m : ℕ) → Wired I m gs → Wired I (m + 2 * length gs) hs → Wired I m (gs ++ hs)
wired_append I [] hs m first rest = subst (λ (k : ℕ). Wired I k hs) (let e : m + 2 * 0 ≡ m = omega arith in e) rest
wired_append I (g ∷ gs) hs m first rest =
    (first.0, first.1, wired_append I gs hs (m + 2) first.2 (subst (λ (k : ℕ). Wired I k hs) (let e : m + 2 * length (g ∷ gs) ≡ m + 2 + 2 * length gs = omega arith in e) rest))

first_known : (I : Lit → Type 0) (m : ℕ) (ws : List Wire) → All (Known I m) ws → EndKnown I m (oldest_of ws)
first_known I m [] all = tt
first_known I m (w ∷ ws) all = All-head (Known I m) w ws all

-- ---- all levels

inputs_known : (I : Lit → Type 0) (m level : ℕ) (ts : List Weighted) → All (λ t. I t.lit) ts → All (Known I m) (inputs_at ts level)
inputs_known I m level ts all = All-map (Known I m) (λ (t : Weighted). Input t.lit) (filter (has_bit level) ts) (All-filter (has_bit level) (λ t. I t.lit) ts all)

queue_known : (I : Lit → Type 0) (m level : ℕ) (ts : List Weighted) (carried : List Wire) → All (λ t. I t.lit) ts → All (Known I m) carried → All (Known I m) (queue_at ts level carried)
queue_known I m level ts carried inputs known = All-append (Known I m) (inputs_at ts level) carried (inputs_known I m level ts inputs) known

pub levels_wired : (I : Lit → Type 0) (n level : ℕ) (ts : List Weighted) (carried : List Wire) (m : ℕ) → All (λ t. I t.lit) ts → All (Known I m) carried
    → Wired I m (gates_from n level ts carried m)
levels_wired I zero level ts carried m inputs known = tt
levels_wired I (suc n) level ts carried m inputs known =
    let queue = queue_at ts level carried in
    let gates = gates_of queue m in
    let here = level_wired I (length queue / 2) queue m (queue_known I m level ts carried inputs known) in
    wired_append I gates (gates_from n (level + 1) ts (map carry_wire gates) (m + 2 * length gates)) m here
    (levels_wired I n (level + 1) ts (map carry_wire gates) (m + 2 * length gates) inputs (carries_known I gates m here))

pub levels_ends : (I : Lit → Type 0) (n level : ℕ) (ts : List Weighted) (carried : List Wire) (m : ℕ) → All (λ t. I t.lit) ts → All (Known I m) carried
    → All (EndKnown I (m + 2 * length (gates_from n level ts carried m))) (ends_from n level ts carried m)
levels_ends I zero level ts carried m inputs known = All-nil (EndKnown I (m + 2 * 0))
levels_ends I (suc n) level ts carried m inputs known =
    let queue = queue_at ts level carried in
    let gates = gates_of queue m in
    let within = queue_known I m level ts carried inputs known in
    let here = level_wired I (length queue / 2) queue m within in
    let later = gates_from n (level + 1) ts (map carry_wire gates) (m + 2 * length gates) in
    let size = length-append gates later in
    let total = m + 2 * length (gates ++ later) in
    let left = level_left (length queue / 2) queue m in
    let rest = levels_ends I n (level + 1) ts (map carry_wire gates) (m + 2 * length gates) inputs (carries_known I gates m here) in
    All-cons (EndKnown I total) (level_end queue m) (ends_from n (level + 1) ts (map carry_wire gates) (m + 2 * length gates))
    (first_known I total left (all_more I (m + 2 * length gates) total (omega arith) left (left_known I (length queue / 2) queue m within)))
    (λ k d h. end_more (m + 2 * length gates + 2 * length later) total (omega arith) _ (rest k d h))
  where
    end_more : (a b : ℕ) → a ≤ b → (e : Option Wire) → EndKnown I a e → EndKnown I b e
    end_more a b le None h = tt
    end_more a b le (Some w) h = known_more I a b le w h

-- ---- rows

FoundKnown : (Lit → Type 0) → ℕ → Option (List Wire) → Type 0
FoundKnown I m None = Unit {0}
FoundKnown I m (Some ws) = All (Known I m) ws

with_end_known : (I : Lit → Type 0) (m : ℕ) (e : Option Wire) (rest : Option (List Wire)) → EndKnown I m e → FoundKnown I m rest → FoundKnown I m (with_end e rest)
unfolding FoundKnown
with_end_known I m None rest he hr = tt
with_end_known I m (Some w) None he hr = tt
with_end_known I m (Some w) (Some ws) he hr = All-cons (Known I m) w ws he hr

covering_known : (I : Lit → Type 0) (m k : ℕ) (es : List (Option Wire)) → All (EndKnown I m) es → FoundKnown I m (covering k es)
unfolding FoundKnown
covering_known I m k [] all = cond_both (k == 0) (Some []) None (FoundKnown I m) (λ _. All-nil (Known I m)) (λ _. tt)
covering_known I m k (e ∷ es) all =
    let rest = covering_known I m (k / 2) es (All-tail (EndKnown I m) e es all) in
    cond_both (is_odd k) (with_end e (covering (k / 2) es)) (covering (k / 2) es) (FoundKnown I m)
    (λ _. with_end_known I m e (covering (k / 2) es) (All-head (EndKnown I m) e es all) rest)
    (λ _. rest)

row_known : (I : Lit → Type 0) (m : ℕ) (w : Wire) (found : Option (List Wire)) → Known I m w → FoundKnown I m found → All (All (Known I m)) (row_of w found)
unfolding FoundKnown
row_known I m w None known rest = All-nil (All (Known I m))
row_known I m w (Some ws) known rest = All-cons (All (Known I m)) (w ∷ ws) [] (All-cons (Known I m) w ws known rest) (All-nil (All (Known I m)))

pub rows_known : (I : Lit → Type 0) (m k : ℕ) (es : List (Option Wire)) → All (EndKnown I m) es → All (All (Known I m)) (comparator_rows k es)
rows_known I m k [] all = All-nil (All (Known I m))
rows_known I m k (None ∷ es) all = rows_known I m (k / 2) es (All-tail (EndKnown I m) None es all)
rows_known I m k (Some w ∷ es) all =
    let tail = All-tail (EndKnown I m) (Some w) es all in
    let row = row_of w (covering (k / 2) es) in
    All-append (All (Known I m)) (cond (is_odd k) [] row) (comparator_rows (k / 2) es)
    (cond_both (is_odd k) [] row (All (All (Known I m))) (λ _. All-nil (All (Known I m))) (λ _. row_known I m w (covering (k / 2) es) (All-head (EndKnown I m) (Some w) es all) (covering_known I m (k / 2) es tail)))
    (rows_known I m (k / 2) es tail)

-- ---- a whole network

pub network_wired : (I : Lit → Type 0) (ts : List Weighted) → All (λ t. I t.lit) ts → Wired I 0 (network_gates ts)
network_wired I ts inputs = levels_wired I (level_count ts) 0 ts [] 0 inputs (All-nil (Known I 0))

pub network_rows : (I : Lit → Type 0) (k : ℕ) (ts : List Weighted) → All (λ t. I t.lit) ts → All (All (Known I (2 * length (network_gates ts)))) (comparator_rows k (network_ends ts))
network_rows I k ts inputs =
    let same : 0 + 2 * length (network_gates ts) ≡ 2 * length (network_gates ts) = omega arith in
    subst (λ (n : ℕ). All (All (Known I n)) (comparator_rows k (network_ends ts))) same
    (rows_known I (0 + 2 * length (network_gates ts)) k (network_ends ts) (levels_ends I (level_count ts) 0 ts [] 0 inputs (All-nil (Known I 0))))
