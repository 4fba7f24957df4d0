-- Pairs of different elements in joined lists, and that the inputs and outputs of each adder of a network are of different variables.
use Rattle.std.proofs.Common.{◌≢◌, ◌<◌, ◌≤◌, ◌+◌, ◌*◌, ◌/◌, ℕ, List, [], ◌∷◌, ◌++◌, length, arith, zero, suc, ◌≡◌, sym, ◌∙◌}
use Rattle.std.specs.Prelude.{All, map}
use Rattle.std.specs.List.{AllPairs, filter}
use Rattle.std.proofs.lemmas.List.Elements.{All-cons, All-nil, All-append, All-map, All-filter, All-weaker, All-head, All-tail}
use Rattle.std.proofs.lemmas.List.Kept.{AllPairs-cons, AllPairs-filter}
use Rattle.pb_base.specs.declared.literal.Lit.{Lit}
use Rattle.pb_base.proofs.Members.{All-append_both}
use Rattle.pb_base.proofs.Pairs.{AllPairs-nil, AllPairs-map, AllPairs-head, AllPairs-tail}
use Rattle.pb_norm.specs.Constraints.{Weighted}
use Rattle.pb_norm.specs.BoundedSums.{IsOverDistinct}
use Rattle.pb_norm.proofs.Proper.{apart}
use Rattle.pb_family.specs.Families.{VarsBelow}
use Rattle.pb_adder.specs.declared.gate.Wire.{Wire}
use Rattle.pb_adder.specs.declared.gate.Wire.TheVariants.{Input, Made}
use Rattle.pb_adder.specs.declared.gate.Gate.{Gate}
use Rattle.pb_adder.specs.declared.gate.Gate.TheVariants.{Full, Half}
use Rattle.pb_adder.specs.Gates.{wire_lit, made_of, carry_wire}
use Rattle.pb_adder.specs.Network.{has_bit, inputs_at, level_gates, gates_of, queue_at, gates_from, level_count, network_gates}
use Rattle.pb_adder.specs.laws.Wired.{Known, Wired, joined_known, levels_wired, carries_known}
use Rattle.pb_adder.specs.inner.RunningSums.{IsApart}
use Rattle.std.proofs.lemmas.List.{length-map, get_or-map}
use Rattle.pb_derive.proofs.PinLemmas.{AreApartLits}

pub AllPairs-append : {X : Type 0} (R : X → X → Type 0) (xs ys : List X) → AllPairs R xs → AllPairs R ys → All (λ x. All (R x) ys) xs → AllPairs R (xs ++ ys)
AllPairs-append R [] ys h k across = k
AllPairs-append R (x ∷ xs) ys h k across =
    AllPairs-cons R x (xs ++ ys) (All-append (R x) xs ys (AllPairs-head R x xs h) (All-head (λ x. All (R x) ys) x xs across))
    (AllPairs-append R xs ys (AllPairs-tail R x xs h) k (All-tail (λ x. All (R x) ys) x xs across))

-- both parts of a joined list, and across them
pub AllPairs-append_both : {X : Type 0} (R : X → X → Type 0) (xs ys : List X) → AllPairs R (xs ++ ys) → AllPairs R xs × AllPairs R ys × All (λ x. All (R x) ys) xs
AllPairs-append_both R [] ys h = (AllPairs-nil R, h, All-nil (λ x. All (R x) ys))
AllPairs-append_both R (x ∷ xs) ys h =
    let here = All-append_both (R x) xs ys (AllPairs-head R x (xs ++ ys) h) in
    let rest = AllPairs-append_both R xs ys (AllPairs-tail R x (xs ++ ys) h) in
    (AllPairs-cons R x xs here.0 rest.0, rest.1, All-cons (λ x. All (R x) ys) x xs here.1 rest.2)

abbrev pub Unequal : ℕ → ℕ → Type 0
Unequal v w = v ≢ w

abbrev pub vars : List Lit → List ℕ
vars ls = map (λ (l : Lit). l.var) ls

-- literals whose variables are all different
pub lits_apart : (ls : List Lit) → AllPairs Unequal (vars ls) → AreApartLits ls
lits_apart ls h = λ i j d l m e.
    let var : Lit → ℕ = λ t. t.var in
    let n : length (vars ls) ≡ length ls = length-map ls var in
    let at_i = get_or-map var ls i d d.var (omega (arith, l, m)) in
    let at_j = get_or-map var ls j d d.var (omega (arith, m)) in
    h i j d.var l (omega (arith, m, n)) (at_i ∙ e ∙ sym at_j)

-- ---- wires

abbrev wire_var : ℕ → Wire → ℕ
wire_var first w = (wire_lit first w).var

abbrev Differ : ℕ → Wire → Wire → Type 0
Differ first v w = wire_var first v ≢ wire_var first w

abbrev pub Low : ℕ → Lit → Type 0
Low first l = l.var < first

pub wire_below : (first made : ℕ) (w : Wire) → Known (Low first) made w → wire_var first w < first + made
wire_below first made (Input l) h = omega (arith, h)
wire_below first made (Made k) h = omega (arith, h)

abbrev AllKnown : ℕ → ℕ → List Wire → Type 0
AllKnown first made ws = All (Known (Low first) made) ws

-- an adder of bits that differ, and were known before
gate_apart : (first made : ℕ) (ws : List Wire) → AllKnown first made ws → AllPairs (Differ first) ws
    → AllPairs Unequal (vars (map (wire_lit first) ws) ++ (first + made) ∷ (first + (made + 1)) ∷ [])
gate_apart first made ws known differ =
    let outs = (first + made) ∷ (first + (made + 1)) ∷ [] in
    let var : Lit → ℕ = λ l. l.var in
    let lits = map (wire_lit first) ws in
    AllPairs-append Unequal (vars lits) outs
    (AllPairs-map (λ k l. k.var ≢ l.var) Unequal var (λ k l ne. ne) lits (AllPairs-map (Differ first) (λ k l. k.var ≢ l.var) (wire_lit first) (λ v w ne. ne) ws differ))
    (AllPairs-cons Unequal (first + made) ((first + (made + 1)) ∷ []) (All-cons (Unequal (first + made)) (first + (made + 1)) [] (λ e. omega (arith, e)) (All-nil (Unequal (first + made))))
    (AllPairs-cons Unequal (first + (made + 1)) [] (All-nil (Unequal (first + (made + 1)))) (AllPairs-nil Unequal)))
    (All-map (λ v. All (Unequal v) outs) var lits (All-map (λ l. All (Unequal l.var) outs) (wire_lit first) ws
    (All-weaker (Known (Low first) made) (λ w. All (Unequal (wire_var first w)) outs) (λ w k. before (wire_var first w) (wire_below first made w k)) ws known)))
  where
    before : (v : ℕ) → v < first + made → All (Unequal v) ((first + made) ∷ (first + (made + 1)) ∷ [])
    before v below =
        All-cons (Unequal v) (first + made) ((first + (made + 1)) ∷ []) (λ e. omega (arith, e, below))
        (All-cons (Unequal v) (first + (made + 1)) [] (λ e. omega (arith, e, below)) (All-nil (Unequal v)))

level_apart : (first n : ℕ) (queue : List Wire) (made : ℕ) → AllKnown first made queue → AllPairs (Differ first) queue → All (IsApart first) (level_gates n queue made)
level_apart first zero queue made known differ = All-nil (IsApart first)
level_apart first (suc n) [] made known differ = All-nil (IsApart first)
level_apart first (suc n) (a ∷ []) made known differ = All-nil (IsApart first)
level_apart first (suc n) (a ∷ b ∷ []) made known differ = All-cons (IsApart first) (Half a b made) [] (gate_apart first made (a ∷ b ∷ []) known differ) (All-nil (IsApart first))
level_apart first (suc n) (a ∷ b ∷ c ∷ rest) made known differ =
    let K = Known (Low first) made in
    let read = All-append_both K (a ∷ b ∷ c ∷ []) rest known in
    let apart = AllPairs-append_both (Differ first) (a ∷ b ∷ c ∷ []) rest differ in
    All-cons (IsApart first) (Full a b c made) (level_gates n (rest ++ Made made ∷ []) (made + 2)) (gate_apart first made (a ∷ b ∷ c ∷ []) read.0 apart.0)
    (level_apart first n (rest ++ Made made ∷ []) (made + 2) (joined_known (Low first) made rest read.1)
    (AllPairs-append (Differ first) rest (Made made ∷ []) apart.1 (AllPairs-cons (Differ first) (Made made) [] (All-nil (Differ first (Made made))) (AllPairs-nil (Differ first)))
    (All-weaker K (λ w. All (Differ first w) (Made made ∷ [])) (λ w k. All-cons (Differ first w) (Made made) [] (λ e. omega (arith, wire_below first made w k, e)) (All-nil (Differ first w))) rest read.1)))

-- ---- carries

wired_front : (I : Lit → Type 0) (gs hs : List Gate) (m : ℕ) → Wired I m (gs ++ hs) → Wired I m gs
wired_front I [] hs m wired = tt
wired_front I (g ∷ gs) hs m wired = (wired.0, wired.1, wired_front I gs hs (m + 2) wired.2)

pub made_from : (I : Lit → Type 0) (m : ℕ) (gs : List Gate) → Wired I m gs → All (λ g. m ≤ made_of g) gs
made_from I m [] wired = All-nil {X = Gate} (λ g. m ≤ made_of g)
made_from I m (g ∷ gs) wired =
    All-cons {X = Gate} (λ g. m ≤ made_of g) g gs (omega (arith, wired.1)) (All-weaker {X = Gate} (λ g. m + 2 ≤ made_of g) (λ g. m ≤ made_of g) (λ g h. omega (arith, h)) gs (made_from I (m + 2) gs wired.2))

carries_differ : (first : ℕ) (I : Lit → Type 0) (m : ℕ) (gs : List Gate) → Wired I m gs → AllPairs (Differ first) (map carry_wire gs)
carries_differ first I m [] wired = AllPairs-nil (Differ first)
carries_differ first I m (g ∷ gs) wired =
    AllPairs-cons (Differ first) (carry_wire g) (map carry_wire gs)
    (All-map (Differ first (carry_wire g)) carry_wire gs (All-weaker {X = Gate} (λ h. m + 2 ≤ made_of h) (λ h. Differ first (carry_wire g) (carry_wire h)) (λ h above e. omega (arith, above, wired.1, e)) gs (made_from I (m + 2) gs wired.2)))
    (carries_differ first I (m + 2) gs wired.2)

-- ---- all levels

abbrev IsFresh : ℕ → Wire → Type 0
IsFresh first w = first ≤ wire_var first w

carries_fresh : (first : ℕ) (gs : List Gate) → All (IsFresh first) (map carry_wire gs)
carries_fresh first gs = All-map (IsFresh first) carry_wire gs (λ k d h. omega arith)

levels_apart : (first n level : ℕ) (ts : List Weighted) (carried : List Wire) (made : ℕ) → VarsBelow first ts → IsOverDistinct ts
    → AllKnown first made carried → AllPairs (Differ first) carried → All (IsFresh first) carried → All (IsApart first) (gates_from n level ts carried made)
levels_apart first zero level ts carried made below distinct known differ fresh = All-nil (IsApart first)
levels_apart first (suc n) level ts carried made below distinct known differ fresh =
    let queue = queue_at ts level carried in
    let gates = gates_of queue made in
    let next = made + 2 * length gates in
    let later = gates_from n (level + 1) ts (map carry_wire gates) next in
    let input : Weighted → Wire = λ t. Input t.lit in
    let some = filter (has_bit level) ts in
    let some_below : VarsBelow first some = All-filter (has_bit level) (λ t. t.lit.var < first) ts below in
    let wired = wired_front (Low first) gates later made (levels_wired (Low first) (suc n) level ts carried made below known) in
    let inputs_known : AllKnown first made (inputs_at ts level) = All-map (Known (Low first) made) input some some_below in
    let queue_known : AllKnown first made queue = All-append (Known (Low first) made) (inputs_at ts level) carried inputs_known known in
    let inputs_differ : AllPairs (Differ first) (inputs_at ts level) =
    AllPairs-map {X = Weighted} (λ t u. t.lit.var ≢ u.lit.var) (Differ first) input (λ t u ne. ne) some (AllPairs-filter {X = Weighted} (λ t u. t.lit.var ≢ u.lit.var) (has_bit level) ts (apart ts distinct)) in
    let inputs_low : All (λ w. wire_var first w < first) (inputs_at ts level) = All-map (λ w. wire_var first w < first) input some some_below in
    let queue_differ : AllPairs (Differ first) queue =
    AllPairs-append (Differ first) (inputs_at ts level) carried inputs_differ differ
    (All-weaker (λ w. wire_var first w < first) (λ w. All (Differ first w) carried) (λ w low. All-weaker (IsFresh first) (Differ first w) (λ v high e. omega (arith, low, high, e)) carried fresh) (inputs_at ts level) inputs_low) in
    All-append (IsApart first) gates later
    (level_apart first (length queue / 2) queue made queue_known queue_differ)
    (levels_apart first n (level + 1) ts (map carry_wire gates) next below distinct (carries_known (Low first) gates made wired) (carries_differ first (Low first) made gates wired) (carries_fresh first gates))

pub network_apart : (first : ℕ) (ts : List Weighted) → VarsBelow first ts → IsOverDistinct ts → All (IsApart first) (network_gates ts)
network_apart first ts below distinct =
    levels_apart first (level_count ts) 0 ts [] 0 below distinct (All-nil (Known (Low first) 0)) (AllPairs-nil (Differ first)) (All-nil (IsFresh first))
