-- The fresh variables of a network may be given their reifications.
use Rattle.std.proofs.Common.{◌≢◌, ◌≤◌, ◌<◌, ◌+◌, ℕ, List, [], ◌∷◌, ◌++◌, length, sym, arith, get_or}
use Rattle.std.specs.Prelude.{All, flat_map}
use Rattle.std.specs.List.{AllPairs}
use Rattle.std.proofs.lemmas.List.{length-map}
use Rattle.std.proofs.lemmas.List.Elements.{All-append, All-cons, All-head, All-map, All-nil, All-tail, All-weaker}
use Rattle.std.proofs.lemmas.List.Kept.{AllPairs-cons}
use Rattle.pb_base.specs.declared.literal.Lit.{Lit}
use Rattle.pb_base.specs.Literals.{negated}
use Rattle.pb_base.proofs.Pairs.{AllPairs-head, AllPairs-map, AllPairs-nil}
use Rattle.pb_family.specs.Fresh.{positive_of}
use Rattle.pb_norm.specs.Constraints.{Weighted}
use Rattle.pb_steps.specs.Database.{Database}
use Rattle.pb_derive.proofs.Justified.{all_unmapped}
use Rattle.pb_derive.proofs.Reasoned.{All-flat_map}
use Rattle.pb_derive.proofs.Rups.{ones-weight}
use Rattle.pb_derive.proofs.Appends.{weight-append}
use Rattle.pb_derive.specs.Later.{IsOther, IsUnnamed}
use Rattle.pb_derive.specs.Reifications.{Reification, forward_of}
use Rattle.pb_derive.specs.inner.Meant.{IsReification, NamesNot, AreReifications}
use Rattle.pb_adder.specs.declared.gate.Gate.{Gate}
use Rattle.pb_adder.specs.Gates.{gate_inputs, made_of, wire_lit}
use Rattle.pb_adder.specs.laws.Wired.{Wired}
use Rattle.pb_derive.specs.Ones.{ones, unit_of}
use Rattle.pb_adder.specs.GateReifications.{carry_reification, sum_reification, input_lits, gate_reifications, sum_var, carry_var, twice_off}
use Rattle.pb_adder.specs.inner.RunningSums.{IsApart}
use Rattle.pb_adder.specs.laws.ApartGates.{Low, wire_below, AllPairs-append, AllPairs-append_both, Unequal, lits_apart, vars}
use Rattle.pb_adder.specs.laws.GateClaims.{AreThere}
use Rattle.pb_adder.specs.laws.GateTables.{few_inputs}
use Rattle.pb_adder.specs.laws.Names.{AllNamed, named_gates}

abbrev Apart : Weighted → Weighted → Type 0
Apart t u = t.lit.var ≢ u.lit.var

abbrev Positive : Weighted → Type 0
Positive t = 0 < t.coef

-- ---- one adder

-- all that the reifications of an adder ask
pub record Means (original vars : ℕ) (inputs : List Lit) (s d : ℕ) : Type 0 where
  pub carry : IsReification original vars (carry_reification inputs d)
  pub sum : IsReification original vars (sum_reification inputs s d)
  pub order : NamesNot (carry_reification inputs d) (sum_reification inputs s d)

with_carry : (Q : Weighted → Type 0) (inputs : List Lit) (d : ℕ) → All (λ l. Q (unit_of l)) inputs → Q (twice_off d) → All Q (ones inputs ++ twice_off d ∷ [])
with_carry Q inputs d each last = All-append Q (ones inputs) (twice_off d ∷ []) (All-map Q unit_of inputs each) (All-cons Q (twice_off d) [] last (All-nil Q))

-- of up to three inputs, where all variables differ and are known
adder_means : (original most : ℕ) (inputs : List Lit) (s d : ℕ) → AllPairs Unequal (vars inputs ++ s ∷ d ∷ []) → length inputs ≤ 3 → original < s → original < d
    → All (λ l. l.var ≤ most) inputs → s ≤ most → d ≤ most → Means original most inputs s d
adder_means original most inputs s d apart few low_s low_d known known_s known_d =
    let last = twice_off d in
    let outs = s ∷ d ∷ [] in
    let parts = AllPairs-append_both Unequal (vars inputs) outs apart in
    let sd : s ≢ d = All-head (Unequal s) d [] (AllPairs-head Unequal s (d ∷ []) parts.1) in
    let across = all_unmapped (λ v. All (Unequal v) outs) (λ (l : Lit). l.var) inputs parts.2 in
    let not_s = All-weaker (λ (l : Lit). All (Unequal l.var) outs) (λ l. s ≢ l.var) (λ l h e. All-head (Unequal l.var) s (d ∷ []) h (sym e)) inputs across in
    let not_d = All-weaker (λ (l : Lit). All (Unequal l.var) outs) (λ l. d ≢ l.var) (λ l h e. All-head (Unequal l.var) d [] (All-tail (Unequal l.var) s (d ∷ []) h) (sym e)) inputs across in
    let terms_apart = AllPairs-map (λ (k l : Lit). k.var ≢ l.var) Apart unit_of (λ k l ne. ne) inputs (lits_apart inputs parts.0) in
    let some : All (λ l. Positive (unit_of l)) inputs = λ k e h. omega arith in
    record {
      carry = record {
        fresh = low_d;
        known = known_d;
        sum_known = All-map (λ t. t.lit.var ≤ most) unit_of inputs known;
        apart = terms_apart;
        positive = All-map Positive unit_of inputs some;
        other = All-map (IsOther d) unit_of inputs not_d;
        some = omega arith;
        light = omega (arith, ones-weight inputs, few);
      };
      sum = record {
        fresh = low_s;
        known = known_s;
        sum_known = with_carry (λ t. t.lit.var ≤ most) inputs d known known_d;
        apart = AllPairs-append Apart (ones inputs) (last ∷ []) terms_apart (AllPairs-cons Apart last [] (All-nil (Apart last)) (AllPairs-nil Apart))
            (All-map (λ t. All (Apart t) (last ∷ [])) unit_of inputs (All-weaker (λ (l : Lit). d ≢ l.var) (λ l. All (Apart (unit_of l)) (last ∷ [])) (λ l ne. All-cons (Apart (unit_of l)) last [] (λ e. ne (sym e)) (All-nil (Apart (unit_of l)))) inputs not_d));
        positive = with_carry Positive inputs d some (omega arith);
        other = with_carry (IsOther s) inputs d not_s sd;
        some = omega arith;
        light = omega (arith, weight-append (ones inputs) (last ∷ []), ones-weight inputs, few);
      };
      order = All-cons (IsOther s) last (ones inputs) sd (All-map (IsOther s) unit_of inputs not_s);
    }

gate_means : (P : ℕ → Type 0) (db : Database) (first : ℕ) (g : Gate) → AreThere P db → db.original < first → IsApart first g → AllNamed P first g → Means db.original db.vars (input_lits first g) (sum_var first g) (carry_var first g)
gate_means P db first g there low apart named =
    adder_means db.original db.vars (input_lits first g) (sum_var first g) (carry_var first g) apart (omega (arith, length-map (gate_inputs g) (wire_lit first), few_inputs g)) (omega (arith, low)) (omega (arith, low))
    (All-weaker (λ (l : Lit). P l.var) (λ l. l.var ≤ db.vars) (λ l h. there l.var h) (input_lits first g) named.0) (there (sum_var first g) named.1) (there (carry_var first g) named.2)

-- what the first constraints of an adder name
abbrev BothNamed : (ℕ → Type 0) → ℕ → Gate → Type 0
BothNamed P first g =
    All (λ t. P t.lit.var) (forward_of (carry_reification (input_lits first g) (carry_var first g))).terms
    × All (λ t. P t.lit.var) (forward_of (sum_reification (input_lits first g) (sum_var first g) (carry_var first g))).terms

both_named : (P : ℕ → Type 0) (first : ℕ) (g : Gate) → AllNamed P first g → BothNamed P first g
both_named P first g named =
    let Q : Weighted → Type 0 = λ t. P t.lit.var in
    let inputs = input_lits first g in
    let s = sum_var first g in
    let d = carry_var first g in
    let not_s : Weighted = record { coef = 3; lit = negated (positive_of s) } in (
      All-cons Q (twice_off d) (ones inputs) named.2 (All-map Q unit_of inputs named.0),
      All-cons Q not_s (ones inputs ++ twice_off d ∷ []) named.1 (with_carry Q inputs d named.0 named.2),
    )

-- ---- all adders

later_vars : (first m : ℕ) (gs : List Gate) → Wired (Low first) m gs → All (λ (n : Reification). first + m ≤ n.var) (flat_map (gate_reifications first) gs)
later_vars first m [] wired = All-nil (λ (n : Reification). first + m ≤ n.var)
later_vars first m (g ∷ gs) wired =
    let R : Reification → Type 0 = λ n. first + m ≤ n.var in
    let same = wired.1 in
    let inputs = input_lits first g in
    let s = sum_var first g in
    let d = carry_var first g in
    All-cons R (carry_reification inputs d) (sum_reification inputs s d ∷ flat_map (gate_reifications first) gs) (let h : first + m ≤ first + (made_of g + 1) = omega (arith, same) in h)
    (All-cons R (sum_reification inputs s d) (flat_map (gate_reifications first) gs) (let h : first + m ≤ first + made_of g = omega (arith, same) in h)
    (All-weaker (λ (n : Reification). first + (m + 2) ≤ n.var) R (λ n h. omega (arith, h)) (flat_map (gate_reifications first) gs) (later_vars first (m + 2) gs wired.2)))

not_later : (top : ℕ) (m : Reification) (ms : List Reification) → All (λ t. t.lit.var < top) (forward_of m).terms → All (λ (n : Reification). top ≤ n.var) ms → All (NamesNot m) ms
not_later top m ms low high = All-weaker (λ (n : Reification). top ≤ n.var) (NamesNot m) (λ n above. All-weaker {X = Weighted} (λ t. t.lit.var < top) (IsOther n.var) (λ t below e. omega (arith, above, below, e)) (forward_of m).terms low) ms high

in_order : (db : Database) (first m : ℕ) (gs : List Gate) → Wired (Low first) m gs → All (λ g. Means db.original db.vars (input_lits first g) (sum_var first g) (carry_var first g)) gs
    → AllPairs NamesNot (flat_map (gate_reifications first) gs)
in_order db first m [] wired means = AllPairs-nil NamesNot
in_order db first m (g ∷ gs) wired means =
    let inputs = input_lits first g in
    let s = sum_var first g in
    let d = carry_var first g in
    let M : Gate → Type 0 = λ g. Means db.original db.vars (input_lits first g) (sum_var first g) (carry_var first g) in
    let here = All-head M g gs means in
    let rest = flat_map (gate_reifications first) gs in
    let below : ℕ → Type 0 = λ v. v < first + (m + 2) in
    let named = named_gates below (Low first) first (m + 2) m (g ∷ []) (wired.0, wired.1, tt) (omega arith) (wire_below first (m + 2)) in
    let low = both_named below first g (All-head (AllNamed below first) g [] named) in
    let high = later_vars first (m + 2) gs wired.2 in
    AllPairs-cons NamesNot (carry_reification inputs d) (sum_reification inputs s d ∷ rest)
    (All-cons (NamesNot (carry_reification inputs d)) (sum_reification inputs s d) rest here.order (not_later (first + (m + 2)) (carry_reification inputs d) rest low.0 high))
    (AllPairs-cons NamesNot (sum_reification inputs s d) rest (not_later (first + (m + 2)) (sum_reification inputs s d) rest low.1 high)
    (in_order db first (m + 2) gs wired.2 (All-tail M g gs means)))

-- what holds of both reifications of each adder holds of all
pub all_reifications : (R : Reification → Type 0) (first : ℕ) (gs : List Gate) → All (λ g. R (carry_reification (input_lits first g) (carry_var first g)) × R (sum_reification (input_lits first g) (sum_var first g) (carry_var first g))) gs
    → All R (flat_map (gate_reifications first) gs)
all_reifications R first gs h =
    All-flat_map R (gate_reifications first) gs (λ k d w.
    let g = get_or gs k d in
    let sum = sum_reification (input_lits first g) (sum_var first g) (carry_var first g) in
    All-cons R (carry_reification (input_lits first g) (carry_var first g)) (sum ∷ []) (h k d w).0 (All-cons R sum [] (h k d w).1 (All-nil R)))

pub adder_reifications_are : (P : ℕ → Type 0) (db : Database) (first : ℕ) (gs : List Gate) → AreThere P db → db.original < first → ((v : ℕ) → first ≤ v → P v → IsUnnamed v db)
    → Wired (Low first) 0 gs → All (IsApart first) gs → All (AllNamed P first) gs → AreReifications P db (flat_map (gate_reifications first) gs)
adder_reifications_are P db first gs there low unnamed wired apart named =
    let M : Gate → Type 0 = λ g. Means db.original db.vars (input_lits first g) (sum_var first g) (carry_var first g) in
    let means : All M gs = λ k d h. gate_means P db first (get_or gs k d) there low (apart k d h) (named k d h) in
    record {
      each = all_reifications (IsReification db.original db.vars) first gs (λ k d h. ((means k d h).carry, (means k d h).sum));
      named = all_reifications (λ m. All (λ t. P t.lit.var) (forward_of m).terms) first gs (λ k d h. both_named P first (get_or gs k d) (named k d h));
      unnamed = all_reifications (λ m. IsUnnamed m.var db) first gs (λ k d h. (unnamed (carry_var first (get_or gs k d)) (omega arith) (named k d h).2, unnamed (sum_var first (get_or gs k d)) (omega arith) (named k d h).1));
      in_order = in_order db first 0 gs wired means;
    }
