-- The clauses of an adder follow by propagation from what its variables mean, and those of all may be claimed once that is known.
use Rattle.std.proofs.Common.{◌≡◌, ◌≤◌, ◌<◌, ◌+◌, ◌^◌, ℕ, true, List, [], ◌∷◌, length, refl, subst, sym, arith, get_or, leb, ◌++◌}
use Rattle.std.specs.Prelude.{All, map, flat_map, Some}
use Rattle.std.specs.List.{AllPairs, list_all}
use Rattle.std.proofs.lemmas.List.{length-map, map-append}
use Rattle.std.proofs.lemmas.Bool.{leb-true}
use Rattle.std.proofs.lemmas.List.Elements.{All-nil, All-head, All-tail, All-append, All-map}
use Rattle.std.proofs.lemmas.List.Sums.{AllPass-from_list_all}
use Rattle.pb_base.specs.declared.literal.Lit.{Lit}
use Rattle.pb_base.proofs.Members.{All-append_both}
use Rattle.pb_family.specs.Fresh.{positive_of}
use Rattle.pb_norm.specs.Constraints.{Constraint, weight}
use Rattle.pb_steps.specs.Database.{Database, constraint_at}
use Rattle.pb_derive.specs.inner.Ran.{IsClaim}
use Rattle.pb_derive.specs.Later.{IsNumbered, Knows}
use Rattle.pb_derive.specs.Reifications.{forward_of, reverse_of, Reification}
use Rattle.pb_derive.specs.inner.Meant.{IsMeant, AreMeant}
use Rattle.pb_derive.proofs.Laters.{known_below}
use Rattle.pb_adder.specs.declared.gate.Gate.{Gate}
use Rattle.pb_adder.specs.declared.gate.Gate.TheVariants.{Full, Half}
use Rattle.pb_adder.specs.Gates.{gate_clauses, gate_inputs, wire_lit}
use Rattle.pb_derive.specs.Ones.{ones}
use Rattle.pb_adder.specs.GateReifications.{carry_reification, sum_reification, input_lits, gate_reifications, sum_var, carry_var, twice_off}
use Rattle.pb_adder.specs.inner.RunningSums.{IsApart}
use Rattle.pb_derive.specs.Rups.{by_rup}
use Rattle.pb_adder.specs.AdderSteps.{gate_ids, gate_claims, row_claims}
use Rattle.pb_adder.specs.laws.ApartGates.{Unequal, lits_apart, vars}
use Rattle.pb_adder.specs.laws.GateTables.{few_inputs, gate_places, gate_table, table_clauses}
use Rattle.pb_derive.specs.inner.Refuted.{IsRefuting, AreAt}
use Rattle.pb_derive.proofs.PinnedRups.{AreFormsOf, is_refuted, pinned_refute}
use Rattle.pb_derive.proofs.Rups.{ones-weight, refuted_claims}
use Rattle.pb_derive.proofs.Appends.{weight-append}
use Rattle.pb_base.specs.Literals.{negated}
use Rattle.pb_derive.proofs.PinLemmas.{AreApartLits}
use Rattle.pb_derive.specs.laws.Pins.{pinned_constraint}

abbrev both_of : Reification → List Constraint
both_of m = forward_of m ∷ reverse_of m ∷ []

-- the four constraints of an adder
abbrev pub adder_constraints : List Lit → ℕ → ℕ → List Constraint
adder_constraints inputs s d = both_of (carry_reification inputs d) ++ both_of (sum_reification inputs s d)

-- what may be tried, for a clause: its literals false, and then perhaps the carry one way
abbrev traces : ℕ → List Lit → List (List Lit)
traces d q = map negated q ∷ (positive_of d ∷ map negated q) ∷ (negated (positive_of d) ∷ map negated q) ∷ []

-- those of an adder, over the places of its table
abbrev over_places : Gate → List Constraint
over_places (Full a b c made) = adder_constraints (positive_of 0 ∷ positive_of 1 ∷ positive_of 2 ∷ []) 3 4
over_places (Half a b made) = adder_constraints (positive_of 0 ∷ positive_of 1 ∷ []) 2 3

table_refuted : (first : ℕ) (g : Gate) → list_all (is_refuted (traces (length (gate_inputs g) + 1)) (length (gate_places first g)) (over_places g)) (gate_table g) ≡ true
unfolding is_refuted
table_refuted first (Full a b c made) = refl
table_refuted first (Half a b made) = refl

numbered_pinned : (first : ℕ) (g : Gate) → map (pinned_constraint (gate_places first g)) (over_places g) ≡ adder_constraints (input_lits first g) (sum_var first g) (carry_var first g)
numbered_pinned first (Full a b c made) = refl
numbered_pinned first (Half a b made) = refl

-- so over its literals, where all variables differ
pub gate_refutes : (first : ℕ) (g : Gate) (cs : List Constraint) → AreApartLits (gate_places first g)
    → AreFormsOf (adder_constraints (input_lits first g) (sum_var first g) (carry_var first g)) cs → All (IsRefuting cs) (gate_clauses first g)
gate_refutes first g cs apart forms =
    subst (All (IsRefuting cs)) (table_clauses first g)
    (pinned_refute (traces (length (gate_inputs g) + 1)) (gate_places first g) (over_places g) cs (gate_table g) apart
    (subst (λ (ps : List Constraint). AreFormsOf ps cs) (sym (numbered_pinned first g)) forms) (table_refuted first g))

-- the four constraints of an adder, and where they stand
pub record HasFour (db : Database) (id : ℕ) (inputs : List Lit) (s d : ℕ) : Type 0 where
  pub cs : List Constraint
  pub at : AreAt db (gate_ids id) cs
  pub forms : AreFormsOf (adder_constraints inputs s d) cs

-- two reifications give them
four_of : (db : Database) (id : ℕ) (inputs : List Lit) (s d : ℕ) → IsNumbered db → 2 ≤ weight (ones inputs) → 3 ≤ weight (sum_reification inputs s d).sum
    → IsMeant db id (carry_reification inputs d) → IsMeant db (id + 2) (sum_reification inputs s d) → HasFour db id inputs s d
four_of db id inputs s d numbered two three carry sum =
    let c : Knows db id (forward_of (carry_reification inputs d)) = carry.first in
    let c' : Knows db (id + 1) (reverse_of (carry_reification inputs d)) = carry.second two in
    let e : Knows db (id + 2) (forward_of (sum_reification inputs s d)) = sum.first in
    let e' : Knows db (id + 3) (reverse_of (sum_reification inputs s d)) = subst (λ (i : ℕ). Knows db i (reverse_of (sum_reification inputs s d))) (let f : id + 2 + 1 ≡ id + 3 = omega arith in f) (sum.second three) in
    record {
      cs = c.0 ∷ c'.0 ∷ e.0 ∷ e'.0 ∷ [];
      at = (
        c.1,
        known_below db id (forward_of (carry_reification inputs d)) numbered c,
        (
          c'.1,
          known_below db (id + 1) (reverse_of (carry_reification inputs d)) numbered c',
          (
            e.1,
            known_below db (id + 2) (forward_of (sum_reification inputs s d)) numbered e,
            (e'.1, known_below db (id + 3) (reverse_of (sum_reification inputs s d)) numbered e', tt),
          ),
        ),
      );
      forms = (c.2, (c'.2, (e.2, (e'.2, tt))));
    }

gate_refuted : (db : Database) (first id : ℕ) (g : Gate) → IsNumbered db → IsApart first g → IsMeant db id (carry_reification (input_lits first g) (carry_var first g))
    → IsMeant db (id + 2) (sum_reification (input_lits first g) (sum_var first g) (carry_var first g)) → (cs : List Constraint) × AreAt db (gate_ids id) cs × All (IsRefuting cs) (gate_clauses first g)
gate_refuted db first id g numbered apart carry sum =
    let inputs = input_lits first g in
    let size = length-map (gate_inputs g) (wire_lit first) in
    let heavy = ones-weight inputs in
    let has = four_of db id inputs (sum_var first g) (carry_var first g) numbered (omega (arith, size, heavy, few_inputs g))
    (omega (arith, size, heavy, few_inputs g, weight-append (ones inputs) (twice_off (carry_var first g) ∷ []))) carry sum in
    let places : AllPairs Unequal (vars (gate_places first g)) = subst (AllPairs Unequal) (sym (map-append (λ (l : Lit). l.var) inputs (positive_of (sum_var first g) ∷ positive_of (carry_var first g) ∷ []))) apart in
    (has.cs, has.at, gate_refutes first g has.cs (lits_apart (gate_places first g) places) has.forms)

-- an adder's clauses are short
pub gate_few : (first : ℕ) (g : Gate) → All (λ (c : List Lit). length c ≤ 4) (gate_clauses first g)
gate_few first g = λ k d h. leb-true (length (get_or (gate_clauses first g) k d)) 4 (AllPass-from_list_all {X = List Lit} (λ c. leb (length c) 4) (gate_clauses first g) (by_gate g) k d h)
  where
    by_gate : (g : Gate) → list_all {X = List Lit} (λ c. leb (length c) 4) (gate_clauses first g) ≡ true
    by_gate (Full a b c made) = refl
    by_gate (Half a b made) = refl

-- P holds of variables that are there
abbrev pub AreThere : (ℕ → Type 0) → Database → Type 0
AreThere P db = (v : ℕ) → P v → v ≤ db.vars

abbrev pub AreNamed : (ℕ → Type 0) → List (List Lit) → Type 0
AreNamed P clauses = All (All (λ l. P l.var)) clauses

pub gates_claimed : (P : ℕ → Type 0) (db : Database) (first id : ℕ) (gs : List Gate) → IsNumbered db → AreThere P db → AreNamed P (flat_map (gate_clauses first) gs) → All (IsApart first) gs
    → AreMeant db id (flat_map (gate_reifications first) gs) → All (IsClaim P db) (gate_claims first id gs)
gates_claimed P db first id [] numbered there named apart meant = All-nil (IsClaim P db)
gates_claimed P db first id (g ∷ gs) numbered there named apart meant =
    let parts = All-append_both (All (λ (l : Lit). P l.var)) (gate_clauses first g) (flat_map (gate_clauses first) gs) named in
    let refuted = gate_refuted db first id g numbered (All-head (IsApart first) g gs apart) meant.0 meant.1.0 in
    let few = gate_few first g in
    let others : AreMeant db (id + 4) (flat_map (gate_reifications first) gs) = subst (λ (i : ℕ). AreMeant db i (flat_map (gate_reifications first) gs)) (let e : id + 2 + 2 ≡ id + 4 = omega arith in e) meant.1.1 in
    All-append (IsClaim P db) (map (by_rup (gate_ids id)) (gate_clauses first g)) (gate_claims first (id + 4) gs)
    (All-map (IsClaim P db) (by_rup (gate_ids id)) (gate_clauses first g) (λ k d h.
    let clause : List Lit = get_or (gate_clauses first g) k d in
    refuted_claims P db id ((id + 1) ∷ (id + 2) ∷ (id + 3) ∷ []) refuted.0 clause refuted.1 (refuted.2 k d h)
    (record { named = parts.0 k d h; vars = (λ i e l. there (get_or clause i e).var (parts.0 k d h i e l)); few = omega (arith, few k d h) })))
    (gates_claimed P db first (id + 4) gs numbered there parts.1 (All-tail (IsApart first) g gs apart) others)

pub rows_claimed : (P : ℕ → Type 0) (db : Database) (id : ℕ) (c : Constraint) (clauses : List (List Lit)) → IsNumbered db → AreThere P db → AreNamed P clauses → constraint_at db.live id ≡ Some c → id < db.next
    → All (λ (clause : List Lit). length clause < 2 ^ 125) clauses → All (IsRefuting (c ∷ [])) clauses → All (IsClaim P db) (row_claims id clauses)
rows_claimed P db id c clauses numbered there named at below few refuted =
    All-map (IsClaim P db) (by_rup (id ∷ [])) clauses (λ k d h.
    let clause : List Lit = get_or clauses k d in
    refuted_claims P db id [] (c ∷ []) clause (at, below, tt) (refuted k d h)
    (record { named = named k d h; vars = (λ i e l. there (get_or clause i e).var (named k d h i e l)); few = few k d h }))
