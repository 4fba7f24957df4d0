-- The laws of an adder network.
use Rattle.std.proofs.Common.{◌≡◌, ◌<◌, ◌≤◌, ◌+◌, ◌*◌, ◌||◌, ℕ, Bool, true, not, List, [], ◌∷◌, length, get_or, refl, sym, ap, ◌∙◌, subst, arith, length-append, inl, inr}
use Rattle.std.specs.Prelude.{All, Contains, map}
use Rattle.std.specs.List.{list_any, flat_map}
use Rattle.std.proofs.lemmas.List.{length-map}
use Rattle.std.proofs.lemmas.List.Elements.{All-cons, All-nil, All-append, All-contains, Contains-get_or, All-map, All-weaker}
use Rattle.pb_base.specs.Literals.{clause_value, IsModel, AgreeBelow}
use Rattle.pb_norm.specs.Constraints.{Weighted}
use Rattle.pb_norm.specs.BoundedSums.{BoundedSum, StaysWithin}
use Rattle.pb_norm.proofs.Agreement.{value-agree}
use Rattle.pb_base.proofs.Members.{Contains-map, All-append_both}
use Rattle.pb_base.proofs.LiteralLemmas.{lit_value-negated}
use Rattle.pb_family.specs.Families.{VarsBelow, NamesOnly}
use Rattle.pb_derive.proofs.Justified.{all_unmapped}
use Rattle.pb_derive.proofs.Reasoned.{All-flat_map}
use Rattle.pb_adder.specs.declared.gate.Wire.{Wire}
use Rattle.pb_adder.specs.declared.gate.Gate.{Gate}
use Rattle.pb_adder.specs.Adder.{adder_clauses}
use Rattle.pb_adder.specs.Comparator.{comparator_rows, row_clause, comparator}
use Rattle.pb_adder.specs.laws.ComparatorLaws.{RowTrue, rows_bound, bound_rows}
use Rattle.pb_adder.specs.laws.CountLaws.{network_fresh, network_clauses, comparator_count}
use Rattle.pb_adder.specs.Counts.{adder_fresh, adder_size}
use Rattle.pb_family.proofs.Extended.{extended, extended_below}
use Rattle.pb_adder.specs.laws.Extends.{made_values, extended_computes}
use Rattle.pb_adder.specs.laws.GateLaws.{Adds, Computes, computes_adds, holds_of, clauses_compute, computes_satisfies}
use Rattle.pb_adder.specs.Gates.{wire_lit, gate_clauses}
use Rattle.pb_adder.specs.laws.Names.{Named, gates_named, comparator_rows_named}
use Rattle.pb_adder.specs.Network.{network_gates, network_ends}
use Rattle.pb_adder.specs.laws.NetworkLaws.{network_adds}
use Rattle.pb_adder.specs.laws.Wired.{network_wired, network_rows}

-- ---- lists of clauses

all_compute : (first : ℕ) (v : ℕ → Bool) (gs : List Gate) → IsModel v (flat_map (gate_clauses first) gs) → All (Computes (holds_of first v)) gs
all_compute first v [] holds = All-nil (Computes (holds_of first v))
all_compute first v (g ∷ gs) holds =
    let parts = All-append_both (λ c. clause_value v c ≡ true) (gate_clauses first g) (flat_map (gate_clauses first) gs) holds in
    All-cons (Computes (holds_of first v)) g gs (clauses_compute first v g parts.0) (all_compute first v gs parts.1)

all_satisfied : (first : ℕ) (v : ℕ → Bool) (gs : List Gate) → All (Computes (holds_of first v)) gs → IsModel v (flat_map (gate_clauses first) gs)
all_satisfied first v gs all =
    All-flat_map (λ c. clause_value v c ≡ true) (gate_clauses first) gs (All-weaker (Computes (holds_of first v)) (λ g. IsModel v (gate_clauses first g)) (λ g h. computes_satisfies first v g h) gs all)

all_add : (p : Wire → Bool) (gs : List Gate) → All (Computes p) gs → All (Adds p) gs
all_add p gs all = λ k d h. computes_adds p _ (all k d h)

row_value : (first : ℕ) (v : ℕ → Bool) (row : List Wire) → clause_value v (row_clause first row) ≡ list_any (λ w. not (holds_of first v w)) row
row_value first v [] = refl
row_value first v (w ∷ row) =
    ap (λ b. b || clause_value v (row_clause first row)) (lit_value-negated v (wire_lit first w))
    ∙ ap (λ b. not (holds_of first v w) || b) (row_value first v row)

rows_true : (first : ℕ) (v : ℕ → Bool) (rows : List (List Wire)) → IsModel v (map (row_clause first) rows) → All (RowTrue (holds_of first v)) rows
rows_true first v rows holds =
    All-weaker (λ row. clause_value v (row_clause first row) ≡ true) (RowTrue (holds_of first v)) (λ row h. sym (row_value first v row) ∙ h) rows
    (all_unmapped (λ c. clause_value v c ≡ true) (row_clause first) rows holds)

true_rows : (first : ℕ) (v : ℕ → Bool) (rows : List (List Wire)) → All (RowTrue (holds_of first v)) rows → IsModel v (map (row_clause first) rows)
true_rows first v rows all =
    All-map (λ c. clause_value v c ≡ true) (row_clause first) rows
    (All-weaker (RowTrue (holds_of first v)) (λ row. clause_value v (row_clause first row) ≡ true) (λ row h. row_value first v row ∙ h) rows all)

-- ---- the laws

pub adder_sound : (c : BoundedSum) (first : ℕ) (v : ℕ → Bool) → IsModel v (adder_clauses c.terms c.bound first) → StaysWithin v c
adder_sound c first v holds =
    let ts = c.terms in
    let p = holds_of first v in
    let parts = All-append_both (λ c. clause_value v c ≡ true) (flat_map (gate_clauses first) (network_gates ts)) (comparator first c.bound (network_ends ts)) holds in
    let sum = network_adds p ts (all_add p (network_gates ts) (all_compute first v (network_gates ts) parts.0)) in
    let within = rows_bound p c.bound (network_ends ts) (rows_true first v (comparator_rows c.bound (network_ends ts)) parts.1) in
    omega (arith, sum, within)

pub adder_extends : (c : BoundedSum) (first : ℕ) → VarsBelow first c.terms → (v : ℕ → Bool) → StaysWithin v c
    → (w : ℕ → Bool) × AgreeBelow first v w × IsModel w (adder_clauses c.terms c.bound first)
adder_extends c first below v holds =
    let ts = c.terms in
    let gates = network_gates ts in
    let w = extended v first (made_values v gates) in
    let p = holds_of first w in
    let agree = extended_below v first (made_values v gates) in
    let computes = extended_computes first v gates (network_wired (λ l. l.var < first) ts below) in
    let sum = network_adds p ts (all_add p gates computes) in
    let same = value-agree first v w agree ts below in (
      w,
      agree,
      All-append (λ c. clause_value w c ≡ true) (flat_map (gate_clauses first) gates) (comparator first c.bound (network_ends ts))
          (all_satisfied first w gates computes)
          (true_rows first w (comparator_rows c.bound (network_ends ts)) (bound_rows p c.bound (network_ends ts) (omega (arith, sum, same, holds)))),
    )

pub adder_counts : (ts : List Weighted) (bound first : ℕ) → length (adder_clauses ts bound first) ≡ adder_size ts bound
adder_counts ts bound first =
    omega (
      arith,
      length-append (flat_map (gate_clauses first) (network_gates ts)) (comparator first bound (network_ends ts)),
      network_clauses first ts,
      length-map (comparator_rows bound (network_ends ts)) (row_clause first),
      comparator_count bound ts,
    )

pub adder_names : (ts : List Weighted) (bound first : ℕ) → NamesOnly ts first (adder_fresh ts) (adder_clauses ts bound first)
adder_names ts bound first =
    let vars = map (λ (t : Weighted). t.lit.var) ts in
    let V = λ (n : ℕ). Contains vars n in
    let inputs : All (λ t. V t.lit.var) ts = λ k d h. Contains-map (λ (t : Weighted). t.lit.var) ts (get_or ts k d) (Contains-get_or ts k d h) in
    let total = 2 * length (network_gates ts) in
    let gates = gates_named V first total 0 (network_gates ts) (network_wired (λ l. V l.var) ts inputs) (omega arith) in
    let others = comparator_rows_named V first total (comparator_rows bound (network_ends ts)) (network_rows (λ l. V l.var) bound ts inputs) in
    subst (λ (n : ℕ). All (All (Named V first n)) (adder_clauses ts bound first)) (network_fresh ts)
    (All-append (All (Named V first total)) (flat_map (gate_clauses first) (network_gates ts)) (comparator first bound (network_ends ts)) gates others)

-- what holds of the inputs' variables and of the fresh ones holds of all that the clauses name
pub adder_variables : (P : ℕ → Type 0) (ts : List Weighted) (bound first : ℕ) → All (λ t. P t.lit.var) ts → ((v : ℕ) → first ≤ v → v < first + adder_fresh ts → P v) → All (All (λ l. P l.var)) (adder_clauses ts bound first)
adder_variables P ts bound first inputs made = λ k d h i e l.
    let v : ℕ = (get_or (get_or (adder_clauses ts bound first) k d) i e).var in
    elim (adder_names ts bound first k d h i e l) as (λ _. P v) [
      | inl input ↦ All-contains P (map (λ (t : Weighted). t.lit.var) ts) v (All-map P (λ (t : Weighted). t.lit.var) ts inputs) input
      | inr fresh ↦ made v fresh.0 fresh.1
    ]
