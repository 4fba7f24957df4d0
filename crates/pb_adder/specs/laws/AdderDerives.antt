-- The steps of an adder network are allowed one after the other, and put out its clauses.
use Rattle.std.proofs.Common.{◌≡◌, ◌≢◌, ◌≤◌, ◌<◌, ◌+◌, ◌*◌, ◌^◌, ◌==◌, ℕ, Bool, true, false, not, cond, List, [], ◌∷◌, ◌++◌, length, refl, sym, ap, ◌∙◌, subst, arith, get_or, eq-eqb}
use Rattle.std.specs.Prelude.{All, map, flat_map, Option}
use Rattle.std.proofs.lemmas.Bool.{ne_eqb}
use Rattle.std.proofs.lemmas.List.Elements.{All-cons, All-nil, All-append, All-map, All-weaker, All-contains, All-contains_itself}
use Rattle.std.proofs.lemmas.List.{map-append}
use Rattle.pb_base.specs.declared.literal.Lit.{Lit}
use Rattle.pb_base.specs.Literals.{Assignment, lit_value, negated}
use Rattle.pb_base.proofs.Members.{All-append_both}
use Rattle.pb_base.proofs.Pairs.{AllPairs-head, AllPairs-tail}
use Rattle.pb_family.specs.Families.{VarsBelow}
use Rattle.pb_family.specs.Fresh.{positive_of}
use Rattle.pb_family.proofs.Extended.{extended, extended_fresh, extended_literal}
use Rattle.pb_norm.specs.Constraints.{Weighted, Constraint, weight, term_value}
use Rattle.pb_norm.specs.BoundedSums.{BoundedSum, IsOverDistinct, IsProper}
use Rattle.pb_norm.specs.Reduction.{opposite}
use Rattle.pb_norm.proofs.Extremes.{value-all_true}
use Rattle.pb_norm.proofs.Proper.{apart}
use Rattle.pb_steps.specs.Database.{Database}
use Rattle.pb_derive.specs.Claims.{Claim}
use Rattle.pb_derive.specs.inner.Ran.{IsClaim, RanSwept}
use Rattle.pb_derive.specs.Forms.{AreApartTerms, IsFormOf}
use Rattle.pb_derive.specs.Later.{Knows, IsLater}
use Rattle.pb_derive.specs.Reifications.{Reification}
use Rattle.pb_derive.specs.inner.Meant.{AreMeant}
use Rattle.pb_derive.proofs.Opposites.{value-opposite}
use Rattle.pb_derive.proofs.JustificationClauses.{rup_clauses}
use Rattle.pb_derive.proofs.Laters.{known_below}
use Rattle.pb_derive.proofs.Meant.{Meant, meant_all, reifications_ran}
use Rattle.pb_derive.proofs.Phases.{reifications_add, swept_derives}
use Rattle.pb_derive.proofs.Scoped.{Scoped, scoped}
use Rattle.pb_derive.proofs.PinLemmas.{Contains-same}
use Rattle.pb_adder.specs.declared.gate.Wire.{Wire}
use Rattle.pb_adder.specs.declared.gate.Wire.TheVariants.{Input, Made}
use Rattle.pb_adder.specs.declared.gate.Gate.{Gate}
use Rattle.pb_adder.specs.Adder.{adder_clauses}
use Rattle.pb_adder.specs.laws.AdderLaws.{adder_variables}
use Rattle.pb_adder.specs.Comparator.{comparator_rows, comparator}
use Rattle.pb_adder.specs.laws.CountLaws.{network_fresh}
use Rattle.pb_adder.specs.Counts.{adder_fresh}
use Rattle.pb_adder.specs.Gates.{gate_clauses}
use Rattle.pb_adder.specs.Network.{level_count, network_gates, network_ends}
use Rattle.pb_adder.specs.laws.NetworkLaws.{number}
use Rattle.pb_adder.specs.laws.Wired.{Known, Wired, network_wired, network_rows}
use Rattle.pb_adder.specs.AdderSteps.{blocks, last_sum, gate_ids, gate_claims, row_claims, levels_of, defining_steps, adder_claims, proving_steps, adder_steps}
use Rattle.pb_derive.specs.Rups.{by_rup}
use Rattle.pb_derive.specs.Derivations.{as_constraint, IsReadyFor, Derives}
use Rattle.pb_derive.specs.Ones.{unit_of, ones}
use Rattle.pb_adder.specs.inner.RunningSums.{Sum, part, balance, IsRunning, IsApart}
use Rattle.pb_adder.specs.GateReifications.{input_lits, gate_reifications, sum_var, carry_var}
use Rattle.pb_adder.specs.LeveledGates.{Leveled, leveled_gates}
use Rattle.pb_adder.specs.laws.AdderReifications.{adder_reifications_are}
use Rattle.pb_adder.specs.laws.Names.{AllNamed, named_gates}
use Rattle.pb_adder.specs.laws.ApartGates.{Low, network_apart, wire_below}
use Rattle.pb_adder.specs.laws.Chains.{on, network_chain}
use Rattle.pb_adder.specs.laws.GateClaims.{AreThere, AreNamed, gates_claimed, rows_claimed}
use Rattle.pb_adder.specs.laws.Leveling.{network_each, network_reifications, network_low, few_levels, count_power}
use Rattle.pb_adder.specs.laws.LinesRun.{IsAcc, IsSetting, sums_swept}
use Rattle.pb_adder.specs.laws.RowLengths.{comparator_short, ends_length}
use Rattle.pb_adder.specs.laws.RowRups.{IsTrueWire, rows_refuted}
use Rattle.pb_adder.specs.laws.TreeOps.{part-le, IsLaid, MakesFresh, reifications_of}

-- ---- an assignment that makes all literals true

signs : List Weighted → Assignment
signs [] v = false
signs (t ∷ ts) v = cond (t.lit.var == v) t.lit.positive (signs ts v)

abbrev Apart : Weighted → Weighted → Type 0
Apart t u = t.lit.var ≢ u.lit.var

same_sign : (p : Bool) → cond p p (not p) ≡ true
same_sign true = refl
same_sign false = refl

signs_true : (ts : List Weighted) → AreApartTerms ts → All (λ t. lit_value (signs ts) t.lit ≡ true) ts
unfolding signs
signs_true [] h = All-nil {X = Weighted} (λ t. lit_value (signs []) t.lit ≡ true)
signs_true (t ∷ ts) h =
    let heads = AllPairs-head Apart t ts h in
    let rest = signs_true ts (AllPairs-tail Apart t ts h) in
    All-cons {X = Weighted} (λ u. lit_value (signs (t ∷ ts)) u.lit ≡ true) t ts
    (ap (λ (b : Bool). cond t.lit.positive (cond b t.lit.positive (signs ts t.lit.var)) (not (cond b t.lit.positive (signs ts t.lit.var)))) (eq-eqb t.lit.var t.lit.var refl) ∙ same_sign t.lit.positive)
    (λ k d l.
    let u : Weighted = get_or ts k d in
    ap (λ (b : Bool). cond u.lit.positive (cond b t.lit.positive (signs ts u.lit.var)) (not (cond b t.lit.positive (signs ts u.lit.var)))) (ne_eqb t.lit.var u.lit.var (heads k d l))
    ∙ rest k d l)

-- and all fresh ones
all_true : ℕ → List Weighted → Assignment
all_true first ts = extended (signs ts) first (λ k. true)

fresh_true : (first : ℕ) (ts : List Weighted) → MakesFresh first (all_true first ts)
unfolding all_true
fresh_true first ts k = extended_fresh (signs ts) first (λ k. true) k

terms_true : (first : ℕ) (ts : List Weighted) → VarsBelow first ts → AreApartTerms ts → All (λ t. lit_value (all_true first ts) t.lit ≡ true) ts
unfolding all_true
terms_true first ts below h = λ k d l. sym (extended_literal (signs ts) first (λ k. true) (get_or ts k d).lit (below k d l)) ∙ signs_true ts h k d l

-- ---- the constraint of the sum

sum_runs : (m : BoundedSum) (c : Constraint) → m.bound ≤ weight m.terms → IsFormOf (as_constraint m) c → IsRunning m.bound (part m.terms) c
sum_runs m c heavy form = record {
  positive = form.positive;
  ascending = form.ascending;
  exact = λ a. omega (arith, form.terms (term_value a), form.degree, value-opposite a m.terms, heavy);
}

-- ---- the variables of the network

balance_named : (P : ℕ → Type 0) (first : ℕ) (g : Gate) → AllNamed P first g → All (λ t. P t.lit.var) (balance (input_lits first g) (sum_var first g) (carry_var first g))
balance_named P first g h =
    let Q : Weighted → Type 0 = λ t. P t.lit.var in
    let s : Weighted = unit_of (negated (positive_of (sum_var first g))) in
    let d : Weighted = record { coef = 2; lit = negated (positive_of (carry_var first g)) } in
    All-append Q (ones (input_lits first g)) (s ∷ d ∷ []) (All-map Q unit_of (input_lits first g) h.0) (All-cons Q s (d ∷ []) h.1 (All-cons Q d [] h.2 (All-nil Q)))

pub reifications-length : (first : ℕ) (gs : List Gate) → length (flat_map (gate_reifications first) gs) ≡ 2 * length gs
reifications-length first [] = refl
reifications-length first (g ∷ gs) = omega (arith, reifications-length first gs)

-- ---- the clauses of the claims

gates_clauses : (first id : ℕ) (gs : List Gate) → map (λ (c : Claim). c.clause) (gate_claims first id gs) ≡ flat_map (gate_clauses first) gs
gates_clauses first id [] = refl
gates_clauses first id (g ∷ gs) =
    map-append (λ (c : Claim). c.clause) (map (by_rup (gate_ids id)) (gate_clauses first g)) (gate_claims first (id + 4) gs)
    ∙ ap (λ (ds : List (List Lit)). ds ++ map (λ (c : Claim). c.clause) (gate_claims first (id + 4) gs)) (rup_clauses (gate_ids id) (gate_clauses first g))
    ∙ ap (λ (ds : List (List Lit)). gate_clauses first g ++ ds) (gates_clauses first (id + 4) gs)

pub claims_clauses : (first id running : ℕ) (gs : List Gate) (cs : List (List Lit)) → map (λ (c : Claim). c.clause) (gate_claims first id gs ++ row_claims running cs) ≡ flat_map (gate_clauses first) gs ++ cs
claims_clauses first id running gs cs =
    map-append (λ (c : Claim). c.clause) (gate_claims first id gs) (row_claims running cs)
    ∙ ap (λ (ds : List (List Lit)). ds ++ map (λ (c : Claim). c.clause) (row_claims running cs)) (gates_clauses first id gs)
    ∙ ap (λ (ds : List (List Lit)). flat_map (gate_clauses first) gs ++ ds) (rup_clauses (running ∷ []) cs)

known_true : (first n : ℕ) (a : Assignment) → MakesFresh first a → (w : Wire) → Known (λ l. lit_value a l ≡ true) n w → IsTrueWire first a w
known_true first n a fresh (Input l) h = h
known_true first n a fresh (Made k) h = fresh k

-- ---- the whole

-- what a sum has that is sent to an adder
pub record IsForAdder (m : BoundedSum) : Type 0 where
  pub distinct : IsOverDistinct m.terms
  pub heavy : m.bound ≤ weight m.terms
  pub small : weight m.terms < 2 ^ 100

pub suits_adder : (m : BoundedSum) → IsProper m → weight m.terms < 2 ^ 100 → IsForAdder m
suits_adder m proper small = record { distinct = proper.distinct; heavy = omega (arith, proper.heavy); small = small }

module _ (m : BoundedSum) (first id : ℕ) (db : Database) (suits : IsForAdder m) (below : VarsBelow first m.terms) (ready : IsReadyFor m first (adder_fresh m.terms) id db) where
  abbrev ts : List Weighted
  ts = m.terms

  abbrev gates : List Gate
  gates = network_gates ts

  abbrev ends : List (Option Wire)
  ends = network_ends ts

  abbrev xs : List Leveled
  xs = leveled_gates ts

  abbrev ms : List Reification
  ms = flat_map (gate_reifications first) gates

  abbrev fresh : ℕ
  fresh = adder_fresh ts

  abbrev P : ℕ → Type 0
  P v = v < first + fresh

  abbrev a : Assignment
  a = all_true first ts

  abbrev after : Sum
  after p = number (on first p) ends

  terms : All (λ t. lit_value a t.lit ≡ true) ts
  terms = terms_true first ts below (apart ts suits.distinct)

  wired : Wired (Low first) 0 gates
  wired = network_wired (Low first) ts below

  apart_gates : All (IsApart first) gates
  apart_gates = network_apart first ts below suits.distinct

  gates_are_named : All (AllNamed P first) gates
  gates_are_named = named_gates P (Low first) first fresh 0 gates wired (omega (arith, network_fresh ts)) (wire_below first fresh)

  there : AreThere P db
  there = λ v h. omega (arith, h, ready.vars)

  meant : Meant P db ms
  meant = reifications_ran P db ms ready.numbered (adder_reifications_are P db first gates there ready.original (λ v low named. ready.unnamed v low named) wired apart_gates gates_are_named)

  abbrev mid : Database
  mid = meant.ran.end

  -- ---- the sums

  start : IsAcc P mid id m.bound (part ts)
  start =
      let c : Constraint = ready.stands.0 in
      let form : IsFormOf (as_constraint m) c = ready.stands.2 in
      let Q : Weighted → Type 0 = λ t. t.lit.var < first + fresh in
      let opposites : All Q (map opposite ts) = All-map Q opposite ts (All-weaker {X = Weighted} (λ t. t.lit.var < first) Q (λ t h. omega (arith, h)) ts below) in
      record {
        constraint = c;
        at = meant.ran.later.stands id (known_below db id (as_constraint m) ready.numbered ready.stands) ∙ ready.stands.1;
        running = sum_runs m c suits.heavy form;
        named = λ k d h. All-contains Q (map opposite ts) (get_or c.terms k d) opposites (Contains-same (map opposite ts) c.terms (λ f. sym (form.terms f)) (get_or c.terms k d) (All-contains_itself c.terms k d h));
      }

  abbrev top : ℕ
  top = weight ts + 2 ^ level_count ts

  setting : IsSetting first m.bound top a
  setting = record { fresh = fresh_true first ts; fits = omega (arith, suits.small, count_power ts suits.small) }

  laid : All (IsLaid P first) xs
  laid =
      let apart_xs = network_each (IsApart first) ts apart_gates in
      let named_xs = network_each (AllNamed P first) ts gates_are_named in
      let low_xs = network_low ts suits.small in
      λ k d h. record { apart = apart_xs k d h; level = low_xs k d h; named = balance_named P first (get_or xs k d).gate (named_xs k d h) }

  meant_xs : AreMeant mid db.next (reifications_of first xs)
  meant_xs = subst (AreMeant mid db.next) (sym (network_reifications first ts)) meant.meant

  -- ---- the clauses

  named : AreNamed P (adder_clauses ts m.bound first)
  named = adder_variables P ts m.bound first (All-weaker (λ (t : Weighted). t.lit.var < first) (λ (t : Weighted). P t.lit.var) (λ t h. omega (arith, h)) ts below) (λ v from h. h)

  true_wires : All (All (IsTrueWire first a)) (comparator_rows m.bound ends)
  true_wires =
      let wires = network_rows (λ l. lit_value a l ≡ true) m.bound ts terms in
      λ k d h i e l. known_true first (2 * length gates) a (fresh_true first ts) (get_or (get_or (comparator_rows m.bound ends) k d) i e) (wires k d h i e l)

  few_rows : All (λ (clause : List Lit). length clause < 2 ^ 125) (comparator first m.bound ends)
  few_rows =
      All-weaker (λ (clause : List Lit). length clause ≤ length ends) (λ (clause : List Lit). length clause < 2 ^ 125) (λ clause h. omega (arith, h, ends_length (level_count ts) 0 ts [] 0, few_levels ts suits.small)) (comparator first m.bound ends) (comparator_short first m.bound ends)

  claimed : (end : Database) (last : ℕ) → IsLater P mid end → IsAcc P end last m.bound after → All (IsClaim P end) (adder_claims ts m.bound first db.next last)
  claimed end last later acc =
      let there_end : AreThere P end = λ v h. omega (arith, there v h, meant.ran.later.vars, later.vars) in
      let parts = All-append_both (All (λ (l : Lit). P l.var)) (flat_map (gate_clauses first) gates) (comparator first m.bound ends) named in
      let meant_end = meant_all P mid end db.next ms later meant.ran.later.numbered meant.meant in
      let itself : Knows end last acc.constraint = (acc.constraint, acc.at, record { terms = λ f. refl; degree = refl; ascending = acc.running.ascending; positive = acc.running.positive }) in
      All-append (IsClaim P end) (gate_claims first db.next gates) (row_claims last (comparator first m.bound ends))
      (gates_claimed P end first db.next gates later.numbered there_end parts.0 apart_gates meant_end)
      (rows_claimed P end last acc.constraint (comparator first m.bound ends) later.numbered there_end parts.1 acc.at (known_below end last acc.constraint later.numbered itself) few_rows
      (rows_refuted first m.bound ends acc.constraint a acc.running true_wires))

  -- ---- all together

  abbrev last_at : ℕ → ℕ
  last_at next = last_sum id next (blocks (levels_of ts))

  abbrev ids : ℕ → ℕ
  ids next = length (blocks (levels_of ts)) + length (adder_claims ts m.bound first db.next (last_at next))

  body : RanSwept P mid (proving_steps ts m.bound first id db.next mid.next) (adder_clauses ts m.bound first) (ids mid.next)
  body =
      let full : m.bound ≤ part ts (lit_value a) = omega (arith, value-all_true a ts terms, suits.heavy) in
      subst (λ (cs : List (List Lit)). RanSwept P mid (proving_steps ts m.bound first id db.next mid.next) cs (ids mid.next)) (claims_clauses first db.next (last_at mid.next) gates (comparator first m.bound ends))
      (sums_swept P mid first m.bound top a setting meant.ran.later.numbered db.next id xs (part ts) after (adder_claims ts m.bound first db.next) meant_xs laid start (network_chain first ts) (λ p. omega (arith, part-le ts p)) full claimed)

  derived : Derives db (adder_steps ts m.bound first id db.next) (adder_clauses ts m.bound first) (first + fresh)
  derived =
      let count : ℕ = length gates in
      let size : length ms ≡ 2 * count = reifications-length first gates in
      let at_sums : mid.next ≡ db.next + 4 * count = omega (arith, meant.ran.next, size) in
      let next : ℕ = db.next + 4 * count in
      let all : Scoped P db (adder_steps ts m.bound first id db.next) (adder_clauses ts m.bound first) (2 * length ms + ids next) (2 * length ms) =
      scoped P db (defining_steps ts first db.next) (proving_steps ts m.bound first id db.next next) (adder_clauses ts m.bound first) (2 * length ms) (ids next) 2 (2 * count) meant.ran ready.numbered (reifications_add db.next ms)
      (subst (λ (k : ℕ). RanSwept P mid (proving_steps ts m.bound first id db.next k) (adder_clauses ts m.bound first) (ids k)) at_sums body) (omega (arith, size)) in
      swept_derives db (adder_steps ts m.bound first id db.next) (adder_clauses ts m.bound first) (first + fresh) (2 * length ms + ids next) ready.numbered all.all

pub adder_derives : (m : BoundedSum) (first id : ℕ) (db : Database) → IsForAdder m → VarsBelow first m.terms → IsReadyFor m first (adder_fresh m.terms) id db
    → Derives db (adder_steps m.terms m.bound first id db.next) (adder_clauses m.terms m.bound first) (first + adder_fresh m.terms)
adder_derives m first id db suits below ready = derived m first id db suits below ready
