-- The laws of a sequential counter.
use Rattle.std.proofs.Common.{◌≡◌, ◌<◌, ◌≤◌, ◌+◌, ◌*◌, ◌-◌, ℕ, true, false, List, length, ap, sym, ◌∙◌, subst, arith, inr}
use Rattle.std.specs.Prelude.{All}
use Rattle.std.proofs.lemmas.List.{length-map, get_or_default}
use Rattle.std.proofs.Math.Nat.{mul-le-mul_right}
use Rattle.std.proofs.lemmas.List.Elements.{All-map, All-from_recursion}
use Rattle.pb_base.specs.declared.literal.Lit.{Lit}
use Rattle.pb_base.specs.Literals.{Assignment, negated, lit_value, IsModel, AgreeBelow, is_among}
use Rattle.pb_norm.specs.Constraints.{Weighted}
use Rattle.pb_norm.specs.BoundedSums.{BoundedSum, StaysWithin, IsProper}
use Rattle.pb_norm.specs.Reduction.{lits_of, all_weigh}
use Rattle.pb_norm.specs.ClausePropagation.{ClausesPropagate}
use Rattle.pb_norm.proofs.Derived.{Derived, Refuted}
use Rattle.pb_norm.proofs.BoundedForcing.{given_sum, propagates_from_sums}
use Rattle.pb_base.proofs.Members.{Contains-map, not_among_from}
use Rattle.pb_family.specs.Fresh.{positive_of, literal_at}
use Rattle.pb_family.specs.Families.{VarsBelow, IsNamed, NamesOnly}
use Rattle.pb_family.proofs.TermVars.{named_at}
use Rattle.pb_family.proofs.UnitSums.{unit_sum, unit_coefficient, more_than_bound}
use Rattle.pb_family.proofs.Models.{sound_from_sums}
use Rattle.pb_family.proofs.Extended.{extended, extended_below}
use Rattle.pb_counter.specs.declared.place.Place.{Place}
use Rattle.pb_counter.specs.declared.place.Place.TheVariants.{Start, Below, One, Keep, More, Stop}
use Rattle.pb_counter.specs.Counter.{count_bit, clause_at, places, counter_clauses, counter_fresh, counter_size}
use Rattle.pb_counter.specs.inner.Order.{IsPlace}
use Rattle.pb_counter.specs.laws.CounterPlaces.{each_place}
use Rattle.pb_counter.specs.laws.CounterOrder.{count_places}
use Rattle.pb_counter.specs.laws.CounterPropagation.{refuted, pushed}
use Rattle.pb_counter.specs.laws.CounterModels.{counting, satisfied}

-- ---- the laws

module _ (c : BoundedSum) (units : all_weigh 1 c.terms ≡ true) (proper : IsProper c) (first : ℕ) where
  abbrev lits : List Lit
  lits = lits_of c.terms

  abbrev cs : List (List Lit)
  cs = counter_clauses lits c.bound first

  counter_refutes : (given : List Lit) → c.bound < given_sum given c.terms → Refuted cs given
  counter_refutes given above =
      let count = unit_sum (is_among given) c.terms units in
      refuted lits c.bound first given (omega arith) proper.bound_from

  pub counter_sound : (a : Assignment) → IsModel a cs → StaysWithin a c
  counter_sound a model = sound_from_sums cs c counter_refutes a model

  pub counter_propagates : ClausesPropagate cs (λ a. StaysWithin a c)
  counter_propagates =
      propagates_from_sums cs c proper.distinct counter_refutes
      (λ given t inside new above.
      let size : length lits ≡ length c.terms = length-map c.terms (λ t. t.lit) in
      let more = more_than_bound c units proper in
      let from = proper.bound_from in
      let count = unit_sum (is_among given) c.terms units in
      let coef = unit_coefficient c.terms units t inside in
      let place = Contains-map (λ (t : Weighted). t.lit) c.terms t inside in
      let read : literal_at lits place.0 ≡ t.lit = get_or_default lits place.0 (positive_of 0) t.lit place.1 ∙ place.2 in
      let unset : is_among given (literal_at lits place.0) ≡ false = ap (is_among given) read ∙ not_among_from given t.lit new in
      subst (λ (l : Lit). Derived cs given (negated l)) read
      (pushed lits c.bound first given place.0 place.1 (omega arith) from unset (omega arith)))

  pub counter_extends : VarsBelow first c.terms → (a : Assignment) → StaysWithin a c → (b : Assignment) × AgreeBelow first a b × IsModel b cs
  counter_extends below a holds =
      let size : length lits ≡ length c.terms = length-map c.terms (λ t. t.lit) in
      let more = more_than_bound c units proper in
      let from = proper.bound_from in
      let count = unit_sum (lit_value a) c.terms units in
      let low = All-map (λ (m : Lit). m.var < first) (λ (t : Weighted). t.lit) c.terms below in (
        extended a first (counting a lits c.bound),
        extended_below a first (counting a lits c.bound),
        satisfied a lits c.bound first low from (omega arith) (omega arith),
      )

-- ---- names and counts

-- a place in the grid is below its size
pub place_below : (i j width rows : ℕ) → i < rows → j < width → i * width + j < rows * width
place_below i j width rows h k = let up : (i + 1) * width ≤ rows * width = mul-le-mul_right width (omega arith) in omega arith

module _ (ts : List Weighted) (width first : ℕ) (some : 1 ≤ width) (two : 2 ≤ length ts) where
  abbrev ms : List Lit
  ms = lits_of ts

  abbrev Named : Lit → Type 0
  Named = IsNamed ts first (counter_fresh (length ts) width)

  size : length ms ≡ length ts
  size = length-map ts (λ t. t.lit)

  own : (k : ℕ) → k < length ms → Named (negated (literal_at ms k))
  own k h = named_at ts first (counter_fresh (length ts) width) k h

  bit : (i j : ℕ) → i + 1 < length ms → j < width → Named (count_bit first width i j)
  bit i j h low = inr (omega arith, omega (arith, place_below i j width (length ts - 1) (omega (arith, size, h)) low))

  pub named : (p : Place) → IsPlace (length ts) width p → All Named (clause_at ms width first p)
  named Start h = All-from_recursion Named (clause_at ms width first Start) (own 0 (omega (arith, size, two)), (bit 0 0 (omega (arith, size, two)) some, tt))
  named (Below j) h = All-from_recursion Named (clause_at ms width first (Below j)) (bit 0 j (omega (arith, size, two)) h.1, tt)
  named (One i) h = All-from_recursion Named (clause_at ms width first (One i)) (own (i + 1) (omega (arith, size, h)), (bit (i + 1) 0 (omega (arith, size, h)) some, tt))
  named (Keep i j) h = All-from_recursion Named (clause_at ms width first (Keep i j)) (bit i j (omega (arith, size, h.0)) h.1, (bit (i + 1) j (omega (arith, size, h.0)) h.1, tt))
  named (More i j) h = All-from_recursion Named (clause_at ms width first (More i j)) (own (i + 1) (omega (arith, size, h.0)), (bit i j (omega (arith, size, h.0)) (omega (arith, h.1)), (bit (i + 1) (j + 1) (omega (arith, size, h.0)) h.1, tt)))
  named (Stop i) h = All-from_recursion Named (clause_at ms width first (Stop i)) (own (i + 1) (omega (arith, size, h)), (bit i (width - 1) (omega (arith, size, h)) (omega (arith, some)), tt))

  names_at : NamesOnly ts first (counter_fresh (length ts) width) (counter_clauses ms width first)
  names_at = All-map (All Named) (clause_at ms width first) (places (length ms) width) (subst (λ (k : ℕ). All (λ p. All Named (clause_at ms width first p)) (places k width)) (sym size) (each_place (λ p. All Named (clause_at ms width first p)) (length ts) width some two named))

pub counter_names : (c : BoundedSum) → all_weigh 1 c.terms ≡ true → IsProper c → (first : ℕ) → NamesOnly c.terms first (counter_fresh (length c.terms) c.bound) (counter_clauses (lits_of c.terms) c.bound first)
counter_names c units proper first =
    let more = more_than_bound c units proper in
    let from = proper.bound_from in
    names_at c.terms c.bound first from (omega arith)

pub counter_counts : (c : BoundedSum) → all_weigh 1 c.terms ≡ true → IsProper c → (first : ℕ) → length (counter_clauses (lits_of c.terms) c.bound first) ≡ counter_size (length c.terms) c.bound
counter_counts c units proper first =
    let size : length (lits_of c.terms) ≡ length c.terms = length-map c.terms (λ t. t.lit) in
    let more = more_than_bound c units proper in
    let from = proper.bound_from in
    length-map (places (length (lits_of c.terms)) c.bound) (clause_at (lits_of c.terms) c.bound first)
    ∙ count_places (length (lits_of c.terms)) c.bound (omega arith) from ∙ ap (λ (n : ℕ). counter_size n c.bound) size
