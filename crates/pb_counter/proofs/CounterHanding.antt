-- A counter's derivation, one number after another.
use Rattle.std.proofs.Common.{◌≡◌, ◌≤◌, ◌∙◌, ℕ, List, [], ◌∷◌, map, length, ap, sym, subst}
use Rattle.std.specs.List.{range_with_len}
use Rattle.std.specs.Prelude.{Result}
use Rattle.pb_base.specs.declared.fault.Failed.{Failed}
use Rattle.pb_base.specs.declared.literal.Lit.{Lit}
use Rattle.pb_base.specs.declared.literal.Term.{Term}
use Rattle.pb_norm.specs.Constraints.{weights}
use Rattle.pb_norm.specs.Reduction.{lits_of}
use Rattle.pb_family.specs.Handing.{Hands}
use Rattle.pb_family.specs.Sinks.{SinkState}
use Rattle.pb_family.proofs.TermSlices.{literal_count}
use Rattle.pb_counter.specs.declared.grid.Grid.{Grid}
use Rattle.pb_counter.specs.declared.place.Place.{Place}
use Rattle.pb_counter.specs.Counter.{clause_at, counter_clauses, counter_size, places}
use Rattle.pb_counter.specs.inner.Order.{place_at}
use Rattle.pb_counter.specs.laws.CounterOrder.{order_map}

pub clauses_by_number : (ts : List Term) (width first : ℕ) → 2 ≤ length ts → 1 ≤ width
    → map (λ (k : ℕ). clause_at (lits_of (weights ts)) width first (place_at (length ts) width k)) (range_with_len 0 (counter_size (length ts) width)) ≡ counter_clauses (lits_of (weights ts)) width first
clauses_by_number ts width first two some =
    let each = clause_at (lits_of (weights ts)) width first in
    sym (order_map each (length ts) width two some) ∙ ap (λ (n : ℕ). map each (places n width)) (sym (literal_count ts))

pub emit_same : {R T : Type 0} (grid : Grid) (p q : Place) (c : List Lit) (r : Result T Failed) (a b : SinkState R) → p ≡ q → c ≡ clause_at (lits_of (weights grid.terms.now)) grid.width grid.first p → Hands (c ∷ []) r a b
    → Hands (clause_at (lits_of (weights grid.terms.now)) grid.width grid.first q ∷ []) r a b
emit_same grid p q c r a b is written h =
    subst (λ (d : List Lit). Hands (d ∷ []) r a b) (written ∙ ap (clause_at (lits_of (weights grid.terms.now)) grid.width grid.first) is) h
