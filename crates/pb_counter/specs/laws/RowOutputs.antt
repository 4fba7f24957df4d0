-- The constraints of a row that are put out give its clauses, and have ids one behind the other.
use Rattle.std.proofs.Common.{◌≢◌, ◌≤◌, ◌<◌, ◌+◌, ◌-◌, ◌⊎◌, inl, inr, ℕ, zero, suc, List, [], ◌∷◌, refl, arith}
use Rattle.std.specs.Prelude.{All, Contains}
use Rattle.std.specs.List.{range_with_len, flat_map}
use Rattle.std.proofs.lemmas.Bool.{cases_lt, cases_eq}
use Rattle.std.proofs.lemmas.List.Elements.{All-nil, All-cons, All-head, All-tail, All-append}
use Rattle.std.proofs.lemmas.List.Kept.{AllPairs-cons}
use Rattle.pb_base.specs.declared.literal.Lit.{Lit}
use Rattle.pb_base.specs.Literals.{negated}
use Rattle.pb_base.proofs.Members.{Contains-here, Contains-there, All-append_both}
use Rattle.pb_norm.specs.Constraints.{Weighted}
use Rattle.pb_steps.specs.Database.{Database}
use Rattle.pb_derive.specs.Outputs.{Output}
use Rattle.pb_derive.proofs.Given.{IsOfClause, clause_given}
use Rattle.pb_derive.proofs.Holding.{IsOutput}
use Rattle.pb_derive.proofs.UnaryRows.{Other, weighing, reached, missed}
use Rattle.pb_family.specs.Fresh.{positive_of}
use Rattle.pb_family.proofs.FlatRanges.{flat_each, at_flat}
use Rattle.pb_counter.specs.CounterRows.{place_outputs, row_outputs, more_clause, keep_clause, stop_clause, mores_at, keeps_at, stop_at, order_at}
use Rattle.pb_counter.specs.laws.RowLines.{keep_of, more_of}
use Rattle.pb_counter.specs.laws.RowTotals.{stop_of}
use Rattle.pb_counter.specs.laws.RowAdds.{pair-apart, pair-all}
use Rattle.pb_counter.specs.laws.RowRuns.{RowLeft}

-- ---- the clauses

abbrev Among : List Lit → Weighted → Type 0
Among clause t = (t.coef ≤ 1) × Contains clause t.lit

abbrev Some : Weighted → Type 0
Some t = 0 < t.coef

pub lits-apart : (l k : Lit) (n m : ℕ) → l.var ≢ k.var → 0 < n → 0 < m → (d : ℕ) → 1 ≤ d → n ≤ 1 → m ≤ 1 → IsOfClause (k ∷ l ∷ []) (record { terms = record { coef = n; lit = l } ∷ record { coef = m; lit = k } ∷ []; degree = d })
lits-apart l k n m ne some more d from less lesser =
    let s : Weighted = record { coef = n; lit = l } in
    let t : Weighted = record { coef = m; lit = k } in
    let clause = k ∷ l ∷ [] in
    record {
      apart = pair-apart s t ne;
      positive = pair-all Some s t some more;
      among = pair-all (Among clause) s t (less, Contains-there k (l ∷ []) l (Contains-here l [])) (lesser, Contains-here k (l ∷ []));
      some = from;
    }

module _ (l : Lit) (p last : ℕ) (low : l.var < p) where
  abbrev q : ℕ
  q = p + suc last

  keep-gives : (j : ℕ) → j < suc last → IsOfClause (keep_clause p q j) (keep_of p q j)
  keep-gives j within = lits-apart (positive_of (q + j)) (negated (positive_of (p + j))) 1 1 (λ e. omega (arith, e, within)) (omega arith) (omega arith) 1 (omega arith) (omega arith) (omega arith)

  pub stop-gives : IsOfClause (stop_clause l p last) (stop_of l p last)
  stop-gives = lits-apart (negated (positive_of (p + last))) (negated l) 1 1 (λ e. omega (arith, e, low)) (omega arith) (omega arith) 1 (omega arith) (omega arith) (omega arith)

  more-gives : (j : ℕ) → j < suc last → IsOfClause (more_clause l p q j) (more_of l p q j)
  more-gives zero within = lits-apart (positive_of (q + 0)) (negated l) 1 1 (λ e. omega (arith, e, low)) (omega arith) (omega arith) 1 (omega arith) (omega arith) (omega arith)
  more-gives (suc j) within =
      let b : Weighted = reached 1 (q + suc j) in
      let x : Weighted = weighing 1 (negated l) in
      let s : Weighted = missed 1 (p + j) in
      let clause = more_clause l p q (suc j) in
      record {
        apart = AllPairs-cons Other b (x ∷ s ∷ []) (pair-all (Other b) x s (λ e. omega (arith, e, low)) (λ e. omega (arith, e, within))) (pair-apart x s (λ e. omega (arith, e, low)));
        positive = All-cons Some b (x ∷ s ∷ []) (omega arith) (pair-all Some x s (omega arith) (omega arith));
        among = All-cons (Among clause) b (x ∷ s ∷ []) (omega arith, (2, omega arith, refl)) (pair-all (Among clause) x s (omega arith, (0, omega arith, refl)) (omega arith, (1, omega arith, refl)));
        some = omega arith;
      }

  pub given : (db : Database) (next : ℕ) → RowLeft db l p last next → All (IsOutput db) (row_outputs l p last next)
  given db next left =
      let places = flat_map (place_outputs l p last next) (range_with_len 0 (suc last)) in
      let stop : Output = record { id = stop_at last next; clause = stop_clause l p last } in
      All-append (IsOutput db) places (stop ∷ [])
      (flat_each (IsOutput db) (place_outputs l p last next) 0 (suc last) (λ j from within.
      let more : Output = record { id = mores_at last next + j; clause = more_clause l p q j } in
      let keep : Output = record { id = keeps_at last next + j; clause = keep_clause p q j } in
      All-cons (IsOutput db) more (keep ∷ []) (clause_given db (mores_at last next + j) (more_clause l p q j) (more_of l p q j) (more-gives j (omega (arith, within))) (left.mores_known j (omega (arith, within))))
      (All-cons (IsOutput db) keep [] (clause_given db (keeps_at last next + j) (keep_clause p q j) (keep_of p q j) (keep-gives j (omega (arith, within))) (left.keeps_known j (omega (arith, within)))) (All-nil (IsOutput db)))))
      (All-cons (IsOutput db) stop [] (clause_given db (stop_at last next) (stop_clause l p last) (stop_of l p last) stop-gives left.stop_known) (All-nil (IsOutput db)))

  -- ---- their ids

  -- what holds of the ids from the first one on, holds of all
  pub outputs-all : (Q : ℕ → Type 0) (next : ℕ) → ((i : ℕ) → mores_at last next ≤ i → i < order_at last next → Q i) → All (λ u. Q u.id) (row_outputs l p last next)
  outputs-all Q next each =
      let R : Output → Type 0 = λ u. Q u.id in
      let places = flat_map (place_outputs l p last next) (range_with_len 0 (suc last)) in
      let stop : Output = record { id = stop_at last next; clause = stop_clause l p last } in
      All-append R places (stop ∷ [])
      (flat_each R (place_outputs l p last next) 0 (suc last) (λ j from within.
      let more : Output = record { id = mores_at last next + j; clause = more_clause l p q j } in
      let keep : Output = record { id = keeps_at last next + j; clause = keep_clause p q j } in
      All-cons R more (keep ∷ []) (each (mores_at last next + j) (omega arith) (omega (arith, within))) (All-cons R keep [] (each (keeps_at last next + j) (omega arith) (omega (arith, within))) (All-nil R))))
      (All-cons R stop [] (each (stop_at last next) (omega arith) (omega arith)) (All-nil R))

  -- and an id that is none of them is outside
  pub outputs-outside : (next i : ℕ) → All (λ u. u.id ≢ i) (row_outputs l p last next) → (i < mores_at last next) ⊎ (order_at last next ≤ i)
  outputs-outside next i off =
      let Off : Output → Type 0 = λ u. u.id ≢ i in
      let places = flat_map (place_outputs l p last next) (range_with_len 0 (suc last)) in
      let stop : Output = record { id = stop_at last next; clause = stop_clause l p last } in
      let parts = All-append_both Off places (stop ∷ []) off in
      let at : (j : ℕ) → j < suc last → All Off (place_outputs l p last next j) = λ j within. at_flat Off (place_outputs l p last next) 0 (suc last) parts.0 j (omega arith) (omega (arith, within)) in
      let more : (j : ℕ) → j < suc last → mores_at last next + j ≢ i = λ j within. All-head Off (record { id = mores_at last next + j; clause = more_clause l p q j }) (record { id = keeps_at last next + j; clause = keep_clause p q j } ∷ []) (at j within) in
      let keep : (j : ℕ) → j < suc last → keeps_at last next + j ≢ i = λ j within.
      All-head Off (record { id = keeps_at last next + j; clause = keep_clause p q j }) [] (All-tail Off (record { id = mores_at last next + j; clause = more_clause l p q j }) (record { id = keeps_at last next + j; clause = keep_clause p q j } ∷ []) (at j within)) in
      let end : stop_at last next ≢ i = All-head Off stop [] parts.1 in
      elim (cases_lt i (mores_at last next)) as (λ _. (i < mores_at last next) ⊎ (order_at last next ≤ i)) [
        | inl early ↦ inl early
        | inr from ↦ elim (cases_lt i (keeps_at last next)) as (λ _. (i < mores_at last next) ⊎ (order_at last next ≤ i)) [
          | inl one ↦ absurd (more (i - mores_at last next) (omega (arith, from, one)) (omega (arith, from)))
          | inr past ↦ elim (cases_lt i (stop_at last next)) as (λ _. (i < mores_at last next) ⊎ (order_at last next ≤ i)) [
            | inl two ↦ absurd (keep (i - keeps_at last next) (omega (arith, past, two)) (omega (arith, past)))
            | inr far ↦ elim (cases_eq (stop_at last next) i) as (λ _. (i < mores_at last next) ⊎ (order_at last next ≤ i)) [
              | inl same ↦ absurd (end same)
              | inr other ↦ inr (omega (arith, far, other))
            ]
          ]
        ]
      ]
