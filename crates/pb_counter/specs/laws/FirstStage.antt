-- The first row is a stage of the derivation: its clauses are put out, and its reifications are deleted.
use Rattle.std.proofs.Common.{◌≡◌, ◌≢◌, ◌≤◌, ◌<◌, ◌+◌, ◌-◌, ◌*◌, ◌⊎◌, inl, inr, ℕ, zero, suc, List, [], subst, arith}
use Rattle.std.specs.Prelude.{All, Contains, map}
use Rattle.std.specs.List.{range_with_len}
use Rattle.std.proofs.lemmas.Bool.{cases_lt}
use Rattle.std.proofs.lemmas.Simd.{map-map}
use Rattle.std.proofs.lemmas.List.Elements.{All-nil, All-cons, All-head, All-map}
use Rattle.std.proofs.lemmas.List.FromFn.{length-map-range_with_len, get_or-map-range_with_len}
use Rattle.std.proofs.lemmas.List.Kept.{AllPairs-cons}
use Rattle.pb_base.specs.declared.literal.Lit.{Lit}
use Rattle.pb_base.specs.Literals.{negated}
use Rattle.pb_base.proofs.Members.{Contains-here}
use Rattle.pb_base.proofs.Pairs.{AllPairs-nil}
use Rattle.pb_norm.specs.Constraints.{Weighted, Constraint}
use Rattle.pb_steps.specs.Database.{Database}
use Rattle.pb_steps.specs.Runs.{Runs}
use Rattle.pb_derive.specs.Later.{Knows}
use Rattle.pb_derive.specs.Ones.{unit_of, ones}
use Rattle.pb_derive.specs.Outputs.{Output}
use Rattle.pb_derive.proofs.Given.{IsOfClause, clause_given}
use Rattle.pb_derive.proofs.Holding.{IsHolding, IsOutput, IsNotOut, OrBetween, before, between, holding_none}
use Rattle.pb_derive.proofs.IdRanges.{IsOff, outside, off-range, each_between, range-apart}
use Rattle.pb_derive.proofs.Staged.{IsLeft, staged, staged_knows}
use Rattle.pb_derive.proofs.UnaryRows.{Other, missed, order_of, front_of}
use Rattle.pb_family.specs.Fresh.{positive_of}
use Rattle.pb_counter.specs.CounterHalves.{first_clause, first_at, first_order_at, first_lines, first_output, first_outputs, first_steps, total_at}
use Rattle.pb_counter.specs.laws.FirstRow.{start_of, MayCount, FirstRan, first_ran}
use Rattle.pb_counter.specs.laws.RowAdds.{Below}
use Rattle.pb_counter.specs.laws.RowOutputs.{lits-apart}
use Rattle.pb_counter.specs.laws.RowRuns.{IsRow}
use Rattle.pb_counter.specs.laws.RowStages.{WithRow, beside, of_row}
use Rattle.pb_counter.specs.laws.RowTotals.{total_of}

start-gives : (l : Lit) (p j : ℕ) → l.var < p → IsOfClause (first_clause l p j) (start_of l p j)
start-gives l p zero low = lits-apart (positive_of (p + 0)) (negated l) 1 1 (λ e. omega (arith, e, low)) (omega arith) (omega arith) 1 (omega arith) (omega arith) (omega arith)
start-gives l p (suc j) low =
    let t : Weighted = missed 1 (p + suc j) in
    let Among : Weighted → Type 0 = λ u. (u.coef ≤ 1) × Contains (first_clause l p (suc j)) u.lit in
    record {
      apart = AllPairs-cons Other t [] (All-nil (Other t)) (AllPairs-nil Other);
      positive = All-cons (λ (u : Weighted). 0 < u.coef) t [] (omega arith) (All-nil (λ (u : Weighted). 0 < u.coef));
      among = All-cons Among t [] (omega arith, Contains-here t.lit []) (All-nil Among);
      some = omega arith;
    }

pub record FirstStaged (db : Database) (l : Lit) (us : List Lit) (p last id next : ℕ) : Type 1 where
  pub end : Database
  pub runs : Runs db (first_steps l p last id next) (map (first_clause l p) (range_with_len 0 (suc last))) end
  pub holding : IsHolding (Below (p + suc last)) db end (WithRow (λ i. i ≡ total_at last next) last (first_order_at last next))
  pub at : end.next ≡ total_at last next + 1
  pub row : IsRow end p last (first_order_at last next)
  pub total : Knows end (total_at last next) (total_of (ones us) p (suc last))

module _ (db : Database) (l : Lit) (us : List Lit) (p last id next : ℕ) (h : MayCount db l us p last id next) where
  abbrev P : ℕ → Type 0
  P = Below (p + suc last)

  abbrev M : ℕ → Type 0
  M = WithRow (λ i. i ≡ total_at last next) last (first_order_at last next)

  abbrev None : ℕ → Type 0
  None i = ⊥

  abbrev outputs : List Output
  outputs = first_outputs l p last next

  abbrev deleted : List ℕ
  deleted = range_with_len next (2 * suc last)

  ran : FirstRan db l us p last id next
  ran = first_ran db l us p last id next h

  abbrev mid : Database
  mid = ran.added.ran.end

  -- what holds of the ids from the first one on, holds of all
  outputs-all : (Q : Output → Type 0) → ((j : ℕ) → j < suc last → Q (first_output l p last next j)) → All Q outputs
  outputs-all Q each = All-map Q (first_output l p last next) (range_with_len 0 (suc last)) (each_between (λ j. Q (first_output l p last next j)) 0 (suc last) (λ j from to. each j (omega (arith, to))))

  given : All (IsOutput mid) outputs
  given = outputs-all (IsOutput mid) (λ j within.
      clause_given mid (first_at last next + j) (first_clause l p j) (start_of l p j) (start-gives l p j (All-head (λ (t : Weighted). t.lit.var < p) (unit_of l) (ones us) h.low.below)) (ran.starts_known j within))

  not_out : (i : ℕ) → ((i < first_at last next) ⊎ (first_order_at last next ≤ i)) → IsNotOut outputs i
  not_out i out = outputs-all (λ u. u.id ≢ i) (λ j within same. elim out as (λ _. ⊥) [ inl below ↦ omega (arith, same, below) | inr above ↦ omega (arith, same, above, within) ])

  outputs-outside : (i : ℕ) → IsNotOut outputs i → (i < first_at last next) ⊎ (first_order_at last next ≤ i)
  outputs-outside i off =
      elim (cases_lt i (first_at last next)) as (λ _. (i < first_at last next) ⊎ (first_order_at last next ≤ i)) [
        | inl below ↦ inl below
        | inr from ↦ elim (cases_lt i (first_order_at last next)) as (λ _. (i < first_at last next) ⊎ (first_order_at last next ≤ i)) [
          | inr above ↦ inr above
          | inl to ↦
              let j : ℕ = i - first_at last next in
              let u : Output = first_output l p last next j in
              let inside : j < suc last = omega (arith, from, to) in
              let other : u.id ≢ i = subst (λ (x : Output). x.id ≢ i) (get_or-map-range_with_len (first_output l p last next) 0 (suc last) j j u inside (omega arith))
              (off j u (omega (arith, inside, length-map-range_with_len (first_output l p last next) 0 (suc last)))) in
              absurd (other (omega (arith, from)))
        ]
      ]

  left_new : (i : ℕ) → db.next ≤ i → i < mid.next → IsNotOut outputs i → IsOff deleted i → M i
  left_new i from to apart off =
      elim (outside next (2 * suc last) i off) as (λ _. M i) [
        | inl below ↦ absurd (omega (arith, below, from, h.at))
        | inr above ↦ elim (outputs-outside i apart) as (λ _. M i) [
          | inl early ↦ absurd (omega (arith, early, above))
          | inr late ↦ elim (cases_lt i (total_at last next)) as (λ _. M i) [
            | inl row ↦ of_row late (omega (arith, row))
            | inr end ↦ beside (omega (arith, end, to, ran.at))
          ]
        ]
      ]

  is_left : IsLeft None db.next mid.next outputs deleted M
  is_left = record {
    deleted_held = each_between (λ i. OrBetween None db.next mid.next i × IsNotOut outputs i) next (2 * suc last) (λ i from to. (between (omega (arith, from, h.at)) (omega (arith, to, ran.at)), not_out i (inl to)));
    once = range-apart next (2 * suc last);
    left = λ i held apart off. elim held as (λ _. M i) [ before none ↦ absurd none | between from to ↦ left_new i from to apart off ];
    kept = λ i m. elim m as (λ _. OrBetween None db.next mid.next i × IsNotOut outputs i × IsOff deleted i) [
      | beside same ↦ (between (omega (arith, same, h.at)) (omega (arith, same, ran.at)), not_out i (inr (omega (arith, same))), off-range next (2 * suc last) i (inr (omega (arith, same))))
      | of_row from to ↦ (between (omega (arith, from, h.at)) (omega (arith, to, ran.at)), not_out i (inr from), off-range next (2 * suc last) i (inr (omega (arith, from))))
    ];
  }

  pub first_staged : FirstStaged db l us p last id next
  first_staged =
      let done = staged P db db None M (first_lines l p last id next) (5 * last + 5) outputs deleted (holding_none P db h.numbered) ran.added given (outputs-all (λ u. db.next ≤ u.id) (λ j within. omega (arith, h.at))) is_left in
      let knows : (i : ℕ) (s : Constraint) → next + 2 * suc last ≤ i → Knows mid i s → Knows done.end i s = λ i s from k. staged_knows P db db mid (first_steps l p last id next) outputs deleted M done i s (off-range next (2 * suc last) i (inr from)) k in
      record {
        end = done.end;
        runs = subst (λ (cs : List (List Lit)). Runs db (first_steps l p last id next) cs done.end) (map-map (λ (u : Output). u.clause) (first_output l p last next) (range_with_len 0 (suc last))) done.runs;
        holding = done.holding;
        at = omega (arith, done.next, ran.at);
        row = record {
          order_known = λ i within. knows (first_order_at last next + i) (order_of p i) (omega arith) (ran.row.order_known i within);
          fronts_known = λ i within. knows (first_order_at last next + last + i) (front_of p i) (omega arith) (ran.row.fronts_known i within);
        };
        total = knows (total_at last next) (total_of (ones us) p (suc last)) (omega arith) ran.total;
      }
