-- The last clause ends the derivation: all that is still held is deleted.
use Rattle.std.proofs.Common.{◌≡◌, ◌≢◌, ◌≤◌, ◌<◌, ◌+◌, ◌*◌, ◌^◌, ◌⊎◌, inl, inr, ◌++◌, ℕ, suc, true, List, [], ◌∷◌, sym, subst, arith, get_or}
use Rattle.std.specs.Prelude.{All, AllPairs}
use Rattle.std.specs.List.{range_with_len}
use Rattle.std.proofs.lemmas.List.Elements.{All-nil, All-cons, All-head, All-tail, All-append, All-weaker}
use Rattle.std.proofs.lemmas.List.Kept.{AllPairs-cons}
use Rattle.pb_base.specs.declared.literal.Lit.{Lit}
use Rattle.pb_base.proofs.Members.{All-append_both}
use Rattle.pb_base.proofs.Pairs.{AllPairs-head, AllPairs-tail}
use Rattle.pb_steps.specs.declared.step.Step.{Step}
use Rattle.pb_steps.specs.Database.{Database}
use Rattle.pb_steps.specs.Runs.{Runs}
use Rattle.pb_derive.specs.Derivations.{Derives}
use Rattle.pb_derive.specs.Later.{IsNumbered, Knows}
use Rattle.pb_derive.specs.Outputs.{Output}
use Rattle.pb_derive.proofs.Given.{clause_given}
use Rattle.pb_derive.proofs.Holding.{IsHolding, IsOutput, IsNotOut, OrBetween, before, between}
use Rattle.pb_derive.proofs.IdRanges.{IsOff, outside, each_between, range-apart}
use Rattle.pb_derive.proofs.Lines.{LineRan, line_ran}
use Rattle.pb_derive.proofs.Running.{runs_append}
use Rattle.pb_derive.proofs.Staged.{IsLeft, Staged, staged}
use Rattle.pb_derive.proofs.UnaryRows.{weighing}
use Rattle.pb_counter.specs.CounterRows.{stop_line, stop_clause}
use Rattle.pb_counter.specs.CounterHalves.{last_steps}
use Rattle.pb_counter.specs.laws.RowAdds.{Below, stop_adds}
use Rattle.pb_counter.specs.laws.RowOutputs.{stop-gives}
use Rattle.pb_counter.specs.laws.RowRuns.{IsRow}
use Rattle.pb_counter.specs.laws.RowStages.{WithRow, beside, of_row, AreBeside}
use Rattle.pb_counter.specs.laws.RowTotals.{total_of, stop_of}

pairs_join : (is js : List ℕ) → AllPairs (λ i j. i ≢ j) is → AllPairs (λ i j. i ≢ j) js → All (λ i. All (λ j. i ≢ j) js) is → AllPairs (λ i j. i ≢ j) (is ++ js)
pairs_join [] js h k cross = k
pairs_join (i ∷ is) js h k cross =
    AllPairs-cons (λ (i j : ℕ). i ≢ j) i (is ++ js) (All-append (λ (j : ℕ). i ≢ j) is js (AllPairs-head (λ (i j : ℕ). i ≢ j) i is h) (All-head (λ (i : ℕ). All (λ j. i ≢ j) js) i is cross))
    (pairs_join is js (AllPairs-tail (λ (i j : ℕ). i ≢ j) i is h) k (All-tail (λ (i : ℕ). All (λ j. i ≢ j) js) i is cross))

-- what is held before the last clause
pub record MayEnd (base db : Database) (R : ℕ → Type 0) (l : Lit) (p last order whole next : ℕ) (others : List ℕ) : Type 1 where
  pub low : l.var < p
  pub narrow : suc last < 2 ^ 31
  pub vars : p + suc last ≤ base.vars + 1
  pub numbered : IsNumbered base
  pub at : db.next ≡ next
  pub holding : IsHolding (Below (p + suc last)) base db (WithRow R last order)
  pub apart : AreBeside R last order next
  pub row : IsRow db p last order
  pub row_before : order + (2 * last + 1) ≤ next
  pub total : Knows db whole (total_of (weighing 1 l ∷ []) p (suc last))
  pub held : All R others
  pub all : (i : ℕ) → R i → IsOff others i → ⊥
  pub once : AllPairs (λ i j. i ≢ j) others

module _ (base db : Database) (R : ℕ → Type 0) (l : Lit) (p last order whole next : ℕ) (others : List ℕ) (h : MayEnd base db R l p last order whole next others) where
  abbrev P : ℕ → Type 0
  P = Below (p + suc last)

  abbrev L : ℕ → Type 0
  L = WithRow R last order

  abbrev None : ℕ → Type 0
  None i = ⊥

  abbrev output : Output
  output = record { id = next; clause = stop_clause l p last }

  abbrev row_ids : List ℕ
  row_ids = range_with_len order (2 * last + 1)

  ran : LineRan P db (stop_line last (order + last) whole) next (stop_of l p last)
  ran = line_ran P db (stop_line last (order + last) whole) next (stop_of l p last) h.holding.later.numbered h.at
      (stop_adds (p + suc last) l p (p + suc last) h.low db (omega (arith, h.vars, h.holding.later.vars)) last whole (order + last) (omega arith) (omega (arith, h.narrow)) h.total (h.row.fronts_known last (omega arith)))

  abbrev mid : Database
  mid = ran.added.ran.end

  at_mid : mid.next ≡ next + 1
  at_mid = omega (arith, ran.added.ran.next, h.at)

  given : All (IsOutput mid) (output ∷ [])
  given = All-cons (IsOutput mid) output [] (clause_given mid next (stop_clause l p last) (stop_of l p last) (stop-gives l p last h.low) ran.known) (All-nil (IsOutput mid))

  not_out : (i : ℕ) → i < next → IsNotOut (output ∷ []) i
  not_out i below = All-cons (λ (u : Output). u.id ≢ i) output [] (λ same. omega (arith, same, below)) (All-nil (λ (u : Output). u.id ≢ i))

  left : (i : ℕ) → OrBetween L db.next mid.next i → IsNotOut (output ∷ []) i → IsOff (row_ids ++ others) i → ⊥
  left i (before (beside r)) apart off = h.all i r (All-append_both (λ (j : ℕ). j ≢ i) row_ids others off).1
  left i (before (of_row from to)) apart off =
      elim (outside order (2 * last + 1) i (All-append_both (λ (j : ℕ). j ≢ i) row_ids others off).0) as (λ _. ⊥) [ inl below ↦ omega (arith, below, from) | inr above ↦ omega (arith, above, to) ]
  left i (between from to) apart off = All-head (λ (u : Output). u.id ≢ i) output [] apart (omega (arith, from, to, h.at, at_mid))

  cross : All (λ i. All (λ j. i ≢ j) others) row_ids
  cross = each_between (λ i. All (λ j. i ≢ j) others) order (2 * last + 1) (λ i from to.
      All-weaker R (λ j. i ≢ j) (λ j r same. elim (h.apart j r).1 as (λ _. ⊥) [ inl below ↦ omega (arith, same, below, from) | inr above ↦ omega (arith, same, above, to) ]) others h.held)

  is_left : IsLeft L db.next mid.next (output ∷ []) (row_ids ++ others) None
  is_left = record {
    deleted_held = All-append (λ (i : ℕ). OrBetween L db.next mid.next i × IsNotOut (output ∷ []) i) row_ids others
        (each_between (λ i. OrBetween L db.next mid.next i × IsNotOut (output ∷ []) i) order (2 * last + 1) (λ i from to. (before (of_row from to), not_out i (omega (arith, to, h.row_before)))))
        (All-weaker R (λ (i : ℕ). OrBetween L db.next mid.next i × IsNotOut (output ∷ []) i) (λ i r. (before (beside r), not_out i (h.apart i r).0)) others h.held);
    once = pairs_join row_ids others (range-apart order (2 * last + 1)) h.once cross;
    left = left;
    kept = λ i none. absurd none;
  }

  abbrev steps : List Step
  steps = last_steps l p last order whole next others

  done : Staged P base db mid steps (output ∷ []) (row_ids ++ others) None
  done = staged P base db L None (stop_line last (order + last) whole ∷ []) 1 (output ∷ []) (row_ids ++ others) h.holding ran.added given
      (All-cons (λ (u : Output). base.next ≤ u.id) output [] (omega (arith, h.at, h.holding.later.next)) (All-nil (λ (u : Output). base.next ≤ u.id))) is_left

  early : (i : ℕ) (O : Type 0) → ((((i < base.next) ⊎ ⊥)) ⊎ O) → (i < base.next) ⊎ O
  early i O (inl (inl below)) = inl below
  early i O (inl (inr none)) = absurd none
  early i O (inr out) = inr out

  -- what ran before, and this
  pub last_derives : (front : List Step) (clauses : List (List Lit)) (limit : ℕ) → limit ≡ p + suc last → Runs base front clauses db → Derives base (front ++ steps) (clauses ++ stop_clause l p last ∷ []) limit
  last_derives front clauses limit same runs =
      subst (λ (n : ℕ). Derives base (front ++ steps) (clauses ++ stop_clause l p last ∷ []) n) (sym same)
      (record {
        end = done.end;
        runs = runs_append base db done.end front steps clauses (stop_clause l p last ∷ []) runs done.runs;
        later = done.holding.later;
        swept = λ k d w. early (get_or done.end.live k d).id ((get_or done.end.live k d).out ≡ true) (done.holding.swept (λ i. i < base.next) (λ n e v. inl (h.numbered n e v)) k d w);
        unmarked = done.holding.unmarked;
      })
