-- What comes behind the first row, us it is handed over.
use Rattle.std.proofs.Common.{◌≡◌, ◌≤◌, ◌+◌, ◌*◌, ◌^◌, ◌∙◌, ◌++◌, ℕ, List, [], ◌∷◌, length, refl, sym, ap, subst, arith}
use Rattle.std.specs.Prelude.{Result, IsErrAnd, count_by}
use Rattle.std.specs.List.{range_with_len}
use Rattle.pb_base.specs.declared.literal.Lit.{Lit}
use Rattle.pb_base.specs.declared.literal.Term.{Term}
use Rattle.pb_norm.specs.Constraints.{weights}
use Rattle.pb_norm.specs.Reduction.{lits_of}
use Rattle.pb_steps.specs.declared.step.Step.{Step}
use Rattle.pb_steps.specs.declared.step.Step.TheVariants.{Out, Del}
use Rattle.pb_steps.specs.Steps.{takes_id}
use Rattle.pb_family.specs.Fresh.{literal_at}
use Rattle.pb_family.specs.StepSinks.{StepState, TakesSteps, StopsInSteps, HandsSteps}
use Rattle.pb_family.specs.declared.sink.SinkFault.{SinkFault}
use Rattle.pb_family.proofs.Deriving.{Deriving, deriving_from, deriving_step, steps_fault, steps_last, steps_same}
use Rattle.pb_family.proofs.TermSlices.{literal_count}
use Rattle.pb_counter.specs.CounterRows.{stop_line}
use Rattle.pb_counter.specs.CounterHalves.{RowsEnd, rows_end, rows_steps, further_steps, narrow_line, both_line}
use Rattle.pb_counter.specs.inner.Ends.{Ends}
use Rattle.pb_counter.specs.laws.RowsEnds.{end_is}
use Rattle.pb_counter.specs.laws.RowsFine.{ends_low}

-- the last literal
only_one : (us : List Term) → length us ≡ 1 → lits_of (weights us) ≡ literal_at (lits_of (weights us)) 0 ∷ []
only_one [] one = absurd (omega (arith, one))
only_one (a ∷ []) one = refl
only_one (a ∷ b ∷ us) one = absurd (omega (arith, one))

module _ {R : Type 0} (ts us : List Term) (p last order total : ℕ) (old : StepState R) (one : length us ≡ 1) where
  abbrev pub ls : List Lit
  ls = lits_of (weights ts)

  abbrev l : Lit
  l = literal_at (lits_of (weights us)) 0

  abbrev pub end : RowsEnd
  end = rows_end 31 (length ls) last (old.next + 1)

  abbrev pub all : List Step
  all = further_steps ls l p last order total old.next

  abbrev narrow : Step
  narrow = narrow_line total (lits_of (weights us))

  abbrev rows : List Step
  rows = rows_steps 31 ls p last order old.next (old.next + 1)

  abbrev ending : List Step
  ending = stop_line last (end.order + last) end.next ∷ Out (end.next + 1) ∷ Del (range_with_len end.order (2 * last + 1) ++ (total ∷ old.next ∷ end.climb ∷ end.next ∷ [])) ∷ []

  all_same : all ≡ narrow ∷ (rows ++ (both_line total end.climb ∷ ending))
  all_same = ap (λ (ms : List Lit). narrow_line total ms ∷ (rows ++ (both_line total end.climb ∷ ending))) (sym (only_one us one))

  abbrev rest_1 : List Step
  rest_1 = rows ++ (both_line total end.climb ∷ ending)

  pub narrow_stopped : {T : Type 0} (r : Result T SinkFault) (f : SinkFault) (after : StepState R) → IsErrAnd r (λ g. g ≡ f) → StopsInSteps (narrow ∷ []) old after f → HandsSteps all r old after
  narrow_stopped r f after is part = steps_fault r f (narrow ∷ []) rest_1 after is (deriving_from old all_same) part

  module _ (mid : StepState R) (taken : TakesSteps (narrow ∷ []) old mid) (id : ℕ) (given : id ≡ old.next) where
    narrowed : Deriving all rest_1 old mid
    narrowed = deriving_step {left = rest_1} (narrow ∷ []) mid (deriving_from old all_same) taken

    pub narrowed_next : mid.next ≡ old.next + 1
    narrowed_next = let counted : count_by takes_id (narrow ∷ []) ≡ 1 = refl in omega (arith, taken.ids, counted)

    abbrev handed : List Step
    handed = rows_steps 31 ls p last order id mid.next

    rows_as : handed ≡ rows
    rows_as = λ i. rows_steps 31 ls p last order (given i) (narrowed_next i)

    end_as : rows_end 31 (length ts) last mid.next ≡ end
    end_as = λ i. rows_end 31 (sym (literal_count ts) i) last (narrowed_next i)

    abbrev rest_2 : List Step
    rest_2 = both_line total end.climb ∷ ending

    pub rows_stopped : {T : Type 0} (r : Result T SinkFault) (f : SinkFault) (after : StepState R) → IsErrAnd r (λ g. g ≡ f) → StopsInSteps handed mid after f → HandsSteps all r old after
    rows_stopped r f after is part = steps_fault r f rows rest_2 after is narrowed (subst (λ (ss : List Step). StopsInSteps ss mid after f) rows_as part)

    module _ (mid_2 : StepState R) (o c : ℕ) (taken_2 : TakesSteps handed mid mid_2) (ends : Ends (rows_end 31 (length ts) last mid.next) o c mid_2.next) where
      further : Deriving all rest_2 old mid_2
      further = deriving_step {left = rest_2} rows mid_2 narrowed (subst (λ (ss : List Step). TakesSteps ss mid mid_2) rows_as taken_2)

      pub order_1 : o ≡ end.order
      order_1 = ends.0 ∙ ap (λ (e : RowsEnd). e.order) end_as

      climb_1 : c ≡ end.climb
      climb_1 = ends.1 ∙ ap (λ (e : RowsEnd). e.climb) end_as

      pub next_1 : mid_2.next ≡ end.next
      next_1 = ends.2 ∙ ap (λ (e : RowsEnd). e.next) end_as

      both_as : both_line total c ∷ [] ≡ both_line total end.climb ∷ []
      both_as = ap (λ (i : ℕ). both_line total i ∷ []) climb_1

      pub both_stopped : {T : Type 0} (r : Result T SinkFault) (f : SinkFault) (after : StepState R) → IsErrAnd r (λ g. g ≡ f) → StopsInSteps (both_line total c ∷ []) mid_2 after f → HandsSteps all r old after
      both_stopped r f after is part = steps_fault r f (both_line total end.climb ∷ []) ending after is further (subst (λ (ss : List Step). StopsInSteps ss mid_2 after f) both_as part)

      module _ (mid_3 : StepState R) (taken_3 : TakesSteps (both_line total c ∷ []) mid_2 mid_3) where
        boths : Deriving all ending old mid_3
        boths = deriving_step {left = ending} (both_line total end.climb ∷ []) mid_3 further (subst (λ (ss : List Step). TakesSteps ss mid_2 mid_3) both_as taken_3)

        pub next_2 : mid_3.next ≡ end.next + 1
        next_2 = let counted : count_by takes_id (both_line total c ∷ []) ≡ 1 = refl in omega (arith, taken_3.ids, next_1, counted)

        pub all_handed : {T : Type 0} (r : Result T SinkFault) (w : ℕ) (after : StepState R) → w ≡ mid_2.next
            → HandsSteps (stop_line last (o + last) w ∷ Out mid_3.next ∷ Del (range_with_len o (2 * last + 1) ++ (total ∷ id ∷ c ∷ w ∷ [])) ∷ []) r mid_3 after → HandsSteps all r old after
        all_handed r w after middle last_ones =
            let at : w ≡ end.next = middle ∙ next_1 in
            steps_last r ending after boths
            (steps_same r _ ending mid_3 after (λ i. stop_line last (order_1 i + last) (at i) ∷ Out (next_2 i) ∷ Del (range_with_len (order_1 i) (2 * last + 1) ++ (total ∷ given i ∷ climb_1 i ∷ at i ∷ [])) ∷ []) last_ones)

  pub end_low : 1 ≤ length ts → length ts ≤ 2 ^ 31 → end.next + 3 ≤ old.next + 1 + (8 * last + 10) * length ts
  end_low some few = omega (arith, ends_low 31 (length ls) last (old.next + 1) (omega (arith, literal_count ts, some)) (omega (arith, literal_count ts, few)), ap (λ (n : ℕ). (8 * last + 10) * n) (literal_count ts))

  pub order_fits : end.order + (2 * last + 1) ≤ end.next
  order_fits = (end_is 31 (length ls) last (old.next + 1)).order_before
