-- Rows by halves, as they are handed over.
use Rattle.std.proofs.Common.{◌≡◌, ◌≤◌, ◌<◌, ◌+◌, ◌-◌, ◌*◌, ◌^◌, ◌%◌, ◌∙◌, ◌++◌, ℕ, zero, suc, Bool, true, false, List, [], ◌∷◌, length, take, drop, map, refl, sym, ap, append-nil, subst, arith}
use Rattle.std.specs.Prelude.{Result, IsErrAnd, nat_le, count_by}
use Rattle.std.proofs.lemmas.Bool.{le-leb, lt-leb}
use Rattle.std.proofs.lemmas.List.{take-map, drop-map, length-take, length-drop}
use Rattle.std.proofs.Math.Nat.{add-mul, mul-add, pow-le-pow_right, two-pow-succ}
use Rattle.std.proofs.lemmas.Nat.{pow_pos}
use Rattle.pb_base.specs.declared.literal.Lit.{Lit}
use Rattle.pb_base.specs.declared.literal.Term.{Term}
use Rattle.pb_norm.specs.Constraints.{Weighted, weights}
use Rattle.pb_norm.specs.Reduction.{lits_of}
use Rattle.pb_steps.specs.declared.op.PolOp.{PolOp}
use Rattle.pb_steps.specs.declared.op.PolOp.TheVariants.{Weaken}
use Rattle.pb_steps.specs.declared.step.Step.{Step}
use Rattle.pb_steps.specs.declared.step.Step.TheVariants.{Del}
use Rattle.pb_steps.specs.Steps.{takes_id}
use Rattle.pb_family.specs.Fresh.{literal_at}
use Rattle.pb_family.specs.StepSinks.{StepState, TakesSteps, StopsInSteps, HandsSteps}
use Rattle.pb_family.specs.declared.sink.SinkFault.{SinkFault}
use Rattle.pb_family.proofs.Deriving.{Deriving, deriving_as, deriving_from, deriving_step, deriving_ends, steps_fault, steps_same}
use Rattle.pb_family.proofs.TermSlices.{weights_from, weights_until, literal_count}
use Rattle.pb_counter.specs.CounterRows.{row_steps}
use Rattle.pb_counter.specs.CounterHalves.{RowsEnd, both_end, rows_end, rows_steps, join_steps, narrow_line, both_line}
use Rattle.pb_counter.specs.inner.Ends.{Ends, row_ends}
use Rattle.pb_counter.specs.laws.RowsEnds.{end_is}
use Rattle.pb_counter.specs.laws.RowsFine.{ends_low}

-- what is taken out, by terms and by literals
pub weakens_same : (ts : List Term) → map (λ (t : Term). Weaken t.lit.var) ts ≡ map Weaken (map (λ (l : Lit). l.var) (lits_of (weights ts)))
weakens_same [] = refl
weakens_same (t ∷ ts) = ap (λ (os : List PolOp). Weaken t.lit.var ∷ os) (weakens_same ts)

-- the fault of all steps, which are written another way, is handed on
pub all_stopped : {R T : Type 0} {steps all : List Step} {old after : StepState R} (r : Result T SinkFault) (f : SinkFault) → IsErrAnd r (λ g. g ≡ f) → steps ≡ all → StopsInSteps steps old after f → HandsSteps all r old after
all_stopped {steps = steps} {old = old} {after = after} r f is same part = steps_same r steps _ old after same (steps_fault {all = steps} r f steps [] after is (deriving_from old (sym (append-nil steps))) part)

-- ---- how rows by halves are made

pick_true : {A : Type 0} (b : Bool) (x y : A) → b ≡ true → elim b as (λ _. A) [ true ↦ x | false ↦ y ] ≡ x
pick_true {A} b x y same = ap (λ (c : Bool). elim c as (λ _. A) [ true ↦ x | false ↦ y ]) same

pick_false : {A : Type 0} (b : Bool) (x y : A) → b ≡ false → elim b as (λ _. A) [ true ↦ x | false ↦ y ] ≡ y
pick_false {A} b x y same = ap (λ (c : Bool). elim c as (λ _. A) [ true ↦ x | false ↦ y ]) same

-- a power of a small height is what its bits say
pub half_is : (k : ℕ) → k ≤ 30 → 1 * 2 ^ k % 18446744073709551616 ≡ 2 ^ k
half_is k few = let small : 2 ^ k ≤ 2 ^ 30 = pow-le-pow_right {n = 2} (omega arith) {i = k} {j = 30} few in omega (arith, small)

pub one_row : (n : ℕ) (ls : List Lit) (p last order whole next : ℕ) → n ≡ 0 → row_steps (literal_at ls 0) p last order whole next ≡ rows_steps n ls p last order whole next
unfolding rows_steps
one_row zero ls p last order whole next none = refl
one_row (suc n) ls p last order whole next none = absurd (omega (arith, none))

pub one_end : (n count last next : ℕ) → n ≡ 0 → row_ends last next ≡ rows_end n count last next
unfolding rows_end
one_end zero count last next none = refl
one_end (suc n) count last next none = absurd (omega (arith, none))

-- no more than a half
narrow_rows : (m : ℕ) (ls : List Lit) (p last order whole next : ℕ) → length ls ≤ 2 ^ m → rows_steps m ls p last order whole next ≡ rows_steps (suc m) ls p last order whole next
unfolding rows_steps
narrow_rows m ls p last order whole next few =
    let one = rows_end m (2 ^ m) last (next + 1) in
    let other = rows_end m (length ls - 2 ^ m) last (one.next + 1) in
    sym (pick_true (nat_le (length ls) (2 ^ m)) (rows_steps m ls p last order whole next) (narrow_line whole (drop (2 ^ m) ls) ∷ (rows_steps m (take (2 ^ m) ls) p last order next (next + 1) ++ join_steps whole one other next (rows_steps m (drop (2 ^ m) ls) (p + 2 ^ m * suc last) last one.order one.next (one.next + 1)))) (le-leb (length ls) (2 ^ m) few))

narrow_end : (m count last next : ℕ) → count ≤ 2 ^ m → rows_end m count last next ≡ rows_end (suc m) count last next
unfolding rows_end
narrow_end m count last next few = sym (pick_true (nat_le count (2 ^ m)) (rows_end m count last next) (both_end (rows_end m (count - 2 ^ m) last ((rows_end m (2 ^ m) last (next + 1)).next + 1))) (le-leb count (2 ^ m) few))

pub low_rows : (m n : ℕ) (ls : List Lit) (p last order whole next : ℕ) → n ≡ suc m → length ls ≤ 2 ^ m → rows_steps m ls p last order whole next ≡ rows_steps n ls p last order whole next
low_rows m n ls p last order whole next is few = narrow_rows m ls p last order whole next few ∙ ap (λ (k : ℕ). rows_steps k ls p last order whole next) (sym is)

pub low_end : (m n count last next : ℕ) → n ≡ suc m → count ≤ 2 ^ m → rows_end m count last next ≡ rows_end n count last next
low_end m n count last next is few = narrow_end m count last next few ∙ ap (λ (k : ℕ). rows_end k count last next) (sym is)

-- two halves
half_rows : (m : ℕ) (ls : List Lit) (p last order whole next : ℕ) → 2 ^ m < length ls
    → (let one = rows_end m (2 ^ m) last (next + 1) in let other = rows_end m (length ls - 2 ^ m) last (one.next + 1) in
    rows_steps (suc m) ls p last order whole next ≡ narrow_line whole (drop (2 ^ m) ls) ∷ (rows_steps m (take (2 ^ m) ls) p last order next (next + 1) ++ join_steps whole one other next (rows_steps m (drop (2 ^ m) ls) (p + 2 ^ m * suc last) last one.order one.next (one.next + 1))))
unfolding rows_steps
half_rows m ls p last order whole next more =
    let one = rows_end m (2 ^ m) last (next + 1) in
    let other = rows_end m (length ls - 2 ^ m) last (one.next + 1) in
    pick_false (nat_le (length ls) (2 ^ m)) (rows_steps m ls p last order whole next) (narrow_line whole (drop (2 ^ m) ls) ∷ (rows_steps m (take (2 ^ m) ls) p last order next (next + 1) ++ join_steps whole one other next (rows_steps m (drop (2 ^ m) ls) (p + 2 ^ m * suc last) last one.order one.next (one.next + 1)))) (lt-leb (length ls) (2 ^ m) more)

half_end : (m count last next : ℕ) → 2 ^ m < count → rows_end (suc m) count last next ≡ both_end (rows_end m (count - 2 ^ m) last ((rows_end m (2 ^ m) last (next + 1)).next + 1))
unfolding rows_end
half_end m count last next more = pick_false (nat_le count (2 ^ m)) (rows_end m count last next) (both_end (rows_end m (count - 2 ^ m) last ((rows_end m (2 ^ m) last (next + 1)).next + 1))) (lt-leb count (2 ^ m) more)

-- ---- two halves, of terms

-- rows of up to 2^height literals, of which more than a half are given
pub record Cut : Type 0 where
  pub low : ℕ
  pub height : ℕ
  pub half : ℕ
  pub terms : List Term
  pub first : ℕ
  pub last : ℕ
  pub order : ℕ
  pub whole : ℕ
  pub next : ℕ
  pub is : half ≡ 2 ^ low
  pub on : height ≡ suc low
  pub more : half < length terms

module _ (h : Cut) where
  abbrev pub ls : List Lit
  ls = lits_of (weights h.terms)

  abbrev pub front : List Term
  front = take h.half h.terms

  abbrev pub back : List Term
  back = take (length h.terms - h.half) (drop h.half h.terms)

  abbrev pub one : RowsEnd
  one = rows_end h.low h.half h.last (h.next + 1)

  abbrev pub other : RowsEnd
  other = rows_end h.low (length h.terms - h.half) h.last (one.next + 1)

  abbrev pub first_half : List Step
  first_half = rows_steps h.low (lits_of (weights front)) h.first h.last h.order h.next (h.next + 1)

  abbrev pub second_half : List Step
  second_half = rows_steps h.low (lits_of (weights back)) (h.first + h.half * suc h.last) h.last one.order one.next (one.next + 1)

  abbrev pub narrow : Step
  narrow = narrow_line h.whole (lits_of (weights back))

  abbrev pub ending : List Step
  ending = both_line one.climb other.climb ∷ Del (h.next ∷ one.climb ∷ one.next ∷ other.climb ∷ []) ∷ []

  front_is : lits_of (weights front) ≡ take h.half ls
  front_is = ap lits_of (weights_until h.terms h.half) ∙ sym (take-map (λ (w : Weighted). w.lit) h.half (weights h.terms))

  back_is : lits_of (weights back) ≡ drop h.half ls
  back_is = ap lits_of (weights_from h.terms h.half h.half refl) ∙ sym (drop-map (λ (w : Weighted). w.lit) h.half (weights h.terms))

  pub front_count : length front ≡ h.half
  front_count = omega (arith, length-take h.half h.terms, h.more)

  pub back_count : length back ≡ length h.terms - h.half
  back_count = omega (arith, length-take (length h.terms - h.half) (drop h.half h.terms), length-drop h.half h.terms)

  abbrev made : ℕ → List Lit → List Lit → ℕ → List Step
  made j fs bs count =
      let first = rows_end h.low j h.last (h.next + 1) in
      let second = rows_end h.low (count - j) h.last (first.next + 1) in
      narrow_line h.whole bs ∷ (rows_steps h.low fs h.first h.last h.order h.next (h.next + 1) ++ join_steps h.whole first second h.next (rows_steps h.low bs (h.first + j * suc h.last) h.last first.order first.next (first.next + 1)))

  pub all_same : rows_steps h.height ls h.first h.last h.order h.whole h.next ≡ narrow ∷ (first_half ++ (both_line h.whole one.climb ∷ (second_half ++ ending)))
  all_same =
      ap (λ (j : ℕ). rows_steps j ls h.first h.last h.order h.whole h.next) h.on
      ∙ half_rows h.low ls h.first h.last h.order h.whole h.next (omega (arith, h.is, h.more, literal_count h.terms))
      ∙ ap (λ (j : ℕ). made j (take j ls) (drop j ls) (length ls)) (sym h.is)
      ∙ (λ i. made h.half (sym front_is i) (sym back_is i) (literal_count h.terms i))

  pub end_same : both_end other ≡ rows_end h.height (length h.terms) h.last h.next
  end_same =
      ap (λ (j : ℕ). both_end (rows_end h.low (length h.terms - j) h.last ((rows_end h.low j h.last (h.next + 1)).next + 1))) h.is
      ∙ sym (half_end h.low (length h.terms) h.last h.next (omega (arith, h.is, h.more)))
      ∙ ap (λ (j : ℕ). rows_end j (length h.terms) h.last h.next) (sym h.on)

-- ---- one after another

module _ {R : Type 0} (h : Cut) (old : StepState R) (at : old.next ≡ h.next) where
  abbrev pub all : List Step
  all = rows_steps h.height (ls h) h.first h.last h.order h.whole h.next

  abbrev rest_1 : List Step
  rest_1 = first_half h ++ (both_line h.whole (one h).climb ∷ (second_half h ++ ending h))

  pub narrow_stopped : {T : Type 0} (r : Result T SinkFault) (f : SinkFault) (after : StepState R) → IsErrAnd r (λ g. g ≡ f) → StopsInSteps (narrow h ∷ []) old after f → HandsSteps all r old after
  narrow_stopped r f after is part = steps_fault r f (narrow h ∷ []) rest_1 after is (deriving_from old (all_same h)) part

  -- the total of the first half was narrowed
  module _ (mid : StepState R) (taken : TakesSteps (narrow h ∷ []) old mid) where
    narrowed : Deriving all rest_1 old mid
    narrowed = deriving_step {left = rest_1} (narrow h ∷ []) mid (deriving_from old (all_same h)) taken

    pub narrowed_next : mid.next ≡ h.next + 1
    narrowed_next = let counted : count_by takes_id (narrow h ∷ []) ≡ 1 = refl in omega (arith, taken.ids, at, counted)

    module _ (id : ℕ) (given : id ≡ h.next) where
      first_as : rows_steps h.low (lits_of (weights (front h))) h.first h.last h.order id mid.next ≡ first_half h
      first_as = λ i. rows_steps h.low (lits_of (weights (front h))) h.first h.last h.order (given i) (narrowed_next i)

      pub first_end : rows_end h.low (length (front h)) h.last mid.next ≡ one h
      first_end = λ i. rows_end h.low (front_count h i) h.last (narrowed_next i)

      abbrev rest_2 : List Step
      rest_2 = both_line h.whole (one h).climb ∷ (second_half h ++ ending h)

      pub first_stopped : {T : Type 0} (r : Result T SinkFault) (f : SinkFault) (after : StepState R) → IsErrAnd r (λ g. g ≡ f) → StopsInSteps (rows_steps h.low (lits_of (weights (front h))) h.first h.last h.order id mid.next) mid after f → HandsSteps all r old after
      first_stopped r f after is part = steps_fault r f (first_half h) rest_2 after is narrowed (subst (λ (ss : List Step). StopsInSteps ss mid after f) first_as part)

      -- the first half was handed over
      module _ (mid_2 : StepState R) (o c : ℕ) (taken_2 : TakesSteps (rows_steps h.low (lits_of (weights (front h))) h.first h.last h.order id mid.next) mid mid_2)
          (ends : Ends (rows_end h.low (length (front h)) h.last mid.next) o c mid_2.next) where
        firsts : Deriving all rest_2 old mid_2
        firsts = deriving_step {left = rest_2} (first_half h) mid_2 narrowed (subst (λ (ss : List Step). TakesSteps ss mid mid_2) first_as taken_2)

        pub order_1 : o ≡ (one h).order
        order_1 = ends.0 ∙ ap (λ (e : RowsEnd). e.order) first_end

        pub climb_1 : c ≡ (one h).climb
        climb_1 = ends.1 ∙ ap (λ (e : RowsEnd). e.climb) first_end

        pub next_1 : mid_2.next ≡ (one h).next
        next_1 = ends.2 ∙ ap (λ (e : RowsEnd). e.next) first_end

        both_as : both_line h.whole c ∷ [] ≡ both_line h.whole (one h).climb ∷ []
        both_as = ap (λ (i : ℕ). both_line h.whole i ∷ []) climb_1

        abbrev rest_3 : List Step
        rest_3 = second_half h ++ ending h

        pub both_stopped : {T : Type 0} (r : Result T SinkFault) (f : SinkFault) (after : StepState R) → IsErrAnd r (λ g. g ≡ f) → StopsInSteps (both_line h.whole c ∷ []) mid_2 after f → HandsSteps all r old after
        both_stopped r f after is part = steps_fault r f (both_line h.whole (one h).climb ∷ []) rest_3 after is firsts (subst (λ (ss : List Step). StopsInSteps ss mid_2 after f) both_as part)

        -- and the total of the second
        module _ (mid_3 : StepState R) (taken_3 : TakesSteps (both_line h.whole c ∷ []) mid_2 mid_3) where
          boths : Deriving all rest_3 old mid_3
          boths = deriving_step {left = rest_3} (both_line h.whole (one h).climb ∷ []) mid_3 firsts (subst (λ (ss : List Step). TakesSteps ss mid_2 mid_3) both_as taken_3)

          pub next_2 : mid_3.next ≡ (one h).next + 1
          next_2 = let counted : count_by takes_id (both_line h.whole c ∷ []) ≡ 1 = refl in omega (arith, taken_3.ids, next_1, counted)

          module _ (w q : ℕ) (middle : w ≡ mid_2.next) (start : q ≡ h.first + h.half * suc h.last) where
            second_as : rows_steps h.low (lits_of (weights (back h))) q h.last o w mid_3.next ≡ second_half h
            second_as = λ i. rows_steps h.low (lits_of (weights (back h))) (start i) h.last (order_1 i) ((middle ∙ next_1) i) (next_2 i)

            second_end : rows_end h.low (length (back h)) h.last mid_3.next ≡ other h
            second_end = λ i. rows_end h.low (back_count h i) h.last (next_2 i)

            pub second_stopped : {T : Type 0} (r : Result T SinkFault) (f : SinkFault) (after : StepState R) → IsErrAnd r (λ g. g ≡ f) → StopsInSteps (rows_steps h.low (lits_of (weights (back h))) q h.last o w mid_3.next) mid_3 after f → HandsSteps all r old after
            second_stopped r f after is part = steps_fault r f (second_half h) (ending h) after is boths (subst (λ (ss : List Step). StopsInSteps ss mid_3 after f) second_as part)

            -- and the second half
            module _ (mid_4 : StepState R) (o_2 c_2 : ℕ) (taken_4 : TakesSteps (rows_steps h.low (lits_of (weights (back h))) q h.last o w mid_3.next) mid_3 mid_4)
                (ends_2 : Ends (rows_end h.low (length (back h)) h.last mid_3.next) o_2 c_2 mid_4.next) where
              seconds : Deriving all (ending h) old mid_4
              seconds = deriving_step {left = ending h} (second_half h) mid_4 boths (subst (λ (ss : List Step). TakesSteps ss mid_3 mid_4) second_as taken_4)

              pub climb_2 : c_2 ≡ (other h).climb
              climb_2 = ends_2.1 ∙ ap (λ (e : RowsEnd). e.climb) second_end

              pub next_4 : mid_4.next ≡ (other h).next
              next_4 = ends_2.2 ∙ ap (λ (e : RowsEnd). e.next) second_end

              abbrev pub joined : List Step
              joined = both_line c c_2 ∷ Del (id ∷ c ∷ w ∷ c_2 ∷ []) ∷ []

              joined_as : joined ≡ ending h
              joined_as = λ i. both_line (climb_1 i) (climb_2 i) ∷ Del (given i ∷ climb_1 i ∷ (middle ∙ next_1) i ∷ climb_2 i ∷ []) ∷ []

              pub joined_stopped : {T : Type 0} (r : Result T SinkFault) (f : SinkFault) (after : StepState R) → IsErrAnd r (λ g. g ≡ f) → StopsInSteps joined mid_4 after f → HandsSteps all r old after
              joined_stopped r f after is part = steps_fault r f (ending h) [] after is (deriving_as (sym (append-nil (ending h))) seconds) (subst (λ (ss : List Step). StopsInSteps ss mid_4 after f) joined_as part)

              pub joined_taken : (after : StepState R) → TakesSteps joined mid_4 after → TakesSteps all old after
              joined_taken after taken_5 = deriving_ends (deriving_step {left = []} (ending h) after (deriving_as (sym (append-nil (ending h))) seconds) (subst (λ (ss : List Step). TakesSteps ss mid_4 after) joined_as taken_5))

              pub joined_ends : (after : StepState R) (climb : ℕ) → climb ≡ mid_4.next → TakesSteps joined mid_4 after → Ends (rows_end h.height (length h.terms) h.last h.next) o_2 climb after.next
              joined_ends after climb is taken_5 =
                  let same = end_same h in
                  let counted : count_by takes_id joined ≡ 1 = refl in
                  let behind : after.next ≡ (other h).next + 1 = omega (arith, taken_5.ids, next_4, counted) in
                  (ends_2.0 ∙ ap (λ (e : RowsEnd). e.order) second_end ∙ ap (λ (e : RowsEnd). e.order) same, is ∙ next_4 ∙ ap (λ (e : RowsEnd). e.climb) same, behind ∙ ap (λ (e : RowsEnd). e.next) same)

-- ---- what has room

abbrev pub cut_of : (n : ℕ) (ts : List Term) (first last order whole next : ℕ) → n ≤ 31 → 0 < n → 1 * 2 ^ (n - 1) % 18446744073709551616 < length ts → Cut
cut_of n ts first last order whole next high some more = record {
  low = n - 1;
  height = n;
  half = 1 * 2 ^ (n - 1) % 18446744073709551616;
  terms = ts;
  first = first;
  last = last;
  order = order;
  whole = whole;
  next = next;
  is = half_is (n - 1) (omega (arith, high));
  on = (let e : n ≡ suc (n - 1) = omega (arith, some) in e);
  more = more;
}

module _ (h : Cut) (few : length h.terms ≤ 2 ^ h.height) where
  pub half_some : 1 ≤ h.half
  half_some = omega (arith, h.is, pow_pos h.low)

  pub back_few : length h.terms - h.half ≤ 2 ^ h.low
  back_few = omega (arith, few, h.is, ap (λ (n : ℕ). 2 ^ n) h.on, two-pow-succ h.low)

  pub one_low : (one h).next + 3 ≤ h.next + 1 + (8 * h.last + 10) * h.half
  one_low = ends_low h.low h.half h.last (h.next + 1) half_some (omega (arith, h.is))

  pub other_low : (other h).next + 3 ≤ (one h).next + 1 + (8 * h.last + 10) * (length h.terms - h.half)
  other_low = ends_low h.low (length h.terms - h.half) h.last ((one h).next + 1) (omega (arith, h.more)) back_few

  pub room_split : (8 * h.last + 10) * length h.terms ≡ (8 * h.last + 10) * h.half + (8 * h.last + 10) * (length h.terms - h.half)
  room_split = ap (λ (n : ℕ). (8 * h.last + 10) * n) (let e : length h.terms ≡ h.half + (length h.terms - h.half) = omega (arith, h.more) in e) ∙ mul-add (8 * h.last + 10) h.half (length h.terms - h.half)

  pub back_fits : (m : ℕ) → h.first + (length h.terms + 1) * suc h.last ≤ m → h.first + h.half * suc h.last + (length (back h) + 1) * suc h.last ≤ m
  back_fits m fits =
      let split : (length h.terms + 1) * suc h.last ≡ (h.half + (length (back h) + 1)) * suc h.last = ap (λ (n : ℕ). n * suc h.last) (let e : length h.terms + 1 ≡ h.half + (length (back h) + 1) = omega (arith, h.more, back_count h) in e) in
      let expand : (h.half + (length (back h) + 1)) * suc h.last ≡ h.half * suc h.last + (length (back h) + 1) * suc h.last = add-mul h.half (length (back h) + 1) (suc h.last) in
      omega (arith, fits, split, expand)

  pub back_room : (8 * h.last + 10) * length (back h) ≡ (8 * h.last + 10) * (length h.terms - h.half)
  back_room = ap (λ (n : ℕ). (8 * h.last + 10) * n) (back_count h)

  pub order_fits : (one h).order + (2 * h.last + 1) ≤ (one h).next
  order_fits = (end_is h.low h.half h.last (h.next + 1)).order_before
