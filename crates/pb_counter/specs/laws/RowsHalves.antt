-- The rows of some literals run: first those of one half, then those of the other.
use Rattle.std.proofs.Common.{◌≡◌, ◌≢◌, ◌≤◌, ◌<◌, ◌+◌, ◌-◌, ◌*◌, ◌^◌, inl, inr, ◌++◌, ℕ, zero, suc, Bool, true, false, leb, List, [], ◌∷◌, length, take, drop, refl, ap, sym, ◌∙◌, subst, arith, append-nil, length-append}
use Rattle.std.specs.Prelude.{AllPairs}
use Rattle.std.proofs.Math.Nat.{mul-le-mul_right, two-pow-succ}
use Rattle.std.proofs.lemmas.Nat.{pow_pos}
use Rattle.std.proofs.lemmas.Bool.{cases_Bool, leb-true, leb-false}
use Rattle.std.proofs.lemmas.List.{map-append, take-append-drop, length-take-le}
use Rattle.std.proofs.Common.{length-drop}
use Rattle.std.proofs.lemmas.List.Elements.{All-nil, All-cons, All-head}
use Rattle.std.proofs.lemmas.List.Kept.{AllPairs-cons}
use Rattle.pb_base.specs.declared.literal.Lit.{Lit}
use Rattle.pb_base.proofs.Pairs.{AllPairs-nil}
use Rattle.pb_norm.specs.Constraints.{Weighted, Constraint}
use Rattle.pb_steps.specs.declared.step.Step.{Step}
use Rattle.pb_steps.specs.Database.{Database}
use Rattle.pb_steps.specs.Runs.{Runs}
use Rattle.pb_derive.specs.Later.{Knows}
use Rattle.pb_derive.specs.Ones.{unit_of, ones}
use Rattle.pb_derive.specs.Outputs.{Output}
use Rattle.pb_derive.specs.Stages.{stage_steps}
use Rattle.pb_derive.proofs.Appends.{weight-append}
use Rattle.pb_derive.proofs.Holding.{IsOutput, IsNotOut, OrBetween, before, between}
use Rattle.pb_derive.proofs.IdRanges.{IsOff}
use Rattle.pb_derive.proofs.Laters.{later_knows}
use Rattle.pb_derive.proofs.Lines.{LineRan, line_ran}
use Rattle.pb_derive.proofs.Rups.{ones-weight}
use Rattle.pb_derive.proofs.Running.{runs_append}
use Rattle.pb_derive.proofs.Staged.{IsLeft, Staged, staged, staged_knows}
use Rattle.pb_derive.proofs.UnaryRows.{order_of, front_of}
use Rattle.pb_counter.specs.CounterHalves.{RowsEnd, both_end, rows_end, rows_steps, join_steps, narrow_line, both_line}
use Rattle.pb_counter.specs.laws.RowAdds.{Below}
use Rattle.pb_counter.specs.laws.RowsAdds.{AreFew, low_parts, low_more, narrow_adds, total_adds, climb_adds}
use Rattle.pb_counter.specs.laws.RowsEnds.{IsEnd, end_is, ends_beside}
use Rattle.pb_counter.specs.laws.RowStages.{WithRow, beside, of_row, OrId, AreBeside}
use Rattle.pb_counter.specs.laws.RowsRun.{rows_clauses, rows_clauses-append, MayClimb, Climbs, LineHeld, line_held, beside_more, one_climbs}
use Rattle.pb_counter.specs.laws.RowTotals.{AreLow, total_of, climb_of}

-- ---- both halves

abbrev pub Four : ℕ → ℕ → ℕ → ℕ → List ℕ
Four a b c d = a ∷ b ∷ c ∷ d ∷ []

pub four-off : (a b c d i : ℕ) → a ≢ i → b ≢ i → c ≢ i → d ≢ i → IsOff (Four a b c d) i
four-off a b c d i h k m n =
    let Off : ℕ → Type 0 = λ j. j ≢ i in
    All-cons Off a (b ∷ c ∷ d ∷ []) h (All-cons Off b (c ∷ d ∷ []) k (All-cons Off c (d ∷ []) m (All-cons Off d [] n (All-nil Off))))

pub four-once : (a b c d : ℕ) → a < b → b < c → c < d → AllPairs (λ i j. i ≢ j) (Four a b c d)
four-once a b c d h k m =
    let Unequal : ℕ → ℕ → Type 0 = λ i j. i ≢ j in
    AllPairs-cons Unequal a (b ∷ c ∷ d ∷ []) (All-cons (Unequal a) b (c ∷ d ∷ []) (λ e. omega (arith, e, h)) (All-cons (Unequal a) c (d ∷ []) (λ e. omega (arith, e, h, k)) (All-cons (Unequal a) d [] (λ e. omega (arith, e, h, k, m)) (All-nil (Unequal a)))))
    (AllPairs-cons Unequal b (c ∷ d ∷ []) (All-cons (Unequal b) c (d ∷ []) (λ e. omega (arith, e, k)) (All-cons (Unequal b) d [] (λ e. omega (arith, e, k, m)) (All-nil (Unequal b))))
    (AllPairs-cons Unequal c (d ∷ []) (All-cons (Unequal c) d [] (λ e. omega (arith, e, m)) (All-nil (Unequal c))) (AllPairs-cons Unequal d [] (All-nil (Unequal d)) (AllPairs-nil Unequal))))

-- what is held while both halves are joined, and what of it is left
abbrev Joining : (ℕ → Type 0) → ℕ → RowsEnd → ℕ → Type 0
Joining R next one = OrId (OrId (OrId R next) one.climb) one.next

module _ (R : ℕ → Type 0) (last order next : ℕ) (one other : RowsEnd) (h : IsEnd one last (next + 1)) (k : IsEnd other last (one.next + 1)) (others : AreBeside R last order next) where
  abbrev L : ℕ → Type 0
  L = WithRow (OrId (Joining R next one) other.climb) last other.order

  abbrev M : ℕ → Type 0
  M = WithRow (OrId R other.next) last other.order

  abbrev gone : List ℕ
  gone = Four next one.climb one.next other.climb

  old-off : (i : ℕ) → i < next → IsOff gone i
  old-off i below = four-off next one.climb one.next other.climb i (λ e. omega (arith, e, below)) (λ e. omega (arith, e, below, h.climb_from)) (λ e. omega (arith, e, below, h.climb_from, h.climb_before)) (λ e. omega (arith, e, below, h.climb_from, h.climb_before, k.climb_from))

  new-off : (i : ℕ) → other.next ≤ i → IsOff gone i
  new-off i from = four-off next one.climb one.next other.climb i (λ e. omega (arith, e, from, h.climb_from, h.climb_before, k.climb_from, k.climb_before)) (λ e. omega (arith, e, from, h.climb_before, k.climb_from, k.climb_before)) (λ e. omega (arith, e, from, k.climb_from, k.climb_before)) (λ e. omega (arith, e, from, k.climb_before))

  row-off : (i : ℕ) → other.order ≤ i → i < other.order + (2 * last + 1) → IsOff gone i
  row-off i from to = four-off next one.climb one.next other.climb i (λ e. omega (arith, e, from, h.climb_from, h.climb_before, k.order_from)) (λ e. omega (arith, e, from, h.climb_before, k.order_from)) (λ e. omega (arith, e, from, k.order_from))
      (λ e. elim k.apart as (λ _. ⊥) [ inl below ↦ omega (arith, e, from, below) | inr above ↦ omega (arith, e, to, above) ])

  still : (n m : ℕ) → n ≡ other.next → m ≡ other.next + 1 → (i : ℕ) → OrBetween L n m i → IsOff gone i → M i
  still n m e f i (before (beside (inl (inl (inl (inl r)))))) off = beside (inl r)
  still n m e f i (before (beside (inl (inl (inl (inr same)))))) off = absurd (All-head (λ (j : ℕ). j ≢ i) next (one.climb ∷ one.next ∷ other.climb ∷ []) off (sym same))
  still n m e f i (before (beside (inl (inl (inr same))))) off = absurd (off 1 i (omega arith) (sym same))
  still n m e f i (before (beside (inl (inr same)))) off = absurd (off 2 i (omega arith) (sym same))
  still n m e f i (before (beside (inr same))) off = absurd (off 3 i (omega arith) (sym same))
  still n m e f i (before (of_row from to)) off = of_row from to
  still n m e f i (between from to) off = beside (inr (omega (arith, from, to, e, f)))

  is_left : (n m : ℕ) → n ≡ other.next → m ≡ other.next + 1 → IsLeft L n m [] gone M
  is_left n m e f =
      let none : (i : ℕ) → IsNotOut [] i = λ i. All-nil (λ (u : Output). u.id ≢ i) in
      let Held : ℕ → Type 0 = λ i. OrBetween L n m i × IsNotOut [] i in
      record {
        deleted_held = All-cons Held next (one.climb ∷ one.next ∷ other.climb ∷ []) (before (beside (inl (inl (inl (inr refl))))), none next)
            (All-cons Held one.climb (one.next ∷ other.climb ∷ []) (before (beside (inl (inl (inr refl)))), none one.climb)
            (All-cons Held one.next (other.climb ∷ []) (before (beside (inl (inr refl))), none one.next) (All-cons Held other.climb [] (before (beside (inr refl)), none other.climb) (All-nil Held))));
        once = four-once next one.climb one.next other.climb (omega (arith, h.climb_from)) h.climb_before (omega (arith, k.climb_from));
        left = λ i held apart off. still n m e f i held off;
        kept = λ i kept. elim kept as (λ _. OrBetween L n m i × IsNotOut [] i × IsOff gone i) [
          | beside r ↦ elim r as (λ _. OrBetween L n m i × IsNotOut [] i × IsOff gone i) [
            | inl early ↦ (before (beside (inl (inl (inl (inl early))))), none i, old-off i (others i early).0)
            | inr same ↦ (between (omega (arith, same, e)) (omega (arith, same, f)), none i, new-off i (omega (arith, same)))
          ]
          | of_row from to ↦ (before (of_row from to), none i, row-off i from to)
        ];
      }

module _ (base db : Database) (R : ℕ → Type 0) (us vs : List Lit) (p q m last order whole next : ℕ) (one other : RowsEnd) (first second : List Step)
    (h : MayClimb base db R (us ++ vs) p q last order whole next) (some_us : 1 ≤ length us) (some_vs : 1 ≤ length vs) (middle : m ≡ p + length us * suc last)
    (end_1 : IsEnd one last (next + 1)) (end_2 : IsEnd other last (one.next + 1)) where
  abbrev width : ℕ
  width = suc last

  split : ones (us ++ vs) ≡ ones us ++ ones vs
  split = map-append unit_of us vs

  size : length (us ++ vs) ≡ length us + length vs
  size = length-append us vs

  to : q ≡ m + length vs * width
  to = omega (arith, h.to, middle, ap (λ (n : ℕ). n * width) size)

  below_m : p ≤ m
  below_m = omega (arith, middle)

  within_q : m + width ≤ q
  within_q = let more : 1 * width ≤ length vs * width = mul-le-mul_right width some_vs in omega (arith, to, more)

  low : AreLow (ones us ++ ones vs) p
  low = subst (λ (ts : List Weighted). AreLow ts p) split h.low

  few : AreFew (ones us ++ ones vs) width
  few = record { light = omega (arith, weight-append (ones us) (ones vs), ones-weight us, ones-weight vs, size, h.few); narrow = omega (arith, h.narrow) }

  parts : AreLow (ones us) p × AreLow (ones vs) p
  parts = low_parts (ones us) (ones vs) p low

  total_0 : Knows db whole (total_of (ones us ++ ones vs) p width)
  total_0 = subst (λ (ts : List Weighted). Knows db whole (total_of ts p width)) split h.total

  narrowed : LineHeld base db R p last order next (narrow_line whole vs ∷ []) (total_of (ones us) p width)
  narrowed = line_held base db R p last order next (narrow_line whole vs) (total_of (ones us) p width) h.holding h.at h.row_before h.row
      (narrow_adds (p + width) db whole (ones us) vs p width low few (omega arith) (omega (arith, h.vars, within_q, below_m, h.holding.later.vars)) total_0)

  abbrev d1 : Database
  d1 = narrowed.end

  abbrev R1 : ℕ → Type 0
  R1 = OrId R next

  may_1 : MayClimb base d1 R1 us p m last order next (next + 1)
  may_1 = record {
    some = some_us;
    few = omega (arith, size, h.few);
    narrow = h.narrow;
    to = middle;
    low = parts.0;
    original = h.original;
    vars = omega (arith, h.vars, within_q);
    unnamed = λ v from under above. h.unnamed v from (omega (arith, under, within_q)) above;
    at = narrowed.at;
    holding = narrowed.holding;
    others = beside_more R last order next h.row_before h.others;
    row = narrowed.row;
    row_before = omega (arith, h.row_before);
    total_held = inr refl;
    total = narrowed.known;
  }

  module _ (left : Climbs base d1 R1 us p m last first one) where
    abbrev d2 : Database
    d2 = left.end

    total_2 : Knows d2 whole (total_of (ones us ++ ones vs) p width)
    total_2 = (total_0.0, left.stands whole (inl h.total_held) ∙ narrowed.stands whole (h.others whole h.total_held).0 ∙ total_0.1, total_0.2)

    joined : LineHeld base d2 (OrId R1 one.climb) m last one.order one.next (both_line whole one.climb ∷ []) (total_of (ones vs) m width)
    joined = line_held base d2 (OrId R1 one.climb) m last one.order one.next (both_line whole one.climb) (total_of (ones vs) m width) left.holding left.at end_1.order_before left.row
        (total_adds (m + width) d2 whole one.climb (ones us) (ones vs) p m width (low_more (ones vs) p m below_m parts.1) few (omega arith) total_2 left.climb)

    abbrev d3 : Database
    d3 = joined.end

    may_2 : MayClimb base d3 (Joining R next one) vs m q last one.order one.next (one.next + 1)
    may_2 = record {
      some = some_vs;
      few = omega (arith, size, h.few);
      narrow = h.narrow;
      to = to;
      low = low_more (ones vs) p m below_m parts.1;
      original = omega (arith, h.original, below_m);
      vars = h.vars;
      unnamed = λ v from under above. h.unnamed v (omega (arith, from, below_m)) under (omega (arith, above, below_m));
      at = joined.at;
      holding = joined.holding;
      others = beside_more (OrId R1 one.climb) last one.order one.next end_1.order_before (ends_beside R last order next one end_1 h.others);
      row = joined.row;
      row_before = omega (arith, end_1.order_before);
      total_held = inr refl;
      total = joined.known;
    }

    module _ (right : Climbs base d3 (Joining R next one) vs m q last second other) where
      abbrev d4 : Database
      d4 = right.end

      abbrev top : ℕ
      top = q + width

      climb_4 : Knows d4 one.climb (climb_of (ones us) p m width)
      climb_4 = (left.climb.0, right.stands one.climb (inl (inr refl)) ∙ joined.stands one.climb end_1.climb_before ∙ left.climb.1, left.climb.2)

      sum : LineRan (Below top) d4 (both_line one.climb other.climb) other.next (climb_of (ones us ++ ones vs) p q width)
      sum = line_ran (Below top) d4 (both_line one.climb other.climb) other.next (climb_of (ones us ++ ones vs) p q width) right.holding.later.numbered right.at
          (climb_adds top d4 one.climb other.climb (ones us) (ones vs) p m q width low few (omega (arith, below_m, within_q)) (omega arith) climb_4 right.climb)

      abbrev d5 : Database
      d5 = sum.added.ran.end

      at_5 : d5.next ≡ other.next + 1
      at_5 = omega (arith, sum.added.ran.next, right.at)

      done : Staged (Below top) base d4 d5 (stage_steps (both_line one.climb other.climb ∷ []) [] (Four next one.climb one.next other.climb)) [] (Four next one.climb one.next other.climb) (WithRow (OrId R other.next) last other.order)
      done = staged (Below top) base d4 (WithRow (OrId (Joining R next one) other.climb) last other.order) (WithRow (OrId R other.next) last other.order) (both_line one.climb other.climb ∷ []) 1 [] (Four next one.climb one.next other.climb) right.holding sum.added
          (All-nil (IsOutput d5)) (All-nil (λ (u : Output). base.next ≤ u.id)) (is_left R last order next one other end_1 end_2 h.others d4.next d5.next right.at at_5)

      knows : (i : ℕ) (s : Constraint) → IsOff (Four next one.climb one.next other.climb) i → Knows d5 i s → Knows done.end i s
      knows i s off k = staged_knows (Below top) base d4 d5 (stage_steps (both_line one.climb other.climb ∷ []) [] (Four next one.climb one.next other.climb)) [] (Four next one.climb one.next other.climb) (WithRow (OrId R other.next) last other.order) done i s off k

      of_row_knows : (i : ℕ) (s : Constraint) → other.order ≤ i → i < other.order + (2 * last + 1) → Knows d4 i s → Knows done.end i s
      of_row_knows i s from under k =
          knows i s (row-off R last order next one other end_1 end_2 h.others i from under) (later_knows (Below top) d4 d5 i s sum.added.ran.later (omega (arith, under, end_2.order_before, right.at)) k)

      abbrev stage : List Step
      stage = stage_steps (both_line one.climb other.climb ∷ []) [] (Four next one.climb one.next other.climb)

      all_runs : Runs db (narrow_line whole vs ∷ (first ++ join_steps whole one other next second)) (rows_clauses (us ++ vs) p last) done.end
      all_runs =
          let cs_1 = rows_clauses us p last in
          let cs_2 = rows_clauses vs m last in
          let tail = runs_append d3 d4 done.end second stage cs_2 [] right.runs done.runs in
          let back = runs_append d2 d3 done.end (both_line whole one.climb ∷ []) (second ++ stage) [] (cs_2 ++ []) joined.runs tail in
          let front = runs_append d1 d2 done.end first (both_line whole one.climb ∷ (second ++ stage)) cs_1 (cs_2 ++ []) left.runs back in
          let same : cs_1 ++ (cs_2 ++ []) ≡ rows_clauses (us ++ vs) p last =
          ap (λ (cs : List (List Lit)). cs_1 ++ cs) (append-nil cs_2) ∙ ap (λ (k : ℕ). cs_1 ++ rows_clauses vs k last) middle ∙ sym (rows_clauses-append us vs p last) in
          subst (λ (cs : List (List Lit)). Runs db (narrow_line whole vs ∷ (first ++ join_steps whole one other next second)) cs done.end) same
          (runs_append db d1 done.end (narrow_line whole vs ∷ []) (first ++ join_steps whole one other next second) [] (cs_1 ++ (cs_2 ++ [])) narrowed.runs front)

      both_climb : Climbs base db R (us ++ vs) p q last (narrow_line whole vs ∷ (first ++ join_steps whole one other next second)) (both_end other)
      both_climb = record {
        end = done.end;
        runs = all_runs;
        holding = done.holding;
        at = omega (arith, done.next, at_5);
        row = record {
          order_known = λ i inside. of_row_knows (other.order + i) (order_of q i) (omega arith) (omega (arith, inside)) (right.row.order_known i inside);
          fronts_known = λ i inside. of_row_knows (other.order + last + i) (front_of q i) (omega arith) (omega (arith, inside)) (right.row.fronts_known i inside);
        };
        climb = subst (λ (ts : List Weighted). Knows done.end other.next (climb_of ts p q width)) (sym split)
            (knows other.next (climb_of (ones us ++ ones vs) p q width) (new-off R last order next one other end_1 end_2 h.others other.next (omega arith)) sum.known);
        stands = λ i r.
            let early = (h.others i r).0 in
            done.stands i (old-off R last order next one other end_1 end_2 h.others i early)
            ∙ sum.added.ran.later.stands i (omega (arith, early, end_1.climb_from, end_1.climb_before, end_2.climb_from, end_2.climb_before, right.at))
            ∙ right.stands i (inl (inl (inl r))) ∙ joined.stands i (omega (arith, early, end_1.climb_from, end_1.climb_before)) ∙ left.stands i (inl r) ∙ narrowed.stands i early;
      }

-- ---- any number of rows

chosen : (base db : Database) (R : ℕ → Type 0) (ls : List Lit) (p q last : ℕ) (b c : Bool) (ss ts : List Step) (e f : RowsEnd) → b ≡ c → Climbs base db R ls p q last (elim c as (λ _. List Step) [ true ↦ ss | false ↦ ts ]) (elim c as (λ _. RowsEnd) [ true ↦ e | false ↦ f ])
    → Climbs base db R ls p q last (elim b as (λ _. List Step) [ true ↦ ss | false ↦ ts ]) (elim b as (λ _. RowsEnd) [ true ↦ e | false ↦ f ])
chosen base db R ls p q last b c ss ts e f same h = subst (λ (d : Bool). Climbs base db R ls p q last (elim d as (λ _. List Step) [ true ↦ ss | false ↦ ts ]) (elim d as (λ _. RowsEnd) [ true ↦ e | false ↦ f ])) (sym same) h

-- all steps of the rows are allowed, and put out their clauses
pub rows_climb : (n : ℕ) (base db : Database) (R : ℕ → Type 0) (ls : List Lit) (p q last order whole next : ℕ) → length ls ≤ 2 ^ n → MayClimb base db R ls p q last order whole next
    → Climbs base db R ls p q last (rows_steps n ls p last order whole next) (rows_end n (length ls) last next)
unfolding rows_steps rows_end
rows_climb zero base db R [] p q last order whole next le h = absurd (omega (arith, h.some))
rows_climb zero base db R (l ∷ []) p q last order whole next le h = one_climbs base db R l p q last order whole next h
rows_climb zero base db R (l ∷ k ∷ ls) p q last order whole next le h = absurd (omega (arith, le))
rows_climb (suc n) base db R ls p q last order whole next le h =
    let half : ℕ = 2 ^ n in
    let us : List Lit = take half ls in
    let vs : List Lit = drop half ls in
    let one : RowsEnd = rows_end n half last (next + 1) in
    let other : RowsEnd = rows_end n (length ls - half) last (one.next + 1) in
    let m : ℕ = p + half * suc last in
    let second : List Step = rows_steps n vs m last one.order one.next (one.next + 1) in
    let few = rows_steps n ls p last order whole next in
    let many = narrow_line whole vs ∷ (rows_steps n us p last order next (next + 1) ++ join_steps whole one other next second) in
    let all : ℕ → RowsEnd = λ count. rows_end n count last next in
    elim (cases_Bool (leb (length ls) half)) as (λ _. Climbs base db R ls p q last (rows_steps (suc n) ls p last order whole next) (rows_end (suc n) (length ls) last next)) [
      | inl within ↦ chosen base db R ls p q last (leb (length ls) half) true few many (all (length ls)) (both_end other) within (rows_climb n base db R ls p q last order whole next (leb-true (length ls) half within) h)
      | inr beyond ↦
          let above : half < length ls = leb-false (length ls) half beyond in
          let whole_list : us ++ vs ≡ ls = take-append-drop half ls in
          let size_us : length us ≡ half = length-take-le half ls (omega (arith, above)) in
          let size_vs : length vs ≡ length ls - half = length-drop half ls in
          let may : MayClimb base db R (us ++ vs) p q last order whole next = subst (λ (xs : List Lit). MayClimb base db R xs p q last order whole next) (sym whole_list) h in
          let some_us : 1 ≤ length us = omega (arith, size_us, pow_pos n) in
          let some_vs : 1 ≤ length vs = omega (arith, size_vs, above) in
          let middle : m ≡ p + length us * suc last = ap (λ (k : ℕ). p + k * suc last) (sym size_us) in
          let end_1 = end_is n half last (next + 1) in
          let end_2 = end_is n (length ls - half) last (one.next + 1) in
          let first : List Step = rows_steps n us p last order next (next + 1) in
          let may_us = may_1 base db R us vs p q m last order whole next one other first second may some_us some_vs middle end_1 end_2 in
          let d1 : Database = (narrowed base db R us vs p q m last order whole next one other first second may some_us some_vs middle end_1 end_2).end in
          let left : Climbs base d1 (OrId R next) us p m last first one =
          subst (λ (k : ℕ). Climbs base d1 (OrId R next) us p m last first (rows_end n k last (next + 1))) size_us (rows_climb n base d1 (OrId R next) us p m last order next (next + 1) (omega (arith, size_us)) may_us) in
          let may_vs = may_2 base db R us vs p q m last order whole next one other first second may some_us some_vs middle end_1 end_2 left in
          let d3 : Database = (joined base db R us vs p q m last order whole next one other first second may some_us some_vs middle end_1 end_2 left).end in
          let right : Climbs base d3 (Joining R next one) vs m q last second other =
          subst (λ (k : ℕ). Climbs base d3 (Joining R next one) vs m q last second (rows_end n k last (one.next + 1))) size_vs
          (rows_climb n base d3 (Joining R next one) vs m q last one.order one.next (one.next + 1) (omega (arith, size_vs, le, two-pow-succ n)) may_vs) in
          chosen base db R ls p q last (leb (length ls) half) false few many (all (length ls)) (both_end other) beyond
          (subst (λ (xs : List Lit). Climbs base db R xs p q last many (both_end other)) whole_list (both_climb base db R us vs p q m last order whole next one other first second may some_us some_vs middle end_1 end_2 left right))
    ]
