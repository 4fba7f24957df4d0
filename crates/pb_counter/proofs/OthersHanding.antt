-- What comes behind the first row, by the other literals.
use Rattle.std.proofs.Common.{◌≡◌, ◌≤◌, ◌<◌, ◌+◌, ◌-◌, ◌*◌, ◌∙◌, ◌++◌, ℕ, zero, suc, Bool, false, List, [], ◌∷◌, length, take, drop, refl, sym, ap, subst, arith}
use Rattle.std.specs.Prelude.{◌==◌, if◌then◌else◌, slice_index_or, Result, IsErrAnd}
use Rattle.std.specs.List.{range_with_len}
use Rattle.std.proofs.lemmas.List.{get_or-drop, take-map, drop-map, length-take, length-drop}
use Rattle.std.proofs.Math.Dec.{eqb-suc-zero}
use Rattle.std.proofs.Math.Nat.{mul-suc}
use Rattle.pb_base.specs.declared.literal.Lit.{Lit}
use Rattle.pb_base.specs.declared.literal.Term.{Term}
use Rattle.pb_norm.specs.Constraints.{Weighted, weights}
use Rattle.pb_norm.specs.Reduction.{lits_of}
use Rattle.pb_steps.specs.declared.step.Step.{Step}
use Rattle.pb_steps.specs.declared.step.Step.TheVariants.{Out, Del}
use Rattle.pb_family.specs.Fresh.{positive_of, literal_at}
use Rattle.pb_family.specs.StepSinks.{StepState, TakesSteps, StopsInSteps, HandsSteps}
use Rattle.pb_family.specs.declared.sink.SinkFault.{SinkFault}
use Rattle.pb_family.proofs.Deriving.{deriving_from, deriving_step, steps_fault, steps_last, steps_same}
use Rattle.pb_family.proofs.TermSlices.{literal_of_term, weights_from, weights_until, literal_count}
use Rattle.pb_counter.specs.CounterRows.{stop_line}
use Rattle.pb_counter.specs.CounterHalves.{all_steps, first_steps, first_order_at, total_at, further_steps, last_steps, other_steps}

pub front_count : (ts : List Term) (k : ℕ) → k ≤ length ts → length (take k ts) ≡ k
front_count ts k within = omega (arith, length-take k ts, within)

pub back_count : (ts : List Term) → 1 ≤ length ts → length (take (length ts - (length ts - 1)) (drop (length ts - 1) ts)) ≡ 1
back_count ts some = omega (arith, length-take (length ts - (length ts - 1)) (drop (length ts - 1) ts), length-drop (length ts - 1) ts, some)

-- one less
pub fewer : (a n : ℕ) → 1 ≤ n → a * n ≡ a * (n - 1) + a
fewer a n some = ap (λ (k : ℕ). a * k) (let e : n ≡ suc (n - 1) = omega (arith, some) in e) ∙ (let e : a * suc (n - 1) ≡ a * (n - 1) + a = mul-suc a (n - 1) in e)

no_zero : (k : ℕ) → 0 < k → (k == 0) ≡ false
no_zero zero some = absurd (omega (arith, some))
no_zero (suc k) some = eqb-suc-zero k

module _ (ts : List Term) (p last order total next : ℕ) where
  abbrev ls : List Lit
  ls = lits_of (weights ts)

  pub no_others : length ts - 1 ≡ 0 → stop_line last (order + last) total ∷ Out next ∷ Del (range_with_len order (2 * last + 1) ++ (total ∷ [])) ∷ [] ≡ other_steps ls p last order total next
  no_others none = ap (λ (k : ℕ). if (k == 0) then last_steps (literal_at ls 0) p last order total next (total ∷ []) else further_steps (take k ls) (literal_at ls k) p last order total next) (let e : 0 ≡ length ls - 1 = omega (arith, none, literal_count ts) in e)

  by_count : (k : ℕ) → 0 < k → further_steps (take k ls) (literal_at ls k) p last order total next
      ≡ (if (k == 0) then last_steps (literal_at ls 0) p last order total next (total ∷ []) else further_steps (take k ls) (literal_at ls k) p last order total next)
  by_count k some = ap (λ (b : Bool). if b then last_steps (literal_at ls 0) p last order total next (total ∷ []) else further_steps (take k ls) (literal_at ls k) p last order total next) (sym (no_zero k some))

  pub some_others : 0 < length ts - 1
      → further_steps (lits_of (weights (take (length ts - 1) ts))) (literal_at (lits_of (weights (take (length ts - (length ts - 1)) (drop (length ts - 1) ts)))) 0) p last order total next ≡ other_steps ls p last order total next
  some_others some =
      let k : ℕ = length ts - 1 in
      let front : lits_of (weights (take k ts)) ≡ take k ls = ap lits_of (weights_until ts k) ∙ sym (take-map (λ (w : Weighted). w.lit) k (weights ts)) in
      let back : lits_of (weights (take (length ts - k) (drop k ts))) ≡ drop k ls = ap lits_of (weights_from ts k k refl) ∙ sym (drop-map (λ (w : Weighted). w.lit) k (weights ts)) in
      let at : literal_at (lits_of (weights (take (length ts - k) (drop k ts)))) 0 ≡ literal_at ls k = ap (λ (ms : List Lit). literal_at ms 0) back ∙ get_or-drop k ls 0 (positive_of 0) ∙ ap (literal_at ls) (let e : k + 0 ≡ k = omega arith in e) in
      (λ i. further_steps (front i) (at i) p last order total next)
      ∙ by_count k some
      ∙ ap (λ (j : ℕ). if (j == 0) then last_steps (literal_at ls 0) p last order total next (total ∷ []) else further_steps (take j ls) (literal_at ls j) p last order total next) (let e : k ≡ length ls - 1 = omega (arith, literal_count ts) in e)

-- ---- the whole

module _ {R : Type 0} (ts : List Term) (d : Term) (p last id : ℕ) (old : StepState R) (some : 2 ≤ length ts) where
  abbrev l : Lit
  l = literal_at (lits_of (weights ts)) 0

  abbrev us : List Lit
  us = drop 1 (lits_of (weights ts))

  abbrev others : List Step
  others = other_steps us p last (first_order_at last old.next) (total_at last old.next) (total_at last old.next + 1)

  first_is : first_steps (slice_index_or ts 0 d).lit p last id old.next ≡ first_steps l p last id old.next
  first_is = ap (λ (k : Lit). first_steps k p last id old.next) (sym (literal_of_term ts 0 d (omega (arith, some))))

  pub first_stopped : {T : Type 0} (r : Result T SinkFault) (f : SinkFault) (after : StepState R) → IsErrAnd r (λ g. g ≡ f) → StopsInSteps (first_steps (slice_index_or ts 0 d).lit p last id old.next) old after f
      → HandsSteps (all_steps l us last p id old.next) r old after
  first_stopped r f after is part = steps_fault r f (first_steps l p last id old.next) others after is (deriving_from old refl) (subst (λ (ss : List Step). StopsInSteps ss old after f) first_is part)

  pub others_handed : {T : Type 0} (r : Result T SinkFault) (order whole : ℕ) (mid after : StepState R) → TakesSteps (first_steps (slice_index_or ts 0 d).lit p last id old.next) old mid → mid.next ≡ old.next + (5 * last + 5)
      → order ≡ old.next + 3 * (1 + last) → whole ≡ old.next + 5 * last + 4 → HandsSteps (other_steps (lits_of (weights (take (length ts - 1) (drop 1 ts)))) p last order whole mid.next) r mid after
      → HandsSteps (all_steps l us last p id old.next) r old after
  others_handed r order whole mid after taken next orders wholes last_ones =
      let back : lits_of (weights (take (length ts - 1) (drop 1 ts))) ≡ us = ap lits_of (weights_from ts 1 1 refl) ∙ sym (drop-map (λ (w : Weighted). w.lit) 1 (weights ts)) in
      let at : order ≡ first_order_at last old.next = omega (arith, orders) in
      let all : whole ≡ total_at last old.next = omega (arith, wholes) in
      let behind : mid.next ≡ total_at last old.next + 1 = omega (arith, next) in
      steps_last r others after
      (deriving_step {left = others} (first_steps l p last id old.next) mid (deriving_from old refl) (subst (λ (ss : List Step). TakesSteps ss old mid) first_is taken))
      (steps_same r _ others mid after (λ i. other_steps (back i) p last (at i) (all i) (behind i)) last_ones)
