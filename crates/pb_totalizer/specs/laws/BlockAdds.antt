-- The lines about blocks of outputs, each where the constraints that it names are known.
use Rattle.std.proofs.Common.{◌≡◌, ◌≢◌, ◌≤◌, ◌<◌, ◌+◌, ◌-◌, ◌*◌, ◌%◌, ◌==◌, ◌^◌, inl, inr, ℕ, zero, suc, Bool, true, cond, List, [], ◌∷◌, refl, ap, sym, subst, arith, pos}
use Rattle.std.specs.Prelude.{All, map}
use Rattle.std.proofs.lemmas.Bool.{cases_eq, eq-eqb, ne_eqb}
use Rattle.std.proofs.lemmas.List.Elements.{All-cons, All-append, All-weaker}
use Rattle.pb_norm.specs.Constraints.{Weighted, Constraint, weight}
use Rattle.pb_norm.specs.Addition.{sum_of}
use Rattle.pb_norm.specs.Reduction.{opposite}
use Rattle.pb_norm.proofs.AdditionSizes.{weight-cons}
use Rattle.pb_steps.specs.declared.op.PolOp.TheVariants.{Push, Axiom, Add, Mul, Div}
use Rattle.pb_steps.specs.declared.step.Step.{Step}
use Rattle.pb_steps.specs.declared.step.Step.TheVariants.{Pol}
use Rattle.pb_steps.specs.Database.{Database}
use Rattle.pb_steps.specs.Operations.{division}
use Rattle.pb_derive.specs.Forms.{IsFormOf}
use Rattle.pb_derive.specs.Later.{Knows}
use Rattle.pb_derive.specs.Reifications.{spare, forward_of, reverse_of}
use Rattle.pb_derive.proofs.Expressions.{known, literal, plus, times, over, IsNormal, expression_adds}
use Rattle.pb_derive.proofs.FormOperations.{form_sum}
use Rattle.pb_derive.proofs.Lines.{Adds}
use Rattle.pb_derive.proofs.Opposites.{weight-opposite}
use Rattle.pb_derive.proofs.UnaryRows.{Other, reached, missed, places_of, front_of, places-weight, front-size, places_within, places_apart, places_positive}
use Rattle.pb_family.specs.Fresh.{positive_of}
use Rattle.pb_totalizer.specs.OutputBlocks.{block_start, block_end, block_front_line, block_tail_line, block_others_line, narrow_line}
use Rattle.pb_totalizer.specs.OutputRows.{nothing_line}
use Rattle.pb_totalizer.specs.laws.BlockForms.{block_of, block_front, block_front-apart, block_front-positive, block_front-first, block_front-step, places_behind, behind-step, block_others, block_others-apart, block_others-form, block-within, outside_of, outside-form}
use Rattle.pb_totalizer.specs.laws.CountForms.{both-apart}
use Rattle.pb_totalizer.specs.laws.OutputAdds.{Below, Named, IsReified, times-small, nothing, nothing_adds, places-named}
use Rattle.pb_totalizer.specs.laws.OutputForms.{Some, meaning_at, order_form, tail_of, front-apart, front-positive, front-below}

-- ---- what stands at each place

-- of the place behind x, which may be the first one of the next block
abbrev pub front_to : ℕ → ℕ → Constraint
front_to p zero = nothing
front_to p (suc x) = block_front p (block_start x) (x - block_start x)

-- from the last place down
abbrev pub behind_of : ℕ → ℕ → ℕ → Constraint
behind_of p last y = places_behind (p + suc (last - y)) (block_end last (last - y) - (last - y))

-- of none, of the first place, of the second, ..
abbrev pub all_but : ℕ → ℕ → ℕ → Constraint
all_but p last zero = places_behind p (suc (block_end last 0))
all_but p last (suc x) =
    cond {A = Constraint} (x % 32 == 0) (places_behind (p + suc x) (block_end last x - x)) (block_others p (block_start x) (x - 1 - block_start x) (block_end last x - x))

abbrev pub outside_at : ℕ → ℕ → ℕ → Constraint
outside_at p last k = outside_of p (32 * k) (block_end last (32 * k) - 32 * k) (last - block_end last (32 * k))

module _ (top p row last m : ℕ) (ts : List Weighted) (db : Database) (few : m ≤ 2 ^ 32) (less : suc last ≤ 2 ^ 32) (under : p + suc last ≤ top) (vars : top ≤ db.vars + 1) where
  block-size : (u n : ℕ) → u + n ≤ last → weight (block_front p u n).terms + (block_front p u n).degree ≤ 2 ^ 36
  block-size u n le =
      omega (arith, weight-cons (missed (suc (u + n)) (p + suc (u + n))) (block_of p u n), weight-cons (reached (suc u) (p + u)) (places_of true 1 (p + suc u) n), places-weight true 1 (p + suc u) n, le, less)

  block-named : (u n : ℕ) → u + n < last → All (Named top) (block_front p u n).terms
  block-named u n le =
      All-cons (Named top) (missed (suc (u + n)) (p + suc (u + n))) (block_of p u n) (omega (arith, le, under))
      (All-weaker (λ (t : Weighted). (p + u ≤ t.lit.var) × (t.lit.var < p + suc u + n)) (Named top) (λ t h. omega (arith, h.1, le, under)) (block_of p u n) (block-within p u n))

  order_size : (x : ℕ) → x < last → IsReified db p row last m ts → suc x * (weight (forward_of (meaning_at p ts (suc x))).terms + (forward_of (meaning_at p ts (suc x))).degree + (weight (reverse_of (meaning_at p ts x)).terms + (reverse_of (meaning_at p ts x)).degree)) ≤ 2 ^ 72
  order_size x within reified =
      let next = forward_of (meaning_at p ts (suc x)) in
      let same = reverse_of (meaning_at p ts x) in
      let inner : ℕ = weight next.terms + next.degree + (weight same.terms + same.degree) in
      let rest : ℕ = spare (meaning_at p ts x) in
      let sized : inner ≤ 2 ^ 40 =
      omega (arith, weight-cons (missed (suc (suc x)) (p + suc x)) ts, weight-cons (reached rest (p + x)) (map opposite ts), weight-opposite ts, reified.size, reified.within, within, few) in
      times-small (suc x) inner (omega (arith, within, less)) sized

  -- ---- fronts

  first_adds : (x : ℕ) → x < last → x % 32 ≡ 0 → IsReified db p row last m ts
      → Adds (Below top) db (Pol (Push (row + 2 * suc x) ∷ Push (row + 2 * x + 1) ∷ Add ∷ Div (pos m) ∷ Mul (pos (suc x)) ∷ [])) (block_front p x 0)
  first_adds x within start reified =
      let one = reified.forward (suc x) (omega (arith, within)) in
      let other = reified.reverse x (omega (arith, within)) in
      expression_adds (Below top) db (times (suc x) (over m (plus (known (row + 2 * suc x) (forward_of (meaning_at p ts (suc x))) one) (known (row + 2 * x + 1) (reverse_of (meaning_at p ts x)) other)))) (block_front p x 0)
      (omega arith, (omega (arith, reified.within), (tt, tt))) (omega arith) (omega (arith, order_size x within reified))
      (block_front-first p x (division m (sum_of one.0 other.0)) (order_form p ts x m reified.size (omega (arith, within, reified.within)) one.0 other.0 one.2 other.2))
      (record { apart = block_front-apart p x 0; positive = block_front-positive p x 0; named = block-named x 0 (omega (arith, within)) })

  next_adds : (fronts u n : ℕ) → suc (u + n) < last → IsReified db p row last m ts → Knows db (fronts + suc (u + n)) (block_front p u n)
      → Adds (Below top) db (Pol (Push (fronts + suc (u + n)) ∷ Push (row + 2 * suc (suc (u + n))) ∷ Push (row + 2 * suc (u + n) + 1) ∷ Add ∷ Div (pos m) ∷ Mul (pos (suc (suc (u + n)))) ∷ Add ∷ [])) (block_front p u (suc n))
  next_adds fronts u n within reified front =
      let x : ℕ = suc (u + n) in
      let one = reified.forward (suc x) (omega (arith, within)) in
      let other = reified.reverse x (omega (arith, within)) in
      let step = order_form p ts x m reified.size (omega (arith, within, reified.within)) one.0 other.0 one.2 other.2 in
      expression_adds (Below top) db
      (plus (known (fronts + x) (block_front p u n) front) (times (suc x) (over m (plus (known (row + 2 * suc x) (forward_of (meaning_at p ts (suc x))) one) (known (row + 2 * x + 1) (reverse_of (meaning_at p ts x)) other))))) (block_front p u (suc n))
      (tt, (omega arith, (omega (arith, reified.within), (tt, tt)))) (omega arith) (omega (arith, order_size x within reified, block-size u n (omega (arith, within))))
      (block_front-step p u n front.0 (division m (sum_of one.0 other.0)) front.2 step)
      (record { apart = block_front-apart p u (suc n); positive = block_front-positive p u (suc n); named = block-named u (suc n) (omega (arith, within)) })

  abbrev first_line : ℕ → Step
  first_line x = Pol (Push (row + 2 * suc x) ∷ Push (row + 2 * x + 1) ∷ Add ∷ Div (pos m) ∷ Mul (pos (suc x)) ∷ [])

  abbrev next_line : ℕ → ℕ → Step
  next_line fronts x = Pol (Push (fronts + x) ∷ Push (row + 2 * suc x) ∷ Push (row + 2 * x + 1) ∷ Add ∷ Div (pos m) ∷ Mul (pos (suc x)) ∷ Add ∷ [])

  later_adds : (fronts x u n : ℕ) → suc (u + n) ≡ x → block_start x ≡ u → x % 32 ≢ 0 → x < last → IsReified db p row last m ts → Knows db (fronts + x) (front_to p x) → Adds (Below top) db (next_line fronts x) (front_to p (suc x))
  later_adds fronts x u n at start some within reified front =
      let Goal : ℕ → Type 0 = λ y. block_start y ≡ u → y % 32 ≢ 0 → y < last → Knows db (fronts + y) (front_to p y) → Adds (Below top) db (next_line fronts y) (front_to p (suc y)) in
      let there : Goal (suc (u + n)) = λ begins rest under before.
      let same : block_start (u + n) ≡ u = omega (arith, begins, rest) in
      let behind : u + n - block_start (u + n) ≡ n = omega (arith, same) in
      let more : suc (u + n) - block_start (suc (u + n)) ≡ suc n = omega (arith, begins) in
      subst (λ (v : ℕ). Adds (Below top) db (next_line fronts (suc (u + n))) (block_front p v (suc (u + n) - block_start (suc (u + n))))) (sym begins)
      (subst (λ (k : ℕ). Adds (Below top) db (next_line fronts (suc (u + n))) (block_front p u k)) (sym more)
      (next_adds fronts u n under reified (subst (λ (k : ℕ). Knows db (fronts + suc (u + n)) (block_front p u k)) behind (subst (λ (v : ℕ). Knows db (fronts + suc (u + n)) (block_front p v (u + n - block_start (u + n)))) same before)))) in
      subst Goal at there start some within front

  pub block_front_adds : (fronts x : ℕ) → x < last → IsReified db p row last m ts → Knows db (fronts + x) (front_to p x) → Adds (Below top) db (block_front_line row m fronts x) (front_to p (suc x))
  block_front_adds fronts x within reified front =
      let by : Bool → Step = λ b. cond {A = Step} b (first_line x) (next_line fronts x) in
      elim (cases_eq (x % 32) 0) as (λ _. Adds (Below top) db (block_front_line row m fronts x) (front_to p (suc x))) [
        | inl start ↦
            let e : x ≡ block_start x = omega (arith, start) in
            let z : 0 ≡ x - block_start x = omega (arith, e) in
            subst (λ (s : Step). Adds (Below top) db s (front_to p (suc x))) (sym (ap by (eq-eqb (x % 32) 0 start)))
            (subst (λ (k : ℕ). Adds (Below top) db (first_line x) (block_front p (block_start x) k)) z
            (subst (λ (u : ℕ). Adds (Below top) db (first_line x) (block_front p u 0)) e (first_adds x within start reified)))
        | inr some ↦
            subst (λ (s : Step). Adds (Below top) db s (front_to p (suc x))) (sym (ap by (ne_eqb (x % 32) 0 some)))
            (later_adds fronts x (block_start x) (x - 1 - block_start x) (omega (arith, some)) refl some within reified front)
      ]

  -- ---- those behind

  behind_size : (q n : ℕ) → n ≤ last → weight (places_behind q n).terms + (places_behind q n).degree ≤ 2 ^ 36
  behind_size q n le = omega (arith, places-weight true 1 q n, le, less)

  behind_normal : (q n : ℕ) → q + n ≤ top → IsNormal (Below top) (places_behind q n)
  behind_normal q n le = record { apart = places_apart true 1 q n; positive = places_positive true 1 q n (omega arith); named = places-named top 1 q n le }

  one_more : (tails y v n : ℕ) → v + suc n ≤ top → n ≤ last → Knows db (tails + y) (places_behind (suc v) n) → Adds (Below top) db (Pol (Push (tails + y) ∷ Axiom (positive_of v) ∷ Add ∷ [])) (places_behind v (suc n))
  one_more tails y v n le small tail =
      expression_adds (Below top) db (plus (known (tails + y) (places_behind (suc v) n) tail) (literal (positive_of v))) (places_behind v (suc n)) (tt, omega (arith, le, vars)) (omega arith) (omega (arith, behind_size (suc v) n small))
      (behind-step v n tail.0 tail.2) (behind_normal v (suc n) le)

  pub block_tail_adds : (tails y : ℕ) → y < last → Knows db (tails + y) (behind_of p last y) → Adds (Below top) db (block_tail_line p last tails y) (behind_of p last (suc y))
  block_tail_adds tails y within tail =
      let x : ℕ = last - y in
      let v : ℕ = p + x in
      let line : Step = Pol (Push (tails + y) ∷ Axiom (positive_of v) ∷ Add ∷ []) in
      let by : Bool → Step = λ b. cond {A = Step} b (nothing_line p) line in
      let here : p + suc (last - suc y) ≡ v = omega (arith, within) in
      elim (cases_eq (x % 32) 0) as (λ _. Adds (Below top) db (block_tail_line p last tails y) (behind_of p last (suc y))) [
        | inl start ↦
            let none : 0 ≡ block_end last (last - suc y) - (last - suc y) = omega (arith, start, within) in
            subst (λ (s : Step). Adds (Below top) db s (behind_of p last (suc y))) (sym (ap by (eq-eqb (x % 32) 0 start)))
            (subst (λ (n : ℕ). Adds (Below top) db (nothing_line p) (places_behind (p + suc (last - suc y)) n)) none (nothing_adds top (positive_of p) db (omega (arith, under, vars))))
        | inr some ↦
            let n : ℕ = block_end last x - x in
            let more : suc n ≡ block_end last (last - suc y) - (last - suc y) = omega (arith, some, within) in
            let next : p + suc (last - y) ≡ suc v = omega arith in
            subst (λ (s : Step). Adds (Below top) db s (behind_of p last (suc y))) (sym (ap by (ne_eqb (x % 32) 0 some)))
            (subst (λ (q : ℕ). Adds (Below top) db line (places_behind q (block_end last (last - suc y) - (last - suc y)))) (sym here)
            (subst (λ (k : ℕ). Adds (Below top) db line (places_behind v k)) more (one_more tails y v n (omega (arith, under)) (omega arith) (subst (λ (q : ℕ). Knows db (tails + y) (places_behind q n)) next tail))))
      ]

  -- ---- all but one

  pub none_adds : (tails : ℕ) → Knows db (tails + last) (behind_of p last last) → Adds (Below top) db (Pol (Push (tails + last) ∷ Axiom (positive_of p) ∷ Add ∷ [])) (all_but p last 0)
  none_adds tails tail =
      let q : p + suc (last - last) ≡ suc p = omega arith in
      let n : block_end last (last - last) - (last - last) ≡ block_end last 0 = omega arith in
      one_more tails last p (block_end last 0) (omega (arith, under)) (omega arith)
      (subst (λ (k : ℕ). Knows db (tails + last) (places_behind (suc p) k)) n (subst (λ (v : ℕ). Knows db (tails + last) (places_behind v (block_end last (last - last) - (last - last)))) q tail))

  first_but : (first tails x : ℕ) → x ≤ last → Knows db first nothing → Knows db (tails + (last - x)) (places_behind (p + suc x) (block_end last x - x)) → Adds (Below top) db (Pol (Push first ∷ Push (tails + (last - x)) ∷ Add ∷ [])) (places_behind (p + suc x) (block_end last x - x))
  first_but first tails x le none tail =
      let n : ℕ = block_end last x - x in
      let s : Constraint = places_behind (p + suc x) n in
      expression_adds (Below top) db (plus (known first nothing none) (known (tails + (last - x)) s tail)) s (tt, tt) (omega arith) (omega (arith, behind_size (p + suc x) n (omega arith)))
      (nothing_form s none.0 tail.0 none.2 tail.2 (behind_normal (p + suc x) n (omega (arith, le, under)))) (behind_normal (p + suc x) n (omega (arith, le, under)))
    where
      nothing_form : (s c d : Constraint) → IsFormOf nothing c → IsFormOf s d → IsNormal (Below top) s → IsFormOf s (sum_of c d)
      nothing_form s c d hc hd normal = form_sum nothing s s c d 0 hc hd normal.apart normal.positive (λ a. omega arith) (omega arith)

  next_but : (fronts tails x u n k : ℕ) → suc (u + n) ≡ x → x + k ≤ last → Knows db (fronts + x) (block_front p u n) → Knows db (tails + (last - x)) (places_behind (p + suc x) k) → Adds (Below top) db (Pol (Push (fronts + x) ∷ Push (tails + (last - x)) ∷ Add ∷ [])) (block_others p u n k)
  next_but fronts tails x u n k at within front tail =
      let same : p + suc x ≡ p + suc (suc (u + n)) = omega (arith, at) in
      let behind : Knows db (tails + (last - x)) (places_behind (p + suc (suc (u + n))) k) = subst (λ (q : ℕ). Knows db (tails + (last - x)) (places_behind q k)) same tail in
      expression_adds (Below top) db (plus (known (fronts + x) (block_front p u n) front) (known (tails + (last - x)) (places_behind (p + suc (suc (u + n))) k) behind)) (block_others p u n k) (tt, tt) (omega arith)
      (omega (arith, block-size u n (omega (arith, at, within)), behind_size (p + suc (suc (u + n))) k (omega (arith, within)))) (block_others-form p u n k front.0 behind.0 front.2 behind.2)
      (record {
        apart = block_others-apart p u n k;
        positive = All-append Some (block_front p u n).terms (places_of true 1 (p + suc (suc (u + n))) k) (block_front-positive p u n) (places_positive true 1 (p + suc (suc (u + n))) k (omega arith));
        named = All-append (Named top) (block_front p u n).terms (places_of true 1 (p + suc (suc (u + n))) k) (front_named u n (omega (arith, at, within))) (places-named top 1 (p + suc (suc (u + n))) k (omega (arith, at, within, under)));
      })
    where
      front_named : (u n : ℕ) → suc (u + n) ≤ last → All (Named top) (block_front p u n).terms
      front_named u n le = block-named u n (omega (arith, le))

  pub block_others_adds : (fronts tails x : ℕ) → x < suc last → Knows db (fronts + 0) nothing → ((y : ℕ) → y < suc last → Knows db (fronts + y) (front_to p y)) → Knows db (tails + (last - x)) (behind_of p last (last - x))
      → Adds (Below top) db (block_others_line last fronts tails x) (all_but p last (suc x))
  block_others_adds fronts tails x within none fronts_known tail =
      let n : ℕ = block_end last x - x in
      let place : last - (last - x) ≡ x = omega (arith, within) in
      let behind : Knows db (tails + (last - x)) (places_behind (p + suc x) n) = subst (λ (y : ℕ). Knows db (tails + (last - x)) (places_behind (p + suc y) (block_end last y - y))) place tail in
      let line : ℕ → Step = λ id. Pol (Push id ∷ Push (tails + (last - x)) ∷ Add ∷ []) in
      let by_line : Bool → Step = λ b. line (cond {A = ℕ} b fronts (fronts + x)) in
      let by_sum : Bool → Constraint = λ b. cond {A = Constraint} b (places_behind (p + suc x) n) (block_others p (block_start x) (x - 1 - block_start x) n) in
      elim (cases_eq (x % 32) 0) as (λ _. Adds (Below top) db (block_others_line last fronts tails x) (all_but p last (suc x))) [
        | inl start ↦
            let t = eq-eqb (x % 32) 0 start in
            let zero_id : fronts + 0 ≡ fronts = omega arith in
            subst (λ (c : Constraint). Adds (Below top) db (block_others_line last fronts tails x) c) (sym (ap by_sum t))
            (subst (λ (s : Step). Adds (Below top) db s (places_behind (p + suc x) n)) (sym (ap by_line t)) (first_but fronts tails x (omega (arith, within)) (subst (λ (k : ℕ). Knows db k nothing) zero_id none) behind))
        | inr some ↦
            let t = ne_eqb (x % 32) 0 some in
            let u : ℕ = block_start x in
            let k : ℕ = x - 1 - u in
            let at : suc (u + k) ≡ x = omega (arith, some) in
            let front : Knows db (fronts + x) (block_front p u k) = front_at fronts x u k at some (fronts_known x within) in
            subst (λ (c : Constraint). Adds (Below top) db (block_others_line last fronts tails x) c) (sym (ap by_sum t))
            (subst (λ (s : Step). Adds (Below top) db s (block_others p u k n)) (sym (ap by_line t)) (next_but fronts tails x u k n at (omega (arith, within)) front behind))
      ]
    where
      front_at : (fronts x u n : ℕ) → suc (u + n) ≡ x → x % 32 ≢ 0 → Knows db (fronts + x) (front_to p x) → Knows db (fronts + x) (block_front p (block_start x) (x - 1 - block_start x))
      front_at fronts x u n at some h =
          let Goal : ℕ → Type 0 = λ y. y % 32 ≢ 0 → Knows db (fronts + y) (front_to p y) → Knows db (fronts + y) (block_front p (block_start y) (y - 1 - block_start y)) in
          let there : Goal (suc (u + n)) = λ rest k.
          let same : block_start (u + n) ≡ block_start (suc (u + n)) = omega (arith, rest) in
          let less : u + n - block_start (u + n) ≡ suc (u + n) - 1 - block_start (suc (u + n)) = omega (arith, same) in
          subst (λ (j : ℕ). Knows db (fronts + suc (u + n)) (block_front p (block_start (suc (u + n))) j)) less (subst (λ (v : ℕ). Knows db (fronts + suc (u + n)) (block_front p v (u + n - block_start (u + n)))) same k) in
          subst Goal at there some h

  -- ---- all outside a block

  pub narrow_adds : (fronts tails k : ℕ) → 32 * k ≤ last → Knows db (fronts + 32 * k) (front_of p (32 * k)) → Knows db (tails + (last - block_end last (32 * k))) (tail_of p last (last - block_end last (32 * k)))
      → Adds (Below top) db (narrow_line last fronts tails k) (outside_at p last k)
  narrow_adds fronts tails k le front tail =
      let u : ℕ = 32 * k in
      let e : ℕ = block_end last u in
      let n : ℕ = e - u in
      let j : ℕ = last - e in
      let end : u ≤ e = omega (arith, le) in
      let at : p + (suc last - j) ≡ p + suc (u + n) = omega (arith, end) in
      let behind : Knows db (tails + j) (places_behind (p + suc (u + n)) j) = subst (λ (q : ℕ). Knows db (tails + j) (places_behind q j)) at tail in
      let rest : List Weighted = places_of true 1 (p + suc (u + n)) j in
      expression_adds (Below top) db (plus (known (fronts + u) (front_of p u) front) (known (tails + j) (places_behind (p + suc (u + n)) j) behind)) (outside_of p u n j) (tt, tt) (omega arith)
      (omega (arith, front-size p u, le, less, behind_size (p + suc (u + n)) j (omega arith))) (outside-form p u n j front.0 behind.0 front.2 behind.2)
      (record {
        apart = both-apart (front_of p u).terms rest (front-apart p u) (places_apart true 1 (p + suc (u + n)) j) (crossed u n j);
        positive = All-append Some (front_of p u).terms rest (front-positive p u) (places_positive true 1 (p + suc (u + n)) j (omega arith));
        named = All-append (Named top) (front_of p u).terms rest (All-weaker (λ (t : Weighted). t.lit.var < p + suc u) (Named top) (λ t h. omega (arith, h, le, under)) (front_of p u).terms (front-below p u)) (places-named top 1 (p + suc (u + n)) j (omega (arith, end, under)));
      })
    where
      crossed : (u n j : ℕ) → All (λ t. All (Other t) (places_of true 1 (p + suc (u + n)) j)) (front_of p u).terms
      crossed u n j =
          All-weaker (λ (t : Weighted). t.lit.var < p + suc u) (λ (t : Weighted). All (Other t) (places_of true 1 (p + suc (u + n)) j)) (λ t low.
          All-weaker (λ (s : Weighted). (p + suc (u + n) ≤ s.lit.var) × (s.lit.var < p + suc (u + n) + j)) (Other t) (λ s h e. omega (arith, h.0, low, e)) (places_of true 1 (p + suc (u + n)) j) (places_within true 1 (p + suc (u + n)) j j (omega arith))) (front_of p u).terms (front-below p u)
