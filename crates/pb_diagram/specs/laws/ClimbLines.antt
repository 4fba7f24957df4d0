-- What the false nodes of a level weigh: no more than the literals from the level on.
use Rattle.std.proofs.Common.{◌≡◌, ◌≢◌, ◌≤◌, ◌<◌, ◌+◌, ◌*◌, ◌-◌, ◌^◌, ℕ, Bool, true, false, not, cond, List, [], ◌∷◌, ◌++◌, refl, ap, sym, ◌∙◌, subst, append_assoc, arith, pos, eqb}
use Rattle.std.specs.Prelude.{All}
use Rattle.std.proofs.lemmas.Bool.{eq-eqb, ne_eqb}
use Rattle.std.proofs.lemmas.List.Elements.{All-nil, All-cons, All-head, All-tail, All-append, All-weaker}
use Rattle.std.proofs.lemmas.List.Kept.{AllPairs-cons}
use Rattle.std.proofs.lemmas.List.Sums.{sum_by-append}
use Rattle.pb_base.specs.declared.literal.Lit.{Lit}
use Rattle.pb_base.specs.Literals.{Assignment}
use Rattle.pb_base.proofs.Pairs.{AllPairs-nil, AllPairs-head, AllPairs-tail}
use Rattle.pb_norm.specs.Constraints.{Weighted, Constraint, AllPositive, value, term_value}
use Rattle.pb_norm.proofs.AdditionValues.{value-cons}
use Rattle.pb_derive.specs.Forms.{AreApartTerms}
use Rattle.pb_derive.proofs.UnaryRows.{apart_append}
use Rattle.pb_family.specs.Fresh.{positive_of}
use Rattle.pb_steps.specs.declared.op.PolOp.{PolOp}
use Rattle.pb_steps.specs.declared.op.PolOp.TheVariants.{Push, Axiom, Add, Mul}
use Rattle.pb_steps.specs.declared.step.Step.TheVariants.{Pol}
use Rattle.pb_steps.specs.Database.{Database}
use Rattle.pb_derive.specs.Later.{Knows}
use Rattle.pb_derive.specs.Reifications.{forward_of}
use Rattle.pb_derive.proofs.Lines.{Adds}
use Rattle.std.proofs.Math.Nat.{mul-add}
use Rattle.pb_norm.specs.Constraints.{weight}
use Rattle.pb_diagram.specs.declared.node.Node.{Node}
use Rattle.pb_diagram.specs.Guards.{Rung, weighing, missed_of, rises, guard, last_top, own_of, plus_times, climb_line}
use Rattle.pb_diagram.specs.laws.GuardSplit.{IsRung}
use Rattle.pb_diagram.specs.laws.LevelWorths.{climbed}
use Rattle.pb_diagram.specs.laws.RungLines.{unit_clause, true_rise-value}
use Rattle.pb_diagram.specs.laws.FewTerms.{value-one}
use Rattle.pb_diagram.specs.laws.SplitWorths.{true_rise}
use Rattle.pb_diagram.specs.laws.StepSums.{AreUp}
use Rattle.pb_diagram.specs.laws.WorthSums.{holds, holds-negated, term-holds, IsSumBy, sum_known, sum_literal, sum_times, sum_more, sum_as, sum_plus, sum_adds}

abbrev Other : Weighted → Weighted → Type 0
Other s t = s.lit.var ≢ t.lit.var

-- the literals from a level on, and its nodes, whose variables start at a number
abbrev pub climb_of : List Weighted → ℕ → List Node → Constraint
climb_of ts p ns = record { terms = ts ++ rises positive_of p 0 ns; degree = last_top ns }

-- ---- an assignment under which all terms are false

pub falsified : List Weighted → Assignment → Assignment
falsified [] a v = a v
falsified (t ∷ ts) a v = cond (eqb v t.lit.var) (not t.lit.positive) (falsified ts a v)

unmoved : (t : Weighted) (ts us : List Weighted) (a : Assignment) → All (Other t) us → value (falsified (t ∷ ts) a) us ≡ value (falsified ts a) us
unfolding falsified
unmoved t ts [] a h = refl
unmoved t ts (u ∷ us) a h =
    let other : u.lit.var ≢ t.lit.var = λ e. All-head (Other t) u us h (sym e) in
    let same : term_value (falsified (t ∷ ts) a) u ≡ term_value (falsified ts a) u =
    ap (λ (b : Bool). cond (cond u.lit.positive (cond b (not t.lit.positive) (falsified ts a u.lit.var)) (not (cond b (not t.lit.positive) (falsified ts a u.lit.var)))) u.coef 0) (ne_eqb u.lit.var t.lit.var other) in
    omega (arith, value-cons (falsified (t ∷ ts) a) u us, value-cons (falsified ts a) u us, same, unmoved t ts us a (All-tail (Other t) u us h))

pub falsified-none : (ts : List Weighted) (a : Assignment) → AreApartTerms ts → value (falsified ts a) ts ≡ 0
unfolding falsified
falsified-none [] a apart = refl
falsified-none (t ∷ ts) a apart =
    let here : term_value (falsified (t ∷ ts) a) t ≡ 0 =
    ap (λ (b : Bool). cond (cond t.lit.positive (cond b (not t.lit.positive) (falsified ts a t.lit.var)) (not (cond b (not t.lit.positive) (falsified ts a t.lit.var)))) t.coef 0) (eq-eqb t.lit.var t.lit.var refl) ∙ by_sign t.lit.positive t.coef in
    omega (arith, value-cons (falsified (t ∷ ts) a) t ts, here, unmoved t ts ts a (AllPairs-head Other t ts apart), falsified-none ts a (AllPairs-tail Other t ts apart))
  where
    by_sign : (b : Bool) (n : ℕ) → cond (cond b (not b) (not (not b))) n 0 ≡ 0
    by_sign true n = refl
    by_sign false n = refl

pub falsified-other : (ts : List Weighted) (a : Assignment) (v : ℕ) → All (λ t. t.lit.var < v) ts → falsified ts a v ≡ a v
unfolding falsified
falsified-other [] a v low = refl
falsified-other (t ∷ ts) a v low =
    let less : t.lit.var < v = All-head (λ (t : Weighted). t.lit.var < v) t ts low in
    ap (λ (b : Bool). cond b (not t.lit.positive) (falsified ts a v)) (ne_eqb v t.lit.var (λ e. omega (arith, less, e))) ∙ falsified-other ts a v (All-tail (λ (t : Weighted). t.lit.var < v) t ts low)

-- ---- the terms are in normal form

rises-within : (p low m : ℕ) (ns : List Node) → m ≤ p → All (λ t. m ≤ t.lit.var) (rises positive_of p low ns)
rises-within p low m [] le = All-nil (λ (t : Weighted). m ≤ t.lit.var)
rises-within p low m (n ∷ ns) le = All-cons (λ (t : Weighted). m ≤ t.lit.var) (weighing (n.top - low) (positive_of p)) (rises positive_of (p + 1) n.top ns) le (rises-within (p + 1) n.top m ns (omega (arith, le)))

rises-apart : (p low : ℕ) (ns : List Node) → AreApartTerms (rises positive_of p low ns)
rises-apart p low [] = AllPairs-nil Other
rises-apart p low (n ∷ ns) =
    let t : Weighted = weighing (n.top - low) (positive_of p) in
    let us : List Weighted = rises positive_of (p + 1) n.top ns in
    AllPairs-cons Other t us (All-weaker (λ (u : Weighted). p + 1 ≤ u.lit.var) (Other t) (λ u above e. omega (arith, above, e)) us (rises-within (p + 1) n.top (p + 1) ns (omega arith))) (rises-apart (p + 1) n.top ns)

rises-positive : (p low : ℕ) (ns : List Node) → AreUp low ns → AllPositive (rises positive_of p low ns)
rises-positive p low [] up = All-nil (λ (t : Weighted). 0 < t.coef)
rises-positive p low (n ∷ ns) up = All-cons (λ (t : Weighted). 0 < t.coef) (weighing (n.top - low) (positive_of p)) (rises positive_of (p + 1) n.top ns) (omega (arith, up.0)) (rises-positive (p + 1) n.top ns up.1)

pub climb-apart : (ts : List Weighted) (p : ℕ) (ns : List Node) → AreApartTerms ts → All (λ t. t.lit.var < p) ts → AreApartTerms (climb_of ts p ns).terms
climb-apart ts p ns apart low = apart_append ts (rises positive_of p 0 ns) p apart (rises-apart p 0 ns) low (rises-within p 0 p ns (omega arith))

pub climb-positive : (ts : List Weighted) (p : ℕ) (ns : List Node) → AllPositive ts → AreUp 0 ns → AllPositive (climb_of ts p ns).terms
climb-positive ts p ns h up = All-append (λ (t : Weighted). 0 < t.coef) ts (rises positive_of p 0 ns) h (rises-positive p 0 ns up)

pub falsified-head : (t : Weighted) (ts : List Weighted) (a : Assignment) → holds (falsified (t ∷ ts) a) t.lit ≡ 0
unfolding falsified
falsified-head t ts a =
    ap (λ (b : Bool). cond (cond t.lit.positive (cond b (not t.lit.positive) (falsified ts a t.lit.var)) (not (cond b (not t.lit.positive) (falsified ts a t.lit.var)))) 1 0) (eq-eqb t.lit.var t.lit.var refl) ∙ by_sign t.lit.positive
  where
    by_sign : (b : Bool) → cond {A = ℕ} (cond b (not b) (not (not b))) 1 0 ≡ 0
    by_sign true = refl
    by_sign false = refl

-- ---- values

pub both-rises : (a : Assignment) (v low : ℕ) (ns : List Node) → value a (rises missed_of v low ns) + true_rise a v low ns ≡ climbed low ns
both-rises a v low [] = refl
both-rises a v low (n ∷ ns) =
    let c : ℕ = n.top - low in
    let whole : c * holds a (missed_of v) + c * holds a (positive_of v) ≡ c * 1 = sym (mul-add c (holds a (missed_of v)) (holds a (positive_of v))) ∙ ap (λ (k : ℕ). c * k) (holds-negated a (positive_of v)) in
    omega (arith, value-cons a (weighing c (missed_of v)) (rises missed_of (v + 1) n.top ns), term-holds a c (missed_of v), whole, both-rises a (v + 1) n.top ns)

all-true : (a : Assignment) (p low : ℕ) (ns : List Node) → ((w : ℕ) → p ≤ w → holds a (positive_of w) ≡ 1) → true_rise a p low ns ≡ climbed low ns
all-true a p low [] each = refl
all-true a p low (n ∷ ns) each = omega (arith, ap (λ (k : ℕ). (n.top - low) * k) (each p (omega arith)), all-true a (p + 1) n.top ns (λ w from. each w (omega (arith, from))))

pub climb-value : (a : Assignment) (ts : List Weighted) (p : ℕ) (ns : List Node) → value a (climb_of ts p ns).terms ≡ value a ts + true_rise a p 0 ns
climb-value a ts p ns = omega (arith, sum_by-append (term_value a) ts (rises positive_of p 0 ns), true_rise-value a p 0 ns)

two-times : (i j m k : ℕ) → i + j ≡ m → i * k + j * k ≡ m * k
two-times i j m k e = grind (arith, e)

-- ---- the line

module _ (db : Database) (r : Rung) (v forward unit before : ℕ) (ts : List Weighted) (here : IsRung db r) (first : v < r.var) (other : v ≢ r.term.lit.var) where
  abbrev l : Lit
  l = r.term.lit

  abbrev top : ℕ
  top = last_top r.nodes

  abbrev F : Constraint
  F = forward_of (guard v r)

  abbrev B : Constraint
  B = climb_of ts r.after r.next

  abbrev now : Constraint
  now = climb_of (r.term ∷ ts) r.var r.nodes

  F-value : (a : Assignment) → value a F.terms ≡ top * holds a (missed_of v) + (own_of r * holds a l + value a (rises missed_of r.after 0 r.next) + true_rise a r.var 0 r.nodes)
  F-value a =
      omega (
        arith,
        value-cons a (weighing top (missed_of v)) (guard v r).sum,
        term-holds a top (missed_of v),
        value-cons a (weighing (own_of r) l) (rises missed_of r.after 0 r.next ++ rises positive_of r.var 0 r.nodes),
        term-holds a (own_of r) l,
        sum_by-append (term_value a) (rises missed_of r.after 0 r.next) (rises positive_of r.var 0 r.nodes),
        true_rise-value a r.var 0 r.nodes,
      )

  abbrev pub climb_size : ℕ
  climb_size = weight (forward_of (guard v r)).terms + (forward_of (guard v r)).degree + last_top r.nodes * 2 + (r.term.coef - own_of r) * 1 + (weight (climb_of ts r.after r.next).terms + (climb_of ts r.after r.next).degree)

  pub climb_adds : (P : ℕ → Type 0) → Knows db forward F → Knows db unit (unit_clause v) → Knows db before B → AreApartTerms (r.term ∷ ts) → AllPositive (r.term ∷ ts) → All (λ t. t.lit.var < v) (r.term ∷ ts) → All (λ t. P t.lit.var) now.terms → 0 < last_top r.nodes → climb_size < 2 ^ 126
      → Adds P db (climb_line r forward unit before) now
  climb_adds P hf hu hb apart positive low named some small =
      let us : List Weighted = r.term ∷ ts in
      let all_true : Assignment = λ w. true in
      let under : Assignment = falsified us all_true in
      let g : Lit = positive_of v in
      let k : ℕ = r.term.coef - own_of r in
      let VF : Assignment → ℕ = λ a. value a F.terms in
      let VB : Assignment → ℕ = λ a. value a B.terms in
      let U : Assignment → ℕ = λ a. value a (unit_clause v).terms in
      let mf : ℕ = weight F.terms + F.degree in
      let mb : ℕ = weight B.terms + B.degree in
      let true_from : (w : ℕ) → v ≤ w → holds under (positive_of w) ≡ 1 = λ w from.
      ap (λ (b : Bool). cond b 1 0) (falsified-other us all_true w (All-weaker (λ (t : Weighted). t.lit.var < v) (λ (t : Weighted). t.lit.var < w) (λ t h. omega (arith, h, from)) us low)) in
      let lit_false : holds under l ≡ 0 = falsified-head r.term ts all_true in
      let rest_false : value under ts ≡ 0 = omega (arith, falsified-none us all_true apart, value-cons under r.term ts) in
      let nodes_rise = all-true under r.var 0 r.nodes (λ w from. true_from w (omega (arith, from, first))) in
      let next_rise = all-true under r.after 0 r.next (λ w from. true_from w (omega (arith, from, first, here.high))) in
      let no_guard : top * holds under (missed_of v) ≡ 0 = ap (λ (i : ℕ). top * i) (let e : holds under (missed_of v) ≡ 0 = omega (arith, holds-negated under g, true_from v (omega arith)) in e) ∙ (omega arith) in
      let no_own : own_of r * holds under l ≡ 0 = ap (λ (i : ℕ). own_of r * i) lit_false ∙ (omega arith) in
      let no_more : k * holds under l ≡ 0 = ap (λ (i : ℕ). k * i) lit_false ∙ (omega arith) in
      let unit_value : top * U under ≡ top * 1 = ap (λ (i : ℕ). top * i) (let e : U under ≡ 1 = omega (arith, value-one under 1 g, true_from v (omega arith)) in e) in
      let ops1 : List PolOp = Push forward ∷ Push unit ∷ Mul (pos top) ∷ Add ∷ [] in
      let sum1 : IsSumBy db ops1 (λ a. VF a + top * U a) (top + top * 1) (mf + top * 2) 3 =
      sum_more db under (Push forward ∷ []) (Push unit ∷ [] ++ Mul (pos top) ∷ []) VF (λ a. top * U a) top (top * 1) mf (top * 2) 2
      (sum_as db (Push forward ∷ []) VF VF top top mf mf 1 3 (sum_known db forward F hf) (λ a. refl) (omega arith) (omega arith))
      (sum_as db (Push unit ∷ [] ++ Mul (pos top) ∷ []) (λ a. top * U a) (λ a. top * U a) (top * 1) (top * 1) (top * 2) (top * 2) 1 2 (sum_times db top (Push unit ∷ []) U 1 2 1 some (sum_known db unit (unit_clause v) hu)) (λ a. refl) (omega arith) (omega arith))
      (omega (arith, F-value under, no_guard, no_own, both-rises under r.after 0 r.next, next_rise, nodes_rise, here.top, unit_value)) in
      let sum2 : IsSumBy db (ops1 ++ plus_times k (Axiom l ∷ [])) (λ a. VF a + top * U a + k * holds a l) (top + top * 1 + k * 0) (mf + top * 2 + k * 1) 3 =
      sum_plus db under k ops1 (Axiom l ∷ []) (λ a. VF a + top * U a) (λ a. holds a l) (top + top * 1) 0 (mf + top * 2) 1 2 sum1
      (sum_as db (Axiom l ∷ []) (λ a. holds a l) (λ a. holds a l) 0 0 1 1 1 2 (sum_literal db l here.known_lit) (λ a. refl) (omega arith) (omega arith))
      (omega (arith, F-value under, no_guard, no_own, no_more, both-rises under r.after 0 r.next, next_rise, nodes_rise, here.top, unit_value)) in
      let ops2 : List PolOp = ops1 ++ plus_times k (Axiom l ∷ []) in
      let sum3 : IsSumBy db (ops2 ++ (Push before ∷ [] ++ Add ∷ [])) (λ a. VF a + top * U a + k * holds a l + VB a) (top + top * 1 + k * 0 + B.degree) (mf + top * 2 + k * 1 + mb) 3 =
      sum_more db under ops2 (Push before ∷ []) (λ a. VF a + top * U a + k * holds a l) VB (top + top * 1 + k * 0) B.degree (mf + top * 2 + k * 1) mb 2 sum2
      (sum_as db (Push before ∷ []) VB VB B.degree B.degree mb mb 1 2 (sum_known db before B hb) (λ a. refl) (omega arith) (omega arith))
      (omega (arith, F-value under, no_guard, no_own, no_more, both-rises under r.after 0 r.next, next_rise, nodes_rise, here.top, here.last, unit_value, climb-value under ts r.after r.next, rest_false)) in
      let same : ops2 ++ (Push before ∷ [] ++ Add ∷ []) ≡ ops1 ++ (plus_times k (Axiom l ∷ []) ++ Push before ∷ Add ∷ []) = append_assoc ops1 (plus_times k (Axiom l ∷ [])) (Push before ∷ Add ∷ []) in
      subst (λ (os : List PolOp). Adds P db (Pol os) now) same
      (sum_adds db P now (ops2 ++ (Push before ∷ [] ++ Add ∷ [])) (λ a. VF a + top * U a + k * holds a l + VB a) (top + top * 1 + k * 0 + B.degree) (mf + top * 2 + k * 1 + mb) 3 sum3 (omega arith) small
      (record {
        apart = climb-apart us r.var r.nodes apart (All-weaker (λ (t : Weighted). t.lit.var < v) (λ (t : Weighted). t.lit.var < r.var) (λ t h. omega (arith, h, first)) us low);
        positive = climb-positive us r.var r.nodes positive here.up;
        named = named;
      })
      (λ a.
      let guarded : top * holds a (missed_of v) + top * U a ≡ top * 1 =
      sym (mul-add top (holds a (missed_of v)) (U a)) ∙ ap (λ (i : ℕ). top * i) (let e : holds a (missed_of v) + U a ≡ 1 = omega (arith, value-one a 1 g, holds-negated a g) in e) in
      omega (
        arith,
        climb-value a us r.var r.nodes,
        value-cons a r.term ts,
        term-holds a r.term.coef l,
        two-times (own_of r) k r.term.coef (holds a l) (omega arith),
        F-value a,
        guarded,
        both-rises a r.after 0 r.next,
        climb-value a ts r.after r.next,
        here.last,
      )))
