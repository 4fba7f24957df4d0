-- Each clause of a node follows from its first constraint alone.
use Rattle.std.proofs.Common.{◌≡◌, ◌≢◌, ◌≤◌, ◌<◌, ◌+◌, ◌-◌, ◌*◌, ◌^◌, ℕ, Bool, true, false, cond, List, [], ◌∷◌, ◌++◌, length, refl, sym, subst, arith, pos, eqb}
use Rattle.std.specs.Prelude.{All, Contains, Option, None, Some}
use Rattle.std.proofs.lemmas.Bool.{eqb-true, eq-eqb, both_ways}
use Rattle.std.proofs.lemmas.List.Elements.{All-nil, All-cons, All-head, All-tail, All-append, All-weaker}
use Rattle.pb_base.specs.declared.literal.Lit.{Lit}
use Rattle.pb_base.specs.Literals.{Assignment, negated}
use Rattle.pb_base.proofs.Members.{Contains-here, Contains-there}
use Rattle.pb_norm.specs.Constraints.{Weighted, Constraint, value}
use Rattle.pb_steps.specs.declared.op.PolOp.{PolOp}
use Rattle.pb_steps.specs.declared.op.PolOp.TheVariants.{Push, Div, Weaken}
use Rattle.pb_steps.specs.declared.step.Step.{Step}
use Rattle.pb_steps.specs.declared.step.Step.TheVariants.{Pol}
use Rattle.pb_steps.specs.Database.{Database}
use Rattle.pb_steps.specs.Operations.{division}
use Rattle.pb_derive.specs.Claims.{Claim}
use Rattle.pb_derive.specs.Later.{Knows, IsNumbered}
use Rattle.pb_derive.specs.Reifications.{forward_of}
use Rattle.pb_derive.specs.inner.Ran.{StepGives, IsClaim}
use Rattle.pb_derive.proofs.Closed.{units-imply}
use Rattle.pb_derive.proofs.FormOperations.{form_all}
use Rattle.pb_derive.proofs.Given.{IsOfClause}
use Rattle.pb_derive.proofs.Laters.{later_knows, known_below}
use Rattle.pb_derive.proofs.Lines.{Adds}
use Rattle.pb_family.specs.Fresh.{positive_of}
use Rattle.pb_diagram.specs.declared.node.Node.{Node}
use Rattle.pb_diagram.specs.Guards.{weighing, missed_of, child_terms, child_least}
use Rattle.pb_diagram.specs.GuardedSteps.{count_nodes, first_nodes, spared_on, off_claims_by, off_claims, on_literals, spared_off, on_claim, level_claims, all_claims}
use Rattle.pb_diagram.specs.laws.FewTerms.{value-three, value-four, apart_two, apart_three, apart_four, positive_two, positive_three, positive_four}
use Rattle.pb_diagram.specs.laws.GuardSplit.{IsIn}
use Rattle.pb_diagram.specs.laws.LevelShape.{IsOver}
use Rattle.pb_diagram.specs.laws.LevelWorths.{AreChildren}
use Rattle.pb_diagram.specs.laws.NodesOver.{AreLevels}
use Rattle.pb_diagram.specs.laws.RungFacts.{off_in, on_in, AreBothKnown, LevelsMeant, count-cons, first-count}
use Rattle.pb_diagram.specs.laws.WorthSums.{IsSumBy, sum_known, sum_over, sum_without, sum_adds}

-- a line whose constraint is of a clause gives the clause
pub adds_gives : (P : ℕ → Type 0) (db : Database) (step : Step) (s : Constraint) (clause : List Lit) → Adds P db step s → IsOfClause clause s → StepGives db step clause
adds_gives P db step s clause adds of =
    let Among : Weighted → Type 0 = λ t. (t.coef ≤ 1) × Contains clause t.lit in
    let all = form_all Among s adds.constraint of.apart of.positive adds.form of.among in
    record {
      constraint = adds.constraint;
      allowed = adds.allowed;
      implies = units-imply adds.constraint clause all (λ plain. omega (arith, of.some, adds.form.degree));
      among = All-weaker Among (λ t. Contains clause t.lit) (λ t h. h.1) adds.constraint.terms all;
    }

-- ---- clauses of two and of three literals

abbrev two : Lit → Lit → Constraint
two k j = record { terms = weighing 1 k ∷ weighing 1 j ∷ []; degree = 1 }

abbrev three : Lit → Lit → Lit → Constraint
three k j i = record { terms = weighing 1 k ∷ weighing 1 j ∷ weighing 1 i ∷ []; degree = 1 }

abbrev Among : List Lit → Weighted → Type 0
Among clause t = (t.coef ≤ 1) × Contains clause t.lit

two_clause : (k j : Lit) → k.var ≢ j.var → IsOfClause (k ∷ j ∷ []) (two k j)
two_clause k j ne = record {
  apart = apart_two (weighing 1 k) (weighing 1 j) ne;
  positive = positive_two (weighing 1 k) (weighing 1 j) (omega arith) (omega arith);
  among = All-cons (Among (k ∷ j ∷ [])) (weighing 1 k) (weighing 1 j ∷ []) (omega arith, Contains-here k (j ∷ []))
      (All-cons (Among (k ∷ j ∷ [])) (weighing 1 j) [] (omega arith, Contains-there k (j ∷ []) j (Contains-here j [])) (All-nil (Among (k ∷ j ∷ []))));
  some = omega arith;
}

three_clause : (k j i : Lit) → k.var ≢ j.var → k.var ≢ i.var → j.var ≢ i.var → IsOfClause (k ∷ j ∷ i ∷ []) (three k j i)
three_clause k j i ne nf ng =
    let clause : List Lit = k ∷ j ∷ i ∷ [] in
    record {
      apart = apart_three (weighing 1 k) (weighing 1 j) (weighing 1 i) ne nf ng;
      positive = positive_three (weighing 1 k) (weighing 1 j) (weighing 1 i) (omega arith) (omega arith) (omega arith);
      among = All-cons (Among clause) (weighing 1 k) (weighing 1 j ∷ weighing 1 i ∷ []) (omega arith, Contains-here k (j ∷ i ∷ []))
          (All-cons (Among clause) (weighing 1 j) (weighing 1 i ∷ []) (omega arith, Contains-there k (j ∷ i ∷ []) j (Contains-here j (i ∷ [])))
          (All-cons (Among clause) (weighing 1 i) [] (omega arith, Contains-there k (j ∷ i ∷ []) i (Contains-there j (i ∷ []) i (Contains-here i []))) (All-nil (Among clause))));
      some = omega arith;
    }

-- ---- a node

module _ (P : ℕ → Type 0) (db : Database) (l : Lit) (q var id : ℕ) (low : l.var < var) (apart : var < q) (known : q ≤ db.vars + 1) (p_l : P l.var) (p_x : P var) where
  abbrev x : Lit
  x = missed_of var

  abbrev k : Lit
  k = negated l

  -- a division by 3 ends the line
  close_two : (j i : Lit) (n m d : ℕ) (ops : List PolOp) (size height : ℕ) → IsSumBy db ops (λ a. value a (weighing n j ∷ weighing m i ∷ [])) d size height → height ≤ 65536 → size < 2 ^ 126 → j.var ≢ i.var → 0 < n → 0 < m
      → ((a : Assignment) → value a (two j i).terms + (division 3 (record { terms = weighing n j ∷ weighing m i ∷ []; degree = d })).degree ≡ 1 + value a (division 3 (record { terms = weighing n j ∷ weighing m i ∷ []; degree = d })).terms) → P j.var → P i.var → Adds P db (Pol (ops ++ Div (pos 3) ∷ [])) (two j i)
  close_two j i n m d ops size height sum small light ne some more same pj pi =
      let u : Constraint = record { terms = weighing n j ∷ weighing m i ∷ []; degree = d } in
      sum_adds db P (two j i) (ops ++ Div (pos 3) ∷ []) (λ a. value a (division 3 u).terms) (division 3 u).degree size height
      (sum_over db 3 u ops (λ a. value a u.terms) d size height (omega arith) sum (apart_two (weighing n j) (weighing m i) ne) (positive_two (weighing n j) (weighing m i) some more) (λ a. omega arith)) small light
      (record {
        apart = apart_two (weighing 1 j) (weighing 1 i) ne;
        positive = positive_two (weighing 1 j) (weighing 1 i) (omega arith) (omega arith);
        named = All-cons (λ (t : Weighted). P t.lit.var) (weighing 1 j) (weighing 1 i ∷ []) pj (All-cons (λ (t : Weighted). P t.lit.var) (weighing 1 i) [] pi (All-nil (λ (t : Weighted). P t.lit.var)));
      }) same

  close_three : (j i h : Lit) (n m o d : ℕ) (ops : List PolOp) (V : Assignment → ℕ) (e size height : ℕ) → IsSumBy db ops V e size height → height ≤ 65536 → size < 2 ^ 126 → j.var ≢ i.var → j.var ≢ h.var → i.var ≢ h.var → 0 < n → 0 < m → 0 < o
      → ((a : Assignment) → value a (weighing n j ∷ weighing m i ∷ weighing o h ∷ []) + e ≡ d + V a)
      → ((a : Assignment) → value a (three j i h).terms + (division 3 (record { terms = weighing n j ∷ weighing m i ∷ weighing o h ∷ []; degree = d })).degree ≡ 1 + value a (division 3 (record { terms = weighing n j ∷ weighing m i ∷ weighing o h ∷ []; degree = d })).terms)
      → P j.var → P i.var → P h.var → Adds P db (Pol (ops ++ Div (pos 3) ∷ [])) (three j i h)
  close_three j i h n m o d ops V e size height sum small light ne nf ng some more most is same pj pi ph =
      let u : Constraint = record { terms = weighing n j ∷ weighing m i ∷ weighing o h ∷ []; degree = d } in
      sum_adds db P (three j i h) (ops ++ Div (pos 3) ∷ []) (λ a. value a (division 3 u).terms) (division 3 u).degree size height
      (sum_over db 3 u ops V e size height (omega arith) sum (apart_three (weighing n j) (weighing m i) (weighing o h) ne nf ng) (positive_three (weighing n j) (weighing m i) (weighing o h) some more most) is) small light
      (record {
        apart = apart_three (weighing 1 j) (weighing 1 i) (weighing 1 h) ne nf ng;
        positive = positive_three (weighing 1 j) (weighing 1 i) (weighing 1 h) (omega arith) (omega arith) (omega arith);
        named = All-cons (λ (t : Weighted). P t.lit.var) (weighing 1 j) (weighing 1 i ∷ weighing 1 h ∷ []) pj
            (All-cons (λ (t : Weighted). P t.lit.var) (weighing 1 i) (weighing 1 h ∷ []) pi (All-cons (λ (t : Weighted). P t.lit.var) (weighing 1 h) [] ph (All-nil (λ (t : Weighted). P t.lit.var))));
      }) same

  abbrev F : List Weighted → ℕ → Constraint
  F sum least = forward_of (record { var = var; sum = sum; least = least })

  -- the false child's clause

  off_alone : (f : ℕ) → q + f ≤ db.vars → P (q + f) → Knows db id (F (child_terms l q (Some f) None) 3) → Adds P db (Pol (Push id ∷ Weaken l.var ∷ [] ++ Div (pos 3) ∷ [])) (two x (positive_of (q + f)))
  off_alone f within pf h =
      let z : Lit = positive_of (q + f) in
      let c : Constraint = F (child_terms l q (Some f) None) 3 in
      let gone : IsSumBy db (Push id ∷ Weaken l.var ∷ []) (λ a. value a (weighing 3 x ∷ weighing 2 z ∷ [])) (3 - 1) 9 1 =
      sum_without db (weighing 1 k) (weighing 3 x ∷ weighing 2 z ∷ []) 3 (Push id ∷ []) (λ a. value a c.terms) 3 9 1 (omega (arith, low, apart, known)) (sum_known db id c h)
      (apart_three (weighing 1 k) (weighing 3 x) (weighing 2 z) (λ e. omega (arith, e, low)) (λ e. omega (arith, e, low, apart)) (λ e. omega (arith, e, apart)))
      (positive_three (weighing 1 k) (weighing 3 x) (weighing 2 z) (omega arith) (omega arith) (omega arith)) (λ a. omega (arith, value-three a 1 k 3 x 2 z, value-three a 3 x 2 z 1 k)) in
      close_two x z 3 2 2 (Push id ∷ Weaken l.var ∷ []) 9 1 gone (omega arith) (omega arith) (λ e. omega (arith, e, apart)) (omega arith) (omega arith) (λ a. omega arith) p_x pf

  off_same : (f : ℕ) → q + f ≤ db.vars → P (q + f) → Knows db id (F (weighing 3 (positive_of (q + f)) ∷ weighing 1 (negated l) ∷ []) 3) → Adds P db (Pol (Push id ∷ Weaken l.var ∷ [] ++ Div (pos 3) ∷ [])) (two x (positive_of (q + f)))
  off_same f within pf h =
      let z : Lit = positive_of (q + f) in
      let c : Constraint = F (weighing 3 z ∷ weighing 1 k ∷ []) 3 in
      let gone : IsSumBy db (Push id ∷ Weaken l.var ∷ []) (λ a. value a (weighing 3 x ∷ weighing 3 z ∷ [])) (3 - 1) 10 1 =
      sum_without db (weighing 1 k) (weighing 3 x ∷ weighing 3 z ∷ []) 3 (Push id ∷ []) (λ a. value a c.terms) 3 10 1 (omega (arith, low, apart, known)) (sum_known db id c h)
      (apart_three (weighing 1 k) (weighing 3 x) (weighing 3 z) (λ e. omega (arith, e, low)) (λ e. omega (arith, e, low, apart)) (λ e. omega (arith, e, apart)))
      (positive_three (weighing 1 k) (weighing 3 x) (weighing 3 z) (omega arith) (omega arith) (omega arith)) (λ a. omega (arith, value-three a 1 k 3 x 3 z, value-three a 3 x 3 z 1 k)) in
      close_two x z 3 3 2 (Push id ∷ Weaken l.var ∷ []) 10 1 gone (omega arith) (omega arith) (λ e. omega (arith, e, apart)) (omega arith) (omega arith) (λ a. omega arith) p_x pf

  off_apart : (f t : ℕ) → f ≢ t → q + f ≤ db.vars → q + t ≤ db.vars → P (q + f) → Knows db id (F (weighing 2 (positive_of (q + f)) ∷ weighing 1 (negated l) ∷ weighing 1 (positive_of (q + t)) ∷ []) 3)
      → Adds P db (Pol (Push id ∷ Weaken l.var ∷ (Weaken (q + t) ∷ []) ++ Div (pos 3) ∷ [])) (two x (positive_of (q + f)))
  off_apart f t other within inside pf h =
      let z : Lit = positive_of (q + f) in
      let y : Lit = positive_of (q + t) in
      let c : Constraint = F (weighing 2 z ∷ weighing 1 k ∷ weighing 1 y ∷ []) 3 in
      let one : IsSumBy db (Push id ∷ Weaken l.var ∷ []) (λ a. value a (weighing 1 y ∷ weighing 3 x ∷ weighing 2 z ∷ [])) (3 - 1) 10 1 =
      sum_without db (weighing 1 k) (weighing 1 y ∷ weighing 3 x ∷ weighing 2 z ∷ []) 3 (Push id ∷ []) (λ a. value a c.terms) 3 10 1 (omega (arith, low, apart, known)) (sum_known db id c h)
      (apart_four (weighing 1 k) (weighing 1 y) (weighing 3 x) (weighing 2 z) (λ e. omega (arith, e, low, apart)) (λ e. omega (arith, e, low)) (λ e. omega (arith, e, low, apart)) (λ e. omega (arith, e, apart)) (λ e. other (omega (arith, e))) (λ e. omega (arith, e, apart)))
      (positive_four (weighing 1 k) (weighing 1 y) (weighing 3 x) (weighing 2 z) (omega arith) (omega arith) (omega arith) (omega arith)) (λ a. omega (arith, value-four a 1 k 1 y 3 x 2 z, value-four a 3 x 2 z 1 k 1 y)) in
      let two_gone : IsSumBy db (Push id ∷ Weaken l.var ∷ Weaken (q + t) ∷ []) (λ a. value a (weighing 3 x ∷ weighing 2 z ∷ [])) (2 - 1) 10 1 =
      sum_without db (weighing 1 y) (weighing 3 x ∷ weighing 2 z ∷ []) 2 (Push id ∷ Weaken l.var ∷ []) (λ a. value a (weighing 1 y ∷ weighing 3 x ∷ weighing 2 z ∷ [])) (3 - 1) 10 1 inside one
      (apart_three (weighing 1 y) (weighing 3 x) (weighing 2 z) (λ e. omega (arith, e, apart)) (λ e. other (omega (arith, e))) (λ e. omega (arith, e, apart)))
      (positive_three (weighing 1 y) (weighing 3 x) (weighing 2 z) (omega arith) (omega arith) (omega arith)) (λ a. omega arith) in
      close_two x z 3 2 1 (Push id ∷ Weaken l.var ∷ Weaken (q + t) ∷ []) 10 1 two_gone (omega arith) (omega arith) (λ e. omega (arith, e, apart)) (omega arith) (omega arith) (λ a. omega arith) p_x pf

  off_both : (b : Bool) (f t : ℕ) → eqb f t ≡ b → q + f ≤ db.vars → q + t ≤ db.vars → P (q + f)
      → Knows db id (F (cond b (weighing 3 (positive_of (q + f)) ∷ weighing 1 (negated l) ∷ []) (weighing 2 (positive_of (q + f)) ∷ weighing 1 (negated l) ∷ weighing 1 (positive_of (q + t)) ∷ [])) 3)
      → Adds P db (Pol (Push id ∷ Weaken l.var ∷ cond b [] (Weaken (q + t) ∷ []) ++ Div (pos 3) ∷ [])) (two x (positive_of (q + f)))
  off_both true f t same within inside pf h = off_same f within pf h
  off_both false f t same within inside pf h = off_apart f t (λ e. both_ways (eqb f t) same (eq-eqb f t e)) within inside pf h

  -- the true child's

  none_both : Knows db id (F (child_terms l q None None) 1) → Adds P db (Pol (Push id ∷ [] ++ Div (pos 3) ∷ [])) (two x k)
  none_both h = close_two x k 1 1 1 (Push id ∷ []) 3 1 (sum_known db id (F (child_terms l q None None) 1) h) (omega arith) (omega arith) (λ e. omega (arith, e, low)) (omega arith) (omega arith) (λ a. omega arith) p_x p_l

  on_end : (t : ℕ) → P (q + t) → Knows db id (F (child_terms l q None (Some t)) 1) → Adds P db (Pol (Push id ∷ [] ++ Div (pos 3) ∷ [])) (three x k (positive_of (q + t)))
  on_end t pt h =
      let c : Constraint = F (child_terms l q None (Some t)) 1 in
      close_three x k (positive_of (q + t)) 1 1 1 1 (Push id ∷ []) (λ a. value a c.terms) 1 4 1 (sum_known db id c h) (omega arith) (omega arith) (λ e. omega (arith, e, low)) (λ e. omega (arith, e, apart)) (λ e. omega (arith, e, low, apart))
      (omega arith) (omega arith) (omega arith) (λ a. omega arith) (λ a. omega arith) p_x p_l pt

  on_none : (f : ℕ) → q + f ≤ db.vars → Knows db id (F (child_terms l q (Some f) None) 3) → Adds P db (Pol (Push id ∷ (Weaken (q + f) ∷ []) ++ Div (pos 3) ∷ [])) (two x k)
  on_none f within h =
      let z : Lit = positive_of (q + f) in
      let c : Constraint = F (child_terms l q (Some f) None) 3 in
      let gone : IsSumBy db (Push id ∷ Weaken (q + f) ∷ []) (λ a. value a (weighing 3 x ∷ weighing 1 k ∷ [])) (3 - 2) 9 1 =
      sum_without db (weighing 2 z) (weighing 3 x ∷ weighing 1 k ∷ []) 3 (Push id ∷ []) (λ a. value a c.terms) 3 9 1 within (sum_known db id c h)
      (apart_three (weighing 2 z) (weighing 3 x) (weighing 1 k) (λ e. omega (arith, e, apart)) (λ e. omega (arith, e, low, apart)) (λ e. omega (arith, e, low)))
      (positive_three (weighing 2 z) (weighing 3 x) (weighing 1 k) (omega arith) (omega arith) (omega arith)) (λ a. omega (arith, value-three a 2 z 3 x 1 k, value-three a 3 x 2 z 1 k)) in
      close_two x k 3 1 1 (Push id ∷ Weaken (q + f) ∷ []) 9 1 gone (omega arith) (omega arith) (λ e. omega (arith, e, low)) (omega arith) (omega arith) (λ a. omega arith) p_x p_l

  on_same : (f : ℕ) → P (q + f) → Knows db id (F (weighing 3 (positive_of (q + f)) ∷ weighing 1 (negated l) ∷ []) 3) → Adds P db (Pol (Push id ∷ [] ++ Div (pos 3) ∷ [])) (three x k (positive_of (q + f)))
  on_same f pf h =
      let z : Lit = positive_of (q + f) in
      let c : Constraint = F (weighing 3 z ∷ weighing 1 k ∷ []) 3 in
      close_three x k z 3 1 3 3 (Push id ∷ []) (λ a. value a c.terms) 3 10 1 (sum_known db id c h) (omega arith) (omega arith) (λ e. omega (arith, e, low)) (λ e. omega (arith, e, apart)) (λ e. omega (arith, e, low, apart))
      (omega arith) (omega arith) (omega arith) (λ a. omega (arith, value-three a 3 x 1 k 3 z, value-three a 3 x 3 z 1 k)) (λ a. omega arith) p_x p_l pf

  on_apart : (f t : ℕ) → f ≢ t → q + f ≤ db.vars → P (q + t) → Knows db id (F (weighing 2 (positive_of (q + f)) ∷ weighing 1 (negated l) ∷ weighing 1 (positive_of (q + t)) ∷ []) 3)
      → Adds P db (Pol (Push id ∷ (Weaken (q + f) ∷ []) ++ Div (pos 3) ∷ [])) (three x k (positive_of (q + t)))
  on_apart f t other within pt h =
      let z : Lit = positive_of (q + f) in
      let y : Lit = positive_of (q + t) in
      let c : Constraint = F (weighing 2 z ∷ weighing 1 k ∷ weighing 1 y ∷ []) 3 in
      let gone : IsSumBy db (Push id ∷ Weaken (q + f) ∷ []) (λ a. value a (weighing 3 x ∷ weighing 1 k ∷ weighing 1 y ∷ [])) (3 - 2) 10 1 =
      sum_without db (weighing 2 z) (weighing 3 x ∷ weighing 1 k ∷ weighing 1 y ∷ []) 3 (Push id ∷ []) (λ a. value a c.terms) 3 10 1 within (sum_known db id c h)
      (apart_four (weighing 2 z) (weighing 3 x) (weighing 1 k) (weighing 1 y) (λ e. omega (arith, e, apart)) (λ e. omega (arith, e, low, apart)) (λ e. other (omega (arith, e))) (λ e. omega (arith, e, low)) (λ e. omega (arith, e, apart)) (λ e. omega (arith, e, low, apart)))
      (positive_four (weighing 2 z) (weighing 3 x) (weighing 1 k) (weighing 1 y) (omega arith) (omega arith) (omega arith) (omega arith)) (λ a. omega (arith, value-four a 2 z 3 x 1 k 1 y, value-four a 3 x 2 z 1 k 1 y)) in
      close_three x k y 3 1 1 1 (Push id ∷ Weaken (q + f) ∷ []) (λ a. value a (weighing 3 x ∷ weighing 1 k ∷ weighing 1 y ∷ [])) (3 - 2) 10 1 gone (omega arith) (omega arith) (λ e. omega (arith, e, low)) (λ e. omega (arith, e, apart)) (λ e. omega (arith, e, low, apart))
      (omega arith) (omega arith) (omega arith) (λ a. omega arith) (λ a. omega arith) p_x p_l pt

  on_both : (b : Bool) (f t : ℕ) → eqb f t ≡ b → q + f ≤ db.vars → P (q + t)
      → Knows db id (F (cond b (weighing 3 (positive_of (q + f)) ∷ weighing 1 (negated l) ∷ []) (weighing 2 (positive_of (q + f)) ∷ weighing 1 (negated l) ∷ weighing 1 (positive_of (q + t)) ∷ [])) 3)
      → Adds P db (Pol (Push id ∷ cond b [] (Weaken (q + f) ∷ []) ++ Div (pos 3) ∷ [])) (three x k (positive_of (q + t)))
  on_both true f t same within pt h =
      let e : f ≡ t = eqb-true f t same in
      subst (λ (j : ℕ). Adds P db (Pol (Push id ∷ [] ++ Div (pos 3) ∷ [])) (three x k (positive_of (q + j)))) e (on_same f (subst (λ (j : ℕ). P (q + j)) (sym e) pt) h)
  on_both false f t same within pt h = on_apart f t (λ e. both_ways (eqb f t) same (eq-eqb f t e)) within pt h

  -- both, whatever children there are

  pub off_gives : (f : ℕ) (t : Option ℕ) (count : ℕ) → f < count → IsIn count t → q + count ≤ db.vars + 1 → ((w : ℕ) → q ≤ w → w < q + count → P w) → Knows db id (F (child_terms l q (Some f) t) 3)
      → StepGives db (Pol (Push id ∷ Weaken l.var ∷ spared_on q (Some f) t ++ Div (pos 3) ∷ [])) (x ∷ positive_of (q + f) ∷ [])
  off_gives f None count inside children fits named h =
      let s : Constraint = two x (positive_of (q + f)) in
      adds_gives P db (Pol (Push id ∷ Weaken l.var ∷ [] ++ Div (pos 3) ∷ [])) s (x ∷ positive_of (q + f) ∷ []) (off_alone f (omega (arith, inside, fits)) (named (q + f) (omega arith) (omega (arith, inside))) h) (two_clause x (positive_of (q + f)) (λ e. omega (arith, e, apart)))
  off_gives f (Some t) count inside children fits named h =
      let s : Constraint = two x (positive_of (q + f)) in
      adds_gives P db (Pol (Push id ∷ Weaken l.var ∷ spared_on q (Some f) (Some t) ++ Div (pos 3) ∷ [])) s (x ∷ positive_of (q + f) ∷ [])
      (off_both (eqb f t) f t refl (omega (arith, inside, fits)) (omega (arith, children, fits)) (named (q + f) (omega arith) (omega (arith, inside))) h) (two_clause x (positive_of (q + f)) (λ e. omega (arith, e, apart)))

  pub on_gives : (f t : Option ℕ) (count : ℕ) → IsIn count f → IsIn count t → q + count ≤ db.vars + 1 → ((w : ℕ) → q ≤ w → w < q + count → P w) → Knows db id (F (child_terms l q f t) (child_least f))
      → StepGives db (Pol (Push id ∷ spared_off q f t ++ Div (pos 3) ∷ [])) (x ∷ negated l ∷ on_literals q t)
  on_gives None None count fs ts fits named h = adds_gives P db (Pol (Push id ∷ [] ++ Div (pos 3) ∷ [])) (two x k) (x ∷ k ∷ []) (none_both h) (two_clause x k (λ e. omega (arith, e, low)))
  on_gives None (Some t) count fs ts fits named h =
      let y : Lit = positive_of (q + t) in
      adds_gives P db (Pol (Push id ∷ [] ++ Div (pos 3) ∷ [])) (three x k y) (x ∷ k ∷ y ∷ []) (on_end t (named (q + t) (omega arith) (omega (arith, ts))) h) (three_clause x k y (λ e. omega (arith, e, low)) (λ e. omega (arith, e, apart)) (λ e. omega (arith, e, low, apart)))
  on_gives (Some f) None count fs ts fits named h =
      adds_gives P db (Pol (Push id ∷ (Weaken (q + f) ∷ []) ++ Div (pos 3) ∷ [])) (two x k) (x ∷ k ∷ []) (on_none f (omega (arith, fs, fits)) h) (two_clause x k (λ e. omega (arith, e, low)))
  on_gives (Some f) (Some t) count fs ts fits named h =
      let y : Lit = positive_of (q + t) in
      adds_gives P db (Pol (Push id ∷ spared_off q (Some f) (Some t) ++ Div (pos 3) ∷ [])) (three x k y) (x ∷ k ∷ y ∷ [])
      (on_both (eqb f t) f t refl (omega (arith, fs, fits)) (named (q + t) (omega arith) (omega (arith, ts))) h) (three_clause x k y (λ e. omega (arith, e, low)) (λ e. omega (arith, e, apart)) (λ e. omega (arith, e, low, apart)))

-- ---- the claims of a level, and of all

module _ (P : ℕ → Type 0) (db : Database) (numbered : IsNumbered db) (l : Lit) (q a : ℕ) (next : List Node) (fits : q + length next ≤ db.vars + 1) (p_l : P l.var) (named : (w : ℕ) → q ≤ w → w < q + length next → P w) where
  abbrev count : ℕ
  count = length next

  abbrev Named : Lit → Type 0
  Named k = P k.var

  abbrev First : ℕ → ℕ → Option ℕ → Option ℕ → Constraint
  First p id f t = forward_of (record { var = p; sum = child_terms l q f t; least = child_least f })

  off_claimed : (p id : ℕ) (f t : Option ℕ) → l.var < p → p < q → P p → IsIn count f → IsIn count t → Knows db id (First p id f t) → All (IsClaim P db) (off_claims_by l q p id f t)
  off_claimed p id None t low apart p_x fs ts h = All-nil (IsClaim P db)
  off_claimed p id (Some f) t low apart p_x fs ts h =
      let claim : Claim = record { step = Pol (Push id ∷ Weaken l.var ∷ spared_on q (Some f) t ++ Div (pos 3) ∷ []); clause = missed_of p ∷ positive_of (q + f) ∷ [] } in
      All-cons (IsClaim P db) claim []
      (record {
        named = All-cons Named (missed_of p) (positive_of (q + f) ∷ []) p_x (All-cons Named (positive_of (q + f)) [] (named (q + f) (omega arith) (omega (arith, fs))) (All-nil Named));
        takes = refl;
        gives = λ end later. off_gives P end l q p id low apart (omega (arith, fits, later.vars)) p_l p_x f t count fs ts (omega (arith, fits, later.vars)) named (later_knows P db end id (First p id (Some f) t) later (known_below db id (First p id (Some f) t) numbered h) h);
      })
      (All-nil (IsClaim P db))

  on_named : (t : Option ℕ) → IsIn count t → All Named (on_literals q t)
  on_named None h = All-nil Named
  on_named (Some t) h = All-cons Named (positive_of (q + t)) [] (named (q + t) (omega arith) (omega (arith, h))) (All-nil Named)

  on_claimed : (p id : ℕ) (n : Node) → l.var < p → p < q → P p → IsIn count n.off → IsIn count n.on → Knows db id (First p id n.off n.on) → IsClaim P db (on_claim l q p id n)
  on_claimed p id n low apart p_x fs ts h = record {
    named = All-cons Named (missed_of p) (negated l ∷ on_literals q n.on) p_x (All-cons Named (negated l) (on_literals q n.on) p_l (on_named n.on ts));
    takes = refl;
    gives = λ end later. on_gives P end l q p id low apart (omega (arith, fits, later.vars)) p_l p_x n.off n.on count fs ts (omega (arith, fits, later.vars)) named (later_knows P db end id (First p id n.off n.on) later (known_below db id (First p id n.off n.on) numbered h) h);
  }

  pub level_claimed : (p counts : ℕ) (ns : List Node) → l.var < p → p + length ns ≤ q → ((w : ℕ) → p ≤ w → w < q → P w) → AreChildren (IsOver a next) ns → AreBothKnown db l q p counts ns → All (IsClaim P db) (level_claims l q p counts ns)
  level_claimed p counts [] low high mine over known = All-nil (IsClaim P db)
  level_claimed p counts (n ∷ ns) low high mine over known =
      let p_x = mine p (omega arith) (omega (arith, high)) in
      let fs = off_in next n.top n.off over.0.off in
      let ts = on_in a next n.top n.on over.0.on in
      All-append (IsClaim P db) (off_claims l q p counts n) (on_claim l q p counts n ∷ level_claims l q (p + 1) (counts + 2) ns)
      (off_claimed p counts n.off n.on low (omega (arith, high)) p_x fs ts known.0.first)
      (All-cons (IsClaim P db) (on_claim l q p counts n) (level_claims l q (p + 1) (counts + 2) ns) (on_claimed p counts n low (omega (arith, high)) p_x fs ts known.0.first)
      (level_claimed (p + 1) (counts + 2) ns (omega (arith, low)) (omega (arith, high)) (λ w from to. mine w (omega (arith, from)) to) over.1 known.1))

pub all_claimed : (P : ℕ → Type 0) (db : Database) (base p : ℕ) (ts : List Weighted) (levels : List (List Node)) → IsNumbered db → AreLevels ts levels → LevelsMeant db base p ts levels → All (λ t. t.lit.var < p) ts → All (λ t. P t.lit.var) ts
    → p + count_nodes levels ≤ db.vars + 1 → ((w : ℕ) → p ≤ w → w < p + count_nodes levels → P w) → All (IsClaim P db) (all_claims base p ts levels)
all_claimed P db base p [] levels numbered shape meant low named fits mine = All-nil (IsClaim P db)
all_claimed P db base p (t ∷ ts) [] numbered shape meant low named fits mine = All-nil (IsClaim P db)
all_claimed P db base p (t ∷ ts) (ns ∷ levels) numbered shape meant low named fits mine =
    let q : ℕ = p + length ns in
    let all = count-cons ns levels in
    let few = first-count levels in
    All-append (IsClaim P db) (level_claims t.lit q p (base + 2 * count_nodes levels) ns) (all_claims base q ts levels)
    (level_claimed P db numbered t.lit q t.coef (first_nodes levels) (omega (arith, fits, all, few)) (All-head (λ (t : Weighted). P t.lit.var) t ts named) (λ w from to. mine w (omega (arith, from)) (omega (arith, to, all, few)))
    p (base + 2 * count_nodes levels) ns (All-head (λ (t : Weighted). t.lit.var < p) t ts low) (omega arith) (λ w from to. mine w from (omega (arith, to, all))) shape.0.over meant.0)
    (all_claimed P db base q ts levels numbered shape.1 meant.1 (All-weaker (λ (t : Weighted). t.lit.var < p) (λ (t : Weighted). t.lit.var < q) (λ t k. omega (arith, k)) ts (All-tail (λ (t : Weighted). t.lit.var < p) t ts low)) (All-tail (λ (t : Weighted). P t.lit.var) t ts named)
    (omega (arith, fits, all)) (λ w from to. mine w (omega (arith, from)) (omega (arith, to, all))))
