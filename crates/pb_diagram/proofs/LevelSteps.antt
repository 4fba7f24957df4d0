-- The steps of handing over the clauses of a level.
use Rattle.std.proofs.Common.{◌≡◌, ◌<◌, ◌≤◌, ◌+◌, ◌-◌, ◌++◌, ℕ, List, [], ◌∷◌, length, get_or, drop, leb, ltb, sym, ap, ◌∙◌, subst, arith}
use Rattle.std.proofs.lemmas.Bool.{cond-true, cond-false, le-leb, lt-ltb, le-ltb}
use Rattle.std.specs.Prelude.{Result, IsErrAnd}
use Rattle.std.proofs.lemmas.List.{drop_all, drop_more}
use Rattle.pb_base.specs.declared.fault.Failed.{Failed}
use Rattle.pb_base.specs.declared.literal.Lit.{Lit}
use Rattle.pb_norm.specs.Constraints.{Weighted}
use Rattle.pb_base.specs.Literals.{negated}
use Rattle.pb_family.specs.Fresh.{positive_of}
use Rattle.pb_family.proofs.Taking.{takes_nothing}
use Rattle.pb_family.specs.Handing.{FailsInClauses, Hands, TakesClauses}
use Rattle.pb_family.specs.Sinks.{SinkState}
use Rattle.pb_family.proofs.Emission.{Emitting, emitting_ends, emitting_from, emitting_step, hands_fault}
use Rattle.pb_diagram.specs.declared.interval.Interval.{Interval}
use Rattle.pb_diagram.specs.Clauses.{node_at, false_clause, true_clause, level_clauses}

-- the clauses that are left from a place on
abbrev pub level_left : Weighted → ℕ → ℕ → List Interval → ℕ → List Interval → ℕ → List (List Lit)
level_left t whole first next x nodes p = level_clauses t whole first next (x + p) (drop p nodes)

module _ (t : Weighted) (whole first : ℕ) (next : List Interval) (x : ℕ) (nodes : List Interval) where
  abbrev left : ℕ → List (List Lit)
  left p = level_left t whole first next x nodes p

  abbrev off : ℕ → Interval → List (List Lit)
  off p g = false_clause whole first next (x + p) g

  abbrev on : ℕ → Interval → List Lit
  on p g = true_clause t first next (x + p) g

  left_here : (p : ℕ) (d : Interval) → p < length nodes → left p ≡ off p (get_or nodes p d) ++ (on p (get_or nodes p d) ∷ left (p + 1))
  left_here p d within =
      let g = get_or nodes p d in
      let shift : x + p + 1 ≡ x + (p + 1) = omega arith in
      ap (level_clauses t whole first next (x + p)) (drop_more nodes p d within) ∙ ap (λ (n : ℕ). off p g ++ (on p g ∷ level_clauses t whole first next n (drop (p + 1) nodes))) shift

  pub level_starts : {R : Type 0} (a : SinkState R) → Emitting (level_clauses t whole first next x nodes) (left 0) a a
  level_starts a = emitting_from a (ap (λ (n : ℕ). level_clauses t whole first next n nodes) (let same : x ≡ x + 0 = omega arith in same))

  pub level_ends : {R : Type 0} {all : List (List Lit)} {old now : SinkState R} (p : ℕ) → length nodes ≤ p → Emitting all (left p) old now → TakesClauses all old now
  level_ends {all = all} {old} {now} p past e = emitting_ends (subst (λ (cs : List (List Lit)). Emitting all cs old now) (ap (level_clauses t whole first next (x + p)) (drop_all p nodes past)) e)

  at_node : {R : Type 0} {all : List (List Lit)} {old now : SinkState R} (p : ℕ) (d : Interval) → p < length nodes → Emitting all (left p) old now
      → Emitting all (off p (get_or nodes p d) ++ (on p (get_or nodes p d) ∷ left (p + 1))) old now
  at_node {all = all} {old} {now} p d within e = subst (λ (cs : List (List Lit)). Emitting all cs old now) (left_here p d within) e

  pub false_fault : {R T : Type 0} {all : List (List Lit)} {old now : SinkState R} (r : Result T Failed) (f : Failed) → IsErrAnd r (λ e. e ≡ f) → (p : ℕ) (d : Interval) (after : SinkState R) → p < length nodes → Emitting all (left p) old now
      → FailsInClauses (off p (get_or nodes p d)) now after → Hands all r old after
  false_fault r f is p d after within e part = hands_fault r f (off p (get_or nodes p d)) (on p (get_or nodes p d) ∷ left (p + 1)) after is (at_node p d within e) part

  pub false_taken : {R : Type 0} {all : List (List Lit)} {old now : SinkState R} (p : ℕ) (d : Interval) (after : SinkState R) → p < length nodes → Emitting all (left p) old now
      → TakesClauses (off p (get_or nodes p d)) now after → Emitting all (on p (get_or nodes p d) ∷ left (p + 1)) old after
  false_taken p d after within e taken = emitting_step (off p (get_or nodes p d)) after (at_node p d within e) taken

  pub true_fault : {R T : Type 0} {all : List (List Lit)} {old now : SinkState R} (r : Result T Failed) (f : Failed) → IsErrAnd r (λ e. e ≡ f) → (p : ℕ) (d : Interval) (mid after : SinkState R) → p < length nodes → Emitting all (left p) old now
      → TakesClauses (off p (get_or nodes p d)) now mid → FailsInClauses (on p (get_or nodes p d) ∷ []) mid after → Hands all r old after
  true_fault r f is p d mid after within e taken part = hands_fault r f (on p (get_or nodes p d) ∷ []) (left (p + 1)) after is (false_taken p d mid within e taken) part

  pub node_taken : {R : Type 0} {all : List (List Lit)} {old now : SinkState R} (p : ℕ) (d : Interval) (mid after : SinkState R) → p < length nodes → Emitting all (left p) old now
      → TakesClauses (off p (get_or nodes p d)) now mid → TakesClauses (on p (get_or nodes p d) ∷ []) mid after → Emitting all (left (p + 1)) old after
  node_taken p d mid after within e taken then = emitting_step (on p (get_or nodes p d) ∷ []) after (false_taken p d mid within e taken) then

-- a node whose false child is the true end has no clause for it
pub false_none : {R : Type 0} (whole first : ℕ) (next : List Interval) (x : ℕ) (g : Interval) (a : SinkState R) → whole ≤ g.low → TakesClauses (false_clause whole first next x g) a a
false_none whole first next x g a past =
    let clause : List Lit = negated (positive_of x) ∷ node_at first next g.low ∷ [] in
    subst (λ (cs : List (List Lit)). TakesClauses cs a a) (sym (cond-true (leb whole g.low) [] (clause ∷ []) (le-leb whole g.low past))) (takes_nothing a)

-- a node's true clause, as it is handed over
module _ (t : Weighted) (first : ℕ) (next : List Interval) (x : ℕ) (g : Interval) (a b : Lit) (is : a ≡ negated (positive_of x)) (also : b ≡ negated t.lit) where
  abbrev child : List Lit
  child = node_at first next (g.low - t.coef) ∷ []

  pub true_full : g.low < t.coef → ((a ∷ b ∷ []) ∷ []) ≡ (true_clause t first next x g ∷ [])
  true_full below = λ i. (is i ∷ also i ∷ sym (cond-true (ltb g.low t.coef) [] child (lt-ltb g.low t.coef below)) i) ∷ []

  pub true_some : (k : Lit) → k ≡ node_at first next (g.low - t.coef) → t.coef ≤ g.low → ((a ∷ b ∷ k ∷ []) ∷ []) ≡ (true_clause t first next x g ∷ [])
  true_some k child_is above = (λ i. (is i ∷ also i ∷ child_is i ∷ []) ∷ []) ∙ (λ i. (negated (positive_of x) ∷ negated t.lit ∷ sym (cond-false (ltb g.low t.coef) [] child (le-ltb g.low t.coef above)) i) ∷ [])
