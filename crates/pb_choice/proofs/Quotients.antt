-- A constraint that asks for a number of its literals is divided by its coefficient.
use Rattle.std.proofs.Common.{◌≡◌, ◌<◌, ◌≤◌, ◌^◌, ℕ, List, [], ◌∷◌, length, pos, refl, ap, sym, ◌∙◌, subst, arith}
use Rattle.std.specs.Prelude.{All, Option, Some, is_some, ◌≤ℤ◌}
use Rattle.std.proofs.lemmas.Int.{ints}
use Rattle.std.proofs.lemmas.Bool.{cond-true}
use Rattle.std.proofs.lemmas.List.{length-map}
use Rattle.std.proofs.lemmas.List.Elements.{All-nil, All-cons}
use Rattle.pb_norm.specs.Constraints.{Weighted, Constraint, weight}
use Rattle.pb_norm.specs.Reduction.{all_weigh, divided, first_coef, lits_of}
use Rattle.pb_norm.proofs.ClauseTerms.{length-weight}
use Rattle.pb_steps.specs.declared.op.PolOp.TheVariants.{Push, Div}
use Rattle.pb_steps.specs.Steps.{HasFactor}
use Rattle.pb_steps.specs.Database.{Database, Entry, IsLive, constraint_at, grown}
use Rattle.pb_steps.specs.Allowed.{Allowed}
use Rattle.pb_steps.specs.Operations.{division}
use Rattle.pb_steps.specs.Stacks.{after_ops}
use Rattle.pb_base.specs.declared.literal.Lit.{Lit}
use Rattle.pb_derive.proofs.Rups.{ones-weight}
use Rattle.pb_derive.proofs.Stacked.{after_step, push_step}
use Rattle.pb_choice.specs.EqualitySteps.{quotient_step}
use Rattle.pb_choice.specs.Reducing.{common_coef}
use Rattle.pb_choice.proofs.NumbersAsked.{Asks, asks_open, divided_asks, some_weight}
use Rattle.pb_choice.proofs.JointSums.{ones_over}
use Rattle.pb_choice.proofs.Reduced.{division_is}

module _ (a k : ℕ) (c : Constraint) (h : Asks a k c) where
  pub quotient_weight : weight (divided c).terms ≡ length c.terms
  quotient_weight = ap (λ (d : Constraint). weight d.terms) (divided_asks a k c h) ∙ ones-weight (lits_of c.terms) ∙ length-map c.terms (λ (t : Weighted). t.lit)

  pub quotient_degree : (divided c).degree ≡ k
  quotient_degree = ap (λ (d : Constraint). d.degree) (divided_asks a k c h)

  pub quotient_over : (P : ℕ → Type 0) → All (λ t. P t.lit.var) c.terms → All (λ t. P t.lit.var) (divided c).terms
  quotient_over P over = subst (λ (d : Constraint). All (λ t. P t.lit.var) d.terms) (sym (divided_asks a k c h)) (ones_over P c.terms over)

  -- the operations leave it
  quotient_left : (live : List Entry) (id : ℕ) → weight c.terms < 2 ^ 100 → constraint_at live id ≡ Some c → after_ops live (Push id ∷ Div (pos a) ∷ []) [] ≡ Some (divided c ∷ [])
  quotient_left live id light found =
      let coef : common_coef c.terms ≡ a =
      cond-true (all_weigh (first_coef c.terms) c.terms) (first_coef c.terms) 1 (ap (λ (n : ℕ). all_weigh n c.terms) h.first ∙ h.weighs) ∙ h.first in
      let is : division a c ≡ divided c = ap (λ (n : ℕ). division n c) (sym coef) ∙ division_is c h.linear.positive in
      let size = quotient_weight in
      let degree = quotient_degree in
      let long = length-weight c.terms h.linear.positive in
      let fits : c.degree < 2 ^ 126 = omega (arith, reachable, light) in
      push_step live id (Div (pos a) ∷ []) [] c found (omega (arith, light)) fits
      ∙ after_step live (Div (pos a)) [] (c ∷ []) (divided c) [] (ap (λ (d : Constraint). Some (d ∷ [])) is) (omega (arith, size, long, light)) (omega (arith, degree, h.not_all, long, light))
    where
      reachable : c.degree ≤ weight c.terms
      reachable = let opened = asks_open a k c h in opened.reachable

  -- the step is allowed
  pub quotient_allowed : (db : Database) (id : ℕ) (next : Option (List Lit)) → weight c.terms < 2 ^ 100 → constraint_at db.live id ≡ Some c → Allowed db (quotient_step id (pos a)) next (grown db (divided c))
  quotient_allowed db id next light stands =
      let some = some_weight a k c h in
      let positive : pos 1 ≤ℤ pos a = omega (arith, ints, some) in
      record {
        vars = All-nil (λ v. v ≤ db.vars);
        ids = All-cons (IsLive db.live) id [] (ap is_some stands) (All-nil (IsLive db.live));
        rule = record {
          factors = All-cons HasFactor (Push id) (Div (pos a) ∷ []) tt (All-cons HasFactor (Div (pos a)) [] positive (All-nil HasFactor));
          stacked = refl;
          sum = divided c;
          result = quotient_left db.live id light stands;
          after = refl;
        };
      }
