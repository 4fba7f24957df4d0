-- Hints are right in one way at most, so that a type can say that its own are.
use mathlib.Core.HLevel.{⊥_prop}
use Rattle.std.specs.Coded.{Coded, Coded-set, coded_ℕ, coded_bool, coded_list, coded×, code_by, Π_prop}
use Rattle.std.specs.Prelude.{◌≡◌, ℕ, List, All, false, refl}
use Rattle.pb_base.specs.declared.literal.Lit.{Lit}
use Rattle.pb_base.specs.declared.options.Options.{Options}
use Rattle.pb_base.specs.contracts.literal.Lit as literal
use Rattle.pb_norm.specs.Constraints.{Constraint, Weighted}
use Rattle.pb_norm.specs.declared.reduction.Rest.{Rest}
use Rattle.pb_steps.specs.contracts.step.Step as step
use Rattle.pb_choice.specs.contracts.treatment.Treatment as treatment
use Rattle.pb_choice.specs.declared.residual.Residual.{Residual}
use Rattle.pb_choice.specs.Choice.{IsSentToAdder}
use Rattle.pb_choice.specs.Equals.{is_joint}
use Rattle.pb_choice.specs.Residual.{IsLeft}
use Rattle.pb_encode.specs.declared.groups.Group.{Group}
use Rattle.pb_encode.specs.declared.groups.Group.TheVariants.{Alone, Paired}
use Rattle.pb_encode.specs.declared.hints.Hint.{Hint}
use Rattle.pb_encode.specs.declared.hints.Tells.{Tells}
use Rattle.pb_encode.specs.declared.hints.Tells.TheVariants.{Adder, Diagram}
use Rattle.pb_encode.specs.inner.Hints.{AreHintsOf, IsHintOf, IsToldOf}

coded_weighted : Coded Weighted
coded_weighted = code_by (ℕ × Lit) (coded× coded_ℕ (literal.the_row).coded) (λ t. (t.coef, t.lit)) (λ t. record { coef = t.0; lit = t.1 }) (λ _. refl)

IsLeft-prop : (o : Options) (r : Rest) (left : Residual) → IsProp (IsLeft o r left)
IsLeft-prop o r left = λ a b i. record {
  treatment_is = Coded-set (treatment.the_row).coded _ _ a.treatment_is b.treatment_is i;
  terms_are = Coded-set (coded_list coded_weighted) _ _ a.terms_are b.terms_are i;
  clauses_are = λ first. Coded-set (coded_list (coded_list (literal.the_row).coded)) _ _ (a.clauses_are first) (b.clauses_are first) i;
  fresh_is = Coded-set coded_ℕ _ _ a.fresh_is b.fresh_is i;
  count_is = Coded-set coded_ℕ _ _ a.count_is b.count_is i;
  steps_are = λ reduces first id next. Coded-set (coded_list (step.the_row).coded) _ _ (a.steps_are reduces first id next) (b.steps_are reduces first id next) i;
}

split-prop : (o : Options) (c : Constraint) → IsProp (is_joint o c ≡ false)
split-prop o c = Coded-set coded_bool _ _

sent-prop : (o : Options) (c : Constraint) → IsProp (IsSentToAdder o c)
sent-prop o c = Coded-set (treatment.the_row).coded _ _

IsToldOf-prop : (o : Options) (g : Group) (t : Tells) → IsProp (IsToldOf o g t)
IsToldOf-prop o (Alone c) Adder = sent-prop o c
IsToldOf-prop o (Paired c d) Adder = λ a b i. (split-prop o c a.0 b.0 i, sent-prop o c a.1 b.1 i, sent-prop o d a.2 b.2 i)
IsToldOf-prop o (Alone c) (Diagram k) = IsLeft-prop o _ _
IsToldOf-prop o (Paired c d) (Diagram k) = ⊥_prop

each-prop : (o : Options) (gs : List Group) (hints : List Hint) → IsProp (All (IsHintOf o gs) hints)
each-prop o gs hints = Π_prop (λ k. Π_prop (λ d. Π_prop (λ within. Π_prop (λ g. Π_prop (λ rest. Π_prop (λ here. IsToldOf-prop o g _))))))

pub AreHintsOf-prop : (o : Options) (gs : List Group) (hints : List Hint) → IsProp (AreHintsOf o gs hints)
AreHintsOf-prop o gs hints = λ a b i. record { each = each-prop o gs hints a.each b.each i }
