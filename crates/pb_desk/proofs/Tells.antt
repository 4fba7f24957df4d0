-- What a desk tells after its view changed.
use Rattle.std.proofs.Common.{◌≡◌, sym, ap, ◌∙◌, subst}
use Rattle.std.specs.Prelude.{IsSomeAnd, IfSome}
use Rattle.std.specs.declared.option.Option.{Option}
use Rattle.std.specs.declared.option.Option.TheVariants.{Some, None}
use Rattle.pb_desk.specs.View.{Told, View}
use Rattle.pb_desk.specs.Desk.{DeskState, IfTold, IsTold}

-- what the changed view tells is so
pub told_by : (change : View → View) (a b : DeskState) (t : Told) (P : Told → Type 0) → b.view ≡ change a.view → a.view.told ≡ Some t → IsSomeAnd (change (record a.view { told = Some t })).told P → IsTold b P
told_by change a b t P is told holds = subst (λ (v : View). IsSomeAnd v.told P) (sym (is ∙ ap change (ap (λ (o : Option Told). record a.view { told = o }) told))) holds

-- what the changed view tells
pub told_is : (change : View → View) (a b : DeskState) (t : Told) → b.view ≡ change a.view → a.view.told ≡ Some t → b.view.told ≡ (change (record a.view { told = Some t })).told
told_is change a b t is told = ap (λ (v : View). v.told) (is ∙ ap change (ap (λ (o : Option Told). record a.view { told = o }) told))

-- what holds of all that may be told holds of what is told
pub in_told : (a : DeskState) (t : Told) (P : Told → Type 0) → a.view.told ≡ Some t → IfTold a P → P t
in_told a t P told holds = subst (λ (o : Option Told). IfSome o P) told holds

-- what is told, with what holds of it
pub told_of : (desk : DeskState) (P : Told → Type 0) → IsTold desk P → (t : Told) × P t
told_of desk P holds = by_cases desk.view.told holds
  where
    by_cases : (told : Option Told) → IsSomeAnd told P → (t : Told) × P t
    by_cases None holds = absurd holds
    by_cases (Some t) holds = (t, holds)
