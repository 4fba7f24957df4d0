-- Options are those with their choices.
use Rattle.std.proofs.Common.{◌≡◌, ◌≤◌, ◌∙◌, ℕ, Bool, true, false, T, leb, lit≤, Option, Some, ap, refl}
use Rattle.std.proofs.Math.Bridge.{le_prop}
use Rattle.std.proofs.lemmas.Bool.{le-leb}
use Rattle.pb_base.specs.declared.options.Options.{Options}
use Rattle.pb_base.specs.Budgets.{IsBudget, as_budget, options_with, where_passed}

-- a test that is passed gives what any proof of it gives
passed : {X : Type 0} (b : Bool) (make : T b → Option X) (x : X) → b ≡ true → ((t : T b) → make t ≡ Some x) → where_passed b make ≡ Some x
passed true make x e gives = gives tt
passed false make x e gives = cc

pub as_budget-yes : (n : ℕ) (range : IsBudget n) → as_budget n ≡ Some range
as_budget-yes n range = passed (leb 1 n) _ range (le-leb 1 n range.0)
    (λ low. passed (leb n 10000000) _ range (le-leb n 10000000 range.1)
    (λ high. ap Some (ap (λ (l : 1 ≤ n). (l, lit≤ high)) (le_prop (lit≤ low) range.0) ∙ ap (λ (h : n ≤ 10000000). (range.0, h)) (le_prop (lit≤ high) range.1))))

pub options_with-own : (o : Options) → options_with o.amo o.card o.general o.equal o.table o.budget ≡ Some o
options_with-own o = rw (as_budget-yes o.budget (o.low, o.high)) refl

-- options with the same choices are the same
pub same_options : (a b : Options) → a.amo ≡ b.amo → a.card ≡ b.card → a.general ≡ b.general → a.equal ≡ b.equal → a.table ≡ b.table → a.budget ≡ b.budget → a ≡ b
same_options a b amo card general equal table budget =
    let one = options_with-own a in
    let other = options_with-own b in
    cc
