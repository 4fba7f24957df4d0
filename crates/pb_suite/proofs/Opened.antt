-- What is told once a CNF and its derivation were opened.
use Rattle.std.proofs.Common.{◌≡◌, ◌∙◌, ℕ, List, [], Option, Some, None, ap, refl, sym, subst}
use Rattle.std.specs.Prelude.{IfSome, IsSome}
use Rattle.std.specs.Option.{unwrap_or}
use Rattle.pb_desk.specs.View.{Told, View, opened}
use Rattle.pb_desk.specs.Desk.{DeskState, IfTold}
use Rattle.pb_suite.specs.inner.Opening.{opened_both, HasBoth}

pub some_is : (o : Option (List ℕ)) → IsSome o → o ≡ Some (unwrap_or o [])
some_is None some = cc
some_is (Some text) some = refl

-- the shelf has both
pub have_both : (cnf proof : List ℕ) (a b d : DeskState) → b.view ≡ opened 1 cnf a.view → d.view ≡ opened 2 proof b.view
    → IfTold a (λ t. IsSome (t.shelf cnf)) → IfTold b (λ t. IsSome (t.shelf proof)) → IfTold d (HasBoth cnf proof)
have_both cnf proof a b d first second found_cnf found_proof =
    let is : d.view ≡ opened_both cnf proof a.view = second ∙ ap (opened 2 proof) first in
    subst (λ (v : View). IfSome v.told (HasBoth cnf proof)) (sym is) (by_cases a.view.told found_cnf (subst (λ (v : View). IfSome v.told (λ t. IsSome (t.shelf proof))) first found_proof))
  where
    by_cases : (told : Option Told) → IfSome told (λ t. IsSome (t.shelf cnf)) → IfSome (opened 1 cnf (record a.view { told = told })).told (λ t. IsSome (t.shelf proof))
        → IfSome (opened_both cnf proof (record a.view { told = told })).told (HasBoth cnf proof)
    by_cases None has_first has_second = tt
    by_cases (Some t) has_first has_second = record { has_cnf = some_is (t.shelf cnf) has_first; has_proof = some_is (t.shelf proof) has_second }
