-- What is found under an id is sound.
use Rattle.std.proofs.Common.{◌≡◌, ℕ, List, [], ◌∷◌, Bool, true, false, cond, eqb, subst, Some}
use Rattle.std.specs.Prelude.{All}
use Rattle.std.proofs.lemmas.List.Elements.{All-head, All-tail}
use Rattle.pb_norm.specs.Constraints.{Constraint, HasVarsWithin}
use Rattle.pb_steps.specs.Operations.{IsNarrow}
use Rattle.pb_steps.specs.Database.{Entry, constraint_at}
use Rattle.pb_database.specs.Sound.{IsSound}

abbrev WithinC : ℕ → Constraint → Type 0
WithinC vars c = HasVarsWithin vars c.terms

-- what is found is of what stands
pub at-sound : (vars : ℕ) (es : List Entry) (id : ℕ) (c : Constraint) → All (IsSound vars) es → constraint_at es id ≡ Some c → IsNarrow c × HasVarsWithin vars c.terms
at-sound vars [] id c h e = absurd (cc)
at-sound vars (x ∷ es) id c h e = test (eqb x.id id) (All-head (IsSound vars) x es h) e (at-sound vars es id c (All-tail (IsSound vars) x es h)) where
  test : (b : Bool) → IsSound vars x → cond b (Some x.constraint) (constraint_at es id) ≡ Some c → (constraint_at es id ≡ Some c → IsNarrow c × HasVarsWithin vars c.terms) → IsNarrow c × HasVarsWithin vars c.terms
  test true sound f rest =
      let same : x.constraint ≡ c = cc in
      (subst IsNarrow same sound.narrow, subst (WithinC vars) same sound.within)
  test false sound f rest = rest f
