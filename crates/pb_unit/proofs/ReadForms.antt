-- Constraints of a list, read one after another.
use Rattle.std.proofs.Common.{◌≡◌, ◌<◌, ◌+◌, ◌∙◌, ◌++◌, ◌∷◌, [], ℕ, List, map, length, take, ap, sym, subst}
use Rattle.std.specs.Prelude.{All}
use Rattle.std.proofs.lemmas.Grind.{flat_map-append}
use Rattle.std.proofs.lemmas.List.{take_more, map_push, append-nil}
use Rattle.pb_base.specs.declared.literal.Term.{Term}
use Rattle.pb_norm.specs.Constraints.{Constraint, constraint_of, weights}
use Rattle.pb_unit.specs.Reads.{IsRead}
use Rattle.pb_unit.specs.Renaming.{form_vars, term_vars}

module _ (cs : List Constraint) (place : ℕ) (ts : List Term) (degree : ℕ) (below : place < length cs) (is : IsRead cs place ts degree) where
  pub take_read : take (place + 1) cs ≡ take place cs ++ constraint_of ts degree ∷ []
  take_read = take_more cs place (constraint_of ts degree) below ∙ ap (λ (c : Constraint). take place cs ++ c ∷ []) (sym is.at)

  -- what is so of all of them
  pub of_read : (P : Constraint → Type 0) → All P cs → P (constraint_of ts degree)
  of_read P all = subst P (sym is.at) (all place (constraint_of ts degree) below)

  pub map_read : (f : Constraint → Constraint) → map f (take (place + 1) cs) ≡ map f (take place cs) ++ f (constraint_of ts degree) ∷ []
  map_read f = ap (map f) take_read ∙ map_push f (take place cs) (constraint_of ts degree)

  pub vars_read : form_vars (take (place + 1) cs) ≡ form_vars (take place cs) ++ term_vars (weights ts)
  vars_read = ap form_vars take_read ∙ (flat_map-append (λ (c : Constraint). term_vars c.terms) (take place cs) (constraint_of ts degree ∷ []) ∙ ap (λ (vs : List ℕ). form_vars (take place cs) ++ vs) (append-nil (term_vars (weights ts))))
