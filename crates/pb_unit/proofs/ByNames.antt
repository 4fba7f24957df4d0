-- Propagation over constraints answers as that over the places of their variables.
use Rattle.std.proofs.Common.{◌≡◌, ◌≤◌, ◌∙◌, ℕ, List, [], length, map, ap, subst, sym}
use Rattle.std.specs.Prelude.{All, Contains}
use Rattle.std.proofs.lemmas.List.Elements.{All-nil, All-weaker}
use Rattle.pb_base.specs.declared.literal.Lit.{Lit}
use Rattle.pb_norm.specs.Constraints.{Constraint, AreVarsWithin, HasVarsWithin}
use Rattle.pb_norm.specs.Propagation.{Conflict}
use Rattle.pb_unit.specs.Reaching.{IsUpTo, OfConstraint, OfLit, OfTerm}
use Rattle.pb_unit.specs.Renaming.{number_in, renamed, AreNamed, AreNames}
use Rattle.pb_unit.specs.States.{EngineState, standing, started}
use Rattle.pb_unit.proofs.Numbered.{conflict_named, conflict_numbered, numbered_constraints}
use Rattle.pb_unit.proofs.Standing.{standing_all}

module _ (names : List ℕ) (is : AreNames names) (cs : List Constraint) (known : All (OfConstraint (Contains names)) cs) where
  abbrev numbered : List Constraint
  numbered = map (renamed (number_in names)) cs

  named : AreNamed names cs []
  named = record { constraints = known; lits = All-nil (OfLit (Contains names)) }

  within_places : AreVarsWithin (length names) numbered
  within_places =
      All-weaker (OfConstraint (IsUpTo (length names))) (λ c. HasVarsWithin (length names) c.terms)
      (λ c h. All-weaker (OfTerm (IsUpTo (length names))) (λ t. t.lit.var ≤ length names) (λ t k. k.high) c.terms h)
      numbered (numbered_constraints names is cs [] named)

  module _ (made : List Constraint) (are : made ≡ numbered) where
    pub apart_within : AreVarsWithin (length names) made
    apart_within = subst (AreVarsWithin (length names)) (sym are) within_places

    module _ (start end : EngineState) (begun : start ≡ started (length names) made) (same : end ≡ record start { held = end.held }) where
      over : standing end.places ≡ numbered
      over = ap (λ (s : EngineState). standing s.places) same ∙ ap (λ (s : EngineState). standing s.places) begun ∙ standing_all made ∙ are

      given : end.given ≡ []
      given = ap (λ (s : EngineState). s.given) same ∙ ap (λ (s : EngineState). s.given) begun

      pub apart_found : Conflict (standing end.places) end.given → Conflict cs []
      apart_found c =
          conflict_named names is cs [] named
          (subst (λ (ls : List Lit). Conflict numbered ls) given (subst (λ (ds : List Constraint). Conflict ds end.given) over c))

      pub apart_none : ¬ Conflict (standing end.places) end.given → ¬ Conflict cs []
      apart_none never c =
          never (subst (λ (ds : List Constraint). Conflict ds end.given) (sym over)
          (subst (λ (ls : List Lit). Conflict numbered ls) (sym given) (conflict_numbered names is cs [] named c)))
