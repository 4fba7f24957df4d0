-- Lists of constraints, as they are kept.
use Rattle.std.proofs.Common.{◌≡◌, ◌<◌, ◌∙◌, ◌++◌, ◌∷◌, [], ℕ, Bool, true, false, cond, List, Option, Some, None, map, length, get_or, refl, ap, sym, subst}
use Rattle.std.specs.Prelude.{All}
use Rattle.std.proofs.lemmas.List.{map_push, get_or-map, get_or_default}
use Rattle.std.proofs.lemmas.List.Elements.{All-push}
use Rattle.pb_base.specs.declared.literal.Term.{Term}
use Rattle.pb_norm.specs.Constraints.{Constraint, Weighted, AreUnsigned, IsLinear, constraint_of}
use Rattle.pb_norm.proofs.KeptTerms.{terms_of-unsigned, weights-terms_of}
use Rattle.pb_unit.specs.States.{at_place, standing}
use Rattle.pb_unit.specs.Reads.{ReadsAt, IsRead, IsWhole}

pub standing-push : (ps : List (Option Constraint)) (c : Constraint) → standing (ps ++ Some c ∷ []) ≡ standing ps ++ c ∷ []
standing-push [] c = refl
standing-push (None ∷ ps) c = standing-push ps c
standing-push (Some d ∷ ps) c = ap (λ (cs : List Constraint). d ∷ cs) (standing-push ps c)

pub whole_pushed : (b : Bool) (ps ps' : List (Option Constraint)) (c : Constraint) → IsWhole ps → IsLinear c → ps' ≡ cond b (ps ++ Some c ∷ []) ps → IsWhole ps'
whole_pushed false ps ps' c h linear e = subst IsWhole (sym e) h
whole_pushed true ps ps' c h linear e = subst IsWhole (sym e) (record {
  stand =
      ap (λ (qs : List (Option Constraint)). qs ++ Some c ∷ []) h.stand ∙
      (sym (map_push (λ (d : Constraint). Some d) (standing ps) c) ∙ ap (map (λ (d : Constraint). Some d)) (sym (standing-push ps c)));
  linear = subst (All IsLinear) (sym (standing-push ps c)) (All-push IsLinear (standing ps) c h.linear linear);
})

pub read_whole : (ps : List (Option Constraint)) → IsWhole ps → (place : ℕ) (ts : List Term) (degree : ℕ) → place < length (standing ps) → ReadsAt ps place ts degree → IsRead (standing ps) place ts degree
read_whole ps h place ts degree below reads = record {
  at = is ∙ get_or_default (standing ps) place none (constraint_of ts degree) below;
  unsigned = subst AreUnsigned (sym (reads here stands).0) (terms_of-unsigned here.terms);
  linear = subst IsLinear (sym is) (h.linear place none below);
}
  where
    none : Constraint
    none = record { terms = []; degree = 0 }

    here : Constraint
    here = get_or (standing ps) place none

    stands : at_place ps place ≡ Some here
    stands = ap (λ (qs : List (Option Constraint)). at_place qs place) h.stand ∙ get_or-map (λ (d : Constraint). Some d) (standing ps) place none None below

    is : constraint_of ts degree ≡ here
    is =
        ap (λ (us : List Term). constraint_of us degree) (reads here stands).0 ∙
        (ap (λ (ws : List Weighted). record { terms = ws; degree = degree }) (weights-terms_of here.terms) ∙ ap (λ (n : ℕ). record { terms = here.terms; degree = n }) (reads here stands).1)
