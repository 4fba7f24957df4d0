-- What is reached over the places of the variables that occur.
use Rattle.std.proofs.Common.{◌≡◌, ◌∙◌, ℕ, List, [], ◌∷◌, length, map, refl, ap, subst, sym}
use Rattle.std.specs.Prelude.{Contains, All, pos}
use Rattle.std.proofs.lemmas.List.Elements.{All-map}
use Rattle.pb_base.specs.declared.literal.Lit.{Lit}
use Rattle.pb_base.specs.declared.literal.Term.{Term}
use Rattle.pb_norm.specs.Constraints.{AreUnsigned, Constraint, IsLinear, Weighted, constraint_of, term_of, terms_of}
use Rattle.pb_norm.specs.Propagation.{Conflict}
use Rattle.pb_norm.proofs.KeptTerms.{terms_of-unsigned, weights-terms_of}
use Rattle.pb_unit.specs.Reaching.{AreAscending, AreReachedOver, IsUpTo, OfConstraint, OfLit}
use Rattle.pb_unit.specs.Renaming.{name_at, number_in, renamed, renamed_lit, renamed_term, AreNamed, AreNames}
use Rattle.pb_unit.proofs.Numbers.{name-number, name-rises, number-name, number-rises, number-up_to}
use Rattle.pb_unit.proofs.Renaming.{answers_back, conflict_back, conflict_renamed, found_of, into_constraints, into_lits, linear_renamed, rise}

module _ (names : List ℕ) (is : AreNames names) where
  abbrev number : ℕ → ℕ
  number = number_in names

  abbrev name : ℕ → ℕ
  name = name_at names

  abbrev IsPlace : ℕ → Type 0
  IsPlace = IsUpTo (length names)

  forth : (i : ℕ) → IsPlace i → number (name i) ≡ i
  forth i at = number-name names is.rising i at

  pub numbered_linear : (c : Constraint) → OfConstraint (Contains names) c → IsLinear c → IsLinear (renamed number c)
  numbered_linear c known linear = linear_renamed number (Contains names) (number-rises names is.rising) c known linear

  module _ (cs : List Constraint) (given : List Lit) (named : AreNamed names cs given) where
    abbrev numbered_cs : List Constraint
    numbered_cs = map (renamed number) cs

    abbrev numbered_given : List Lit
    numbered_given = map (renamed_lit number) given

    pub numbered_constraints : All (OfConstraint IsPlace) numbered_cs
    numbered_constraints = into_constraints number name (Contains names) IsPlace (name-number names) forth (number-up_to names) cs given named.constraints named.lits

    pub numbered_lits : All (OfLit IsPlace) numbered_given
    numbered_lits = into_lits number name (Contains names) IsPlace (name-number names) forth (number-up_to names) cs given named.constraints named.lits

    pub numbered_ascending : AreAscending given → AreAscending numbered_given
    numbered_ascending up = rise number (Contains names) (number-rises names is.rising) given named.lits up

    pub conflict_named : Conflict numbered_cs numbered_given → Conflict cs given
    conflict_named c = conflict_back number name (Contains names) IsPlace (name-number names) forth (number-up_to names) cs given named.constraints named.lits c

    pub conflict_numbered : Conflict cs given → Conflict numbered_cs numbered_given
    conflict_numbered c = conflict_renamed number name (Contains names) (name-number names) cs given named.constraints named.lits c

    pub found_places : (found : List Lit) → AreReachedOver numbered_cs numbered_given found → All (OfLit IsPlace) found
    found_places found reached = found_of IsPlace numbered_cs numbered_given numbered_constraints numbered_lits found reached

    pub reached_named : (found : List Lit) → AreReachedOver numbered_cs numbered_given found → AreReachedOver cs given (map (renamed_lit name) found)
    reached_named found reached = answers_back number name (Contains names) IsPlace (name-number names) forth (number-up_to names) cs given named.constraints named.lits (name-rises names is.rising) found reached

-- ---- terms as the code keeps them

pub numbered_terms_are : (f : ℕ → ℕ) (ts : List Weighted) → map {A = Term} (λ t. record { coef = t.coef; lit = renamed_lit f t.lit }) (terms_of ts) ≡ terms_of (map (renamed_term f) ts)
numbered_terms_are f [] = refl
numbered_terms_are f (t ∷ ts) = ap (λ (us : List Term). record { coef = pos t.coef; lit = renamed_lit f t.lit } ∷ us) (numbered_terms_are f ts)

module _ (f : ℕ → ℕ) (c : Constraint) (ts made : List Term) (over : ts ≡ terms_of c.terms) (is : made ≡ map {A = Term} (λ t. record { coef = t.coef; lit = renamed_lit f t.lit }) ts) where
  made_is : made ≡ terms_of (map (renamed_term f) c.terms)
  made_is = is ∙ ap (λ (us : List Term). map {A = Term} (λ t. record { coef = t.coef; lit = renamed_lit f t.lit }) us) over ∙ numbered_terms_are f c.terms

  pub numbered_unsigned : AreUnsigned made
  numbered_unsigned = subst AreUnsigned (sym made_is) (terms_of-unsigned (map (renamed_term f) c.terms))

  pub numbered_is : (degree : ℕ) → degree ≡ c.degree → constraint_of made degree ≡ renamed f c
  numbered_is degree same =
      ap (λ (us : List Term). constraint_of us degree) made_is
      ∙ ap (λ (ws : List Weighted). record { terms = ws; degree = degree }) (weights-terms_of (map (renamed_term f) c.terms))
      ∙ ap (λ (n : ℕ). record { terms = map (renamed_term f) c.terms; degree = n }) same

pub numbered_known : (names : List ℕ) (c : Constraint) (ts : List Term) → ts ≡ terms_of c.terms → OfConstraint (Contains names) c → All (λ (t : Term). Contains names t.lit.var) ts
numbered_known names c ts over known = subst (λ (us : List Term). All (λ (t : Term). Contains names t.lit.var) us) (sym over) (All-map (λ (t : Term). Contains names t.lit.var) term_of c.terms known)
