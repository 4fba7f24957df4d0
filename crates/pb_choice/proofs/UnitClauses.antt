-- Unit clauses say that their literals are true; one unit after another.
use Rattle.std.proofs.Common.{◌≡◌, ◌<◌, ◌+◌, ◌||◌, ℕ, Bool, true, false, List, [], ◌∷◌, ◌↔◌, length, map, drop, drop-cons, get_or, suc, All, refl, sym, ap, ◌∙◌, arith}
use Rattle.std.proofs.lemmas.List.Elements.{All-nil, All-cons, All-head, All-tail}
use Rattle.pb_base.specs.declared.literal.Lit.{Lit}
use Rattle.pb_base.specs.Literals.{Assignment, lit_value, clause_value, IsModel, AllTrue}
use Rattle.pb_choice.specs.Clauses.{unit_clause}
use Rattle.pb_choice.proofs.RestLaws.{IsTrueClause}

unit_value : (a : Assignment) (l : Lit) → clause_value a (unit_clause l) ≡ lit_value a l
unit_value a l = by_value (lit_value a l)
  where
    by_value : (b : Bool) → (b || false) ≡ b
    by_value true = refl
    by_value false = refl

pub units_model : (a : Assignment) (us : List Lit) → AllTrue a us ↔ IsModel a (map unit_clause us)
units_model a [] = ((λ h. All-nil (IsTrueClause a)), (λ h. All-nil (λ l. lit_value a l ≡ true)))
units_model a (l ∷ us) =
    let later = units_model a us in (
      (λ (h : AllTrue a (l ∷ us)). All-cons (IsTrueClause a) (unit_clause l) (map unit_clause us) (unit_value a l ∙ All-head (λ l. lit_value a l ≡ true) l us h) (later.0 (All-tail (λ l. lit_value a l ≡ true) l us h))),
      (λ (h : IsModel a (map unit_clause (l ∷ us))). All-cons (λ l. lit_value a l ≡ true) l us (sym (unit_value a l) ∙ All-head (IsTrueClause a) (unit_clause l) (map unit_clause us) h) (later.1 (All-tail (IsTrueClause a) (unit_clause l) (map unit_clause us) h))),
    )

-- what holds of each literal holds of each of its unit clause
pub units-all : (P : Lit → Type 0) (us : List Lit) → All P us → All (All P) (map unit_clause us)
units-all P [] h = All-nil (All P)
units-all P (l ∷ us) h = All-cons (All P) (unit_clause l) (map unit_clause us) (All-cons P l [] (All-head P l us h) (All-nil P)) (units-all P us (All-tail P l us h))

-- one after another
pub units_left : (us : List Lit) (i : ℕ) (u : Lit) → i < length us → u ≡ get_or us i u → drop i us ≡ u ∷ drop (i + 1) us
units_left us i u lt is =
    let next : suc i ≡ i + 1 = omega arith in
    drop-cons us i u lt ∙ ap (λ (l : Lit). l ∷ drop (suc i) us) (sym is) ∙ ap (λ (n : ℕ). u ∷ drop n us) next
