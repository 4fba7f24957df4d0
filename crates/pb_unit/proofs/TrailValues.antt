-- Values by variable that tell which literals hold, with one literal more and with one less.
use Rattle.std.proofs.Common.{◌≡◌, ◌≢◌, inl, inr, ℕ, Bool, true, false, not, List, ◌∷◌, Option, Some, None, eqb, ◌&&◌, ◌||◌, refl, ap, sym, ◌∙◌}
use mathlib.Core.Bool.{beq}
use Rattle.std.proofs.lemmas.Bool.{cases_Bool, or_left, eqb-true, eqb-false}
use Rattle.pb_base.specs.declared.literal.Lit.{Lit}
use Rattle.pb_base.specs.Literals.{negated, is_same, is_among}
use Rattle.pb_base.proofs.LiteralLemmas.{same_lit, opposite_lit, is_same-refl}
use Rattle.pb_unit.specs.Trails.{is_value}

-- the values tell which literals the list has
abbrev pub Tell : (ℕ → Option Bool) → List Lit → Type 0
Tell values ls = (l : Lit) → is_among ls l ≡ is_value (values l.var) l.positive

-- a variable that the list has neither way stands in no literal of it
absent_var : (ls : List Lit) (l m : Lit) → is_among ls l ≡ false → is_among ls (negated l) ≡ false → l.var ≡ m.var → is_among ls m ≡ false
absent_var ls l m absent undecided e =
    elim (cases_Bool (is_same l m)) [
      | inl same ↦ ap (is_among ls) (sym (same_lit l m same)) ∙ absent
      | inr other ↦ ap (is_among ls) (opposite_lit l m e other) ∙ undecided
    ]

pub told_more : (values more : ℕ → Option Bool) (ls : List Lit) (l : Lit) → more l.var ≡ Some l.positive → ((v : ℕ) → v ≢ l.var → more v ≡ values v) → Tell values ls → is_among ls l ≡ false → is_among ls (negated l) ≡ false → Tell more (l ∷ ls)
told_more values more ls l new old told absent undecided m =
    elim (cases_Bool (eqb l.var m.var)) as (λ _. is_among (l ∷ ls) m ≡ is_value (more m.var) m.positive) [
      | inl same ↦
          let e : l.var ≡ m.var = eqb-true l.var m.var same in
          let is : more m.var ≡ Some l.positive = ap more (sym e) ∙ new in
          let before : is_among ls m ≡ false = absent_var ls l m absent undecided e in
          rw (is, before, same) (by_sign (beq l.positive m.positive))
      | inr other ↦
          let was : more m.var ≡ values m.var = old m.var (λ e. eqb-false l.var m.var other (sym e)) in
          rw (was, other) (told m)
    ]
  where
    by_sign : (b : Bool) → (b || false) ≡ b
    by_sign true = refl
    by_sign false = refl

-- the opposite of the newest literal does not hold
pub absent_negated : (values : ℕ → Option Bool) (l : Lit) (ls : List Lit) → Tell values (l ∷ ls) → is_among ls (negated l) ≡ false
absent_negated values l ls told = by_value (values l.var) (sym (told l) ∙ or_left (is_same l l) (is_among ls l) (is_same-refl l)) (told (negated l))
  where
    by_value : (o : Option Bool) → is_value o l.positive ≡ true → (is_same l (negated l) || is_among ls (negated l)) ≡ is_value o (not l.positive) → is_among ls (negated l) ≡ false
    by_value None a b = let no : ⊥ = cc in absurd no
    by_value (Some v) a b = right (is_same l (negated l)) (is_among ls (negated l)) (b ∙ flip v l.positive a)
      where
        flip : (p q : Bool) → beq p q ≡ true → beq p (not q) ≡ false
        flip true true e = refl
        flip true false e = let no : ⊥ = cc in absurd no
        flip false true e = let no : ⊥ = cc in absurd no
        flip false false e = refl

        right : (p q : Bool) → (p || q) ≡ false → q ≡ false
        right true q e = let no : ⊥ = cc in absurd no
        right false q e = e

pub told_less : (values less : ℕ → Option Bool) (ls : List Lit) (l : Lit) → less l.var ≡ None → ((v : ℕ) → v ≢ l.var → less v ≡ values v) → Tell values (l ∷ ls) → is_among ls l ≡ false → Tell less ls
told_less values less ls l none old told absent m =
    elim (cases_Bool (eqb l.var m.var)) as (λ _. is_among ls m ≡ is_value (less m.var) m.positive) [
      | inl same ↦
          let e : l.var ≡ m.var = eqb-true l.var m.var same in
          let is : less m.var ≡ None = ap less (sym e) ∙ none in
          absent_var ls l m absent (absent_negated values l ls told) e ∙ sym (ap (λ (o : Option Bool). is_value o m.positive) is)
      | inr other ↦
          let was : less m.var ≡ values m.var = old m.var (λ e. eqb-false l.var m.var other (sym e)) in
          first_other other ∙ (told m ∙ sym (ap (λ (o : Option Bool). is_value o m.positive) was))
    ]
  where
    first_other : eqb l.var m.var ≡ false → is_among ls m ≡ is_among (l ∷ ls) m
    first_other e = sym (ap (λ (b : Bool). (b && beq l.positive m.positive) || is_among ls m) e)
