-- What is made of the items of a list, pushed one after another.
use Rattle.std.proofs.Common.{◌≡◌, ◌<◌, ◌+◌, ◌∙◌, ◌++◌, ◌∷◌, [], ℕ, List, append_assoc, ap, get_or, length, map, subst, sym, take}
use Rattle.std.specs.Prelude.{All}
use Rattle.std.proofs.lemmas.List.{map_push, take_more}
use Rattle.std.proofs.lemmas.List.Elements.{All-push}
use Rattle.pb_base.specs.declared.literal.Lit.{Lit}
use Rattle.pb_base.specs.declared.literal.Term.{Term}
use Rattle.pb_norm.specs.Constraints.{weighted, weights}
use Rattle.pb_unit.specs.Renaming.{lit_vars, term_vars, IsName}

-- with what is made of the next item
pub map_next : {X Y : Type 0} (f : X → Y) (xs : List X) (i : ℕ) (x : X) (made next : List Y) (y : Y) → i < length xs → x ≡ get_or xs i x → made ≡ map f (take i xs) → next ≡ made ++ y ∷ [] → y ≡ f x → next ≡ map f (take (i + 1) xs)
map_next {X} {Y} f xs i x made next y within is so_far pushed same =
    let more = take_more xs i x within ∙ ap (λ (z : X). take i xs ++ z ∷ []) (sym is) in
    pushed
    ∙ ap (λ (ys : List Y). ys ++ y ∷ []) so_far
    ∙ ap (λ (z : Y). map f (take i xs) ++ z ∷ []) same
    ∙ sym (ap (map f) more ∙ map_push f (take i xs) x)

-- ---- variables

-- one more behind variables
pub names_push : (vars next : List ℕ) (v : ℕ) → next ≡ vars ++ v ∷ [] → All IsName vars → IsName v → All IsName next
names_push vars next v is all here = subst (All IsName) (sym is) (All-push IsName vars v all here)

-- what stands behind those of the first items, with that of the next one
vars_push : {X : Type 0} (vars_of : List X → List ℕ) (var_of : X → ℕ) → ((xs : List X) (x : X) → vars_of (xs ++ x ∷ []) ≡ vars_of xs ++ var_of x ∷ [])
    → (xs : List X) (i : ℕ) (x : X) (before vars next : List ℕ) → i < length xs → x ≡ get_or xs i x → vars ≡ before ++ vars_of (take i xs) → next ≡ vars ++ var_of x ∷ [] → next ≡ before ++ vars_of (take (i + 1) xs)
vars_push {X} vars_of var_of pushes xs i x before vars next within is so_far pushed =
    let more = take_more xs i x within ∙ ap (λ (y : X). take i xs ++ y ∷ []) (sym is) in
    pushed
    ∙ ap (λ (vs : List ℕ). vs ++ var_of x ∷ []) so_far
    ∙ append_assoc before (vars_of (take i xs)) (var_of x ∷ [])
    ∙ ap (λ (vs : List ℕ). before ++ vs) (sym (ap vars_of more ∙ pushes (take i xs) x))

module _ (i : ℕ) (before vars next : List ℕ) where
  pub term_vars_push : (ts : List Term) (t : Term) → i < length ts → t ≡ get_or ts i t → vars ≡ before ++ term_vars (weights (take i ts)) → next ≡ vars ++ t.lit.var ∷ [] → next ≡ before ++ term_vars (weights (take (i + 1) ts))
  term_vars_push ts t =
      vars_push (λ (us : List Term). term_vars (weights us)) (λ (u : Term). u.lit.var) (λ us u. ap term_vars (map_push weighted us u) ∙ map_push (λ w. w.lit.var) (weights us) (weighted u)) ts i t before vars next

  pub lit_vars_push : (ls : List Lit) (l : Lit) → i < length ls → l ≡ get_or ls i l → vars ≡ before ++ lit_vars (take i ls) → next ≡ vars ++ l.var ∷ [] → next ≡ before ++ lit_vars (take (i + 1) ls)
  lit_vars_push ls l = vars_push lit_vars (λ (k : Lit). k.var) (map_push (λ (k : Lit). k.var)) ls i l before vars next
