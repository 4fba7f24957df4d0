-- What stands without the constraints of some ids.
use Rattle.std.proofs.Common.{◌≡◌, ℕ, Bool, true, false, not, cond, ◌||◌, List, [], ◌∷◌, ◌++◌, refl, ap, sym, ◌∙◌, eqb}
use Rattle.pb_steps.specs.Database.{Entry, without, is_listed}

pub without-none : (es : List Entry) → without [] es ≡ es
without-none [] = refl
without-none (e ∷ es) = ap (λ (fs : List Entry). e ∷ fs) (without-none es)

pub listed-push : (ids : List ℕ) (id x : ℕ) → is_listed (ids ++ id ∷ []) x ≡ (is_listed ids x || eqb id x)
listed-push [] id x = last (eqb id x) where
  last : (b : Bool) → (b || false) ≡ b
  last true = refl
  last false = refl
listed-push (i ∷ ids) id x = ap (λ (b : Bool). eqb i x || b) (listed-push ids id x) ∙ sym (assoc (eqb i x) (is_listed ids x) (eqb id x)) where
  assoc : (a b c : Bool) → ((a || b) || c) ≡ (a || (b || c))
  assoc true b c = refl
  assoc false b c = refl

pub without-push : (ids : List ℕ) (id : ℕ) (es : List Entry) → without (ids ++ id ∷ []) es ≡ without (id ∷ []) (without ids es)
without-push ids id [] = refl
without-push ids id (e ∷ es) = rw listed-push (first (is_listed ids e.id) (without-push ids id es)) where
  second : (b : Bool) → without (ids ++ id ∷ []) es ≡ without (id ∷ []) (without ids es) →
      cond {A = List Entry} (not b) (e ∷ without (ids ++ id ∷ []) es) (without (ids ++ id ∷ []) es) ≡ cond {A = List Entry} (not (b || false)) (e ∷ without (id ∷ []) (without ids es)) (without (id ∷ []) (without ids es))
  second true h = h
  second false h = ap (λ (fs : List Entry). e ∷ fs) h

  first : (a : Bool) → without (ids ++ id ∷ []) es ≡ without (id ∷ []) (without ids es) →
      cond {A = List Entry} (not (a || eqb id e.id)) (e ∷ without (ids ++ id ∷ []) es) (without (ids ++ id ∷ []) es) ≡ without (id ∷ []) (cond {A = List Entry} (not a) (e ∷ without ids es) (without ids es))
  first true h = h
  first false h = second (eqb id e.id) h
