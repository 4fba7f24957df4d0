-- One more occurrence of a literal.
use Rattle.std.proofs.Common.{◌≡◌, ℕ, List, [], ◌∷◌, ◌++◌, map, refl, ap, sym, ◌∙◌, subst, append_assoc, append-nil}
use Rattle.std.proofs.lemmas.List.{map_push}
use Rattle.pb_base.specs.declared.literal.Lit.{Lit}
use Rattle.pb_unit.specs.declared.index.Occurrence.{Occurrence}
use Rattle.pb_unit.specs.Index.{Lists, code, section, size_of, units_at, others_at, unit_at, list_at, IsPushed, IsSectioned, AreSame}

-- the same section of the same lists
pub section_as : {s s' e e' u u' : List ℕ} → s ≡ s' → e ≡ e' → u ≡ u' → (k : ℕ) → section s e u k ≡ section s' e' u' k
section_as {s} {s'} {e} {e'} {u} {u'} a b c k = ap (λ (x : List ℕ). section x e u k) a ∙ (ap (λ (x : List ℕ). section s' x u k) b ∙ ap (λ (x : List ℕ). section s' e' x k) c)

pub sectioned_as : {s s' e e' u u' : List ℕ} → s ≡ s' → e ≡ e' → u ≡ u' → IsSectioned s' e' u' → IsSectioned s e u
sectioned_as {s} {s'} {e} {e'} {u} {u'} a b c h =
    subst (λ (x : List ℕ). IsSectioned x e u) (sym a) (subst (λ (x : List ℕ). IsSectioned s' x u) (sym b) (subst (λ (x : List ℕ). IsSectioned s' e' x) (sym c) h))

occurrence : ℕ → ℕ → Occurrence
occurrence place coef = record { place = place; coef = coef }

pub pushed_unit : (x y : Lists) (l : Lit) (n place coef : ℕ) → n ≡ code l → size_of y ≡ size_of x → coef ≡ 1 → units_at y n ≡ units_at x n ++ place ∷ [] → ((k : ℕ) → (k ≡ n → ⊥) → units_at y k ≡ units_at x k) → ((k : ℕ) → others_at y k ≡ others_at x k) → IsPushed l (record { place = place; coef = coef }) x y
pushed_unit x y l n place coef at size one here elsewhere others = record {
  size = size;
  front = map unit_at (units_at x (code l));
  back = others_at x (code l);
  was = refl;
  is =
      let us : List ℕ = units_at x (code l) in
      let new : units_at y (code l) ≡ us ++ place ∷ [] = subst (λ (k : ℕ). units_at y k ≡ units_at x k ++ place ∷ []) at here in
      ap (λ (vs : List ℕ). map unit_at vs ++ others_at y (code l)) new ∙
      (ap (λ (os : List Occurrence). map unit_at (us ++ place ∷ []) ++ os) (others (code l)) ∙
      (ap (λ (os : List Occurrence). os ++ others_at x (code l)) (map_push unit_at us place) ∙
      (append_assoc (map unit_at us) (unit_at place ∷ []) (others_at x (code l)) ∙
      ap (λ (c : ℕ). map unit_at us ++ (record { place = place; coef = c }) ∷ others_at x (code l)) (sym one))));
  elsewhere = λ m ne.
      ap (λ (us : List ℕ). map unit_at us ++ others_at y (code m)) (elsewhere (code m) (λ e. ne (e ∙ at))) ∙
      ap (λ (os : List Occurrence). map unit_at (units_at x (code m)) ++ os) (others (code m));
}

pub pushed_other : (x y : Lists) (l : Lit) (n : ℕ) (o : Occurrence) → n ≡ code l → size_of y ≡ size_of x → ((k : ℕ) → units_at y k ≡ units_at x k) → others_at y n ≡ others_at x n ++ o ∷ [] → ((k : ℕ) → (k ≡ n → ⊥) → others_at y k ≡ others_at x k) → IsPushed l o x y
pushed_other x y l n o at size units here elsewhere = record {
  size = size;
  front = list_at x l;
  back = [];
  was = sym (append-nil (list_at x l));
  is =
      let new : others_at y (code l) ≡ others_at x (code l) ++ o ∷ [] = subst (λ (k : ℕ). others_at y k ≡ others_at x k ++ o ∷ []) at here in
      ap (λ (us : List ℕ). map unit_at us ++ others_at y (code l)) (units (code l)) ∙
      (ap (λ (os : List Occurrence). map unit_at (units_at x (code l)) ++ os) new ∙
      sym (append_assoc (map unit_at (units_at x (code l))) (others_at x (code l)) (o ∷ [])));
  elsewhere = λ m ne.
      ap (λ (us : List ℕ). map unit_at us ++ others_at y (code m)) (units (code m)) ∙
      ap (λ (os : List Occurrence). map unit_at (units_at x (code m)) ++ os) (elsewhere (code m) (λ e. ne (e ∙ at)));
}

pub same_index : (x y : Lists) → size_of y ≡ size_of x → ((k : ℕ) → units_at y k ≡ units_at x k) → ((k : ℕ) → others_at y k ≡ others_at x k) → AreSame x y
same_index x y size units others = record {
  size = size;
  lists = λ l.
      ap (λ (us : List ℕ). map unit_at us ++ others_at y (code l)) (units (code l)) ∙
      ap (λ (os : List Occurrence). map unit_at (units_at x (code l)) ++ os) (others (code l));
}

pub list_parts : (lists : Lists) (l : Lit) (units : List ℕ) (others : List Occurrence) → units ≡ units_at lists (code l) → others ≡ others_at lists (code l) → list_at lists l ≡ map unit_at units ++ others
list_parts lists l units others a b = ap (λ (us : List ℕ). map unit_at us ++ others_at lists (code l)) (sym a) ∙ ap (λ (os : List Occurrence). map unit_at units ++ os) (sym b)
