-- Justifications that have the same steps, whatever their clauses are.
use Rattle.std.proofs.Common.{◌≡◌, ◌+◌, ◌++◌, ℕ, zero, suc, List, [], ◌∷◌, map, length, refl, sym, ap, ◌∙◌, arith, length-append}
use Rattle.std.specs.List.{range_with_len, flat_map}
use Rattle.pb_steps.specs.declared.step.Step.{Step}
use Rattle.pb_derive.specs.Claims.{claim_steps}
use Rattle.pb_derive.specs.Justifications.{Justification, by_justification}
use Rattle.pb_family.proofs.Sequence.{justifications_split}

pub record HaveSameSteps (rs qs : List Justification) : Type 0 where
  pub count : length rs ≡ length qs
  pub steps : (next : ℕ) → claim_steps next (map by_justification rs) ≡ claim_steps next (map by_justification qs)

pub same_none : HaveSameSteps [] []
same_none = record { count = refl; steps = λ next. refl }

pub same_append : (rs qs xs ys : List Justification) → HaveSameSteps rs qs → HaveSameSteps xs ys → HaveSameSteps (rs ++ xs) (qs ++ ys)
same_append rs qs xs ys h k = record {
  count = omega (arith, length-append rs xs, length-append qs ys, h.count, k.count);
  steps = λ next.
      justifications_split next rs xs
      ∙ (λ i. h.steps next i ++ claim_steps (next + h.count i) (map by_justification xs))
      ∙ ap (λ (ss : List Step). claim_steps next (map by_justification qs) ++ ss) (k.steps (next + length qs))
      ∙ sym (justifications_split next qs ys);
}

pub same_range : (f g : ℕ → Justification) → ((k : ℕ) → HaveSameSteps (f k ∷ []) (g k ∷ [])) → (a n : ℕ) → HaveSameSteps (map f (range_with_len a n)) (map g (range_with_len a n))
same_range f g each a zero = same_none
same_range f g each a (suc n) = same_append (f a ∷ []) (g a ∷ []) (map f (range_with_len (a + 1) n)) (map g (range_with_len (a + 1) n)) (each a) (same_range f g each (a + 1) n)

pub same_flat : (f g : ℕ → List Justification) → ((k : ℕ) → HaveSameSteps (f k) (g k)) → (a n : ℕ) → HaveSameSteps (flat_map f (range_with_len a n)) (flat_map g (range_with_len a n))
same_flat f g each a zero = same_none
same_flat f g each a (suc n) = same_append (f a) (g a) (flat_map f (range_with_len (a + 1) n)) (flat_map g (range_with_len (a + 1) n)) (each a) (same_flat f g each (a + 1) n)
