-- The clauses of justifications, and of claims by propagation.
use Rattle.std.proofs.Common.{◌≡◌, ◌+◌, ◌∷◌, ◌++◌, ◌∙◌, ℕ, zero, suc, List, [], map, refl, ap}
use Rattle.std.specs.List.{range_with_len, flat_map}
use Rattle.pb_base.specs.declared.literal.Lit.{Lit}
use Rattle.pb_derive.specs.Claims.{Claim}
use Rattle.pb_derive.specs.Justifications.{Justification, by_justification}
use Rattle.pb_derive.specs.Rups.{by_rup}

abbrev pub justification_clauses : List Justification → List (List Lit)
justification_clauses rs = map (λ (c : Claim). c.clause) (map by_justification rs)

pub clauses-append : (rs qs : List Justification) → justification_clauses (rs ++ qs) ≡ justification_clauses rs ++ justification_clauses qs
clauses-append [] qs = refl
clauses-append (r ∷ rs) qs = ap (λ (cs : List (List Lit)). r.clause ∷ cs) (clauses-append rs qs)

pub clauses-justifications : (rs : List Justification) → justification_clauses rs ≡ map (λ (r : Justification). r.clause) rs
clauses-justifications [] = refl
clauses-justifications (r ∷ rs) = ap (λ (cs : List (List Lit)). r.clause ∷ cs) (clauses-justifications rs)

pub clauses-range : (f : ℕ → Justification) (a n : ℕ) → justification_clauses (map f (range_with_len a n)) ≡ map (λ (k : ℕ). (f k).clause) (range_with_len a n)
clauses-range f a zero = refl
clauses-range f a (suc n) = ap (λ (cs : List (List Lit)). (f a).clause ∷ cs) (clauses-range f (a + 1) n)

pub clauses-flat : (f : ℕ → List Justification) (g : ℕ → List (List Lit)) → ((k : ℕ) → justification_clauses (f k) ≡ g k) → (a n : ℕ) → justification_clauses (flat_map f (range_with_len a n)) ≡ flat_map g (range_with_len a n)
clauses-flat f g each a zero = refl
clauses-flat f g each a (suc n) = clauses-append (f a) (flat_map f (range_with_len (a + 1) n)) ∙ (λ i. each a i ++ clauses-flat f g each (a + 1) n i)

pub rup_clauses : (ids : List ℕ) (cs : List (List Lit)) → map (λ (c : Claim). c.clause) (map (by_rup ids) cs) ≡ cs
rup_clauses ids [] = refl
rup_clauses ids (c ∷ cs) = ap (λ (ds : List (List Lit)). c ∷ ds) (rup_clauses ids cs)
