-- The least id of a constraint that has a variable.
use Rattle.std.proofs.Common.{◌≡◌, ◌≤◌, ◌<◌, ◌+◌, ℕ, Bool, true, false, List, [], ◌∷◌, ◌++◌, Option, Some, None, arith, length, get_or, take, refl, sym, subst, cond}
use Rattle.std.specs.Prelude.{MatchOption, nat_le}
use Rattle.std.proofs.lemmas.Bool.{leb-true, leb-false}
use Rattle.std.proofs.lemmas.List.{take_more, take_all}
use Rattle.std.proofs.lemmas.List.Elements.{All-nil, All-push, All-weaker, All-contains}
use Rattle.pb_steps.specs.Database.{Database}
use Rattle.pb_database.specs.Naming.{names_at, IsUnnamed, IsFirstNaming, HasNaming}
use Rattle.pb_database.specs.inner.Indexed.{IsLeast, IsNaming, lesser}

pub least_skip : (P : ℕ → Type 0) (ids : List ℕ) (id : ℕ) (best : Option ℕ) → ¬ P id → IsLeast P ids best → IsLeast P (ids ++ id ∷ []) best
least_skip P ids id None other h = All-push (λ x. ¬ P x) ids id h other
least_skip P ids id (Some best) other h = (h.0, All-push (λ x. P x → best ≤ x) ids id h.1 (λ p. absurd (other p)))

pub least_more : (P : ℕ → Type 0) (ids : List ℕ) (id : ℕ) (best : Option ℕ) → P id → IsLeast P ids best → IsLeast P (ids ++ id ∷ []) (lesser best id)
least_more P ids id None p h = (p, All-push (λ x. P x → id ≤ x) ids id (All-weaker (λ x. ¬ P x) (λ x. P x → id ≤ x) (λ x none q. absurd (none q)) ids h) (λ q. omega arith))
least_more P ids id (Some best) p h = by_test (nat_le best id) refl where
  by_test : (b : Bool) → nat_le best id ≡ b → IsLeast P (ids ++ id ∷ []) (cond b (Some best) (Some id))
  by_test true e = (h.0, All-push (λ x. P x → best ≤ x) ids id h.1 (λ q. leb-true best id e))
  by_test false e =
      let less : id < best = leb-false best id e in
      (p, All-push (λ x. P x → id ≤ x) ids id (All-weaker (λ x. P x → best ≤ x) (λ x. P x → id ≤ x) (λ x low q. let l : best ≤ x = low q in omega (arith, l, less)) ids h.1) (λ q. omega arith))

pub least_next : (P : ℕ → Type 0) (ids : List ℕ) (i : ℕ) (best : Option ℕ) → i < length ids → IsLeast P (take i ids ++ get_or ids i 0 ∷ []) best → IsLeast P (take (i + 1) ids) best
least_next P ids i best below h = subst (λ (xs : List ℕ). IsLeast P xs best) (sym (take_more ids i 0 below)) h

pub least_all : (P : ℕ → Type 0) (ids : List ℕ) (i : ℕ) (best : Option ℕ) → length ids ≤ i → IsLeast P (take i ids) best → IsLeast P ids best
least_all P ids i best past h = subst (λ (xs : List ℕ). IsLeast P xs best) (take_all i ids past) h

pub named_first : (db : Database) (v from : ℕ) (ids : List ℕ) (best : Option ℕ) → HasNaming db.live v ids → IsLeast (IsNaming db.live v from) ids best → MatchOption best (IsUnnamed db v from) (IsFirstNaming db.live v from)
named_first db v from ids None naming h = λ k low high. test k (names_at db.live v k) refl (λ e. All-contains (λ x. ¬ IsNaming db.live v from x) ids k h (naming k e) (low, e)) where
  test : (k : ℕ) (b : Bool) → names_at db.live v k ≡ b → (names_at db.live v k ≡ true → ⊥) → names_at db.live v k ≡ false
  test k true e other = absurd (other e)
  test k false e other = e
named_first db v from ids (Some best) naming h = record {
  low = h.0.0;
  names = h.0.1;
  first = λ k low less. test k (names_at db.live v k) refl (λ e. let least : best ≤ k = All-contains (λ x. IsNaming db.live v from x → best ≤ x) ids k h.1 (naming k e) (low, e) in omega (arith, least, less));
}
  where
    test : (k : ℕ) (b : Bool) → names_at db.live v k ≡ b → (names_at db.live v k ≡ true → ⊥) → names_at db.live v k ≡ false
    test k true e other = absurd (other e)
    test k false e other = e

pub least_none : (P : ℕ → Type 0) (ids : List ℕ) → IsLeast P (take 0 ids) None
least_none P ids = All-nil (λ x. ¬ P x)
