-- The steps of handing over a clause, or several, for each value of a list.
use Rattle.std.proofs.Common.{◌≡◌, ◌<◌, ◌≤◌, ◌+◌, ◌++◌, ℕ, List, [], ◌∷◌, length, get_or, drop, ap, ◌∙◌, subst, arith, suc}
use Rattle.std.specs.Prelude.{map, Result, IsErrAnd}
use Rattle.std.specs.List.{flat_map}
use Rattle.std.proofs.Math.Seq.{drop-cons}
use Rattle.std.proofs.lemmas.List.{drop_all}
use Rattle.pb_base.specs.declared.literal.Lit.{Lit}
use Rattle.pb_base.specs.declared.fault.Failed.{Failed}
use Rattle.pb_family.specs.Sinks.{SinkState}
use Rattle.pb_family.specs.Handing.{FailsInClauses, Hands, TakesClauses}
use Rattle.pb_family.proofs.Emission.{Emitting, emitting_step, emitting_ends, hands_fault}

values_rest : {X : Type 0} (c : ℕ → X) (us : List ℕ) (i : ℕ) → i < length us → map c (drop i us) ≡ c (get_or us i 0) ∷ map c (drop (i + 1) us)
values_rest {X} c us i within =
    ap (map c) (drop-cons us i 0 within ∙ ap (λ (n : ℕ). get_or us i 0 ∷ drop n us) (let e : suc i ≡ i + 1 = omega arith in e))

rows_rest : {X : Type 0} (row : ℕ → List X) (us : List ℕ) (i : ℕ) → i < length us → flat_map row (drop i us) ≡ row (get_or us i 0) ++ flat_map row (drop (i + 1) us)
rows_rest row us i within =
    ap (flat_map row) (drop-cons us i 0 within ∙ ap (λ (n : ℕ). get_or us i 0 ∷ drop n us) (let e : suc i ≡ i + 1 = omega arith in e))

module _ {R : Type 0} {all : List (List Lit)} {old now : SinkState R} where
  -- what is left of a list of clauses begins with the next one
  value_next : (c : ℕ → List Lit) (us : List ℕ) (i : ℕ) → i < length us → Emitting all (map c (drop i us)) old now → Emitting all (c (get_or us i 0) ∷ map c (drop (i + 1) us)) old now
  value_next c us i within e = subst (λ (xs : List (List Lit)). Emitting all xs old now) (values_rest c us i within) e

  pub value_step : (c : ℕ → List Lit) (us : List ℕ) (i : ℕ) (x : List Lit) (after : SinkState R) → i < length us → x ≡ c (get_or us i 0)
      → Emitting all (map c (drop i us)) old now → TakesClauses (x ∷ []) now after → Emitting all (map c (drop (i + 1) us)) old after
  value_step c us i x after within same e taken =
      emitting_step (c (get_or us i 0) ∷ []) after (value_next c us i within e) (subst (λ (d : List Lit). TakesClauses (d ∷ []) now after) same taken)

  pub value_fault : {T : Type 0} (r : Result T Failed) (g : Failed) (c : ℕ → List Lit) (us : List ℕ) (i : ℕ) (x : List Lit) (after : SinkState R) → IsErrAnd r (λ f. f ≡ g) → i < length us → x ≡ c (get_or us i 0)
      → Emitting all (map c (drop i us)) old now → FailsInClauses (x ∷ []) now after → Hands all r old after
  value_fault r g c us i x after is within same e part =
      hands_fault r g (c (get_or us i 0) ∷ []) _ after is (value_next c us i within e) (subst (λ (d : List Lit). FailsInClauses (d ∷ []) now after) same part)

  -- what is left of a list of rows begins with the next one
  pub row_next : (row : ℕ → List (List Lit)) (us : List ℕ) (i : ℕ) → i < length us → Emitting all (flat_map row (drop i us)) old now → Emitting all (row (get_or us i 0) ++ flat_map row (drop (i + 1) us)) old now
  row_next row us i within e = subst (λ (xs : List (List Lit)). Emitting all xs old now) (rows_rest row us i within) e

  pub values_taken : (c : ℕ → List Lit) (us : List ℕ) (i : ℕ) → length us ≤ i → Emitting all (map c (drop i us)) old now → TakesClauses all old now
  values_taken c us i passed e = emitting_ends (subst (λ (xs : List ℕ). Emitting all (map c xs) old now) (drop_all i us passed) e)

  pub rows_taken : (row : ℕ → List (List Lit)) (us : List ℕ) (i : ℕ) → length us ≤ i → Emitting all (flat_map row (drop i us)) old now → TakesClauses all old now
  rows_taken row us i passed e = emitting_ends (subst (λ (xs : List ℕ). Emitting all (flat_map row xs) old now) (drop_all i us passed) e)
