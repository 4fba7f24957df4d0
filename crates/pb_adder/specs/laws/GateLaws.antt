-- What the clauses of one adder say.
use Rattle.std.proofs.Common.{◌≡◌, ◌≢◌, ◌≤◌, ◌<◌, ◌+◌, ◌*◌, ◌%◌, ◌==◌, ◌||◌, ◌&&◌, ℕ, zero, suc, Bool, true, false, cond, not, List, [], ◌∷◌, ◌++◌, length, refl, sym, ap, ◌∙◌, subst, arith, inl, inr, get_or}
use Rattle.std.specs.Prelude.{All, Contains, map, nat_le, nat_lt}
use Rattle.std.specs.List.{list_all}
use Rattle.std.proofs.lemmas.Bool.{and_from, and_parts, cases_Bool, false≢true, ltb-true}
use Rattle.std.proofs.lemmas.List.{get_or-map, length-map}
use Rattle.std.proofs.lemmas.List.Elements.{All-contains, All-head, All-map, All-tail}
use Rattle.std.proofs.lemmas.List.Folds.{Any-from_list_any}
use Rattle.std.proofs.lemmas.List.Sums.{AllPass-from_list_all, list_all-from_AllPass}
use mathlib.Core.Bool.{beq}
use Rattle.pb_base.specs.declared.literal.Lit.{Lit}
use Rattle.pb_base.specs.Literals.{negated, lit_value, clause_value, is_same, is_among, IsModel}
use Rattle.pb_base.proofs.Members.{Contains-map, from_among}
use Rattle.pb_base.proofs.LiteralLemmas.{beq-true, negated-negated, lit_value-negated, same_lit}
use Rattle.pb_family.specs.Fresh.{positive_of}
use Rattle.pb_derive.specs.laws.Pins.{at_number, pinned}
use Rattle.pb_adder.specs.declared.gate.Wire.{Wire}
use Rattle.pb_adder.specs.declared.gate.Gate.{Gate}
use Rattle.pb_adder.specs.declared.gate.Gate.TheVariants.{Full, Half}
use Rattle.pb_adder.specs.GateReifications.{input_lits, sum_var, carry_var}
use Rattle.pb_adder.specs.Gates.{wire_lit, gate_clauses, gate_inputs, sum_wire, carry_wire}
use Rattle.pb_adder.specs.laws.GateTables.{one, trues, odd_of, two_of, sign_at, signed, is_off, leaves, forces, gate_table, gate_places, places_low, table_clauses, table_exact, table_forces, outputs_at, few_inputs}

-- ---- sums of bits

-- the sum and the carry are those of the inputs
abbrev pub Computes : (Wire → Bool) → Gate → Type 0
Computes p g = (p (sum_wire g) ≡ odd_of (map p (gate_inputs g))) × (p (carry_wire g) ≡ two_of (map p (gate_inputs g)))

-- the inputs add up to the sum and twice the carry
abbrev pub Adds : (Wire → Bool) → Gate → Type 0
Adds p g = trues (map p (gate_inputs g)) ≡ one (p (sum_wire g)) + 2 * one (p (carry_wire g))

up_to_three : (n : ℕ) → n ≤ 3 → n ≡ one (n % 2 == 1) + 2 * one (nat_le 2 n)
up_to_three zero small = refl
up_to_three (suc zero) small = refl
up_to_three (suc (suc zero)) small = refl
up_to_three (suc (suc (suc zero))) small = refl
up_to_three (suc (suc (suc (suc n)))) small = absurd (omega (arith, small))

trues_few : (bs : List Bool) → trues bs ≤ length bs
trues_few [] = omega arith
trues_few (true ∷ bs) = omega (arith, trues_few bs)
trues_few (false ∷ bs) = omega (arith, trues_few bs)

pub computes_adds : (p : Wire → Bool) (g : Gate) → Computes p g → Adds p g
computes_adds p g h =
    let bits = map p (gate_inputs g) in
    omega (arith, up_to_three (trues bits) (omega (arith, trues_few bits, length-map (gate_inputs g) p, few_inputs g)), ap one h.0, ap one h.1)

-- ---- from a clause whose other literals are false

-- what holds of the last literal that a clause has left: truth, and what unit propagation derives
abbrev pub Closed : (Lit → Type 0) → List (List Lit) → Type 0
Closed T cs = (c : List Lit) → Contains cs c → (l : Lit) → Contains c l → ((k : Lit) → Contains c k → k ≢ l → T (negated k)) → T l

-- the first literals have the signs
abbrev pub AreSigned : (Lit → Type 0) → List Lit → List Bool → Type 0
AreSigned T ls [] = Unit {0}
AreSigned T [] (b ∷ bs) = ⊥
AreSigned T (l ∷ ls) (b ∷ bs) = T (signed l b) × AreSigned T ls bs

signed_at : (T : Lit → Type 0) (ls : List Lit) (bs : List Bool) → AreSigned T ls bs → (k : ℕ) → k < length bs → T (signed (at_number ls k) (sign_at bs k))
signed_at T ls [] given k low = absurd (omega (arith, low))
signed_at T [] (b ∷ bs) given k low = absurd given
signed_at T (l ∷ ls) (b ∷ bs) given zero low = given.0
signed_at T (l ∷ ls) (b ∷ bs) given (suc k) low = signed_at T ls bs given.1 k (omega (arith, low))

signed_more : (T : Lit → Type 0) (ls ms : List Lit) (bs : List Bool) → AreSigned T ls bs → AreSigned T (ls ++ ms) bs
signed_more T ls ms [] given = tt
signed_more T [] ms (b ∷ bs) given = absurd given
signed_more T (l ∷ ls) ms (b ∷ bs) given = (given.0, signed_more T ls ms bs given.1)

module _ (T : Lit → Type 0) (ls : List Lit) (bs : List Bool) (given : AreSigned T ls bs) where
  off_negated : (k : Lit) → is_off bs k ≡ true → T (negated (pinned ls k))
  off_negated k off =
      let parts = and_parts (nat_lt k.var (length bs)) (not (lit_value (sign_at bs) k)) off in
      by_sign (at_number ls k.var) k.positive (sign_at bs k.var) parts.1 (signed_at T ls bs given k.var (ltb-true k.var (length bs) parts.0))
    where
      by_sign : (l : Lit) (p b : Bool) → not (cond p b (not b)) ≡ true → T (signed l b) → T (negated (cond p l (negated l)))
      by_sign l true true none h = absurd (false≢true none)
      by_sign l true false none h = h
      by_sign l false true none h = subst T (sym (negated-negated l)) h
      by_sign l false false none h = absurd (false≢true none)

  forced : (qs : List (List Lit)) → Closed T (map (map (pinned ls)) qs) → (n : ℕ) (b : Bool) → forces bs qs n b ≡ true → T (signed (at_number ls n) b)
  forced qs closed n b h =
      let l = signed (positive_of n) b in
      let some = Any-from_list_any (leaves bs l) qs h in
      let q : List Lit = some.1 in
      let parts = and_parts (is_among q l) (list_all {X = Lit} (λ k. is_same k l || is_off bs k) q) some.4 in
      let others : All (λ k. k ≢ pinned ls l → T (negated k)) (map (pinned ls) q) =
      All-map {X = Lit} (λ k. k ≢ pinned ls l → T (negated k)) (pinned ls) q (λ i d within.
      by_test (get_or q i d) l (AllPass-from_list_all {X = Lit} (λ k. is_same k l || is_off bs k) q parts.1 i d within)) in
      by_bool b (closed (map (pinned ls) q) (Contains-map (map (pinned ls)) qs q (some.0, some.2, some.3)) (pinned ls l) (Contains-map (pinned ls) q l (from_among q l parts.0))
      (λ k has. All-contains (λ k. k ≢ pinned ls l → T (negated k)) (map (pinned ls) q) k others has))
    where
      by_test : (k l : Lit) → (is_same k l || is_off bs k) ≡ true → pinned ls k ≢ pinned ls l → T (negated (pinned ls k))
      by_test k l h other =
          elim (cases_Bool (is_same k l)) as (λ _. T (negated (pinned ls k))) [
            | inl same ↦ absurd (other (ap (pinned ls) (same_lit k l same)))
            | inr differs ↦ off_negated k (sym (ap (λ b. b || is_off bs k) differs) ∙ h)
          ]

      by_bool : (b : Bool) → T (pinned ls (signed (positive_of n) b)) → T (signed (at_number ls n) b)
      by_bool true h = h
      by_bool false h = h

-- what the signs of an adder's inputs force
pub gate_forces : (T : Lit → Type 0) (first : ℕ) (g : Gate) → Closed T (gate_clauses first g) → (bs : List Bool) → length bs ≡ length (gate_inputs g) → AreSigned T (input_lits first g) bs
    → T (signed (wire_lit first (sum_wire g)) (odd_of bs)) × T (signed (wire_lit first (carry_wire g)) (two_of bs))
gate_forces T first g closed bs size given =
    let qs = gate_table g in
    let ls = gate_places first g in
    let parts = and_parts (forces bs qs (length bs) (odd_of bs)) (forces bs qs (length bs + 1) (two_of bs)) (table_forces g bs size) in
    let table = subst (Closed T) (sym (table_clauses first g)) closed in
    let known = signed_more T (input_lits first g) (positive_of (sum_var first g) ∷ positive_of (carry_var first g) ∷ []) bs given in
    let places = outputs_at first g in
    let at : length bs ≡ length (input_lits first g) = size ∙ sym (length-map (gate_inputs g) (wire_lit first)) in (
      subst (λ (l : Lit). T (signed l (odd_of bs))) (ap (at_number ls) at ∙ places.0) (forced T ls bs known qs table (length bs) (odd_of bs) parts.0),
      subst (λ (l : Lit). T (signed l (two_of bs))) (ap (λ n. at_number ls (n + 1)) at ∙ places.1) (forced T ls bs known qs table (length bs + 1) (two_of bs) parts.1),
    )

-- ---- the values of an adder

abbrev pub holds_of : ℕ → (ℕ → Bool) → Wire → Bool
holds_of first v w = lit_value v (wire_lit first w)

-- a clause over the places has the value that those of their literals give it
pinned_value : (v : ℕ → Bool) (ls q : List Lit) → All (λ l. l.var < length ls) q → clause_value v (map (pinned ls) q) ≡ clause_value (sign_at (map (lit_value v) ls)) q
pinned_value v ls [] low = refl
pinned_value v ls (l ∷ q) low =
    let here = get_or-map (lit_value v) ls l.var (record { var = 0; positive = true }) false (All-head {X = Lit} (λ l. l.var < length ls) l q low) in
    ap (λ b. b || clause_value v (map (pinned ls) q)) (by_sign (at_number ls l.var) l.positive (sign_at (map (lit_value v) ls) l.var) (sym here))
    ∙ ap (λ b. lit_value (sign_at (map (lit_value v) ls)) l || b) (pinned_value v ls q (All-tail {X = Lit} (λ l. l.var < length ls) l q low))
  where
    by_sign : (k : Lit) (p b : Bool) → lit_value v k ≡ b → lit_value v (cond p k (negated k)) ≡ cond p b (not b)
    by_sign k true b e = e
    by_sign k false b e = lit_value-negated v k ∙ ap not e

pinned_values : (v : ℕ → Bool) (ls : List Lit) (qs : List (List Lit)) → All (All (λ l. l.var < length ls)) qs
    → list_all (clause_value v) (map (map (pinned ls)) qs) ≡ list_all (clause_value (sign_at (map (lit_value v) ls))) qs
pinned_values v ls [] low = refl
pinned_values v ls (q ∷ qs) low =
    let Low : List Lit → Type 0 = All (λ l. l.var < length ls) in
    (λ i. pinned_value v ls q (All-head Low q qs low) i && pinned_values v ls qs (All-tail Low q qs low) i)

-- the clauses are true exactly where the sum and the carry are those of the inputs
are_true : (first : ℕ) (v : ℕ → Bool) (g : Gate)
    → let p = holds_of first v in let bits = map p (gate_inputs g) in list_all (clause_value v) (gate_clauses first g) ≡ (beq (p (sum_wire g)) (odd_of bits) && beq (p (carry_wire g)) (two_of bits))
are_true first v (Full a b c made) = let g = Full a b c made in pinned_values v (gate_places first g) (gate_table g) (places_low first g) ∙ beq-true _ _ (table_exact g (map (lit_value v) (gate_places first g)) refl)
are_true first v (Half a b made) = let g = Half a b made in pinned_values v (gate_places first g) (gate_table g) (places_low first g) ∙ beq-true _ _ (table_exact g (map (lit_value v) (gate_places first g)) refl)

pub clauses_compute : (first : ℕ) (v : ℕ → Bool) (g : Gate) → IsModel v (gate_clauses first g) → Computes (holds_of first v) g
clauses_compute first v g holds =
    let p = holds_of first v in
    let bits = map p (gate_inputs g) in
    let parts = and_parts (beq (p (sum_wire g)) (odd_of bits)) (beq (p (carry_wire g)) (two_of bits)) (sym (are_true first v g) ∙ list_all-from_AllPass (clause_value v) (gate_clauses first g) holds) in
    (beq-true (p (sum_wire g)) (odd_of bits) parts.0, beq-true (p (carry_wire g)) (two_of bits) parts.1)

pub computes_satisfies : (first : ℕ) (v : ℕ → Bool) (g : Gate) → Computes (holds_of first v) g → IsModel v (gate_clauses first g)
computes_satisfies first v g h =
    let p = holds_of first v in
    let bits = map p (gate_inputs g) in
    AllPass-from_list_all (clause_value v) (gate_clauses first g)
    (are_true first v g ∙ and_from (beq (p (sum_wire g)) (odd_of bits)) (beq (p (carry_wire g)) (two_of bits)) (same (p (sum_wire g)) (odd_of bits) h.0) (same (p (carry_wire g)) (two_of bits) h.1))
  where
    by_value : (a : Bool) → beq a a ≡ true
    by_value true = refl
    by_value false = refl

    same : (a b : Bool) → a ≡ b → beq a b ≡ true
    same a b e = ap (beq a) (sym e) ∙ by_value a
