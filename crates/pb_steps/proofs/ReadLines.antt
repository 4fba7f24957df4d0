-- What the words of a line stand for, by what was read.
use Rattle.std.proofs.Common.{◌≡◌, ◌<◌, ◌^◌, ◌++◌, ℕ, Bool, true, false, cond, List, [], ◌∷◌, map, refl, sym, subst}
use Rattle.std.specs.Prelude.{ℤ, unsigned_abs, Ok, Err, codes}
use Rattle.std.specs.List.{flat_map, AllByRecursion}
use Rattle.std.specs.Str.{bytes_eq}
use Rattle.pb_base.specs.declared.literal.Term.{Term}
use Rattle.pb_base.specs.declared.expected.Expected.{Expected}
use Rattle.pb_base.specs.declared.expected.Expected.TheVariants as expected
use Rattle.pb_base.specs.Words.{Chunk}
use Rattle.pb_steps.specs.declared.fault.StepFault.TheVariants.{Token}
use Rattle.pb_steps.specs.declared.op.Set.{Set}
use Rattle.pb_steps.specs.LineWords.{and_then, id_in, integer_in, literal_in, variable_in, bit_in}
use Rattle.pb_steps.specs.LineSteps.{with_item, with_first_term, past, ids_in, terms_in, term_in, Written, right_in, constraint_by, constraint_in, sets_in, arrow_in, value_in}
use Rattle.pb_steps.specs.StepGrammar.{SpellAll, term_symbols, set_symbols, constraint_symbols, StepSymbol, texts}
use Rattle.pb_steps.specs.Sayable.{IsId, IsTerm, Ascend}
use Rattle.pb_steps.specs.StepGrammar.StepSymbol.{key, number, integer}
use Rattle.pb_steps.proofs.SpelledWords.{key_from}
use Rattle.pb_steps.proofs.ReadWords.{and_then_from, key_read, id_from, integer_from, literal_from, variable_from, bit_from}

abbrev Ids : List Chunk → List ℕ → Type 0
Ids ws ids = SpellAll (texts ws) (map number ids) × AllByRecursion IsId ids

pub ids_read : (ws : List Chunk) (ids : List ℕ) → ids_in ws ≡ Ok ids → Ids ws ids
ids_read [] ids h = let e : [] ≡ ids = cc in subst (Ids []) e (tt, tt)
ids_read (w ∷ ws) ids h =
    let (id, first, rest) = and_then_from (λ i. with_item i (ids_in ws)) (id_in expected.Id w) ids h in
    let (others, read, all) = and_then_from (λ xs. Ok (id ∷ xs)) (ids_in ws) ids rest in
    let e : id ∷ others ≡ ids = cc in
    let i = id_from expected.Id w id first in
    let more = ids_read ws others read in
    subst (Ids (w ∷ ws)) e ((i.0, more.0), (i.1, more.1))

-- the terms and their `>=` stand before the rest
abbrev Sum : List Chunk → List Term → List Chunk → Type 0
Sum ws ts vs = ((rest : List StepSymbol) → SpellAll (texts vs) rest → SpellAll (texts ws) (flat_map term_symbols ts ++ key (codes ">=") ∷ rest)) × AllByRecursion IsTerm ts

abbrev Sums : List Chunk → List Term × List Chunk → Type 0
Sums ws p = Sum ws p.0 p.1

pub terms_read : (end : ℕ) (ws : List Chunk) (p : List Term × List Chunk) → terms_in end ws ≡ Ok p → Sums ws p
terms_read end [] p h = cc
terms_read end (w ∷ []) p h = by_sign (bytes_eq w.text (codes ">=")) (key_from w.text (codes ">=")) h
  where
    by_sign : (t : Bool) → (t ≡ true → w.text ≡ codes ">=") → cond t (Ok ([], [])) (and_then (λ coef. Err (Token end expected.Literal)) (integer_in expected.Term w)) ≡ Ok p → Sums (w ∷ []) p
    by_sign true same h = let e : ([], []) ≡ p = cc in subst (Sums (w ∷ [])) e ((λ rest sp. (same refl, sp)), tt)
    by_sign false same h = let (coef, first, none) = and_then_from (λ coef. Err (Token end expected.Literal)) (integer_in expected.Term w) p h in cc
terms_read end (w ∷ v ∷ ws) p h = by_sign (bytes_eq w.text (codes ">=")) (key_from w.text (codes ">=")) (λ q read. terms_read end ws q read) h
  where
    by_sign : (t : Bool) → (t ≡ true → w.text ≡ codes ">=") → ((q : List Term × List Chunk) → terms_in end ws ≡ Ok q → Sums ws q) → cond t (Ok ([], v ∷ ws)) (and_then (λ coef. term_in end coef (v ∷ ws)) (integer_in expected.Term w)) ≡ Ok p → Sums (w ∷ v ∷ ws) p
    by_sign true same again h = let e : ([], v ∷ ws) ≡ p = cc in subst (Sums (w ∷ v ∷ ws)) e ((λ rest sp. (same refl, sp)), tt)
    by_sign false same again h =
        let (coef, first, behind) = and_then_from (λ coef. term_in end coef (v ∷ ws)) (integer_in expected.Term w) p h in
        let (l, second, others) = and_then_from (λ l. with_first_term (record { coef = coef; lit = l }) (terms_in end ws)) (literal_in expected.Literal v) p behind in
        let (q, read, all) = and_then_from (λ q. Ok (record { coef = coef; lit = l } ∷ q.0, q.1)) (terms_in end ws) p others in
        let e : (record { coef = coef; lit = l } ∷ q.0, q.1) ≡ p = cc in
        let c = integer_from expected.Term w coef first in
        let n = literal_from expected.Literal v l second in
        let more = again q read in
        subst (Sums (w ∷ v ∷ ws)) e ((λ rest sp. (c.0, (n.0, more.0 rest sp))), ((c.1, n.1), more.1))

pub past_read : (end : ℕ) (k : List ℕ) (e : Expected) (ws vs : List Chunk) → past end k e ws ≡ Ok vs → (rest : List StepSymbol) → SpellAll (texts vs) rest → SpellAll (texts ws) (key k ∷ rest)
past_read end k e [] vs h = cc
past_read end k e (w ∷ ws) vs h =
    let p = key_read w.text k (Ok ws) (Token w.column e) vs h in
    let same : ws ≡ vs = cc in
    λ rest sp. (p.0, subst (λ (us : List Chunk). SpellAll (texts us) rest) (sym same) sp)

abbrev Right : List Chunk → ℤ × List Chunk → Type 0
Right ws p = ((rest : List StepSymbol) → SpellAll (texts p.1) rest → SpellAll (texts ws) (integer p.0 ∷ key (codes ";") ∷ rest)) × (unsigned_abs p.0 < 2 ^ 126)

right_read : (end : ℕ) (ws : List Chunk) (p : ℤ × List Chunk) → right_in end ws ≡ Ok p → Right ws p
right_read end [] p h = cc
right_read end (w ∷ ws) p h =
    let (right, first, behind) = and_then_from (λ right. and_then (λ us. Ok (right, us)) (past end (codes ";") expected.Semicolon ws)) (integer_in expected.Integer w) p h in
    let (vs, read, all) = and_then_from (λ us. Ok (right, us)) (past end (codes ";") expected.Semicolon ws) p behind in
    let e : (right, vs) ≡ p = cc in
    let z = integer_from expected.Integer w right first in
    subst (Right (w ∷ ws)) e ((λ rest sp. (z.0, past_read end (codes ";") expected.Semicolon ws vs read rest sp)), z.1)

pub record IsConstraint (ws : List Chunk) (c : Written) : Type 0 where
  pub spelled : (rest : List StepSymbol) → SpellAll (texts c.rest) rest → SpellAll (texts ws) (constraint_symbols c.terms c.right rest)
  pub terms_ok : AllByRecursion IsTerm c.terms
  pub right_ok : unsigned_abs c.right < 2 ^ 126

pub constraint_read : (end : ℕ) (ws : List Chunk) (c : Written) → constraint_in end ws ≡ Ok c → IsConstraint ws c
constraint_read end ws c h =
    let (sum, read, behind) = and_then_from (λ sum. constraint_by sum.0 (right_in end sum.1)) (terms_in end ws) c h in
    let (p, read_right, all) = and_then_from (λ p. Ok (record { terms = sum.0; right = p.0; rest = p.1 })) (right_in end sum.1) c behind in
    let e : record { terms = sum.0; right = p.0; rest = p.1 } ≡ c = cc in
    let s = terms_read end ws sum read in
    let r = right_read end sum.1 p read_right in
    subst (IsConstraint ws) e (record {
      spelled = λ rest sp. s.0 (integer p.0 ∷ key (codes ";") ∷ rest) (r.0 rest sp);
      terms_ok = s.1;
      right_ok = r.1;
    })

abbrev Sets : ℕ → List Chunk → List Set → Type 0
Sets above ws sets = SpellAll (texts ws) (flat_map set_symbols sets) × Ascend above sets

pub sets_read : (end above : ℕ) (ws : List Chunk) (sets : List Set) → sets_in end above ws ≡ Ok sets → Sets above ws sets
sets_read end above [] sets h = let e : [] ≡ sets = cc in subst (Sets above []) e (tt, tt)
sets_read end above (w ∷ []) sets h = let (v, first, none) = and_then_from (λ v. arrow_in end v []) (variable_in above w) sets h in cc
sets_read end above (w ∷ a ∷ []) sets h =
    let (v, first, behind) = and_then_from (λ v. arrow_in end v (a ∷ [])) (variable_in above w) sets h in
    let none = key_read a.text (codes "->") (Err (Token end expected.Bit)) (Token a.column expected.Arrow) sets behind in
    absurd (no_value none.1)
  where
    no_value : Err (Token end expected.Bit) ≡ Ok sets → ⊥
    no_value h = cc
sets_read end above (w ∷ a ∷ b ∷ ws) sets h =
    let (v, first, behind) = and_then_from (λ v. arrow_in end v (a ∷ b ∷ ws)) (variable_in above w) sets h in
    let arrow = key_read a.text (codes "->") (value_in end v (b ∷ ws)) (Token a.column expected.Arrow) sets behind in
    let (value, third, others) = and_then_from (λ value. with_item (record { var = v; value = value }) (sets_in end v ws)) (bit_in b) sets arrow.1 in
    let (rest, read, all) = and_then_from (λ xs. Ok (record { var = v; value = value } ∷ xs)) (sets_in end v ws) sets others in
    let e : record { var = v; value = value } ∷ rest ≡ sets = cc in
    let x = variable_from above w v first in
    let more = sets_read end v ws rest read in
    subst (Sets above (w ∷ a ∷ b ∷ ws)) e ((x.0, (arrow.0, (bit_from b value third, more.0))), (x.1, x.2, more.1))
