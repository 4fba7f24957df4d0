-- A line whose words stand for a step says it.
use Rattle.std.proofs.Common.{◌≡◌, ◌≤◌, ◌<◌, ◌^◌, ◌++◌, ℕ, Bool, true, false, cond, List, [], ◌∷◌, map, Option, Some, None, refl, sym, ap, ◌∙◌, subst, arith}
use Rattle.std.specs.Prelude.{ℤ, pos, unsigned_abs, Result, Ok, Err, codes}
use Rattle.std.specs.Option.{option_map}
use Rattle.std.specs.List.{flat_map, AllByRecursion}
use Rattle.std.specs.Str.{bytes_eq}
use Rattle.std.proofs.lemmas.Int.{ints}
use Rattle.pb_base.specs.declared.literal.Lit.{Lit}
use Rattle.pb_base.specs.declared.literal.Term.{Term}
use Rattle.pb_base.specs.declared.expected.Expected.TheVariants as expected
use Rattle.pb_base.specs.Numbers.{natural_of, integer_of}
use Rattle.pb_base.specs.Words.{Chunk}
use Rattle.pb_base.specs.LiteralWords.{literal_of}
use Rattle.pb_steps.specs.declared.fault.StepFault.{StepFault}
use Rattle.pb_steps.specs.declared.fault.StepFault.TheVariants.{Token}
use Rattle.pb_steps.specs.declared.op.Set.{Set}
use Rattle.pb_steps.specs.declared.op.PolOp.{PolOp}
use Rattle.pb_steps.specs.declared.op.PolOp.TheVariants.{Push, Axiom, Add, Mul, Div, Saturate, Weaken}
use Rattle.pb_steps.specs.LineWords.{and_then, number_between, bit_in}
use Rattle.pb_steps.specs.LineSteps.{with_item, with_first_term, past, number_op, literal_op, op_by, op_of, next_text, ops_from, ids_in, terms_in, term_in, Written, right_in, constraint_by, constraint_in, sets_in, arrow_in, value_in}
use Rattle.pb_steps.specs.StepGrammar.{StepSymbol, SpellAll, op_symbols, term_symbols, bit_word, set_symbols, constraint_symbols, texts}
use Rattle.pb_steps.specs.Sayable.{IsId, IsFactor, IsVariable, IsOp, IsTerm, Ascend}
use Rattle.pb_steps.specs.StepGrammar.StepSymbol.{key, number, integer}
use Rattle.pb_steps.proofs.SpelledWords.{counted_is, id_is, integer_is, literal_is, variable_is, key_is, other_than, literal_is_no_number}

pub ids_spelled : (ws : List Chunk) (ids : List ℕ) → SpellAll (texts ws) (map number ids) → AllByRecursion IsId ids → ids_in ws ≡ Ok ids
ids_spelled [] [] sp ok = refl
ids_spelled [] (id ∷ ids) sp ok = absurd sp
ids_spelled (w ∷ ws) [] sp ok = absurd sp
ids_spelled (w ∷ ws) (id ∷ ids) sp ok =
    ap (and_then (λ i. with_item i (ids_in ws))) (id_is expected.Id w id sp.0 ok.0)
    ∙ ap (with_item id) (ids_spelled ws ids sp.1 ok.1)

-- the word is not this one, of which nothing is told
not_this : {T : Type 0} (f : List ℕ → Option T) (w k : List ℕ) (x : T) → f w ≡ Some x → f k ≡ None → bytes_eq w k ≡ false
not_this f w k x some none = other_than f w k (λ e. cc)

abbrev Reads : {A : Type 0} → Result (A × List Chunk) StepFault → A → List StepSymbol → Type 0
Reads r a rest = (vs : List Chunk) × (r ≡ Ok (a, vs)) × SpellAll (texts vs) rest

pub take_key : {A : Type 0} (w : Chunk) (k : List ℕ) (x y : A) → w.text ≡ k → cond (bytes_eq w.text k) x y ≡ x
take_key w k x y is = ap (λ (b : Bool). cond b x y) (key_is w.text k is)

pub pass_key : {A : Type 0} (w : Chunk) (k : List ℕ) (x y : A) → bytes_eq w.text k ≡ false → cond (bytes_eq w.text k) x y ≡ y
pass_key w k x y is = ap (λ (b : Bool). cond b x y) is

terms_spelled : (end : ℕ) (ws : List Chunk) (ts : List Term) (rest : List StepSymbol) → SpellAll (texts ws) (flat_map term_symbols ts ++ key (codes ">=") ∷ rest) → AllByRecursion IsTerm ts → Reads (terms_in end ws) ts rest
terms_spelled end [] [] rest sp ok = absurd sp
terms_spelled end (w ∷ ws) [] rest sp ok = (ws, take_key w (codes ">=") _ _ sp.0, sp.1)
terms_spelled end [] (t ∷ ts) rest sp ok = absurd sp
terms_spelled end (w ∷ []) (t ∷ ts) rest sp ok = absurd sp.1
terms_spelled end (w ∷ v ∷ ws) (t ∷ ts) rest sp ok =
    let (vs, read, left) = terms_spelled end ws ts rest sp.1.1 ok.1 in (
      vs,
      pass_key w (codes ">=") _ _ (not_this integer_of w.text (codes ">=") t.coef sp.0 refl)
          ∙ ap (and_then (λ coef. term_in end coef (v ∷ ws))) (integer_is expected.Term w t.coef sp.0 ok.0.0)
          ∙ ap (and_then (λ l. with_first_term (record { coef = t.coef; lit = l }) (terms_in end ws))) (literal_is expected.Literal v t.lit sp.1.0 ok.0.1)
          ∙ ap (with_first_term t) read,
      left,
    )

right_spelled : (end : ℕ) (ws : List Chunk) (right : ℤ) (rest : List StepSymbol) → SpellAll (texts ws) (integer right ∷ key (codes ";") ∷ rest) → unsigned_abs right < 2 ^ 126 → Reads (right_in end ws) right rest
right_spelled end [] right rest sp ok = absurd sp
right_spelled end (w ∷ []) right rest sp ok = absurd sp.1
right_spelled end (w ∷ v ∷ ws) right rest sp ok = (
  ws,
  ap (and_then (λ z. and_then (λ us. Ok (z, us)) (past end (codes ";") expected.Semicolon (v ∷ ws)))) (integer_is expected.Integer w right sp.0 ok)
      ∙ ap (and_then (λ us. Ok (right, us))) (take_key v (codes ";") (Ok ws) (Err (Token v.column expected.Semicolon)) sp.1.0),
  sp.1.1,
)

abbrev pub ReadsConstraint : Result Written StepFault → List Term → ℤ → List StepSymbol → Type 0
ReadsConstraint r ts right rest = (vs : List Chunk) × (r ≡ Ok (record { terms = ts; right = right; rest = vs })) × SpellAll (texts vs) rest

pub constraint_spelled : (end : ℕ) (ws : List Chunk) (ts : List Term) (right : ℤ) (rest : List StepSymbol) → SpellAll (texts ws) (constraint_symbols ts right rest) → AllByRecursion IsTerm ts → unsigned_abs right < 2 ^ 126
    → ReadsConstraint (constraint_in end ws) ts right rest
constraint_spelled end ws ts right rest sp terms_ok right_ok =
    let (us, read, left) = terms_spelled end ws ts (integer right ∷ key (codes ";") ∷ rest) sp terms_ok in
    let (vs, read_right, left_over) = right_spelled end us right rest left right_ok in (
      vs,
      ap (and_then (λ sum. constraint_by sum.0 (right_in end sum.1))) read ∙ ap (constraint_by ts) read_right,
      left_over,
    )

bit_is : (w : Chunk) (value : Bool) → w.text ≡ bit_word value → bit_in w ≡ Ok value
bit_is w true is = ap (λ (t : List ℕ). bit_in (record { column = w.column; text = t })) is
bit_is w false is = ap (λ (t : List ℕ). bit_in (record { column = w.column; text = t })) is

pub sets_spelled : (end above : ℕ) (ws : List Chunk) (sets : List Set) → SpellAll (texts ws) (flat_map set_symbols sets) → Ascend above sets → sets_in end above ws ≡ Ok sets
sets_spelled end above [] [] sp ok = refl
sets_spelled end above (w ∷ ws) [] sp ok = absurd sp
sets_spelled end above [] (s ∷ sets) sp ok = absurd sp
sets_spelled end above (w ∷ []) (s ∷ sets) sp ok = absurd sp.1
sets_spelled end above (w ∷ a ∷ []) (s ∷ sets) sp ok = absurd sp.1.1
sets_spelled end above (w ∷ a ∷ b ∷ ws) (s ∷ sets) sp ok =
    ap (and_then (λ v. arrow_in end v (a ∷ b ∷ ws))) (variable_is above w s.var sp.0 ok.0 ok.1)
    ∙ take_key a (codes "->") (value_in end s.var (b ∷ ws)) _ sp.1.0
    ∙ ap (and_then (λ value. with_item (record { var = s.var; value = value }) (sets_in end s.var ws))) (bit_is b s.value sp.1.1.0)
    ∙ ap (with_item s) (sets_spelled end s.var ws sets sp.1.1.1 ok.2)

-- the word makes no operation with the one before it
abbrev NoMark : List ℕ → Type 0
NoMark t = (bytes_eq t (codes "*") ≡ false) × (bytes_eq t (codes "d") ≡ false) × (bytes_eq t (codes "w") ≡ false)

told_no_mark : {T : Type 0} (f : List ℕ → Option T) (t : List ℕ) (x : T) → f t ≡ Some x → f (codes "*") ≡ None → f (codes "d") ≡ None → f (codes "w") ≡ None → NoMark t
told_no_mark f t x some times over weak = (not_this f t (codes "*") x some times, not_this f t (codes "d") x some over, not_this f t (codes "w") x some weak)

next_no_mark : (ws : List Chunk) (ops : List PolOp) → SpellAll (texts ws) (flat_map op_symbols ops) → NoMark (next_text ws)
next_no_mark [] [] sp = (refl, refl, refl)
next_no_mark (w ∷ ws) [] sp = absurd sp
next_no_mark [] (Push id ∷ ops) sp = absurd sp
next_no_mark [] (Axiom l ∷ ops) sp = absurd sp
next_no_mark [] (Add ∷ ops) sp = absurd sp
next_no_mark [] (Mul n ∷ ops) sp = absurd sp
next_no_mark [] (Div n ∷ ops) sp = absurd sp
next_no_mark [] (Saturate ∷ ops) sp = absurd sp
next_no_mark [] (Weaken v ∷ ops) sp = absurd sp
next_no_mark (w ∷ ws) (Push id ∷ ops) sp = told_no_mark natural_of w.text id sp.0 refl refl refl
next_no_mark (w ∷ ws) (Axiom l ∷ ops) sp = told_no_mark literal_of w.text l sp.0 refl refl refl
next_no_mark (w ∷ ws) (Add ∷ ops) sp = subst NoMark (sym sp.0) (refl, refl, refl)
next_no_mark (w ∷ ws) (Mul n ∷ ops) sp = told_no_mark (λ t. option_map pos (natural_of t)) w.text n sp.0 refl refl refl
next_no_mark (w ∷ ws) (Div n ∷ ops) sp = told_no_mark (λ t. option_map pos (natural_of t)) w.text n sp.0 refl refl refl
next_no_mark (w ∷ ws) (Saturate ∷ ops) sp = subst NoMark (sym sp.0) (refl, refl, refl)
next_no_mark (w ∷ ws) (Weaken v ∷ ops) sp = told_no_mark literal_of w.text (record { var = v; positive = sp.0.0 }) sp.0.1 refl refl refl

number_op_is : (w : Chunk) (next : List ℕ) (n : ℕ) → natural_of w.text ≡ Some n → op_of w next ≡ number_op w.column n next
number_op_is w next n is = ap (λ (o : Option ℕ). op_by o w next) is

push_is : (w : Chunk) (next : List ℕ) (id : ℕ) → natural_of w.text ≡ Some id → IsId id → NoMark next → op_of w next ≡ Ok (Push id, false)
push_is w next id is ok plain =
    number_op_is w next id is
    ∙ ap (λ (b : Bool). cond b (and_then (λ f. Ok (Mul (pos f), true)) (number_between 1 (2 ^ 126) expected.Factor w.column (Some id))) (cond (bytes_eq next (codes "d")) (and_then (λ f. Ok (Div (pos f), true)) (number_between 1 (2 ^ 126) expected.Factor w.column (Some id))) (and_then (λ i. Ok (Push i, false)) (number_between 1 (2 ^ 63) expected.Operand w.column (Some id))))) plain.0
    ∙ ap (λ (b : Bool). cond b (and_then (λ f. Ok (Div (pos f), true)) (number_between 1 (2 ^ 126) expected.Factor w.column (Some id))) (and_then (λ i. Ok (Push i, false)) (number_between 1 (2 ^ 63) expected.Operand w.column (Some id)))) plain.1
    ∙ ap (and_then (λ i. Ok (Push i, false))) (counted_is 1 (2 ^ 63) expected.Operand w.column (Some id) id refl ok.0 ok.1)

-- the number that a factor is
factor_told : (o : Option ℕ) (n : ℤ) → option_map pos o ≡ Some n → (k : ℕ) × (o ≡ Some k) × (n ≡ pos k)
factor_told None n h = cc
factor_told (Some k) n h = (k, refl, cc)

factor_range : (k : ℕ) → IsFactor (pos k) → (1 ≤ k) × (k < 2 ^ 126)
factor_range k ok = (omega (arith, ints, ok.0), omega (arith, ok.1))

mul_by : (w : Chunk) (k : ℕ) → natural_of w.text ≡ Some k → 1 ≤ k → k < 2 ^ 126 → op_of w (codes "*") ≡ Ok (Mul (pos k), true)
mul_by w k is low high = number_op_is w (codes "*") k is ∙ ap (and_then (λ f. Ok (Mul (pos f), true))) (counted_is 1 (2 ^ 126) expected.Factor w.column (Some k) k refl low high)

div_by : (w : Chunk) (k : ℕ) → natural_of w.text ≡ Some k → 1 ≤ k → k < 2 ^ 126 → op_of w (codes "d") ≡ Ok (Div (pos k), true)
div_by w k is low high = number_op_is w (codes "d") k is ∙ ap (and_then (λ f. Ok (Div (pos f), true))) (counted_is 1 (2 ^ 126) expected.Factor w.column (Some k) k refl low high)

mul_is : (w : Chunk) (next : List ℕ) (n : ℤ) → option_map pos (natural_of w.text) ≡ Some n → IsFactor n → next ≡ codes "*" → op_of w next ≡ Ok (Mul n, true)
mul_is w next n is ok mark =
    let (k, told, same) = factor_told (natural_of w.text) n is in
    let range = factor_range k (subst IsFactor same ok) in
    ap (op_of w) mark ∙ mul_by w k told range.0 range.1 ∙ ap (λ (z : ℤ). Ok (Mul z, true)) (sym same)

div_is : (w : Chunk) (next : List ℕ) (n : ℤ) → option_map pos (natural_of w.text) ≡ Some n → IsFactor n → next ≡ codes "d" → op_of w next ≡ Ok (Div n, true)
div_is w next n is ok mark =
    let (k, told, same) = factor_told (natural_of w.text) n is in
    let range = factor_range k (subst IsFactor same ok) in
    ap (op_of w) mark ∙ div_by w k told range.0 range.1 ∙ ap (λ (z : ℤ). Ok (Div z, true)) (sym same)

key_op : (w : Chunk) (next k : List ℕ) (r : Result (PolOp × Bool) StepFault) → w.text ≡ k → op_of (record { column = w.column; text = k }) next ≡ r → op_of w next ≡ r
key_op w next k r is told = ap (λ (t : List ℕ). op_of (record { column = w.column; text = t }) next) is ∙ told

literal_op_is : (w : Chunk) (next : List ℕ) (l : Lit) → literal_of w.text ≡ Some l → IsVariable l.var → op_of w next ≡ Ok (cond (bytes_eq next (codes "w")) (Weaken l.var, true) (Axiom l, false))
literal_op_is w next l is ok =
    ap (λ (o : Option ℕ). op_by o w next) (literal_is_no_number w.text l is)
    ∙ pass_key w (codes "+") (Ok (Add, false)) (cond (bytes_eq w.text (codes "s")) (Ok (Saturate, false)) (literal_op w next)) (not_this literal_of w.text (codes "+") l is refl)
    ∙ pass_key w (codes "s") (Ok (Saturate, false)) (literal_op w next) (not_this literal_of w.text (codes "s") l is refl)
    ∙ ap (and_then (λ m. Ok (cond (bytes_eq next (codes "w")) (Weaken m.var, true) (Axiom m, false)))) (literal_is expected.Operand w l is ok)

axiom_is : (w : Chunk) (next : List ℕ) (l : Lit) → literal_of w.text ≡ Some l → IsVariable l.var → NoMark next → op_of w next ≡ Ok (Axiom l, false)
axiom_is w next l is ok plain = literal_op_is w next l is ok ∙ ap (λ (b : Bool). Ok (cond b (Weaken l.var, true) (Axiom l, false))) plain.2

weaken_is : (w : Chunk) (next : List ℕ) (l : Lit) → literal_of w.text ≡ Some l → IsVariable l.var → next ≡ codes "w" → op_of w next ≡ Ok (Weaken l.var, true)
weaken_is w next l is ok mark = literal_op_is w next l is ok ∙ ap (λ (t : List ℕ). Ok (cond (bytes_eq t (codes "w")) (Weaken l.var, true) (Axiom l, false))) mark

-- an operation before those that the words behind it are
then_op : (w : Chunk) (ws : List Chunk) (op : PolOp) (takes : Bool) (ops : List PolOp) → op_of w (next_text ws) ≡ Ok (op, takes) → ops_from takes ws ≡ Ok ops → ops_from false (w ∷ ws) ≡ Ok (op ∷ ops)
then_op w ws op takes ops first others = ap (and_then (λ o. with_item o.0 (ops_from o.1 ws))) first ∙ ap (with_item op) others

pub ops_spelled : (ws : List Chunk) (ops : List PolOp) → SpellAll (texts ws) (flat_map op_symbols ops) → AllByRecursion IsOp ops → ops_from false ws ≡ Ok ops
ops_spelled [] [] sp ok = refl
ops_spelled (w ∷ ws) [] sp ok = absurd sp
ops_spelled [] (Push id ∷ ops) sp ok = absurd sp
ops_spelled [] (Axiom l ∷ ops) sp ok = absurd sp
ops_spelled [] (Add ∷ ops) sp ok = absurd sp
ops_spelled [] (Mul n ∷ ops) sp ok = absurd sp
ops_spelled [] (Div n ∷ ops) sp ok = absurd sp
ops_spelled [] (Saturate ∷ ops) sp ok = absurd sp
ops_spelled [] (Weaken v ∷ ops) sp ok = absurd sp
ops_spelled (w ∷ ws) (Push id ∷ ops) sp ok = then_op w ws (Push id) false ops (push_is w (next_text ws) id sp.0 ok.0 (next_no_mark ws ops sp.1)) (ops_spelled ws ops sp.1 ok.1)
ops_spelled (w ∷ ws) (Axiom l ∷ ops) sp ok = then_op w ws (Axiom l) false ops (axiom_is w (next_text ws) l sp.0 ok.0 (next_no_mark ws ops sp.1)) (ops_spelled ws ops sp.1 ok.1)
ops_spelled (w ∷ ws) (Add ∷ ops) sp ok = then_op w ws Add false ops (key_op w (next_text ws) (codes "+") (Ok (Add, false)) sp.0 refl) (ops_spelled ws ops sp.1 ok.1)
ops_spelled (w ∷ ws) (Saturate ∷ ops) sp ok = then_op w ws Saturate false ops (key_op w (next_text ws) (codes "s") (Ok (Saturate, false)) sp.0 refl) (ops_spelled ws ops sp.1 ok.1)
ops_spelled (w ∷ []) (Mul n ∷ ops) sp ok = absurd sp.1
ops_spelled (w ∷ []) (Div n ∷ ops) sp ok = absurd sp.1
ops_spelled (w ∷ []) (Weaken v ∷ ops) sp ok = absurd sp.1
ops_spelled (w ∷ m ∷ ws) (Mul n ∷ ops) sp ok = then_op w (m ∷ ws) (Mul n) true ops (mul_is w m.text n sp.0 ok.0 sp.1.0) (ops_spelled ws ops sp.1.1 ok.1)
ops_spelled (w ∷ m ∷ ws) (Div n ∷ ops) sp ok = then_op w (m ∷ ws) (Div n) true ops (div_is w m.text n sp.0 ok.0 sp.1.0) (ops_spelled ws ops sp.1.1 ok.1)
ops_spelled (w ∷ m ∷ ws) (Weaken v ∷ ops) sp ok = then_op w (m ∷ ws) (Weaken v) true ops (weaken_is w m.text (record { var = v; positive = sp.0.0 }) sp.0.1 ok.0 sp.1.0) (ops_spelled ws ops sp.1.1 ok.1)
