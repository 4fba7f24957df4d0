-- How long lines are.
use Rattle.std.proofs.Common.{◌≡◌, ◌≤◌, ◌<◌, ◌+◌, ◌*◌, ◌^◌, ℕ, zero, suc, Bool, true, false, cond, List, [], ◌∷◌, ◌++◌, length, map, arith, length-append}
use Rattle.std.specs.Prelude.{ℤ, pos, negsuc, unsigned_abs, sum_by, decimal, codes}
use Rattle.std.specs.Fmt.{signed_decimal}
use Rattle.std.specs.List.{flat_map, AllByRecursion}
use Rattle.std.proofs.lemmas.Fmt.{length-decimal-le_wide}
use Rattle.std.proofs.lemmas.Grind.{flat_map-append}
use Rattle.std.proofs.lemmas.Int.{ints}
use Rattle.std.proofs.lemmas.List.Sums.{sum_by-cons}
use Rattle.pb_base.specs.declared.literal.Lit.{Lit}
use Rattle.pb_base.specs.declared.literal.Term.{Term}
use Rattle.pb_steps.specs.declared.op.Set.{Set}
use Rattle.pb_steps.specs.declared.op.PolOp.{PolOp}
use Rattle.pb_steps.specs.declared.op.PolOp.TheVariants.{Push, Axiom, Add, Mul, Div, Saturate, Weaken}
use Rattle.pb_steps.specs.declared.step.Step.TheVariants.{Blank, Head, Loaded, Pol, Rup, Red, Del, Out, End}
use Rattle.pb_steps.specs.Sayable.{IsId, IsFactor, IsVariable, IsOp, IsTerm, Ascend}
use Rattle.pb_steps.specs.StepGrammar.{StepSymbol, op_symbols, term_symbols, bit_word, set_symbols, constraint_symbols}
use Rattle.pb_steps.specs.StepGrammar.StepSymbol.{key, number, factor, integer, coefficient, literal, variable, weakened}
use Rattle.pb_steps.specs.StepSizes.{op_size}
use Rattle.pb_steps.specs.StepText.{variable_word, literal_word, coefficient_word, word_of, with_blanks}
use Rattle.pb_steps.specs.StepLines.{LinesAreBounded}

-- the bytes of words, each with a blank
abbrev bytes_of : List StepSymbol → ℕ
bytes_of ks = length (with_blanks ks)

bytes-cons : (k : StepSymbol) (ks : List StepSymbol) → bytes_of (k ∷ ks) ≡ 1 + length (word_of k) + bytes_of ks
bytes-cons k ks = omega (arith, length-append (32 ∷ word_of k) (with_blanks ks))

bytes-append : (js ks : List StepSymbol) → bytes_of (js ++ ks) ≡ bytes_of js + bytes_of ks
bytes-append js ks = rw (flat_map-append (λ k. 32 ∷ word_of k) js ks) (length-append (with_blanks js) (with_blanks ks))

-- ---- words

id-bytes : (n : ℕ) → n < 2 ^ 63 → length (decimal n) ≤ 19
id-bytes n h = length-decimal-le_wide 19 n (omega arith) (omega (arith, h)) (omega arith)

wide-bytes : (n : ℕ) → n < 2 ^ 126 → length (decimal n) ≤ 38
wide-bytes n h = length-decimal-le_wide 38 n (omega arith) (omega (arith, h)) (omega arith)

signed-bytes : (z : ℤ) → unsigned_abs z < 2 ^ 126 → length (signed_decimal z) ≤ 39
signed-bytes (pos n) h = omega (arith, wide-bytes n h)
signed-bytes (negsuc n) h = omega (arith, wide-bytes (suc n) h)

factor-bytes : (z : ℤ) → IsFactor z → length (signed_decimal z) ≤ 38
factor-bytes (pos n) h = wide-bytes n h.1
factor-bytes (negsuc n) h = absurd (omega (arith, ints, h.0))

coefficient-bytes : (z : ℤ) → unsigned_abs z < 2 ^ 126 → length (coefficient_word z) ≤ 39
coefficient-bytes (pos zero) h = signed-bytes (pos zero) h
coefficient-bytes (pos (suc n)) h = omega (arith, wide-bytes (suc n) h)
coefficient-bytes (negsuc n) h = signed-bytes (negsuc n) h

variable-bytes : (v : ℕ) → IsVariable v → length (variable_word v) ≤ 11
variable-bytes v h = omega (arith, length-decimal-le_wide 10 v (omega arith) (omega (arith, h.1)) (omega arith))

literal-bytes : (l : Lit) → IsVariable l.var → length (literal_word l) ≤ 12
literal-bytes l h = by_sign l.positive
  where
    by_sign : (p : Bool) → length (cond {A = List ℕ} p (variable_word l.var) (126 ∷ variable_word l.var)) ≤ 12
    by_sign true = omega (arith, variable-bytes l.var h)
    by_sign false = omega (arith, variable-bytes l.var h)

-- ---- parts

op-bytes : (op : PolOp) → IsOp op → bytes_of (op_symbols op) ≤ op_size op
op-bytes (Push id) h = omega (arith, bytes-cons (number id) [], id-bytes id h.1)
op-bytes (Axiom l) h = omega (arith, bytes-cons (literal l) [], literal-bytes l h)
op-bytes Add h = omega arith
op-bytes (Mul n) h = omega (arith, bytes-cons (factor n) (key (codes "*") ∷ []), factor-bytes n h)
op-bytes (Div n) h = omega (arith, bytes-cons (factor n) (key (codes "d") ∷ []), factor-bytes n h)
op-bytes Saturate h = omega arith
op-bytes (Weaken v) h = omega (arith, bytes-cons (weakened v) (key (codes "w") ∷ []), variable-bytes v h)

ops-bytes : (ops : List PolOp) → AllByRecursion IsOp ops → bytes_of (flat_map op_symbols ops) ≤ sum_by op_size ops
ops-bytes [] h = omega arith
ops-bytes (op ∷ ops) h = omega (arith, bytes-append (op_symbols op) (flat_map op_symbols ops), sum_by-cons op_size op ops, op-bytes op h.0, ops-bytes ops h.1)

term-bytes : (t : Term) → IsTerm t → bytes_of (term_symbols t) ≤ 53
term-bytes t h = omega (arith, bytes-cons (coefficient t.coef) (literal t.lit ∷ []), bytes-cons (literal t.lit) [], coefficient-bytes t.coef h.0, literal-bytes t.lit h.1)

terms-bytes : (ts : List Term) → AllByRecursion IsTerm ts → bytes_of (flat_map term_symbols ts) ≤ 53 * length ts
terms-bytes [] h = omega arith
terms-bytes (t ∷ ts) h = omega (arith, bytes-append (term_symbols t) (flat_map term_symbols ts), term-bytes t h.0, terms-bytes ts h.1)

constraint-bytes : (ts : List Term) (right : ℤ) (rest : List StepSymbol) → AllByRecursion IsTerm ts → unsigned_abs right < 2 ^ 126 → bytes_of (constraint_symbols ts right rest) ≤ 45 + 53 * length ts + bytes_of rest
constraint-bytes ts right rest terms_ok right_ok =
    omega (
      arith,
      bytes-append (flat_map term_symbols ts) (key (codes ">=") ∷ integer right ∷ key (codes ";") ∷ rest),
      bytes-cons (key (codes ">=")) (integer right ∷ key (codes ";") ∷ rest),
      bytes-cons (integer right) (key (codes ";") ∷ rest),
      bytes-cons (key (codes ";")) rest,
      terms-bytes ts terms_ok,
      signed-bytes right right_ok,
    )

ids-bytes : (ids : List ℕ) → AllByRecursion IsId ids → bytes_of (map number ids) ≤ 20 * length ids
ids-bytes [] h = omega arith
ids-bytes (id ∷ ids) h = omega (arith, bytes-cons (number id) (map number ids), id-bytes id h.0.1, ids-bytes ids h.1)

bit-bytes : (b : Bool) → length (bit_word b) ≤ 1
bit-bytes true = omega arith
bit-bytes false = omega arith

sets-bytes : (above : ℕ) (sets : List Set) → Ascend above sets → bytes_of (flat_map set_symbols sets) ≤ 17 * length sets
sets-bytes above [] h = omega arith
sets-bytes above (s ∷ sets) h =
    let ok : IsVariable s.var = (omega (arith, h.0), h.1) in
    omega (
      arith,
      bytes-cons (variable s.var) (key (codes "->") ∷ key (bit_word s.value) ∷ flat_map set_symbols sets),
      bytes-cons (key (codes "->")) (key (bit_word s.value) ∷ flat_map set_symbols sets),
      bytes-cons (key (bit_word s.value)) (flat_map set_symbols sets),
      variable-bytes s.var ok,
      bit-bytes s.value,
      sets-bytes s.var sets h.2,
    )

-- ---- lines

pub lines_are_bounded : LinesAreBounded
lines_are_bounded Blank ok = omega arith
lines_are_bounded Head ok = omega arith
lines_are_bounded (Loaded n) ok = omega (arith, bytes-cons (number n) [], id-bytes n ok, length-append (codes "f") (with_blanks (number n ∷ [])))
lines_are_bounded (Pol ops) ok = omega (arith, ops-bytes ops ok, length-append (codes "pol") (with_blanks (flat_map op_symbols ops)))
lines_are_bounded (Rup ts right ids) ok =
    let rest = constraint_symbols ts right (map number ids) in
    omega (arith, constraint-bytes ts right (map number ids) ok.0 ok.1, ids-bytes ids ok.2, length-append (codes "rup") (with_blanks rest))
lines_are_bounded (Red ts right sets) ok =
    let rest = constraint_symbols ts right (flat_map set_symbols sets) in
    omega (arith, constraint-bytes ts right (flat_map set_symbols sets) ok.0 ok.1, sets-bytes 0 sets ok.2, length-append (codes "red") (with_blanks rest))
lines_are_bounded (Del ids) ok = omega (arith, ids-bytes ids ok.0, length-append (codes "del") (with_blanks (map number ids)))
lines_are_bounded (Out id) ok = omega (arith, bytes-cons (number id) [], id-bytes id ok.1, length-append (codes "out") (with_blanks (number id ∷ [])))
lines_are_bounded End ok = omega arith
