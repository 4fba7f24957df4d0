use Rattle.std.proofs.Common.{◌≡◌, ◌<◌, ◌≤◌, ◌+◌, ◌-◌, ◌^◌, ◌++◌, ◌∷◌, ℕ, List, [], length, length-append, length-drop, drop, ap, sym, ◌∙◌, arith, append_assoc}
use Rattle.std.specs.Prelude.{decimal, slice_set}
use Rattle.std.proofs.lemmas.Fmt.{length-decimal-le}
use Rattle.std.proofs.lemmas.List.{drop-set, length-set}
use Rattle.pb_family.proofs.literal.write_before.Goals as goal

-- what stands behind the digits
blank : (text : List ℕ) (end : ℕ) → 1 ≤ end → end ≤ length text → drop (end - 1) (slice_set text (end - 1) 32) ≡ 32 ∷ drop end text
blank text end low high =
    let e : end - 1 + 1 ≡ end = omega arith in
    drop-set text (end - 1) 32 (omega arith) ∙ ap (λ (k : ℕ). 32 ∷ drop k text) e

-- a number below 2^31 has at most ten digits
short : (n : ℕ) → n < 2 ^ 31 → length (decimal n) ≤ 10
short n below = length-decimal-le 10 n (omega arith) (omega arith) (omega arith)

pub write_digits-digits-requires : goal.write_digits-digits-requires
write_digits-digits-requires c = (omega (arith, short c.from.result (omega arith)), omega (arith, c.requires.high, length-set c.args.text.now (c.args.end - 1) 32))

pub overflow_sub-text-2 : goal.overflow_sub-text-2
overflow_sub-text-2 c = omega (arith, short c.from.result (omega arith))

pub overflow_sub-result : goal.overflow_sub-result
overflow_sub-result c = omega (arith, short c.from.result (omega arith))

pub returns-then-lit-clause-room : goal.returns-then-lit-clause-room
returns-then-lit-clause-room c = omega (arith, short c.from.result (omega arith))

pub returns-clause-room : goal.returns-clause-room
returns-clause-room c = omega (arith, short c.from.result (omega arith))

pub returns-clause-written : goal.returns-clause-written
returns-clause-written c =
    let w = c.write_digits-digits in
    let n = c.from.result in
    let rest = drop c.args.end c.args.text.now in
    let e : w.result - 1 + 1 ≡ w.result = omega (arith, short n (omega arith)) in
    let behind = blank c.args.text.now c.args.end (omega arith) c.requires.high in
    let placed : w.result - 1 < length w.new.buf =
    omega (arith, ap (λ (xs : List ℕ). length xs) w.ensures.written, ap (λ (xs : List ℕ). length xs) behind, length-append (decimal n) (drop (c.args.end - 1) (slice_set c.args.text.now (c.args.end - 1) 32)), length-drop w.result w.new.buf) in
    rw (c.if-lit.false, ← c.index.ensures.value, ← c.from.ensures)
    (drop-set w.new.buf (w.result - 1) 45 placed ∙ ap (λ (xs : List ℕ). 45 ∷ xs) (rw e (w.ensures.written ∙ ap (λ (xs : List ℕ). decimal n ++ xs) behind ∙ sym (append_assoc (decimal n) (32 ∷ []) rest))))
