-- What the adders of a network make of its inputs.
use Rattle.std.proofs.Common.{◌≡◌, ◌<◌, ◌+◌, ◌==◌, ℕ, Bool, false, cond, List, [], ◌∷◌, refl, sym, ap, ◌∙◌, arith}
use Rattle.std.specs.Prelude.{All, map}
use Rattle.std.proofs.lemmas.Bool.{cond-true, cond-false, eq-eqb, ne_eqb}
use Rattle.std.proofs.lemmas.List.Elements.{All-cons, All-nil, All-head, All-tail}
use Rattle.pb_base.specs.declared.literal.Lit.{Lit}
use Rattle.pb_base.specs.Literals.{lit_value}
use Rattle.pb_family.proofs.Extended.{extended, extended_fresh, extended_literal}
use Rattle.pb_adder.specs.declared.gate.Wire.{Wire}
use Rattle.pb_adder.specs.declared.gate.Wire.TheVariants.{Input, Made}
use Rattle.pb_adder.specs.declared.gate.Gate.{Gate}
use Rattle.pb_adder.specs.Gates.{gate_inputs, made_of}
use Rattle.pb_adder.specs.laws.GateLaws.{Computes, holds_of}
use Rattle.pb_adder.specs.laws.GateTables.{odd_of, two_of}
use Rattle.pb_adder.specs.laws.Wired.{Known, Wired}

-- a bit's value, from those of the inputs and of the variables made so far
abbrev pub bit_value : (Lit → Bool) → (ℕ → Bool) → Wire → Bool
bit_value u env (Input l) = u l
bit_value u env (Made k) = env k

gate_sum_value : (Wire → Bool) → Gate → Bool
gate_sum_value p g = odd_of (map p (gate_inputs g))

carry_value : (Wire → Bool) → Gate → Bool
carry_value p g = two_of (map p (gate_inputs g))

-- with the variables of one more adder
with_gate : (Lit → Bool) → (ℕ → Bool) → Gate → ℕ → Bool
with_gate u env g k = cond (k == made_of g) (gate_sum_value (bit_value u env) g) (cond (k == made_of g + 1) (carry_value (bit_value u env) g) (env k))

pub with_gates : (Lit → Bool) → (ℕ → Bool) → List Gate → ℕ → Bool
with_gates u env [] = env
with_gates u env (g ∷ gs) = with_gates u (with_gate u env g) gs

gate_keeps : (u : Lit → Bool) (env : ℕ → Bool) (g : Gate) (k : ℕ) → k < made_of g → with_gate u env g k ≡ env k
unfolding with_gate
gate_keeps u env g k below =
    cond-false (k == made_of g) (gate_sum_value (bit_value u env) g) (cond (k == made_of g + 1) (carry_value (bit_value u env) g) (env k)) (ne_eqb k (made_of g) (λ e. omega arith))
    ∙ cond-false (k == made_of g + 1) (carry_value (bit_value u env) g) (env k) (ne_eqb k (made_of g + 1) (λ e. omega arith))

gate_sum : (u : Lit → Bool) (env : ℕ → Bool) (g : Gate) → with_gate u env g (made_of g) ≡ gate_sum_value (bit_value u env) g
unfolding with_gate
gate_sum u env g =
    cond-true (made_of g == made_of g) (gate_sum_value (bit_value u env) g) (cond (made_of g == made_of g + 1) (carry_value (bit_value u env) g) (env (made_of g))) (eq-eqb (made_of g) (made_of g) refl)

gate_carry : (u : Lit → Bool) (env : ℕ → Bool) (g : Gate) → with_gate u env g (made_of g + 1) ≡ carry_value (bit_value u env) g
unfolding with_gate
gate_carry u env g =
    cond-false (made_of g + 1 == made_of g) (gate_sum_value (bit_value u env) g) (cond (made_of g + 1 == made_of g + 1) (carry_value (bit_value u env) g) (env (made_of g + 1))) (ne_eqb (made_of g + 1) (made_of g) (λ e. omega arith))
    ∙ cond-true (made_of g + 1 == made_of g + 1) (carry_value (bit_value u env) g) (env (made_of g + 1)) (eq-eqb (made_of g + 1) (made_of g + 1) refl)

-- later adders leave what earlier ones made
gates_keep : (I : Lit → Type 0) (u : Lit → Bool) (env : ℕ → Bool) (gs : List Gate) (m : ℕ) → Wired I m gs → (k : ℕ) → k < m → with_gates u env gs k ≡ env k
unfolding with_gates
gates_keep I u env [] m wired k below = refl
gates_keep I u env (g ∷ gs) m wired k below =
    let same = wired.1 in
    gates_keep I u (with_gate u env g) gs (m + 2) wired.2 k (omega arith) ∙ gate_keeps u env g k (omega arith)

same_values : (I : Lit → Type 0) (m : ℕ) (p q : Wire → Bool) (ws : List Wire) → All (Known I m) ws → ((w : Wire) → Known I m w → p w ≡ q w) → map p ws ≡ map q ws
same_values I m p q [] known same = refl
same_values I m p q (w ∷ ws) known same =
    ap (λ b. b ∷ map p ws) (same w (All-head (Known I m) w ws known)) ∙ ap (λ bs. q w ∷ bs) (same_values I m p q ws (All-tail (Known I m) w ws known) same)

-- the values of what an adder reads, and of what it makes, decide
same_computes : (I : Lit → Type 0) (m : ℕ) (p q : Wire → Bool) (g : Gate) → All (Known I m) (gate_inputs g) → ((w : Wire) → Known I m w → p w ≡ q w)
    → p (Made (made_of g)) ≡ gate_sum_value q g → p (Made (made_of g + 1)) ≡ carry_value q g → Computes p g
unfolding gate_sum_value carry_value
same_computes I m p q g reads same sum carry =
    let values = sym (same_values I m p q (gate_inputs g) reads same) in
    (sum ∙ ap odd_of values, carry ∙ ap two_of values)

pub gates_compute : (I : Lit → Type 0) (u : Lit → Bool) (env : ℕ → Bool) (gs : List Gate) (m : ℕ) → Wired I m gs → All (Computes (bit_value u (with_gates u env gs))) gs
unfolding with_gates
gates_compute I u env [] m wired = All-nil (Computes (bit_value u env))
gates_compute I u env (g ∷ gs) m wired =
    let next = with_gate u env g in
    let all = with_gates u next gs in
    let same = wired.1 in
    let keep : (k : ℕ) → k < m + 2 → all k ≡ next k = gates_keep I u next gs (m + 2) wired.2 in
    let old : (w : Wire) → Known I m w → bit_value u all w ≡ bit_value u env w = λ w known. old_value w known keep same in
    All-cons (Computes (bit_value u all)) g gs
    (same_computes I m (bit_value u all) (bit_value u env) g wired.0 old (keep (made_of g) (omega arith) ∙ gate_sum u env g) (keep (made_of g + 1) (omega arith) ∙ gate_carry u env g))
    (gates_compute I u next gs (m + 2) wired.2)
  where
    old_value : (w : Wire) → Known I m w → ((k : ℕ) → k < m + 2 → with_gates u (with_gate u env g) gs k ≡ with_gate u env g k) → made_of g ≡ m
        → bit_value u (with_gates u (with_gate u env g) gs) w ≡ bit_value u env w
    old_value (Input l) known keep same = refl
    old_value (Made k) known keep same = keep k (omega arith) ∙ gate_keeps u env g k (omega arith)

-- ---- as an assignment

-- the fresh variables have the values that the adders make
abbrev pub made_values : (ℕ → Bool) → List Gate → ℕ → Bool
made_values v gs = with_gates (lit_value v) (λ _. false) gs

extended_value : (first : ℕ) (v : ℕ → Bool) (gs : List Gate) (m : ℕ) (w : Wire) → Known (λ l. l.var < first) m w
    → holds_of first (extended v first (made_values v gs)) w ≡ bit_value (lit_value v) (made_values v gs) w
extended_value first v gs m (Input l) known = sym (extended_literal v first (made_values v gs) l known)
extended_value first v gs m (Made k) known = extended_fresh v first (made_values v gs) k

transfer_all : (I : Lit → Type 0) (m : ℕ) (p q : Wire → Bool) (gs : List Gate) → Wired I m gs → ((n : ℕ) (w : Wire) → Known I n w → p w ≡ q w) → All (Computes q) gs → All (Computes p) gs
unfolding gate_sum_value carry_value
transfer_all I m p q [] wired same all = All-nil (Computes p)
transfer_all I m p q (g ∷ gs) wired same all =
    let here = All-head (Computes q) g gs all in
    let made : (n : ℕ) → p (Made n) ≡ q (Made n) = λ n. same (n + 1) (Made n) (let h : n < n + 1 = omega arith in h) in
    All-cons (Computes p) g gs (same_computes I m p q g wired.0 (same m) (made (made_of g) ∙ here.0) (made (made_of g + 1) ∙ here.1))
    (transfer_all I (m + 2) p q gs wired.2 same (All-tail (Computes q) g gs all))

pub extended_computes : (first : ℕ) (v : ℕ → Bool) (gs : List Gate) → Wired (λ l. l.var < first) 0 gs → All (Computes (holds_of first (extended v first (made_values v gs)))) gs
extended_computes first v gs wired =
    transfer_all (λ l. l.var < first) 0 (holds_of first (extended v first (made_values v gs))) (bit_value (lit_value v) (made_values v gs)) gs wired
    (extended_value first v gs)
    (gates_compute (λ l. l.var < first) (lit_value v) (λ _. false) gs 0 wired)
