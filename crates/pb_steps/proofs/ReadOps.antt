-- What the words of a `pol` line stand for, by what was read.
use Rattle.std.proofs.Common.{◌≡◌, ◌≢◌, ◌⊎◌, ◌≤◌, ◌<◌, ◌^◌, ◌++◌, ℕ, Bool, true, false, cond, List, [], ◌∷◌, Option, Some, None, refl, sym, ap, ◌∙◌, subst, arith, inl, inr}
use Rattle.std.specs.Prelude.{pos, Result, Ok, codes}
use Rattle.std.specs.Option.{option_map}
use Rattle.std.specs.List.{flat_map, AllByRecursion}
use Rattle.std.specs.Str.{bytes_eq}
use Rattle.std.proofs.lemmas.Int.{ints}
use Rattle.pb_base.specs.declared.literal.Lit.{Lit}
use Rattle.pb_base.specs.declared.expected.Expected.TheVariants as expected
use Rattle.pb_base.specs.Numbers.{natural_of}
use Rattle.pb_base.specs.Words.{Chunk}
use Rattle.pb_base.specs.LiteralWords.{literal_of}
use Rattle.pb_steps.specs.declared.fault.StepFault.{StepFault}
use Rattle.pb_steps.specs.declared.op.PolOp.{PolOp}
use Rattle.pb_steps.specs.declared.op.PolOp.TheVariants.{Push, Axiom, Add, Mul, Div, Saturate, Weaken}
use Rattle.pb_steps.specs.LineWords.{and_then, number_between, literal_in}
use Rattle.pb_steps.specs.LineSteps.{with_item, number_op, literal_op, op_by, op_of, ops_from}
use Rattle.pb_steps.specs.StepGrammar.{StepSymbol, SpellAll, op_symbols, texts}
use Rattle.pb_steps.specs.Sayable.{IsFactor, IsOp}
use Rattle.pb_steps.proofs.SpelledWords.{key_from}
use Rattle.pb_steps.proofs.ReadWords.{and_then_from, counted_from, literal_from}

-- an operation of one word
record Single (w : List ℕ) (o : PolOp × Bool) : Type 0 where
  takes : o.1 ≡ false
  spelled : SpellAll (w ∷ []) (op_symbols o.0)
  is_op : IsOp o.0

-- an operation of two
record Double (w next : List ℕ) (o : PolOp × Bool) : Type 0 where
  takes : o.1 ≡ true
  spelled : SpellAll (w ∷ next ∷ []) (op_symbols o.0)
  is_op : IsOp o.0
  some : next ≢ []

abbrev Begun : List ℕ → List ℕ → PolOp × Bool → Type 0
Begun w next o = Single w o ⊎ Double w next o

is_factor : (k : ℕ) → 1 ≤ k → k < 2 ^ 126 → IsFactor (pos k)
is_factor k low high = (omega (arith, ints, low), high)

not_empty : (next : List ℕ) (b : ℕ) → next ≡ b ∷ [] → next ≢ []
not_empty next b is = λ e. cc

number_read : (w : Chunk) (next : List ℕ) (n : ℕ) (o : PolOp × Bool) → natural_of w.text ≡ Some n → number_op w.column n next ≡ Ok o → Begun w.text next o
number_read w next n o told h = by_times (bytes_eq next (codes "*")) (key_from next (codes "*")) h
  where
    by_over : (t : Bool) → (t ≡ true → next ≡ codes "d") → cond t (and_then (λ f. Ok (Div (pos f), true)) (number_between 1 (2 ^ 126) expected.Factor w.column (Some n))) (and_then (λ id. Ok (Push id, false)) (number_between 1 (2 ^ 63) expected.Operand w.column (Some n))) ≡ Ok o → Begun w.text next o
    by_over true same h =
        let (f, read, all) = and_then_from (λ f. Ok (Div (pos f), true)) (number_between 1 (2 ^ 126) expected.Factor w.column (Some n)) o h in
        let e : (Div (pos f), true) ≡ o = cc in
        let c = counted_from 1 (2 ^ 126) expected.Factor w.column (Some n) f read in
        subst (Begun w.text next) e (inr (record { takes = refl; spelled = (ap (option_map pos) (told ∙ c.0), (same refl, tt)); is_op = is_factor f c.1 c.2; some = not_empty next 100 (same refl) }))
    by_over false same h =
        let (id, read, all) = and_then_from (λ id. Ok (Push id, false)) (number_between 1 (2 ^ 63) expected.Operand w.column (Some n)) o h in
        let e : (Push id, false) ≡ o = cc in
        let c = counted_from 1 (2 ^ 63) expected.Operand w.column (Some n) id read in
        subst (Begun w.text next) e (inl (record { takes = refl; spelled = (told ∙ c.0, tt); is_op = (c.1, c.2) }))

    by_times : (t : Bool) → (t ≡ true → next ≡ codes "*") → cond t (and_then (λ f. Ok (Mul (pos f), true)) (number_between 1 (2 ^ 126) expected.Factor w.column (Some n))) (cond (bytes_eq next (codes "d")) (and_then (λ f. Ok (Div (pos f), true)) (number_between 1 (2 ^ 126) expected.Factor w.column (Some n))) (and_then (λ id. Ok (Push id, false)) (number_between 1 (2 ^ 63) expected.Operand w.column (Some n)))) ≡ Ok o → Begun w.text next o
    by_times true same h =
        let (f, read, all) = and_then_from (λ f. Ok (Mul (pos f), true)) (number_between 1 (2 ^ 126) expected.Factor w.column (Some n)) o h in
        let e : (Mul (pos f), true) ≡ o = cc in
        let c = counted_from 1 (2 ^ 126) expected.Factor w.column (Some n) f read in
        subst (Begun w.text next) e (inr (record { takes = refl; spelled = (ap (option_map pos) (told ∙ c.0), (same refl, tt)); is_op = is_factor f c.1 c.2; some = not_empty next 42 (same refl) }))
    by_times false same h = by_over (bytes_eq next (codes "d")) (key_from next (codes "d")) h

abbrev marked : Lit → Bool → Result (PolOp × Bool) StepFault
marked l t = Ok (cond t (Weaken l.var, true) (Axiom l, false))

literal_read : (w : Chunk) (next : List ℕ) (o : PolOp × Bool) → literal_op w next ≡ Ok o → Begun w.text next o
literal_read w next o h =
    let (l, read, all) = and_then_from (λ l. Ok (cond (bytes_eq next (codes "w")) (Weaken l.var, true) (Axiom l, false))) (literal_in expected.Operand w) o h in
    let n = literal_from expected.Operand w l read in
    by_mark l n.0 n.1 (bytes_eq next (codes "w")) (key_from next (codes "w")) all
  where
    by_mark : (l : Lit) → literal_of w.text ≡ Some l → IsOp (Axiom l) → (t : Bool) → (t ≡ true → next ≡ codes "w") → marked l t ≡ Ok o → Begun w.text next o
    by_mark l told ok true same h =
        let e : (Weaken l.var, true) ≡ o = cc in
        subst (Begun w.text next) e (inr (record { takes = refl; spelled = ((l.positive, told), (same refl, tt)); is_op = ok; some = not_empty next 119 (same refl) }))
    by_mark l told ok false same h =
        let e : (Axiom l, false) ≡ o = cc in
        subst (Begun w.text next) e (inl (record { takes = refl; spelled = (told, tt); is_op = ok }))

plain_read : (w : Chunk) (next : List ℕ) (o : PolOp × Bool) → op_by None w next ≡ Ok o → Begun w.text next o
plain_read w next o h = by_plus (bytes_eq w.text (codes "+")) (key_from w.text (codes "+")) h
  where
    by_cut : (t : Bool) → (t ≡ true → w.text ≡ codes "s") → cond t (Ok (Saturate, false)) (literal_op w next) ≡ Ok o → Begun w.text next o
    by_cut true same h = let e : (Saturate, false) ≡ o = cc in subst (Begun w.text next) e (inl (record { takes = refl; spelled = (same refl, tt); is_op = tt }))
    by_cut false same h = literal_read w next o h

    by_plus : (t : Bool) → (t ≡ true → w.text ≡ codes "+") → cond t (Ok (Add, false)) (cond (bytes_eq w.text (codes "s")) (Ok (Saturate, false)) (literal_op w next)) ≡ Ok o → Begun w.text next o
    by_plus true same h = let e : (Add, false) ≡ o = cc in subst (Begun w.text next) e (inl (record { takes = refl; spelled = (same refl, tt); is_op = tt }))
    by_plus false same h = by_cut (bytes_eq w.text (codes "s")) (key_from w.text (codes "s")) h

op_read : (w : Chunk) (next : List ℕ) (o : PolOp × Bool) → op_of w next ≡ Ok o → Begun w.text next o
op_read w next o h = by_told (natural_of w.text) refl h
  where
    by_told : (m : Option ℕ) → natural_of w.text ≡ m → op_by m w next ≡ Ok o → Begun w.text next o
    by_told (Some n) told h = number_read w next n o told h
    by_told None told h = plain_read w next o h

spell_both : (us vs : List (List ℕ)) (ks ls : List StepSymbol) → SpellAll us ks → SpellAll vs ls → SpellAll (us ++ vs) (ks ++ ls)
spell_both [] vs [] ls a b = b
spell_both [] vs (k ∷ ks) ls a b = absurd a
spell_both (u ∷ us) vs [] ls a b = absurd a
spell_both (u ∷ us) vs (k ∷ ks) ls a b = (a.0, spell_both us vs ks ls a.1 b)

abbrev Ops : List Chunk → List PolOp → Type 0
Ops ws ops = SpellAll (texts ws) (flat_map op_symbols ops) × AllByRecursion IsOp ops

one_more : (w : Chunk) (ws : List Chunk) (o : PolOp × Bool) (ops : List PolOp) → Single w.text o → Ops ws ops → Ops (w ∷ ws) (o.0 ∷ ops)
one_more w ws o ops s rest = (spell_both (w.text ∷ []) (texts ws) (op_symbols o.0) (flat_map op_symbols ops) s.spelled rest.0, (s.is_op, rest.1))

two_more : (w m : Chunk) (ws : List Chunk) (o : PolOp × Bool) (ops : List PolOp) → Double w.text m.text o → Ops ws ops → Ops (w ∷ m ∷ ws) (o.0 ∷ ops)
two_more w m ws o ops s rest = (spell_both (w.text ∷ m.text ∷ []) (texts ws) (op_symbols o.0) (flat_map op_symbols ops) s.spelled rest.0, (s.is_op, rest.1))

last_op : (w : Chunk) (o : PolOp × Bool) → Begun w.text [] o → Ops (w ∷ []) (o.0 ∷ [])
last_op w o (inl s) = one_more w [] o [] s (tt, tt)
last_op w o (inr s) = absurd (s.some refl)

then_ops : (w m : Chunk) (ws : List Chunk) (o : PolOp × Bool) (ops : List PolOp) → Begun w.text m.text o → ops_from o.1 (m ∷ ws) ≡ Ok ops
    → (ops_from false (m ∷ ws) ≡ Ok ops → Ops (m ∷ ws) ops) → (ops_from false ws ≡ Ok ops → Ops ws ops) → Ops (w ∷ m ∷ ws) (o.0 ∷ ops)
then_ops w m ws o ops (inl s) h near far = one_more w (m ∷ ws) o ops s (near (ap (λ (b : Bool). ops_from b (m ∷ ws)) (sym s.takes) ∙ h))
then_ops w m ws o ops (inr s) h near far = two_more w m ws o ops s (far (ap (λ (b : Bool). ops_from b (m ∷ ws)) (sym s.takes) ∙ h))

pub ops_read : (ws : List Chunk) (ops : List PolOp) → ops_from false ws ≡ Ok ops → Ops ws ops
ops_read [] ops h = let e : [] ≡ ops = cc in subst (Ops []) e (tt, tt)
ops_read (w ∷ []) ops h =
    let (o, first, behind) = and_then_from (λ op. with_item op.0 (ops_from op.1 [])) (op_of w []) ops h in
    let e : o.0 ∷ [] ≡ ops = cc in
    subst (Ops (w ∷ [])) e (last_op w o (op_read w [] o first))
ops_read (w ∷ m ∷ ws) ops h =
    let (o, first, behind) = and_then_from (λ op. with_item op.0 (ops_from op.1 (m ∷ ws))) (op_of w m.text) ops h in
    let (others, read, all) = and_then_from (λ xs. Ok (o.0 ∷ xs)) (ops_from o.1 (m ∷ ws)) ops behind in
    let e : o.0 ∷ others ≡ ops = cc in
    subst (Ops (w ∷ m ∷ ws)) e (then_ops w m ws o others (op_read w m.text o first) read (λ r. ops_read (m ∷ ws) others r) (λ r. ops_read ws others r))
