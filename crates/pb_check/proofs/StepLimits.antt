-- A line of a derivation tells no limit of a text's length.
use Rattle.std.proofs.Common.{◌≡◌, ◌^◌, ◌+◌, ℕ, ℤ, Bool, true, false, cond, List, [], ◌∷◌, length, Option, Some, None, Result, Ok, Err, ap, sym, subst}
use Rattle.std.specs.Prelude.{nat_lt, unsigned_abs, codes, pos, if◌then◌else◌}
use Rattle.std.specs.Str.{bytes_eq}
use Rattle.pb_base.specs.declared.expected.Expected.{Expected}
use Rattle.pb_base.specs.declared.expected.Expected.TheVariants as expected
use Rattle.pb_base.specs.declared.limit.LimitKind.{LimitKind}
use Rattle.pb_base.specs.declared.limit.LimitKind.TheVariants.{Number, Variables}
use Rattle.pb_base.specs.declared.literal.Lit.{Lit}
use Rattle.pb_base.specs.LiteralWords.{variable_of, literal_of}
use Rattle.pb_base.specs.Numbers.{natural_of, integer_of}
use Rattle.pb_base.specs.Words.{Chunk, words_of}
use Rattle.pb_desk.specs.Limits.{IsLengthLimit}
use Rattle.pb_steps.specs.declared.fault.StepFault.{StepFault}
use Rattle.pb_steps.specs.declared.fault.StepFault.TheVariants.{Token, Limit}
use Rattle.pb_steps.specs.declared.op.PolOp.TheVariants.{Push, Axiom, Add, Mul, Div, Saturate, Weaken}
use Rattle.pb_steps.specs.declared.step.Step.{Step}
use Rattle.pb_steps.specs.declared.step.Step.TheVariants as step
use Rattle.pb_steps.specs.StepGrammar.{begins_with_star}
use Rattle.pb_steps.specs.LineWords.{and_then, within, number_between, id_in, integer_in, literal_by, literal_in, variable_in, bit_in}
use Rattle.pb_steps.specs.LineSteps.{ends_here, past, number_op, literal_op, op_by, op_of, next_text, ops_from, ids_in, terms_in, term_in, right_in, constraint_by, constraint_in, sets_in, arrow_in, value_in, rup_in, red_in, del_in, out_in, loaded_in, head_in, place_by, said_by, said_in, step_of, with_item}

-- no fault of the result is a limit of a length
pub record OfWords {A : Type 0} (r : Result A StepFault) : Type 0 where
  pub other : (column : ℕ) (which : LimitKind) → r ≡ Err (Limit column which) → IsLengthLimit which → ⊥

ok : {A : Type 0} (a : A) → OfWords (Ok a)
ok a = record { other = λ column which h. let no : ⊥ = cc in absurd no }

token : {A : Type 0} (column : ℕ) (e : Expected) → OfWords {A = A} (Err (Token column e))
token column e = record { other = λ c which h. let no : ⊥ = cc in absurd no }

number : {A : Type 0} (column : ℕ) → OfWords {A = A} (Err (Limit column Number))
number column = record { other = λ c which h k. let e : Number ≡ which = cc in subst IsLengthLimit (sym e) k }

variables : {A : Type 0} (column : ℕ) → OfWords {A = A} (Err (Limit column Variables))
variables column = record { other = λ c which h k. let e : Variables ≡ which = cc in subst IsLengthLimit (sym e) k }

either : {A : Type 0} (b : Bool) (r q : Result A StepFault) → OfWords r → OfWords q → OfWords (cond b r q)
either true r q here there = here
either false r q here there = there

next : {A B : Type 0} (g : A → Result B StepFault) (r : Result A StepFault) → OfWords r → ((a : A) → OfWords (g a)) → OfWords (and_then g r)
next g (Ok a) here later = later a
next {A} {B} g (Err fault) here later = record { other = λ column which h. here.other column which (let e : fault ≡ Limit column which = cc in ap (λ (f : StepFault). Err f) e) }

-- ---- single words

limited : {A : Type 0} (fits : A → Bool) (which : LimitKind) (e : Expected) (column : ℕ) (o : Option A) → ((c : ℕ) → OfWords {A = A} (Err (Limit c which))) → OfWords (within fits which e column o)
limited fits which e column None allowed = token column e
limited fits which e column (Some x) allowed = either (fits x) (Ok x) (Err (Limit column which)) (ok x) (allowed column)

between : (least bound : ℕ) (e : Expected) (column : ℕ) (o : Option ℕ) → OfWords (number_between least bound e column o)
between least bound e column o =
    next (λ n. cond (nat_lt n least) (Err (Token column e)) (Ok n)) (within (λ n. nat_lt n bound) Number e column o) (limited (λ n. nat_lt n bound) Number e column o (λ c. number c))
    (λ n. either (nat_lt n least) (Err (Token column e)) (Ok n) (token column e) (ok n))

name : (e : Expected) (column : ℕ) (o : Option Lit) → OfWords (literal_by e column o)
name e column o = limited (λ l. nat_lt l.var (2 ^ 31)) Variables e column o (λ c. variables c)

id : (e : Expected) (w : Chunk) → OfWords (id_in e w)
id e w = between 1 (2 ^ 63) e w.column (natural_of w.text)

integer : (e : Expected) (w : Chunk) → OfWords (integer_in e w)
integer e w = limited (λ z. nat_lt (unsigned_abs z) (2 ^ 126)) Number e w.column (integer_of w.text) (λ c. number c)

literal : (e : Expected) (w : Chunk) → OfWords (literal_in e w)
literal e w = name e w.column (literal_of w.text)

variable : (above : ℕ) (w : Chunk) → OfWords (variable_in above w)
variable above w =
    next (λ l. if nat_lt above l.var then Ok l.var else Err (Token w.column expected.SetVar)) (literal_by expected.SetVar w.column (variable_of true w.text)) (name expected.SetVar w.column (variable_of true w.text))
    (λ l. either (nat_lt above l.var) (Ok l.var) (Err (Token w.column expected.SetVar)) (ok l.var) (token w.column expected.SetVar))

bit : (w : Chunk) → OfWords (bit_in w)
bit w = either (bytes_eq w.text (codes "0")) (Ok false) _ (ok false) (either (bytes_eq w.text (codes "1")) (Ok true) (Err (Token w.column expected.Bit)) (ok true) (token w.column expected.Bit))

-- ---- parts of a line

ends : (s : Step) (ws : List Chunk) → OfWords (ends_here expected.LineEnd s ws)
ends s [] = ok s
ends s (w ∷ ws) = token w.column expected.LineEnd

behind : (end : ℕ) (key : List ℕ) (e : Expected) (ws : List Chunk) → OfWords (past end key e ws)
behind end key e [] = token end e
behind end key e (w ∷ ws) = either (bytes_eq w.text key) (Ok ws) (Err (Token w.column e)) (ok ws) (token w.column e)

item : {A : Type 0} (x : A) (r : Result (List A) StepFault) → OfWords r → OfWords (with_item x r)
item x r h = next (λ xs. Ok (x ∷ xs)) r h (λ xs. ok (x ∷ xs))

op_number : (column n : ℕ) (text : List ℕ) → OfWords (number_op column n text)
op_number column n text =
    either (bytes_eq text (codes "*")) _ _ (next (λ f. Ok (Mul (pos f), true)) (number_between 1 (2 ^ 126) expected.Factor column (Some n)) (between 1 (2 ^ 126) expected.Factor column (Some n)) (λ f. ok (Mul (pos f), true)))
    (either (bytes_eq text (codes "d")) _ _ (next (λ f. Ok (Div (pos f), true)) (number_between 1 (2 ^ 126) expected.Factor column (Some n)) (between 1 (2 ^ 126) expected.Factor column (Some n)) (λ f. ok (Div (pos f), true)))
    (next (λ i. Ok (Push i, false)) (number_between 1 (2 ^ 63) expected.Operand column (Some n)) (between 1 (2 ^ 63) expected.Operand column (Some n)) (λ i. ok (Push i, false))))

op_literal : (w : Chunk) (text : List ℕ) → OfWords (literal_op w text)
op_literal w text =
    next (λ l. Ok (if bytes_eq text (codes "w") then (Weaken l.var, true) else (Axiom l, false))) (literal_in expected.Operand w) (literal expected.Operand w)
    (λ l. ok (if bytes_eq text (codes "w") then (Weaken l.var, true) else (Axiom l, false)))

operation : (o : Option ℕ) (w : Chunk) (text : List ℕ) → OfWords (op_by o w text)
operation (Some n) w text = op_number w.column n text
operation None w text =
    either (bytes_eq w.text (codes "+")) (Ok (Add, false)) _ (ok (Add, false)) (either (bytes_eq w.text (codes "s")) (Ok (Saturate, false)) (literal_op w text) (ok (Saturate, false)) (op_literal w text))

operations : (taken : Bool) (ws : List Chunk) → OfWords (ops_from taken ws)
operations taken [] = ok []
operations true (w ∷ ws) = operations false ws
operations false (w ∷ ws) =
    next (λ op. with_item op.0 (ops_from op.1 ws)) (op_of w (next_text ws)) (operation (natural_of w.text) w (next_text ws)) (λ op. item op.0 (ops_from op.1 ws) (operations op.1 ws))

ids : (ws : List Chunk) → OfWords (ids_in ws)
ids [] = ok []
ids (w ∷ ws) = let later = ids ws in next (λ i. with_item i (ids_in ws)) (id_in expected.Id w) (id expected.Id w) (λ i. item i (ids_in ws) later)

sums : (end : ℕ) (ws : List Chunk) → OfWords (terms_in end ws) × ((coef : ℤ) → OfWords (term_in end coef ws))
sums end [] = (token end expected.Term, λ coef. token end expected.Literal)
sums end (w ∷ ws) =
    let later = sums end ws in (
      either (bytes_eq w.text (codes ">=")) (Ok ([], ws)) _ (ok ([], ws)) (next (λ coef. term_in end coef ws) (integer_in expected.Term w) (integer expected.Term w) later.1),
      λ coef. next (λ l. and_then (λ p. Ok (record { coef = coef; lit = l } ∷ p.0, p.1)) (terms_in end ws)) (literal_in expected.Literal w) (literal expected.Literal w)
          (λ l. next (λ p. Ok (record { coef = coef; lit = l } ∷ p.0, p.1)) (terms_in end ws) later.0 (λ p. ok (record { coef = coef; lit = l } ∷ p.0, p.1))),
    )

right : (end : ℕ) (ws : List Chunk) → OfWords (right_in end ws)
right end [] = token end expected.Integer
right end (w ∷ ws) =
    next (λ z. and_then (λ rest. Ok (z, rest)) (past end (codes ";") expected.Semicolon ws)) (integer_in expected.Integer w) (integer expected.Integer w)
    (λ z. next (λ rest. Ok (z, rest)) (past end (codes ";") expected.Semicolon ws) (behind end (codes ";") expected.Semicolon ws) (λ rest. ok (z, rest)))

constraint : (end : ℕ) (ws : List Chunk) → OfWords (constraint_in end ws)
constraint end ws =
    next (λ sum. constraint_by sum.0 (right_in end sum.1)) (terms_in end ws) (sums end ws).0
    (λ sum. next (λ p. Ok (record { terms = sum.0; right = p.0; rest = p.1 })) (right_in end sum.1) (right end sum.1) (λ p. ok (record { terms = sum.0; right = p.0; rest = p.1 })))

sets : (end : ℕ) (ws : List Chunk) → ((above : ℕ) → OfWords (sets_in end above ws)) × ((v : ℕ) → OfWords (arrow_in end v ws)) × ((v : ℕ) → OfWords (value_in end v ws))
sets end [] = ((λ above. ok []), (λ v. token end expected.Arrow), (λ v. token end expected.Bit))
sets end (w ∷ ws) =
    let later = sets end ws in (
      (λ above. next (λ v. arrow_in end v ws) (variable_in above w) (variable above w) later.1),
      (λ v. either (bytes_eq w.text (codes "->")) (value_in end v ws) (Err (Token w.column expected.Arrow)) (later.2 v) (token w.column expected.Arrow)),
      (λ v. next (λ b. with_item (record { var = v; value = b }) (sets_in end v ws)) (bit_in w) (bit w) (λ b. item (record { var = v; value = b }) (sets_in end v ws) (later.0 v))),
    )

-- ---- whole lines

rup : (end : ℕ) (ws : List Chunk) → OfWords (rup_in end ws)
rup end ws =
    next (λ c. and_then (λ is. Ok (step.Rup c.terms c.right is)) (ids_in c.rest)) (constraint_in end ws) (constraint end ws)
    (λ c. next (λ is. Ok (step.Rup c.terms c.right is)) (ids_in c.rest) (ids c.rest) (λ is. ok (step.Rup c.terms c.right is)))

red : (end : ℕ) (ws : List Chunk) → OfWords (red_in end ws)
red end ws =
    next (λ c. and_then (λ vs. Ok (step.Red c.terms c.right vs)) (sets_in end 0 c.rest)) (constraint_in end ws) (constraint end ws)
    (λ c. next (λ vs. Ok (step.Red c.terms c.right vs)) (sets_in end 0 c.rest) ((sets end c.rest).0 0) (λ vs. ok (step.Red c.terms c.right vs)))

del : (end : ℕ) (ws : List Chunk) → OfWords (del_in end ws)
del end [] = token end expected.Id
del end (w ∷ ws) = next (λ is. Ok (step.Del is)) (ids_in (w ∷ ws)) (ids (w ∷ ws)) (λ is. ok (step.Del is))

out : (end : ℕ) (ws : List Chunk) → OfWords (out_in end ws)
out end [] = token end expected.Id
out end (w ∷ ws) = next (λ i. ends_here expected.LineEnd (step.Out i) ws) (id_in expected.Id w) (id expected.Id w) (λ i. ends (step.Out i) ws)

loaded : (end : ℕ) (ws : List Chunk) → OfWords (loaded_in end ws)
loaded end [] = token end expected.LoadedCount
loaded end (w ∷ ws) = next (λ n. ends_here expected.LineEnd (step.Loaded n) ws) (number_between 0 (2 ^ 63) expected.LoadedCount w.column (natural_of w.text)) (between 0 (2 ^ 63) expected.LoadedCount w.column (natural_of w.text)) (λ n. ends (step.Loaded n) ws)

head : (end : ℕ) (ws : List Chunk) → OfWords (head_in end ws)
head end ws =
    next (λ us. and_then (λ vs. and_then (ends_here expected.LineEnd step.Head) (past end (codes "1") expected.Head vs)) (past end (codes "profile") expected.Head us)) (past end (codes "derivation") expected.Head ws) (behind end (codes "derivation") expected.Head ws)
    (λ us. next (λ vs. and_then (ends_here expected.LineEnd step.Head) (past end (codes "1") expected.Head vs)) (past end (codes "profile") expected.Head us) (behind end (codes "profile") expected.Head us)
    (λ vs. next (ends_here expected.LineEnd step.Head) (past end (codes "1") expected.Head vs) (behind end (codes "1") expected.Head vs) (ends step.Head)))

placed : (end : ℕ) (w : Chunk) (ws : List Chunk) → OfWords (place_by end w ws)
placed end w ws =
    either (begins_with_star w.text) (Ok step.Blank) _ (ok step.Blank)
    (either (bytes_eq w.text (codes "end")) (ends_here expected.LineEnd step.End ws) _ (ends step.End ws)
    (either (bytes_eq w.text (codes "f")) (loaded_in end ws) _ (loaded end ws)
    (either (bytes_eq w.text (codes "pseudo-Boolean")) (head_in end ws) (Err (Token w.column expected.StepWord)) (head end ws) (token w.column expected.StepWord))))

said : (end : ℕ) (w : Chunk) (ws : List Chunk) → OfWords (said_by end w ws)
said end w ws =
    either (bytes_eq w.text (codes "pol")) _ _ (next (λ ops. Ok (step.Pol ops)) (ops_from false ws) (operations false ws) (λ ops. ok (step.Pol ops)))
    (either (bytes_eq w.text (codes "rup")) (rup_in end ws) _ (rup end ws)
    (either (bytes_eq w.text (codes "red")) (red_in end ws) _ (red end ws)
    (either (bytes_eq w.text (codes "del")) (del_in end ws) _ (del end ws)
    (either (bytes_eq w.text (codes "out")) (out_in end ws) (place_by end w ws) (out end ws) (placed end w ws)))))

line : (end : ℕ) (ws : List Chunk) → OfWords (said_in end ws)
line end [] = ok step.Blank
line end (w ∷ ws) = said end w ws

-- the fault of a line
pub line_fault_within : (bytes : List ℕ) (column : ℕ) (which : LimitKind) → step_of bytes ≡ Err (Limit column which) → IsLengthLimit which → ⊥
line_fault_within bytes = (line (length bytes + 1) (words_of bytes)).other
