-- What a line of a derivation says, or its first fault (our own profile, after VeriPB's).
use Rattle.std.specs.Prelude.{◌≡◌, ◌≢◌, ℕ, ◌+◌, ◌^◌, List, [], ◌∷◌, length, Option, Some, None, Result, Ok, Err, ℤ, pos, Bool, true, false, if◌then◌else◌, codes}
use Rattle.std.specs.Str.{bytes_eq}
use Rattle.pb_base.specs.declared.literal.Term.{Term}
use Rattle.pb_base.specs.declared.expected.Expected.{Expected}
use Rattle.pb_base.specs.declared.expected.Expected.TheVariants as expected
use Rattle.pb_base.specs.Numbers.{natural_of}
use Rattle.pb_base.specs.Words.{Chunk, words_of}
use Rattle.pb_steps.specs.declared.fault.StepFault.{StepFault}
use Rattle.pb_steps.specs.declared.fault.StepFault.TheVariants.{Token, NoMemory}
use Rattle.pb_steps.specs.declared.step.Step.{Step}
use Rattle.pb_steps.specs.declared.step.Step.TheVariants as step
use Rattle.pb_steps.specs.declared.op.PolOp.{PolOp}
use Rattle.pb_steps.specs.declared.op.PolOp.TheVariants.{Push, Axiom, Add, Mul, Div, Saturate, Weaken}
use Rattle.pb_steps.specs.declared.op.Set.{Set}
use Rattle.pb_steps.specs.StepGrammar.{begins_with_star}
use Rattle.pb_steps.specs.LineWords.{and_then, number_between, id_in, integer_in, literal_in, variable_in, bit_in}

-- the fault of what is read, or want of memory
abbrev pub IsFaultOf : {A : Type 0} → Result A StepFault → StepFault → Type 0
IsFaultOf due fault = fault ≢ NoMemory → due ≡ Err fault

-- with an item before the others
abbrev pub with_item : {A : Type 0} → A → Result (List A) StepFault → Result (List A) StepFault
with_item x r = and_then (λ xs. Ok (x ∷ xs)) r

-- what was read, where nothing follows it
abbrev pub ends_here : {A : Type 0} → Expected → A → List Chunk → Result A StepFault
ends_here e x [] = Ok x
ends_here e x (w ∷ ws) = Err (Token w.column e)

-- what stands behind a certain word
abbrev pub past : ℕ → List ℕ → Expected → List Chunk → Result (List Chunk) StepFault
past end key e [] = Err (Token end e)
past end key e (w ∷ ws) = if bytes_eq w.text key then Ok ws else Err (Token w.column e)

-- `pol`: an operation, and whether it takes the word behind it too
abbrev pub number_op : ℕ → ℕ → List ℕ → Result (PolOp × Bool) StepFault
number_op column n next =
    if bytes_eq next (codes "*") then and_then (λ f. Ok (Mul (pos f), true)) (number_between 1 (2 ^ 126) expected.Factor column (Some n))
    else (if bytes_eq next (codes "d") then and_then (λ f. Ok (Div (pos f), true)) (number_between 1 (2 ^ 126) expected.Factor column (Some n))
    else and_then (λ id. Ok (Push id, false)) (number_between 1 (2 ^ 63) expected.Operand column (Some n)))

abbrev pub literal_op : Chunk → List ℕ → Result (PolOp × Bool) StepFault
literal_op w next =
    and_then (λ l. Ok (if bytes_eq next (codes "w") then (Weaken l.var, true) else (Axiom l, false))) (literal_in expected.Operand w)

abbrev pub op_by : Option ℕ → Chunk → List ℕ → Result (PolOp × Bool) StepFault
op_by (Some n) w next = number_op w.column n next
op_by None w next =
    if bytes_eq w.text (codes "+") then Ok (Add, false)
    else (if bytes_eq w.text (codes "s") then Ok (Saturate, false)
    else literal_op w next)

abbrev pub op_of : Chunk → List ℕ → Result (PolOp × Bool) StepFault
op_of w next = op_by (natural_of w.text) w next

abbrev pub next_text : List Chunk → List ℕ
next_text [] = []
next_text (w ∷ ws) = w.text

-- the operations; the first word may have been taken by the one before it
abbrev pub ops_from : Bool → List Chunk → Result (List PolOp) StepFault
ops_from taken [] = Ok []
ops_from true (w ∷ ws) = ops_from false ws
ops_from false (w ∷ ws) = and_then (λ op. with_item op.0 (ops_from op.1 ws)) (op_of w (next_text ws))

abbrev pub ids_in : List Chunk → Result (List ℕ) StepFault
ids_in [] = Ok []
ids_in (w ∷ ws) = and_then (λ id. with_item id (ids_in ws)) (id_in expected.Id w)

-- terms, and what stands behind their `>=`
abbrev pub with_first_term : Term → Result (List Term × List Chunk) StepFault → Result (List Term × List Chunk) StepFault
with_first_term t r = and_then (λ p. Ok (t ∷ p.0, p.1)) r

abbrev mutual
  pub terms_in : ℕ → List Chunk → Result (List Term × List Chunk) StepFault
  terms_in end [] = Err (Token end expected.Term)
  terms_in end (w ∷ ws) =
      if bytes_eq w.text (codes ">=") then Ok ([], ws)
      else and_then (λ coef. term_in end coef ws) (integer_in expected.Term w)

  pub term_in : ℕ → ℤ → List Chunk → Result (List Term × List Chunk) StepFault
  term_in end coef [] = Err (Token end expected.Literal)
  term_in end coef (w ∷ ws) = and_then (λ l. with_first_term (record { coef = coef; lit = l }) (terms_in end ws)) (literal_in expected.Literal w)

-- a constraint, and what stands behind its `;`
pub record Written : Type 0 where
  pub terms : List Term
  pub right : ℤ
  pub rest : List Chunk

abbrev pub right_in : ℕ → List Chunk → Result (ℤ × List Chunk) StepFault
right_in end [] = Err (Token end expected.Integer)
right_in end (w ∷ ws) = and_then (λ right. and_then (λ rest. Ok (right, rest)) (past end (codes ";") expected.Semicolon ws)) (integer_in expected.Integer w)

abbrev pub constraint_by : List Term → Result (ℤ × List Chunk) StepFault → Result Written StepFault
constraint_by terms r = and_then (λ p. Ok (record { terms = terms; right = p.0; rest = p.1 })) r

abbrev pub constraint_in : ℕ → List Chunk → Result Written StepFault
constraint_in end ws = and_then (λ sum. constraint_by sum.0 (right_in end sum.1)) (terms_in end ws)

-- variables in ascending order with their values
abbrev mutual
  pub sets_in : ℕ → ℕ → List Chunk → Result (List Set) StepFault
  sets_in end above [] = Ok []
  sets_in end above (w ∷ ws) = and_then (λ v. arrow_in end v ws) (variable_in above w)

  pub arrow_in : ℕ → ℕ → List Chunk → Result (List Set) StepFault
  arrow_in end v [] = Err (Token end expected.Arrow)
  arrow_in end v (w ∷ ws) = if bytes_eq w.text (codes "->") then value_in end v ws else Err (Token w.column expected.Arrow)

  pub value_in : ℕ → ℕ → List Chunk → Result (List Set) StepFault
  value_in end v [] = Err (Token end expected.Bit)
  value_in end v (w ∷ ws) = and_then (λ b. with_item (record { var = v; value = b }) (sets_in end v ws)) (bit_in w)

abbrev pub rup_in : ℕ → List Chunk → Result Step StepFault
rup_in end ws = and_then (λ c. and_then (λ ids. Ok (step.Rup c.terms c.right ids)) (ids_in c.rest)) (constraint_in end ws)

abbrev pub red_in : ℕ → List Chunk → Result Step StepFault
red_in end ws = and_then (λ c. and_then (λ sets. Ok (step.Red c.terms c.right sets)) (sets_in end 0 c.rest)) (constraint_in end ws)

abbrev pub del_in : ℕ → List Chunk → Result Step StepFault
del_in end [] = Err (Token end expected.Id)
del_in end (w ∷ ws) = and_then (λ ids. Ok (step.Del ids)) (ids_in (w ∷ ws))

abbrev pub out_in : ℕ → List Chunk → Result Step StepFault
out_in end [] = Err (Token end expected.Id)
out_in end (w ∷ ws) = and_then (λ id. ends_here expected.LineEnd (step.Out id) ws) (id_in expected.Id w)

abbrev pub loaded_in : ℕ → List Chunk → Result Step StepFault
loaded_in end [] = Err (Token end expected.LoadedCount)
loaded_in end (w ∷ ws) = and_then (λ n. ends_here expected.LineEnd (step.Loaded n) ws) (number_between 0 (2 ^ 63) expected.LoadedCount w.column (natural_of w.text))

-- the other words of the head line
abbrev pub head_in : ℕ → List Chunk → Result Step StepFault
head_in end ws =
    and_then (λ us. and_then (λ vs. and_then (ends_here expected.LineEnd step.Head) (past end (codes "1") expected.Head vs)) (past end (codes "profile") expected.Head us))
    (past end (codes "derivation") expected.Head ws)

-- a line that is no rule: it begins with `*`, or has its own place
abbrev pub place_by : ℕ → Chunk → List Chunk → Result Step StepFault
place_by end w ws =
    if begins_with_star w.text then Ok step.Blank
    else (if bytes_eq w.text (codes "end") then ends_here expected.LineEnd step.End ws
    else (if bytes_eq w.text (codes "f") then loaded_in end ws
    else (if bytes_eq w.text (codes "pseudo-Boolean") then head_in end ws
    else Err (Token w.column expected.StepWord))))

-- by the first word
abbrev pub said_by : ℕ → Chunk → List Chunk → Result Step StepFault
said_by end w ws =
    if bytes_eq w.text (codes "pol") then and_then (λ ops. Ok (step.Pol ops)) (ops_from false ws)
    else (if bytes_eq w.text (codes "rup") then rup_in end ws
    else (if bytes_eq w.text (codes "red") then red_in end ws
    else (if bytes_eq w.text (codes "del") then del_in end ws
    else (if bytes_eq w.text (codes "out") then out_in end ws
    else place_by end w ws))))

-- the words of a line that ends before a column
abbrev pub said_in : ℕ → List Chunk → Result Step StepFault
said_in end [] = Ok step.Blank
said_in end (w ∷ ws) = said_by end w ws

-- the step that a line says, or its first fault
abbrev pub step_of : List ℕ → Result Step StepFault
step_of line = said_in (length line + 1) (words_of line)
