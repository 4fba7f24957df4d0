-- Where the first fault of a `pol` line stands.
use Rattle.std.proofs.Common.{◌≡◌, ◌++◌, ◌^◌, ◌||◌, ℕ, Bool, true, false, cond, List, [], ◌∷◌, Option, Some, None, refl, sym, ap, ◌∙◌}
use Rattle.std.specs.Prelude.{pos, is_some, Result, Ok, Err, codes}
use Rattle.std.specs.Str.{bytes_eq}
use Rattle.pb_base.specs.declared.literal.Lit.{Lit}
use Rattle.pb_base.specs.declared.expected.Expected.TheVariants as expected
use Rattle.pb_base.specs.Numbers.{natural_of}
use Rattle.pb_base.specs.Words.{Chunk}
use Rattle.pb_steps.specs.declared.fault.StepFault.{StepFault}
use Rattle.pb_steps.specs.declared.op.PolOp.{PolOp}
use Rattle.pb_steps.specs.declared.op.PolOp.TheVariants.{Push, Axiom, Add, Mul, Div, Saturate, Weaken}
use Rattle.pb_steps.specs.LineWords.{and_then, number_between, literal_in}
use Rattle.pb_steps.specs.LineSteps.{with_item, number_op, literal_op, op_by, op_of, next_text, ops_from}
use Rattle.pb_steps.specs.StepGrammar.{texts}
use Rattle.pb_steps.specs.laws.FirstWords.{column_of, ends_in_number, is_mark, is_number}
use Rattle.pb_steps.proofs.Judged.{judged, judged_fault, judged_item, judged_then, both_judged, first_judged, no_fault, FaultsAt, at_ok, at_either, at_then, at_literal, at_number}
use Rattle.pb_steps.proofs.SpelledWords.{key_from}

-- what the definitions have for a factor, an id, and a literal that is weakened or pushed
abbrev as_factor : (ℕ → PolOp) → ℕ → ℕ → Result (PolOp × Bool) StepFault
as_factor make column n = and_then (λ f. Ok (make f, true)) (number_between 1 (2 ^ 126) expected.Factor column (Some n))

abbrev as_id : ℕ → ℕ → Result (PolOp × Bool) StepFault
as_id column n = and_then (λ id. Ok (Push id, false)) (number_between 1 (2 ^ 63) expected.Operand column (Some n))

abbrev as_literal : Bool → Lit → PolOp × Bool
as_literal weakened l = cond weakened (Weaken l.var, true) (Axiom l, false)

-- ---- whether an operation is read does not depend on the word behind it, but for a mark behind a number

abbrev number_told : Bool → ℕ → ℕ → Result (Unit {0}) StepFault
number_told true column n = judged (number_between 1 (2 ^ 126) expected.Factor column (Some n))
number_told false column n = judged (number_between 1 (2 ^ 63) expected.Operand column (Some n))

number_judged : (column n : ℕ) (next : List ℕ) → judged (number_op column n next) ≡ number_told (is_mark next) column n
number_judged column n next = by_tests (bytes_eq next (codes "*")) (bytes_eq next (codes "d"))
  where
    by_tests : (s d : Bool) → judged (cond s (as_factor (λ f. Mul (pos f)) column n) (cond d (as_factor (λ f. Div (pos f)) column n) (as_id column n))) ≡ number_told (s || d) column n
    by_tests true d = judged_then (λ f. (Mul (pos f), true)) (number_between 1 (2 ^ 126) expected.Factor column (Some n))
    by_tests false true = judged_then (λ f. (Div (pos f), true)) (number_between 1 (2 ^ 126) expected.Factor column (Some n))
    by_tests false false = judged_then (λ id. (Push id, false)) (number_between 1 (2 ^ 63) expected.Operand column (Some n))

abbrev plain_told : Chunk → Result (Unit {0}) StepFault
plain_told w = cond (bytes_eq w.text (codes "+")) (Ok tt) (cond (bytes_eq w.text (codes "s")) (Ok tt) (judged (literal_in expected.Operand w)))

plain_judged : (w : Chunk) (next : List ℕ) → judged (op_by None w next) ≡ plain_told w
plain_judged w next = by_tests (bytes_eq w.text (codes "+")) (bytes_eq w.text (codes "s"))
  where
    by_tests : (p s : Bool) → judged (cond p (Ok (Add, false)) (cond s (Ok (Saturate, false)) (literal_op w next))) ≡ cond p (Ok tt) (cond s (Ok tt) (judged (literal_in expected.Operand w)))
    by_tests true s = refl
    by_tests false true = refl
    by_tests false false = judged_then (as_literal (bytes_eq next (codes "w"))) (literal_in expected.Operand w)

op_alike : (w : Chunk) (next other : List ℕ) → (is_number w.text ≡ true → is_mark next ≡ is_mark other) → judged (op_of w next) ≡ judged (op_of w other)
op_alike w next other like = by_told (natural_of w.text) like
  where
    by_told : (o : Option ℕ) → (is_some o ≡ true → is_mark next ≡ is_mark other) → judged (op_by o w next) ≡ judged (op_by o w other)
    by_told (Some n) like = number_judged w.column n next ∙ ap (λ (b : Bool). number_told b w.column n) (like refl) ∙ sym (number_judged w.column n other)
    by_told None like = plain_judged w next ∙ sym (plain_judged w other)

-- ---- which words an operation takes

flag_is : {A : Type 0} (make : A → PolOp) (b : Bool) (r : Result A StepFault) (op : PolOp × Bool) → and_then (λ a. Ok (make a, b)) r ≡ Ok op → op.1 ≡ b
flag_is make b (Ok a) op h = let e : (make a, b) ≡ op = cc in sym (ap (λ (o : PolOp × Bool). o.1) e)
flag_is make b (Err fault) op h = absurd (no_fault fault op h)

-- behind a number, a mark is taken; what is taken is no number
record Takes (o : Option ℕ) (next : List ℕ) (op : PolOp × Bool) : Type 0 where
  mark : is_some o ≡ true → op.1 ≡ is_mark next
  plain : op.1 ≡ true → is_number next ≡ false

pub not_both : {A : Type 0} (b : Bool) → b ≡ true → b ≡ false → A
not_both true h k = let no : ⊥ = cc in absurd no
not_both false h k = let no : ⊥ = cc in absurd no

number_takes : (column n : ℕ) (next : List ℕ) (op : PolOp × Bool) → number_op column n next ≡ Ok op → Takes (Some n) next op
number_takes column n next op h = by_times (bytes_eq next (codes "*")) refl (key_from next (codes "*")) h
  where
    by_over : (d : Bool) → bytes_eq next (codes "*") ≡ false → bytes_eq next (codes "d") ≡ d → (d ≡ true → next ≡ codes "d") → cond d (as_factor (λ f. Div (pos f)) column n) (as_id column n) ≡ Ok op → Takes (Some n) next op
    by_over true no_times is same h =
        let flag = flag_is (λ f. Div (pos f)) true (number_between 1 (2 ^ 126) expected.Factor column (Some n)) op h in
        record { mark = λ _. flag ∙ sym (ap (λ (b : Bool). b || bytes_eq next (codes "d")) no_times ∙ is); plain = λ _. ap is_number (same refl) }
    by_over false no_times is same h =
        let flag = flag_is (λ id. Push id) false (number_between 1 (2 ^ 63) expected.Operand column (Some n)) op h in
        record { mark = λ _. flag ∙ sym (ap (λ (b : Bool). b || bytes_eq next (codes "d")) no_times ∙ is); plain = λ taken. not_both op.1 taken flag }

    by_times : (s : Bool) → bytes_eq next (codes "*") ≡ s → (s ≡ true → next ≡ codes "*") → cond s (as_factor (λ f. Mul (pos f)) column n) (cond (bytes_eq next (codes "d")) (as_factor (λ f. Div (pos f)) column n) (as_id column n)) ≡ Ok op → Takes (Some n) next op
    by_times true is same h =
        let flag = flag_is (λ f. Mul (pos f)) true (number_between 1 (2 ^ 126) expected.Factor column (Some n)) op h in
        record { mark = λ _. flag ∙ sym (ap (λ (b : Bool). b || bytes_eq next (codes "d")) is); plain = λ _. ap is_number (same refl) }
    by_times false is same h = by_over (bytes_eq next (codes "d")) is refl (key_from next (codes "d")) h

literal_plain : (w : Chunk) (next : List ℕ) (op : PolOp × Bool) → literal_op w next ≡ Ok op → op.1 ≡ true → is_number next ≡ false
literal_plain w next op h taken = by_mark (bytes_eq next (codes "w")) (key_from next (codes "w")) (literal_in expected.Operand w) h
  where
    by_mark : (b : Bool) → (b ≡ true → next ≡ codes "w") → (r : Result Lit StepFault) → and_then (λ l. Ok (as_literal b l)) r ≡ Ok op → is_number next ≡ false
    by_mark true same r h = ap is_number (same refl)
    by_mark false same r h = not_both op.1 taken (flag_is (λ l. Axiom l) false r op h)

plain_takes : (w : Chunk) (next : List ℕ) (op : PolOp × Bool) → op_by None w next ≡ Ok op → op.1 ≡ true → is_number next ≡ false
plain_takes w next op h taken = by_plus (bytes_eq w.text (codes "+")) (bytes_eq w.text (codes "s")) h
  where
    by_plus : (p s : Bool) → cond p (Ok (Add, false)) (cond s (Ok (Saturate, false)) (literal_op w next)) ≡ Ok op → is_number next ≡ false
    by_plus true s h = let e : (Add, false) ≡ op = cc in not_both op.1 taken (sym (ap (λ (o : PolOp × Bool). o.1) e))
    by_plus false true h = let e : (Saturate, false) ≡ op = cc in not_both op.1 taken (sym (ap (λ (o : PolOp × Bool). o.1) e))
    by_plus false false h = literal_plain w next op h taken

op_takes : (w : Chunk) (next : List ℕ) (op : PolOp × Bool) → op_of w next ≡ Ok op → Takes (natural_of w.text) next op
op_takes w next op h = by_told (natural_of w.text) h
  where
    by_told : (o : Option ℕ) → op_by o w next ≡ Ok op → Takes o next op
    by_told (Some n) h = number_takes w.column n next op h
    by_told None h = record { mark = λ some. let no : ⊥ = cc in absurd no; plain = plain_takes w next op h }

at_op : (w : Chunk) (next : List ℕ) → FaultsAt w.column (op_of w next)
at_op w next = by_told (natural_of w.text)
  where
    by_told : (o : Option ℕ) → FaultsAt w.column (op_by o w next)
    by_told (Some n) =
        at_either w.column (bytes_eq next (codes "*")) (as_factor (λ f. Mul (pos f)) w.column n) _ (at_then w.column (λ f. Ok (Mul (pos f), true)) (number_between 1 (2 ^ 126) expected.Factor w.column (Some n)) (at_number 1 (2 ^ 126) expected.Factor w.column (Some n)) (λ f. at_ok w.column (Mul (pos f), true)))
        (at_either w.column (bytes_eq next (codes "d")) (as_factor (λ f. Div (pos f)) w.column n) (as_id w.column n) (at_then w.column (λ f. Ok (Div (pos f), true)) (number_between 1 (2 ^ 126) expected.Factor w.column (Some n)) (at_number 1 (2 ^ 126) expected.Factor w.column (Some n)) (λ f. at_ok w.column (Div (pos f), true)))
        (at_then w.column (λ id. Ok (Push id, false)) (number_between 1 (2 ^ 63) expected.Operand w.column (Some n)) (at_number 1 (2 ^ 63) expected.Operand w.column (Some n)) (λ id. at_ok w.column (Push id, false))))
    by_told None =
        at_either w.column (bytes_eq w.text (codes "+")) (Ok (Add, false)) _ (at_ok w.column (Add, false))
        (at_either w.column (bytes_eq w.text (codes "s")) (Ok (Saturate, false)) (literal_op w next) (at_ok w.column (Saturate, false))
        (at_then w.column (λ l. Ok (as_literal (bytes_eq next (codes "w")) l)) (literal_in expected.Operand w) (at_literal expected.Operand w) (λ l. at_ok w.column (as_literal (bytes_eq next (codes "w")) l))))

-- ---- the operations of a line

abbrev pub Reads : Bool → List Chunk → Type 0
Reads taken ws = judged (ops_from taken ws) ≡ Ok tt

-- The words before a word are read, whether a number before them is an id or a factor as here; and with the word none are, where it is followed alike.
pub record PolSplits (before taken : Bool) (ws : List Chunk) (column : Option ℕ) : Type 0 where
  pub front : List Chunk
  pub word : Chunk
  pub after : List Chunk
  pub cut : ws ≡ front ++ word ∷ after
  pub at : column ≡ Some word.column
  pub fine : Reads taken front
  pub plain : ends_in_number before (texts front) ≡ true → is_mark word.text ≡ false
  pub stops : (more : List Chunk) → (is_number word.text ≡ true → is_mark (next_text more) ≡ is_mark (next_text after)) → ¬ (Reads taken (front ++ word ∷ more))

item_fault : (x : PolOp) (r : Result (List PolOp) StepFault) (fault : StepFault) → with_item x r ≡ Err fault → r ≡ Err fault
item_fault x r fault h = judged_fault r fault (sym (judged_item x r) ∙ ap judged h)

none_read : (taken : Bool) (x : PolOp) → judged (with_item x (ops_from taken [])) ≡ Ok tt
none_read true x = refl
none_read false x = refl

next_same : (front : List Chunk) (w : Chunk) (us vs : List Chunk) → next_text (front ++ w ∷ us) ≡ next_text (front ++ w ∷ vs)
next_same [] w us vs = refl
next_same (v ∷ front) w us vs = refl

-- the words before a fault are read with the operation that stands before them
fine_behind : (w : Chunk) (ws : List Chunk) (op : PolOp × Bool) (front : List Chunk) (word : Chunk) (after : List Chunk) → op_of w (next_text ws) ≡ Ok op → ws ≡ front ++ word ∷ after
    → Reads op.1 front → (ends_in_number (is_number w.text) (texts front) ≡ true → is_mark word.text ≡ false) → Reads false (w ∷ front)
fine_behind w ws op [] word after is cut fine plain =
    both_judged (λ o. with_item o.0 (ops_from o.1 [])) (op_of w [])
    (op_alike w [] (next_text ws) (λ number. sym (ap (λ (us : List Chunk). is_mark (next_text us)) cut ∙ plain number)) ∙ ap judged is)
    (λ o. none_read o.1 o.0)
fine_behind w ws op (v ∷ front) word after is cut fine plain =
    ap (λ (r : Result (PolOp × Bool) StepFault). judged (and_then (λ o. with_item o.0 (ops_from o.1 (v ∷ front))) r)) (ap (op_of w) (sym (ap next_text cut)) ∙ is)
    ∙ judged_item op.0 (ops_from op.1 (v ∷ front))
    ∙ fine

stops_behind : (w : Chunk) (ws : List Chunk) (op : PolOp × Bool) (front : List Chunk) (word : Chunk) (after more : List Chunk) → op_of w (next_text ws) ≡ Ok op → ws ≡ front ++ word ∷ after
    → Reads false (w ∷ front ++ word ∷ more) → Reads op.1 (front ++ word ∷ more)
stops_behind w ws op front word after more is cut reads =
    let us : List Chunk = front ++ word ∷ more in
    let same : op_of w (next_text us) ≡ Ok op = ap (op_of w) (next_same front word more after ∙ sym (ap next_text cut)) ∙ is in
    sym (judged_item op.0 (ops_from op.1 us)) ∙ sym (ap (λ (r : Result (PolOp × Bool) StepFault). judged (and_then (λ o. with_item o.0 (ops_from o.1 us)) r)) same) ∙ reads

pub pol_splits : (before taken : Bool) (ws : List Chunk) (fault : StepFault) → (before ≡ true → taken ≡ is_mark (next_text ws)) → (taken ≡ true → is_number (next_text ws) ≡ false) → ops_from taken ws ≡ Err fault → PolSplits before taken ws (column_of fault)
pol_splits before true [] fault marked other h = absurd (no_fault fault [] (sym h))
pol_splits before false [] fault marked other h = absurd (no_fault fault [] (sym h))
pol_splits before true (w ∷ ws) fault marked other h =
    let s = pol_splits (is_number w.text) false ws fault (λ number. not_both (is_number w.text) number (other refl)) (λ never. let no : ⊥ = cc in absurd no) h in
    record { front = w ∷ s.front; word = s.word; after = s.after; cut = ap (λ (us : List Chunk). w ∷ us) s.cut; at = s.at; fine = s.fine; plain = s.plain; stops = s.stops }
pol_splits before false (w ∷ ws) fault marked other h = by_op (op_of w (next_text ws)) refl h (λ op a b g. pol_splits (is_number w.text) op.1 ws fault a b g)
  where
    by_op : (r : Result (PolOp × Bool) StepFault) → op_of w (next_text ws) ≡ r → and_then (λ o. with_item o.0 (ops_from o.1 ws)) r ≡ Err fault
        → ((op : PolOp × Bool) → (is_number w.text ≡ true → op.1 ≡ is_mark (next_text ws)) → (op.1 ≡ true → is_number (next_text ws) ≡ false) → ops_from op.1 ws ≡ Err fault → PolSplits (is_number w.text) op.1 ws (column_of fault))
        → PolSplits before false (w ∷ ws) (column_of fault)
    by_op (Err first) is h later =
        let same : first ≡ fault = cc in
        record {
          front = [];
          word = w;
          after = ws;
          cut = refl;
          at = sym (ap column_of same) ∙ (at_op w (next_text ws)).stands first is;
          fine = refl;
          plain = λ number. sym (marked number);
          stops = λ more like reads.
              no_fault first tt (
              sym (op_alike w (next_text more) (next_text ws) like ∙ ap judged is) ∙ first_judged (λ o. with_item o.0 (ops_from o.1 more)) (op_of w (next_text more)) reads);
        }
    by_op (Ok op) is h later =
        let takes = op_takes w (next_text ws) op is in
        let s = later op takes.mark takes.plain (item_fault op.0 (ops_from op.1 ws) fault h) in
        record {
          front = w ∷ s.front;
          word = s.word;
          after = s.after;
          cut = ap (λ (us : List Chunk). w ∷ us) s.cut;
          at = s.at;
          fine = fine_behind w ws op s.front s.word s.after is s.cut s.fine s.plain;
          plain = s.plain;
          stops = λ more like reads. s.stops more like (stops_behind w ws op s.front s.word s.after more is s.cut reads);
        }
