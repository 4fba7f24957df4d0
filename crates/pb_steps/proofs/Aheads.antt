-- Operations are read with one word ahead.
use Rattle.std.proofs.Common.{◌≡◌, ◌<◌, ◌≤◌, Bool, true, false, ℕ, List, [], ◌∷◌, ◌++◌, length, Option, Some, None, append-nil, refl, sym, ap, ◌∙◌, arith}
use Rattle.std.specs.Prelude.{Result, Ok}
use Rattle.std.specs.Iterator.{YieldsFirstBy}
use Rattle.pb_base.specs.declared.word.Word.{Word}
use Rattle.pb_base.specs.Words.{Chunk}
use Rattle.pb_base.specs.Pieces.{chunk}
use Rattle.pb_steps.specs.declared.fault.StepFault.{StepFault}
use Rattle.pb_steps.specs.declared.op.PolOp.{PolOp}
use Rattle.pb_steps.specs.LineWords.{and_then}
use Rattle.pb_steps.specs.LineSteps.{with_item, next_text, op_of, ops_from}
use Rattle.pb_steps.specs.inner.Ahead.{ahead_text, ahead_of}
use Rattle.pb_steps.specs.inner.Reading.{with_items}
use Rattle.pb_steps.proofs.ReadLemmas.{with_none, with_more}

-- what a call of `next` does to words
abbrev Takes : List Chunk → Option Word → List Chunk → Type 0
Takes = YieldsFirstBy chunk (λ ws. ws)

abbrev Read : List Chunk → List PolOp → List Chunk → Type 0
Read all ops left = ops_from false all ≡ with_items ops (ops_from false left)

taken : (ws : List Chunk) (r : Option Word) (vs : List Chunk) → Takes ws r vs → ws ≡ ahead_of r vs
taken ws (Some w) vs h = h
taken ws None vs h = h.0

no_longer : (ws : List Chunk) (r : Option Word) (vs : List Chunk) → Takes ws r vs → length vs ≤ length ws
no_longer ws (Some w) vs h = omega (arith, ap length h)
no_longer ws None vs h = omega (arith, ap length h.1)

text_ahead : (r : Option Word) (ws : List Chunk) → next_text (ahead_of r ws) ≡ ahead_text r
text_ahead (Some w) ws = refl
text_ahead None ws = refl

-- a word that was taken by the one before it
passed : (ws : List Chunk) (r : Option Word) (vs : List Chunk) → Takes ws r vs → ops_from true ws ≡ ops_from false vs
passed ws (Some w) vs h = ap (ops_from true) h
passed ws None vs h = ap (ops_from true) h.0 ∙ sym (ap (ops_from false) h.1)

-- what an operation is by the text behind it
pub told : (w : Word) (text : List ℕ) (next : Option Word) (r : Result (PolOp × Bool) StepFault) (o : PolOp × Bool) → text ≡ ahead_text next → r ≡ op_of (chunk w) text → r ≡ Ok o → op_of (chunk w) (ahead_text next) ≡ Ok o
told w text next r o same said was = ap (op_of (chunk w)) (sym same) ∙ sym said ∙ was

-- an operation more
one_more : (all : List Chunk) (ops : List PolOp) (ahead : Option Word) (ws : List Chunk) (w : Word) (next : Option Word) (vs : List Chunk) (op : PolOp) (takes : Bool) →
    Read all ops (ahead_of ahead ws) → ahead ≡ Some w → Takes ws next vs → op_of (chunk w) (ahead_text next) ≡ Ok (op, takes) →
    ops_from false all ≡ with_items (ops ++ op ∷ []) (ops_from takes ws)
one_more all ops ahead ws w next vs op takes read is step told =
    let text : next_text ws ≡ ahead_text next = ap next_text (taken ws next vs step) ∙ text_ahead next vs in
    let first : ops_from false (chunk w ∷ ws) ≡ with_item op (ops_from takes ws) = ap (and_then (λ o. with_item o.0 (ops_from o.1 ws))) (ap (op_of (chunk w)) text ∙ told) in
    read ∙ ap (λ (r : Option Word). with_items ops (ops_from false (ahead_of r ws))) is ∙ ap (with_items ops) first ∙ with_more ops op (ops_from takes ws)

pub begun : (all : List Chunk) (ops : List PolOp) (ahead : Option Word) (ws : List Chunk) → ops ≡ [] → Takes all ahead ws → Read all ops (ahead_of ahead ws)
begun all ops ahead ws none step =
    ap (ops_from false) (taken all ahead ws step) ∙ sym (with_none (ops_from false (ahead_of ahead ws)))
    ∙ ap (λ (xs : List PolOp). with_items xs (ops_from false (ahead_of ahead ws))) (sym none)

-- the word behind it is the next operation's
pub behind : (all : List Chunk) (ops more : List PolOp) (ahead : Option Word) (ws : List Chunk) (w : Word) (next : Option Word) (vs : List Chunk) (op : PolOp) (takes : Bool) →
    Read all ops (ahead_of ahead ws) → ahead ≡ Some w → Takes ws next vs → op_of (chunk w) (ahead_text next) ≡ Ok (op, takes) → more ≡ ops ++ op ∷ [] → takes ≡ false →
    Read all more (ahead_of next vs)
behind all ops more ahead ws w next vs op takes read is step told pushed left =
    one_more all ops ahead ws w next vs op takes read is step told
    ∙ ap (λ (t : Bool). with_items (ops ++ op ∷ []) (ops_from t ws)) left
    ∙ ap (λ (us : List Chunk). with_items (ops ++ op ∷ []) (ops_from false us)) (taken ws next vs step)
    ∙ ap (λ (xs : List PolOp). with_items xs (ops_from false (ahead_of next vs))) (sym pushed)

-- the word behind it was a part of it
pub beyond : (all : List Chunk) (ops more : List PolOp) (ahead : Option Word) (ws : List Chunk) (w : Word) (next : Option Word) (vs : List Chunk) (op : PolOp) (takes : Bool) (last : Option Word) (us : List Chunk) →
    Read all ops (ahead_of ahead ws) → ahead ≡ Some w → Takes ws next vs → op_of (chunk w) (ahead_text next) ≡ Ok (op, takes) → more ≡ ops ++ op ∷ [] → takes ≡ true → Takes vs last us →
    Read all more (ahead_of last us)
beyond all ops more ahead ws w next vs op takes last us read is step told pushed left further =
    one_more all ops ahead ws w next vs op takes read is step told
    ∙ ap (λ (t : Bool). with_items (ops ++ op ∷ []) (ops_from t ws)) left
    ∙ ap (with_items (ops ++ op ∷ [])) (passed ws next vs step)
    ∙ ap (λ (zs : List Chunk). with_items (ops ++ op ∷ []) (ops_from false zs)) (taken vs last us further)
    ∙ ap (λ (xs : List PolOp). with_items xs (ops_from false (ahead_of last us))) (sym pushed)

pub ended : (all : List Chunk) (ops : List PolOp) (ahead : Option Word) (ws : List Chunk) → Read all ops (ahead_of ahead ws) → ahead ≡ None → ops_from false all ≡ Ok ops
ended all ops ahead ws read is = read ∙ ap (λ (r : Option Word). with_items ops (ops_from false (ahead_of r ws))) is ∙ ap (λ (xs : List PolOp). Ok xs) (append-nil ops)

-- fewer words are left
pub fewer_behind : (ahead : Option Word) (ws : List Chunk) (w : Word) (next : Option Word) (vs : List Chunk) → ahead ≡ Some w → Takes ws next vs → length (ahead_of next vs) < length (ahead_of ahead ws)
fewer_behind ahead ws w next vs is step = omega (arith, ap (λ (r : Option Word). length (ahead_of r ws)) is, ap length (taken ws next vs step))

pub fewer_beyond : (ahead : Option Word) (ws : List Chunk) (w : Word) (next : Option Word) (vs : List Chunk) (last : Option Word) (us : List Chunk) → ahead ≡ Some w → Takes ws next vs → Takes vs last us → length (ahead_of last us) < length (ahead_of ahead ws)
fewer_beyond ahead ws w next vs last us is step further = omega (arith, ap (λ (r : Option Word). length (ahead_of r ws)) is, no_longer ws next vs step, ap length (taken vs last us further))
