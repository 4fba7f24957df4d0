-- Lines whose words stand behind one blank each, and the steps that they say.
use Rattle.std.proofs.Common.{◌≡◌, ◌≤◌, ◌<◌, ◌+◌, ◌-◌, ◌^◌, ℕ, false, List, [], ◌∷◌, ◌++◌, length, map, take, drop, Option, Some, None, refl, sym, ap, ◌∙◌, subst, arith, append_assoc, append-nil, length-drop, drop-drop, drop_of_length-le}
use Rattle.std.specs.Prelude.{ℤ, Result, Ok, Err, IfOk, IfSome, codes, unsigned_abs}
use Rattle.std.specs.List.{flat_map, AllByRecursion}
use Rattle.pb_base.specs.declared.literal.Lit.{Lit}
use Rattle.pb_base.specs.declared.literal.Term.{Term}
use Rattle.pb_base.specs.Words.{words_of, goes_on}
use Rattle.pb_base.proofs.WordLemmas.{IsBlack}
use Rattle.pb_steps.specs.declared.op.Set.{Set}
use Rattle.pb_steps.specs.declared.op.PolOp.{PolOp}
use Rattle.pb_steps.specs.declared.step.Step.{Step}
use Rattle.pb_steps.specs.declared.step.Step.TheVariants.{Blank, Head, Loaded, Pol, Rup, Red, Del, Out, End}
use Rattle.pb_steps.specs.LineSteps.{step_of}
use Rattle.pb_steps.specs.Sayable.{IsId, IsOp, IsSayable, IsTerm, IsVariable}
use Rattle.pb_steps.specs.StepGrammar.{StepSymbol, SpellAll, WordsSay, bit_word, op_symbols, set_symbols, step_symbols, term_symbols, constraint_symbols, texts}
use Rattle.pb_steps.specs.StepGrammar.StepSymbol.{factor, integer, key, literal, number, variable, weakened}
use Rattle.pb_steps.specs.Fronts.{IsShort, Spells}
use Rattle.pb_steps.specs.inner.Front.{SaysBehind}
use Rattle.pb_steps.proofs.SaidSteps.{said_is}
use Rattle.pb_steps.proofs.Shorts.{behind_front, weakened_here, word-spells}

-- ---- one after the other

abbrev behind : List ℕ → ℕ → List ℕ
behind bytes n = take (length bytes - n) (drop n bytes)

then-spells : (bytes : List ℕ) (ks js all : List StepSymbol) (n m t : ℕ) → Spells bytes ks n → Spells (behind bytes n) js m → all ≡ ks ++ js → t ≡ n + m → Spells bytes all t
then-spells bytes ks js all n m t first second same size = λ rest tail.
    let at : drop t bytes ≡ drop m (drop n bytes) = ap (λ (i : ℕ). drop i bytes) size ∙ sym (drop-drop m n bytes) in
    let front : Spells (drop n bytes) js m = subst (λ (line : List ℕ). Spells line js m) (behind_front bytes n) second in
    let left = front rest (subst (λ (line : List ℕ). SpellAll (texts (words_of line)) rest) at tail) in
    subst (λ (symbols : List StepSymbol). SpellAll (texts (words_of bytes)) (symbols ++ rest)) (sym same)
    (subst (λ (symbols : List StepSymbol). SpellAll (texts (words_of bytes)) symbols) (sym (append_assoc ks js rest)) (first (js ++ rest) left))

then-short : (bytes : List ℕ) (ks js all : List StepSymbol) (n m t : ℕ) → IsShort bytes ks n → IsShort (behind bytes n) js m → all ≡ ks ++ js → t ≡ n + m → IsShort bytes all t
then-short bytes ks js all n m t first second same size =
    let within : m ≤ length (drop n bytes) = subst (λ (line : List ℕ). m ≤ length line) (behind_front bytes n) second.within in
    record {
      some = omega (arith, first.some, size);
      within = omega (arith, first.within, within, length-drop n bytes, size);
      spells = then-spells bytes ks js all n m t first.spells second.spells same size;
    }

-- ---- parts

pub right-short : (left : List ℕ) (z right : ℤ) (count : ℕ) → z ≡ right → IsShort left (key (codes ">=") ∷ []) 3 → IsShort (behind left 3) (integer right ∷ []) count → IsShort (behind left (3 + count)) (key (codes ";") ∷ []) 2 → IsShort left (key (codes ">=") ∷ integer z ∷ key (codes ";") ∷ []) (count + 5)
right-short left z right count same least middle ends =
    let first = then-short left (key (codes ">=") ∷ []) (integer right ∷ []) (key (codes ">=") ∷ integer z ∷ []) 3 count (3 + count) least middle (ap (λ (y : ℤ). key (codes ">=") ∷ integer y ∷ []) same) refl in
    then-short left (key (codes ">=") ∷ integer z ∷ []) (key (codes ";") ∷ []) (key (codes ">=") ∷ integer z ∷ key (codes ";") ∷ []) (3 + count) 2 (count + 5) first ends refl (omega arith)

pub set-short : (left : List ℕ) (s : Set) (count : ℕ) → IsShort left (variable s.var ∷ []) count → IsShort (behind left count) (key (codes "->") ∷ []) 3 → IsShort (behind left (count + 3)) (key (bit_word s.value) ∷ []) 2 → IsShort left (set_symbols s) (count + 5)
set-short left s count name arrow value =
    let first = then-short left (variable s.var ∷ []) (key (codes "->") ∷ []) (variable s.var ∷ key (codes "->") ∷ []) count 3 (count + 3) name arrow refl refl in
    then-short left (variable s.var ∷ key (codes "->") ∷ []) (key (bit_word s.value) ∷ []) (set_symbols s) (count + 3) 2 (count + 5) first value refl (omega arith)

pub weaken-short : (left : List ℕ) (l : Lit) (count : ℕ) → IsShort left (literal l ∷ []) count → IsShort (behind left count) (key (codes "w") ∷ []) 2 → IsShort left (weakened l.var ∷ key (codes "w") ∷ []) (count + 2)
weaken-short left l count name mark = then-short left (weakened l.var ∷ []) (key (codes "w") ∷ []) (weakened l.var ∷ key (codes "w") ∷ []) count 2 (count + 2) (weakened_here left l count name) mark refl refl

pub factor-short : (left k : List ℕ) (z : ℤ) (count : ℕ) → IsShort left (factor z ∷ []) (count + 1) → IsShort (behind left (count + 1)) (key k ∷ []) 2 → IsShort left (factor z ∷ key k ∷ []) (count + 3)
factor-short left k z count first mark = then-short left (factor z ∷ []) (key k ∷ []) (factor z ∷ key k ∷ []) (count + 1) 2 (count + 3) first mark refl (omega arith)

-- ---- whole lines

-- all bytes were read
whole-line : (line : List ℕ) (ks : List StepSymbol) (n : ℕ) → Spells line ks n → length line ≤ n → SpellAll (texts (words_of line)) ks
whole-line line ks n spells whole =
    let none : drop n line ≡ [] = drop_of_length-le line (omega (arith, whole)) in
    subst (λ (symbols : List StepSymbol). SpellAll (texts (words_of line)) symbols) (append-nil ks) (spells [] (subst (λ (bytes : List ℕ). SpellAll (texts (words_of bytes)) []) (sym none) tt))

pub pol-says : (left : List ℕ) (ops : List PolOp) (n : ℕ) → Spells left (flat_map op_symbols ops) n → length left ≤ n → AllByRecursion IsOp ops → SaysBehind (codes "pol") left (Pol ops)
pol-says left ops n spells whole each = record {
  black = (refl, (refl, (refl, tt)));
  more = flat_map op_symbols ops;
  symbols = refl;
  spelled = whole-line left (flat_map op_symbols ops) n spells whole;
  sayable = each;
}

pub out-says : (left : List ℕ) (id n : ℕ) → IsShort left (number id ∷ []) n → length left ≤ n → IsId id → SaysBehind (codes "out") left (Out id)
out-says left id n short whole is = record {
  black = (refl, (refl, (refl, tt)));
  more = number id ∷ [];
  symbols = refl;
  spelled = whole-line left (number id ∷ []) n short.spells whole;
  sayable = is;
}

pub del-says : (left ids : List ℕ) (n : ℕ) → Spells left (map number ids) n → length left ≤ n → AllByRecursion IsId ids → 0 < length ids → SaysBehind (codes "del") left (Del ids)
del-says left ids n spells whole each some = record {
  black = (refl, (refl, (refl, tt)));
  more = map number ids;
  symbols = refl;
  spelled = whole-line left (map number ids) n spells whole;
  sayable = (each, λ none. let empty : length ids ≡ 0 = ap length none in omega arith);
}

-- a constraint, and what stands behind it
constraint-then : (left : List ℕ) (ts : List Term) (right : ℤ) (js : List StepSymbol) (first second third : ℕ) → Spells left (flat_map term_symbols ts) first → IsShort (behind left first) (key (codes ">=") ∷ integer right ∷ key (codes ";") ∷ []) second → Spells (behind left (first + second)) js third → length left ≤ first + second + third → SpellAll (texts (words_of left)) (constraint_symbols ts right js)
constraint-then left ts right js first second third terms ends rest whole =
    let middle : List StepSymbol = key (codes ">=") ∷ integer right ∷ key (codes ";") ∷ [] in
    let front = then-spells left (flat_map term_symbols ts) middle (flat_map term_symbols ts ++ middle) first second (first + second) terms ends.spells refl refl in
    let all = then-spells left (flat_map term_symbols ts ++ middle) js (constraint_symbols ts right js) (first + second) third (first + second + third) front rest (sym (append_assoc (flat_map term_symbols ts) middle js)) refl in
    whole-line left (constraint_symbols ts right js) (first + second + third) all whole

pub rup-says : (left : List ℕ) (ts : List Term) (z right : ℤ) (ids : List ℕ) (first second third : ℕ) → z ≡ right → Spells left (flat_map term_symbols ts) first → AllByRecursion IsTerm ts → IsShort (behind left first) (key (codes ">=") ∷ integer right ∷ key (codes ";") ∷ []) second → unsigned_abs right < 2 ^ 126 → Spells (behind left (first + second)) (map number ids) third → AllByRecursion IsId ids → length left ≤ first + second + third → SaysBehind (codes "rup") left (Rup ts z ids)
rup-says left ts z right ids first second third same terms each ends small rest named whole =
    let said : SaysBehind (codes "rup") left (Rup ts right ids) = record {
      black = (refl, (refl, (refl, tt)));
      more = constraint_symbols ts right (map number ids);
      symbols = refl;
      spelled = constraint-then left ts right (map number ids) first second third terms ends rest whole;
      sayable = (each, small, named);
    } in
    subst (λ (y : ℤ). SaysBehind (codes "rup") left (Rup ts y ids)) (sym same) said

pub red-says : (left : List ℕ) (ts : List Term) (z right : ℤ) (s : Set) (sets : List Set) (first second third : ℕ) → z ≡ right → sets ≡ s ∷ [] → Spells left (flat_map term_symbols ts) first → AllByRecursion IsTerm ts → IsShort (behind left first) (key (codes ">=") ∷ integer right ∷ key (codes ";") ∷ []) second → unsigned_abs right < 2 ^ 126 → IsShort (behind left (first + second)) (set_symbols s) third → IsVariable s.var → length left ≤ first + second + third → SaysBehind (codes "red") left (Red ts z sets)
red-says left ts z right s sets first second third same one terms each ends small rest named whole =
    let said : SaysBehind (codes "red") left (Red ts right (s ∷ [])) = record {
      black = (refl, (refl, (refl, tt)));
      more = constraint_symbols ts right (set_symbols s);
      symbols = refl;
      spelled = constraint-then left ts right (set_symbols s) first second third terms ends rest.spells whole;
      sayable = (each, small, (named.0, named.1, tt));
    } in
    subst (λ (y : ℤ). SaysBehind (codes "red") left (Red ts y sets)) (sym same) (subst (λ (ss : List Set). SaysBehind (codes "red") left (Red ts right ss)) (sym one) said)

-- ---- steps

-- words that stand for the symbols of a step say it
says : (ws : List (List ℕ)) (s : Step) (k : List ℕ) (more : List StepSymbol) → step_symbols s ≡ StepSymbol.key k ∷ more → SpellAll ws (StepSymbol.key k ∷ more) → IsSayable s → WordsSay ws s
says ws Blank k more same spelled sayable = let no : ⊥ = cc in absurd no
says ws Head k more same spelled sayable = (subst (SpellAll ws) (sym same) spelled, sayable)
says ws (Loaded n) k more same spelled sayable = (subst (SpellAll ws) (sym same) spelled, sayable)
says ws (Pol ops) k more same spelled sayable = (subst (SpellAll ws) (sym same) spelled, sayable)
says ws (Rup ts right ids) k more same spelled sayable = (subst (SpellAll ws) (sym same) spelled, sayable)
says ws (Red ts right sets) k more same spelled sayable = (subst (SpellAll ws) (sym same) spelled, sayable)
says ws (Del ids) k more same spelled sayable = (subst (SpellAll ws) (sym same) spelled, sayable)
says ws (Out id) k more same spelled sayable = (subst (SpellAll ws) (sym same) spelled, sayable)
says ws End k more same spelled sayable = (subst (SpellAll ws) (sym same) spelled, sayable)

-- a line whose first three bytes are a verb
verb-reads : (line k : List ℕ) (s : Step) → 3 ≤ length line → goes_on (drop 3 line) ≡ false → take 3 line ≡ k → IsBlack k → SaysBehind k (drop 3 line) s → step_of line ≡ Ok s
verb-reads line k s long ends first black said =
    let spells = word-spells line 3 (key k) (omega arith) long (subst IsBlack (sym first) black) ends first in
    let all : SpellAll (texts (words_of line)) (key k ∷ said.more) = spells said.more said.spelled in
    said_is (length line + 1) (words_of line) s (says (texts (words_of line)) s k said.more said.symbols all said.sayable)

-- what is said behind it is read
pub all-read : {E : Type 0} (line verb left : List ℕ) (r : Result (Option Step) E) → 3 ≤ length line → goes_on (drop 3 line) ≡ false → verb ≡ take 3 line → left ≡ drop 3 line → IfOk r (λ found. IfSome found (SaysBehind verb left)) → IfOk r (λ found. IfSome found (λ s. step_of line ≡ Ok s))
all-read line verb left (Ok (Some s)) long ends verb_is left_is said = verb-reads line verb s long ends (sym verb_is) said.black (subst (λ (bytes : List ℕ). SaysBehind verb bytes s) left_is said)
all-read line verb left (Ok None) long ends verb_is left_is said = tt
all-read line verb left (Err e) long ends verb_is left_is said = tt
