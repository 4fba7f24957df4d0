-- Lines whose words stand behind one blank each, and what they tell.
use Rattle.std.proofs.Common.{◌≡◌, ◌<◌, ◌+◌, ◌-◌, ◌^◌, ℕ, List, [], ◌∷◌, ◌++◌, length, map, take, drop, Option, Some, None, sym, ap, ◌∙◌, subst, arith, append_assoc, length-drop, drop-drop, drop_of_length-le}
use Rattle.std.specs.Prelude.{pos, Result, Ok, Err, IfOk, IfSome, codes}
use Rattle.std.specs.List.{AllByRecursion}
use Rattle.std.proofs.lemmas.List.{map-append}
use Rattle.pb_base.specs.declared.literal.Lit.{Lit}
use Rattle.pb_base.specs.Numbers.{integer_of, natural_of}
use Rattle.pb_base.specs.Words.{words_of}
use Rattle.pb_dimacs.specs.CnfReading.{clause_numbers, literal_number, IsLitWithin}
use Rattle.pb_dimacs.proofs.QuickWords.{digits-black}
use Rattle.pb_steps.specs.Fronts.{IsNumberAt, IsShort, Spells}
use Rattle.pb_steps.specs.Sayable.{IsId}
use Rattle.pb_steps.specs.StepGrammar.{SpellAll, StepSymbol, texts}
use Rattle.pb_steps.specs.StepGrammar.StepSymbol.{integer, key, number}
use Rattle.pb_steps.proofs.Shorts.{behind_front, word-spells}
use Rattle.pb_lrat.specs.declared.said.Said.{Said}
use Rattle.pb_lrat.specs.declared.said.Said.TheVariants.{Adds, Deletes}
use Rattle.pb_lrat.specs.LratGrammar.{id_symbols}
use Rattle.pb_lrat.specs.LratLines.{said_of}
use Rattle.pb_lrat.specs.inner.Quick.{TellsBehind}
use Rattle.pb_lrat.proofs.Spelling.{said_is}

abbrev behind : List ℕ → ℕ → List ℕ
behind bytes n = take (length bytes - n) (drop n bytes)

abbrev SaidBy : List StepSymbol → List ℕ → Type 0
SaidBy ks bytes = SpellAll (texts (words_of bytes)) ks

-- ---- the word 0

zero-integer : (ws : List (List ℕ)) (rest : List StepSymbol) → SpellAll ws (key (codes "0") ∷ rest) → SpellAll ws (integer (pos 0) ∷ rest)
zero-integer [] rest h = absurd h
zero-integer (w ∷ ws) rest h = (ap integer_of h.0, h.1)

zero-number : (ws : List (List ℕ)) (rest : List StepSymbol) → SpellAll ws (key (codes "0") ∷ rest) → SpellAll ws (number 0 ∷ rest)
zero-number [] rest h = absurd h
zero-number (w ∷ ws) rest h = (ap natural_of h.0, h.1)

-- ---- what ends

pub ids-end : (left ids : List ℕ) (count : ℕ) → Spells left (map number ids) count → IsShort (behind left count) (key (codes "0") ∷ []) 2 → length left ≡ count + 2 → SpellAll (texts (words_of left)) (id_symbols ids)
ids-end left ids count spells zero whole =
    let none : drop 2 (behind left count) ≡ [] = drop_of_length-le (behind left count) {i = 2} (omega (arith, whole, ap (λ (bytes : List ℕ). length bytes) (behind_front left count), length-drop count left)) in
    let last = zero.spells [] (subst (SaidBy []) (sym none) tt) in
    spells (number 0 ∷ []) (subst (SaidBy (number 0 ∷ [])) (behind_front left count) (zero-number (texts (words_of (behind left count))) [] last))

-- a clause, its 0 and what follows
clause-then : (left : List ℕ) (ls : List Lit) (count : ℕ) (rest : List StepSymbol) → Spells left (map integer (map literal_number ls)) count → IsShort (behind left count) (key (codes "0") ∷ []) 2 → SaidBy rest (behind left (count + 2)) → SaidBy (map integer (clause_numbers ls) ++ rest) left
clause-then left ls count rest spells zero later =
    let at : behind left (count + 2) ≡ drop 2 (behind left count) = behind_front left (count + 2) ∙ sym (drop-drop 2 count left) ∙ ap (λ (bytes : List ℕ). drop 2 bytes) (sym (behind_front left count)) in
    let here = zero-integer (texts (words_of (behind left count))) rest (zero.spells rest (subst (SaidBy rest) at later)) in
    let same : map integer (clause_numbers ls) ++ rest ≡ map integer (map literal_number ls) ++ integer (pos 0) ∷ rest =
    ap (λ (ks : List StepSymbol). ks ++ rest) (map-append integer (map literal_number ls) (pos 0 ∷ [])) ∙ append_assoc (map integer (map literal_number ls)) (integer (pos 0) ∷ []) rest in
    subst (λ (ks : List StepSymbol). SaidBy ks left) (sym same) (spells (integer (pos 0) ∷ rest) (subst (SaidBy (integer (pos 0) ∷ rest)) (behind_front left count) here))

-- ---- what is told

pub addition-tells : (vars id : ℕ) (left : List ℕ) (ls : List Lit) (hints : List ℕ) (count : ℕ) → Spells left (map integer (map literal_number ls)) count → IsShort (behind left count) (key (codes "0") ∷ []) 2 → SaidBy (id_symbols hints) (behind left (count + 2)) → IsId id → AllByRecursion (IsLitWithin vars) ls → AllByRecursion IsId hints → TellsBehind vars id left (Adds id ls hints)
addition-tells vars id left ls hints count spells zero later is lits ids = record {
  more = map integer (clause_numbers ls) ++ id_symbols hints;
  spelled = clause-then left ls count (id_symbols hints) spells zero later;
  tells = λ ws spelled. (spelled, is, lits, ids);
}

pub deletion-tells : (vars id : ℕ) (left ids : List ℕ) → IsShort left (key (codes "d") ∷ []) 2 → SaidBy (id_symbols ids) (behind left 2) → IsId id → AllByRecursion IsId ids → TellsBehind vars id left (Deletes ids)
deletion-tells vars id left ids mark later is each = record {
  more = key (codes "d") ∷ id_symbols ids;
  spelled = mark.spells (id_symbols ids) (subst (SaidBy (id_symbols ids)) (behind_front left 2) later);
  tells = λ ws spelled. (id, spelled, is, each);
}

line-is : (vars id count : ℕ) (line : List ℕ) (said : Said) → vars < 2 ^ 31 → IsNumberAt line id count → TellsBehind vars id (behind line count) said → said_of vars line ≡ Ok said
line-is vars id count line said few is told =
    let first = word-spells line count (number id) is.some is.within (digits-black (take count line) is.digits) is.ends is.value in
    said_is vars (length line + 1) (words_of line) said few (told.tells (texts (words_of line)) (first told.more (subst (SaidBy told.more) (behind_front line count) told.spelled)))

-- behind an id with which the line begins
pub line-reads : {E : Type 0} (vars id count : ℕ) (line : List ℕ) (r : Result (Option Said) E) → vars < 2 ^ 31 → IsNumberAt line id count → IfOk r (λ found. IfSome found (TellsBehind vars id (behind line count))) → IfOk r (λ found. IfSome found (λ said. said_of vars line ≡ Ok said))
line-reads vars id count line (Ok (Some said)) few is told = line-is vars id count line said few is told
line-reads vars id count line (Ok None) few is told = tt
line-reads vars id count line (Err e) few is told = tt
