-- What a reader answers along the tokens of a text, as what the text says.
use Rattle.std.proofs.Common.{◌≡◌, ℕ, List, [], ◌∷◌, ◌++◌, map, sym, refl, ap, ◌∙◌, subst, append_assoc, Option, Some, None, inl, inr, ◌^◌, ◌≤◌, ◌<◌, arith}
use Rattle.std.proofs.lemmas.List.{map-append}
use Rattle.pb_base.specs.declared.place.Place.{Place}
use Rattle.pb_base.specs.declared.problem.Problem.{Problem}
use Rattle.pb_base.specs.Problems.{originals}
use Rattle.pb_named.specs.declared.named.NamedProblem.{NamedProblem}
use Rattle.pb_named.specs.NamedProblems.{problem_of}
use Rattle.pb_base.specs.declared.limit.LimitKind.{LimitKind}
use Rattle.pb_base.specs.Places.{end_of}
use Rattle.pb_base.specs.Tokens.{Piece, tokens_of}
use Rattle.pb_opb.specs.declared.fault.Refusal.{Refusal}
use Rattle.pb_opb.specs.declared.fault.Refusal.TheVariants.{Unexpected, Limit, Memory}
use Rattle.pb_opb.specs.declared.fault.OpbFault.{OpbFault}
use Rattle.pb_opb.specs.declared.fault.OpbFault.TheVariants.{Token, NoMemory, Limit as OverLimit}
use Rattle.pb_opb.specs.Grammar.{Kind, kind_of, text_kinds}
use Rattle.pb_opb.specs.Grammar.Kind.{end}
use Rattle.pb_opb.specs.Faults.{Symbol, symbol, symbols_of, kinds, Spells, Says, Reads, HasTooMany, IsAdmitted, IsManyAt, TellsTooMany, Begins, Expects, IsAt, IsFirstFault, so_far}
use Rattle.pb_opb.specs.FirstLine.{Count, told, told_vars, vars_or_none}
use Rattle.pb_opb.specs.Limits.{Keeps, BeginsWithin, IsWithinEach}
use Rattle.pb_opb.proofs.Decode.{one_written}
use Rattle.pb_opb.specs.reader.Takes.{Refuses, Finishes, IsTokenFault, fault_at}

abbrev pub piece_kinds : List Piece → List Kind
piece_kinds ts = map (λ t. kind_of t.text) ts

pub kinds-symbols : (ts : List Piece) → kinds (map symbol ts) ≡ piece_kinds ts
kinds-symbols [] = refl
kinds-symbols (t ∷ ts) = ap (λ (ks : List Kind). kind_of t.text ∷ ks) (kinds-symbols ts)

-- a token of a text, after others
abbrev token_at : (text : List ℕ) (before : List Piece) (place : Place) (k : Kind) (after : List Symbol) → IsAdmitted text →
    symbols_of text ≡ map symbol before ++ record { place = place; kind = k } ∷ after → IsWithinEach (piece_kinds before) → IsAt text place
token_at text before place k after admitted cut fine =
    record { admitted = admitted; before = map symbol before; here = k; after = after; cut = cut; fine = subst IsWithinEach (sym (kinds-symbols before)) fine }

wrong : (text : List ℕ) (before : List Piece) (place : Place) (k : Kind) (after : List Symbol) (refusal : Refusal) → IsAdmitted text →
    symbols_of text ≡ map symbol before ++ record { place = place; kind = k } ∷ after → Refuses (piece_kinds before) k refusal → IsTokenFault text (fault_at place refusal)
wrong text before place k after (Unexpected e) admitted cut refused =
    let same = kinds-symbols before in
    record {
      at = token_at text before place k after admitted cut refused.2;
      wrong = λ begins. refused.0 (subst (λ (ks : List Kind). Begins (ks ++ k ∷ [])) same begins);
      expects = subst (Expects e) (sym same) refused.1;
    }
wrong text before place k after (Limit which) admitted cut refused =
    let same = kinds-symbols before in
    record {
      at = token_at text before place k after admitted cut refused.3;
      accepted = subst (λ (ks : List Kind). Begins (ks ++ k ∷ [])) (sym same) refused.0;
      over = λ begins. refused.1 (subst (λ (ks : List Kind). BeginsWithin which (ks ++ k ∷ [])) same begins);
      first = λ e earlier. subst (λ (ks : List Kind). BeginsWithin e (ks ++ k ∷ [])) (sym same) (refused.2 e earlier);
    }
wrong text before place k after Memory admitted cut refused = tt

symbols-cut : (text : List ℕ) (before rest : List Piece) (t : Piece) → tokens_of text ≡ before ++ t ∷ rest → symbols_of text ≡ map symbol before ++ symbol t ∷ (map symbol rest ++ record { place = end_of text; kind = end } ∷ [])
symbols-cut text before rest t cut =
    ap (λ (ts : List Piece). map symbol ts ++ record { place = end_of text; kind = end } ∷ []) cut ∙ ap (λ (xs : List Symbol). xs ++ record { place = end_of text; kind = end } ∷ []) (map-append symbol before (t ∷ rest)) ∙ append_assoc (map symbol before) (symbol t ∷ map symbol rest) _

-- a refusal of the token t
pub fault-at_token : (text : List ℕ) (before rest : List Piece) (t : Piece) (refusal : Refusal) → IsAdmitted text → tokens_of text ≡ before ++ t ∷ rest → Refuses (piece_kinds before) (kind_of t.text) refusal → IsTokenFault text (fault_at t.place refusal)
fault-at_token text before rest t refusal admitted cut refused = wrong text before t.place (kind_of t.text) _ refusal admitted (symbols-cut text before rest t cut) refused

-- a refusal of the text's end
pub fault-at_end : (text : List ℕ) (before : List Piece) (refusal : Refusal) → IsAdmitted text → tokens_of text ≡ before → Refuses (piece_kinds before) end refusal → IsTokenFault text (fault_at (end_of text) refusal)
fault-at_end text before refusal admitted cut refused =
    wrong text before (end_of text) end [] refusal admitted (ap (λ (ts : List Piece). map symbol ts ++ record { place = end_of text; kind = end } ∷ []) cut) refused

pub spells : (text : List ℕ) (before : List Piece) (w : NamedProblem) → tokens_of text ≡ before → Finishes (piece_kinds before) w → Spells text w
spells text before w cut f = map-append (λ (s : Symbol). s.kind) (map symbol (tokens_of text)) (record { place = end_of text; kind = end } ∷ [])
    ∙ ap (λ (ks : List Kind). ks ++ end ∷ []) (kinds-symbols (tokens_of text) ∙ ap piece_kinds cut) ∙ sym f.kinds

pub read-more : (before : List Piece) (t : Piece) → piece_kinds (before ++ t ∷ []) ≡ piece_kinds before ++ kind_of t.text ∷ []
read-more before t = map-append (λ (s : Piece). kind_of s.text) before (t ∷ [])

-- the tokens of a text up to one of them
pub said : (text : List ℕ) (w : NamedProblem) (place : Place) (at : IsAt text place) → Spells text w → text_kinds w ≡ so_far at ++ kinds at.after
said text w place at spelled =
    sym spelled ∙ ap kinds at.cut ∙ map-append (λ (s : Symbol). s.kind) at.before (record { place = place; kind = at.here } ∷ at.after) ∙ sym (append_assoc (kinds at.before) (at.here ∷ []) (kinds at.after))

many-vars : (o : Option Count) (place : Place) → IsManyAt o place → 2 ^ 31 ≤ vars_or_none o
many-vars None place many = absurd many
many-vars (Some c) place many = many.0

pub too_many : (text : List ℕ) (place : Place) → TellsTooMany text place → IsAdmitted text → ⊥
too_many text place tells admitted = let many = many-vars (told text) place tells.many in omega (arith, admitted.few)

-- a text that says a problem within the limits has no fault among its tokens
pub spells-no_fault : (text : List ℕ) (w : NamedProblem) (fault : OpbFault) → Spells text w → ((which : LimitKind) → Keeps which w) → IsTokenFault text fault → fault ≡ NoMemory
spells-no_fault text w (Token place e) spelled keeps wrong = absurd (wrong.wrong (w, kinds wrong.at.after, said text w place wrong.at spelled))
spells-no_fault text w (OverLimit None which) spelled keeps bad = absurd bad
spells-no_fault text w (OverLimit (Some place) which) spelled keeps great = absurd (great.over (w, kinds great.at.after, keeps which, said text w place great.at spelled))
spells-no_fault text w NoMemory spelled keeps fault = refl

pub says_one : (text : List ℕ) (p q : Problem) → Says text p → Says text q → p ≡ q
says_one text p q says other = says.means ∙ ap (problem_of (told_vars text)) (one_written says.written other.written (sym says.spells ∙ other.spells)) ∙ sym other.means

not-both : (text : List ℕ) (p : Problem) (place : Place) → Reads text p → HasTooMany text place → ⊥
not-both text p place reads many =
    let same = ap originals (says_one text p many.problem reads.says many.says) in
    omega (arith, reads.few, many.many, same)

pub reads-no_fault : (text : List ℕ) (p : Problem) (fault : OpbFault) → Reads text p → IsFirstFault text fault → fault ≡ NoMemory
reads-no_fault text p (Token place e) reads wrong = spells-no_fault text reads.says.written (Token place e) reads.says.spells reads.keeps wrong
reads-no_fault text p (OverLimit None which) reads long = absurd (let bytes = reads.admitted.bytes in let more = long.1 in omega arith)
reads-no_fault text p (OverLimit (Some place) which) reads (inl (is, inl many)) = absurd (too_many text place many reads.admitted)
reads-no_fault text p (OverLimit (Some place) which) reads (inl (is, inr many)) = absurd (not-both text p place reads many)
reads-no_fault text p (OverLimit (Some place) which) reads (inr great) = spells-no_fault text reads.says.written (OverLimit (Some place) which) reads.says.spells reads.keeps great
reads-no_fault text p NoMemory reads fault = refl

abbrev says-made : (text : List ℕ) (first : ℕ) (w : NamedProblem) (p : Problem) → first ≡ told_vars text → Spells text w → p ≡ problem_of first w → Says text p
says-made text first w p same spelled is = record { written = w; spells = spelled; means = is ∙ ap (λ (n : ℕ). problem_of n w) same }

pub reads-made : (text : List ℕ) (first : ℕ) (w : NamedProblem) (p : Problem) → IsAdmitted text → first ≡ told_vars text → Spells text w → ((which : LimitKind) → Keeps which w) → p ≡ problem_of first w → originals p < 2 ^ 31 → Reads text p
reads-made text first w p admitted same spelled keeps is few = record { admitted = admitted; says = says-made text first w p same spelled is; keeps = keeps; few = few }

pub many-made : (text : List ℕ) (first : ℕ) (w : NamedProblem) (place : Place) → IsAdmitted text → first ≡ told_vars text → Spells text w → ((which : LimitKind) → Keeps which w) → 2 ^ 31 ≤ originals (problem_of first w) → place ≡ end_of text → HasTooMany text place
many-made text first w place admitted same spelled keeps many last = record { admitted = admitted; problem = problem_of first w; says = says-made text first w (problem_of first w) same spelled refl; keeps = keeps; many = many; last = last }
