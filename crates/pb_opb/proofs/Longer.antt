-- Where one literal leads to: it begins a term, or stands behind those of the last one.
use Rattle.std.proofs.Common.{◌≡◌, ◌+◌, List, [], ◌∷◌, ◌++◌, Option, true, ℤ, sym, refl, ap, ◌∙◌, subst, arith}
use Rattle.std.specs.Prelude.{length, unsigned_abs}
use Rattle.std.specs.List.{AllByRecursion}
use Rattle.std.proofs.lemmas.List.{length-append}
use Rattle.std.proofs.lemmas.List.Sums.{sum_by_push}
use Rattle.pb_named.specs.declared.named.NamedLit.{NamedLit}
use Rattle.pb_named.specs.declared.named.NamedStatement.{NamedStatement}
use Rattle.pb_named.specs.NamedTerms.{NamedTerm, lits_of, with_literal}
use Rattle.pb_named.proofs.Appends.{all-front}
use Rattle.pb_opb.specs.declared.stage.Part.{Part}
use Rattle.pb_opb.specs.declared.stage.Part.TheVariants.{Objective, Statement}
use Rattle.pb_opb.specs.declared.stage.Stage.{Stage}
use Rattle.pb_opb.specs.declared.stage.Stage.TheVariants.{Coefficient, Literals}
use Rattle.pb_opb.specs.Grammar.{Kind}
use Rattle.pb_opb.specs.Grammar.Kind.{literal}
use Rattle.pb_opb.specs.Limits.{named_magnitude, literal_count, IsNear, IsModest, AllLits}
use Rattle.pb_opb.specs.reader.Automaton.{takes, move}
use Rattle.pb_opb.specs.reader.Front.{front_kinds, state_of, open_weight, begun_statements, IsOpen, Ends, IsPlaced, IsFront}
use Rattle.pb_opb.specs.reader.Moves.{IsLonger}
use Rattle.pb_opb.specs.reader.Steps.{TakesLiteral}
use Rattle.pb_opb.proofs.Fronts.{add-literal, add-further, keeps, IsTaken}

-- the terms with one literal more
pub record Longer (stage : Stage) (part : Part) (ts us : List NamedTerm) (l : NamedLit) : Type 0 where
  pub ends : Ends us
  pub kinds : (o : Option (List NamedTerm)) (ss : List NamedStatement) → front_kinds o ss (Literals part) us ≡ front_kinds o ss stage ts ++ literal l ∷ []
  pub weight : named_magnitude us ≡ open_weight stage ts
  pub count : literal_count us ≡ literal_count ts + 1
  pub near : AllLits IsNear ts → IsNear l → AllLits IsNear us
  pub modest : AllLits IsModest ts → IsModest l → AllLits IsModest us
  pub begun : begun_statements (Literals part) ≡ begun_statements stage
  pub before : (o : Option (List NamedTerm)) (ss : List NamedStatement) → IsPlaced o ss stage ts → IsOpen o ss part
  pub taken : takes (state_of stage) (literal l) ≡ true
  pub moves : move (state_of stage) (literal l) ≡ state_of (Literals part)

pub all-push : {A : Type 0} (P : A → Type 0) (xs : List A) (x : A) → AllByRecursion P xs → P x → AllByRecursion P (xs ++ x ∷ [])
all-push P [] x h p = (p, tt)
all-push P (y ∷ ys) x h p = (h.0, all-push P ys x h.1 p)

all-last : {A : Type 0} (P : A → Type 0) (xs : List A) (x : A) → AllByRecursion P (xs ++ x ∷ []) → P x
all-last P [] x h = h.0
all-last P (y ∷ ys) x h = all-last P ys x h.1

pub named_magnitude-push : (ts : List NamedTerm) (t : NamedTerm) → named_magnitude (ts ++ t ∷ []) ≡ named_magnitude ts + unsigned_abs t.coef
named_magnitude-push ts t = sum_by_push (λ (u : NamedTerm). unsigned_abs u.coef) ts t

pub literal_count-push : (ts : List NamedTerm) (t : NamedTerm) → literal_count (ts ++ t ∷ []) ≡ literal_count ts + length (lits_of t)
literal_count-push ts t = sum_by_push (λ (u : NamedTerm). length (lits_of u)) ts t

same-begun : (part : Part) (c : ℤ) → begun_statements (Literals part) ≡ begun_statements (Coefficient part c)
same-begun Objective c = refl
same-begun Statement c = refl

coefficient-moves : (part : Part) (c : ℤ) (l : NamedLit) → move (state_of (Coefficient part c)) (literal l) ≡ state_of (Literals part)
coefficient-moves Objective c l = refl
coefficient-moves Statement c l = refl

literals-moves : (part : Part) (l : NamedLit) → move (state_of (Literals part)) (literal l) ≡ state_of (Literals part)
literals-moves Objective l = refl
literals-moves Statement l = refl

all-term : (P : NamedLit → Type 0) (ts : List NamedTerm) (c : ℤ) (l : NamedLit) → AllLits P ts → P l → AllLits P (ts ++ record { coef = c; lit = l; more = [] } ∷ [])
all-term P ts c l h p = all-push (λ (u : NamedTerm). AllByRecursion P (lits_of u)) ts (record { coef = c; lit = l; more = [] }) h (p, tt)

all-longer : (P : NamedLit → Type 0) (front : List NamedTerm) (t : NamedTerm) (l : NamedLit) → AllLits P (front ++ t ∷ []) → P l → AllLits P (front ++ with_literal t l ∷ [])
all-longer P front t l h p =
    let Q = λ (u : NamedTerm). AllByRecursion P (lits_of u) in
    let last : AllByRecursion P (lits_of t) = all-last Q front t h in
    all-push Q front (with_literal t l) (all-front Q front (t ∷ []) h) (last.0, all-push P t.more l last.1 p)

pub longer-term : (part : Part) (c : ℤ) (ts : List NamedTerm) (l : NamedLit) → Longer (Coefficient part c) part ts (ts ++ record { coef = c; lit = l; more = [] } ∷ []) l
longer-term part c ts l = let t : NamedTerm = record { coef = c; lit = l; more = [] } in record {
  ends = record { front = ts; last = t; is = refl };
  kinds = λ o ss. sym (add-literal o ss part ts c l);
  weight = named_magnitude-push ts t;
  count = literal_count-push ts t;
  near = all-term IsNear ts c l;
  modest = all-term IsModest ts c l;
  begun = same-begun part c;
  before = λ o ss placed. placed;
  taken = refl;
  moves = coefficient-moves part c l;
}

-- of the last term
abbrev lengthened : List NamedTerm → NamedTerm → NamedLit → List NamedTerm
lengthened front t l = front ++ with_literal t l ∷ []

longer-last : (part : Part) (front : List NamedTerm) (t : NamedTerm) (l : NamedLit) → Longer (Literals part) part (front ++ t ∷ []) (lengthened front t l) l
longer-last part front t l = record {
  ends = record { front = front; last = with_literal t l; is = refl };
  kinds = λ o ss. sym (add-further o ss part front t l);
  weight = named_magnitude-push front (with_literal t l) ∙ sym (named_magnitude-push front t);
  count = omega (arith, literal_count-push front (with_literal t l), literal_count-push front t, length-append t.more (l ∷ []));
  near = all-longer IsNear front t l;
  modest = all-longer IsModest front t l;
  begun = refl;
  before = λ o ss placed. placed.0;
  taken = refl;
  moves = literals-moves part l;
}

pub longer-further : (part : Part) (ts us : List NamedTerm) (l : NamedLit) → IsLonger ts l us → Longer (Literals part) part ts us l
longer-further part ts us l longer =
    subst (λ (vs : List NamedTerm). Longer (Literals part) part ts vs l) (sym longer.is)
    (subst (λ (vs : List NamedTerm). Longer (Literals part) part vs (lengthened longer.front longer.last l) l) (sym longer.was) (longer-last part longer.front longer.last l))

-- a list with a last term is not empty
pub some-term : (ts : List NamedTerm) → Ends ts → length ts ≡ 0 → ⊥
some-term ts ends none = omega (arith, none, ap length ends.is, length-append ends.front (ends.last ∷ []))

-- what a literal makes of the open sum, where one may stand
pub record Lengthens (stage : Stage) (ts : List NamedTerm) (l : NamedLit) : Type 0 where
  pub part : Part
  pub terms : List NamedTerm
  pub longer : Longer stage part ts terms l

pub lengthens : (o : Option (List NamedTerm)) (ss : List NamedStatement) (stage : Stage) (ts : List NamedTerm) (l : NamedLit) → TakesLiteral stage → IsPlaced o ss stage ts → Lengthens stage ts l
lengthens o ss (Coefficient part c) ts l takes placed = record { part = part; terms = ts ++ record { coef = c; lit = l; more = [] } ∷ []; longer = longer-term part c ts l }
lengthens o ss (Literals part) ts l takes placed =
    let ends = placed.1 in
    let terms = lengthened ends.front ends.last l in
    record { part = part; terms = terms; longer = longer-further part ts terms l (record { front = ends.front; last = ends.last; was = ends.is; is = refl }) }
lengthens o ss _ ts l takes placed = absurd takes

pub took-longer : (o : Option (List NamedTerm)) (ss : List NamedStatement) (stage : Stage) (part : Part) (ts us : List NamedTerm) (l : NamedLit) (k : Kind) → Longer stage part ts us l → k ≡ literal l → IsFront o ss stage ts → IsTaken o o ss ss stage (Literals part) ts us k
took-longer o ss stage part ts us l k longer says front =
    let same : front_kinds o ss (Literals part) us ≡ front_kinds o ss stage ts ++ k ∷ [] = longer.kinds o ss ∙ ap (λ (m : Kind). front_kinds o ss stage ts ++ m ∷ []) (sym says) in
    record {
      front = keeps o o ss ss stage (Literals part) ts us k front same (ap (takes (state_of stage)) says ∙ longer.taken) (ap (move (state_of stage)) says ∙ longer.moves) (longer.before o ss front.placed, longer.ends);
      kinds = same;
    }
