-- Each token that is read adds its kind at the end, and what was read so far begins a text.
use Rattle.std.proofs.Common.{◌≡◌, List, [], ◌∷◌, ◌++◌, Option, Some, None, Bool, true, false, cond, ℤ, pos, IsTrue, sym, refl, ap, ◌∙◌, subst, append_assoc, append-nil}
use Rattle.std.specs.List.{flat_map}
use Rattle.std.specs.Option.{option_and_then}
use Rattle.std.proofs.lemmas.List.{flat_map_more, map-append}
use Rattle.pb_named.specs.declared.named.NamedLit.{NamedLit}
use Rattle.pb_named.specs.NamedTerms.{NamedTerm, with_literal}
use Rattle.pb_base.specs.declared.problem.Relation.{Relation}
use Rattle.pb_base.specs.declared.problem.Relation.TheVariants.{AtLeast}
use Rattle.pb_named.specs.declared.named.NamedStatement.{NamedStatement}
use Rattle.pb_base.specs.declared.expected.Expected.TheVariants.{TermOrRelation, TermOrSemicolon}
use Rattle.pb_opb.specs.declared.stage.Part.{Part}
use Rattle.pb_opb.specs.declared.stage.Part.TheVariants.{Objective, Statement}
use Rattle.pb_opb.specs.declared.stage.Stage.{Stage}
use Rattle.pb_opb.specs.declared.stage.Stage.TheVariants.{Start, Next, Minimised, Coefficient, Literals, Related, Right}
use Rattle.pb_opb.specs.Grammar.{Kind, term_kinds, sum_kinds, objective_kinds, statement_kinds, text_kinds}
use Rattle.pb_named.specs.declared.named.NamedProblem.{NamedProblem}
use Rattle.pb_opb.specs.Grammar.Kind.{minimise, integer, literal, relation, semicolon, end}
use Rattle.pb_opb.specs.Faults.{Begins, allows, tells, Expects}
use Rattle.pb_opb.specs.reader.Automaton.{ReaderState, expected, takes, move, step, run}
use Rattle.pb_opb.specs.reader.Automaton.ReaderState.{start, literals}
use Rattle.pb_opb.specs.reader.Front.{front_kinds, part_kinds, state_of, first, raw, written_of, complete, IsOpen, Ends, IsPlaced, IsFront}
use Rattle.pb_opb.specs.reader.Steps.{Leads, MayEndObjective}
use Rattle.pb_opb.proofs.Runs.{run-append, refused}

-- a term with one literal more
pub term-further : (t : NamedTerm) (l : NamedLit) → term_kinds (with_literal t l) ≡ term_kinds t ++ literal l ∷ []
term-further t l = ap (λ (ks : List Kind). integer t.coef ∷ literal t.lit ∷ ks) (map-append literal t.more (l ∷ []))

module _ (o : Option (List NamedTerm)) (ss : List NamedStatement) where
  -- what stands before the open part
  abbrev closed : List Kind
  closed = objective_kinds o ++ flat_map statement_kinds ss

  pub add-coefficient : (part : Part) (ts : List NamedTerm) (c : ℤ) → front_kinds o ss (Literals part) ts ++ integer c ∷ [] ≡ front_kinds o ss (Coefficient part c) ts
  add-coefficient part ts c = simp append_assoc

  pub add-literal : (part : Part) (ts : List NamedTerm) (c : ℤ) (l : NamedLit) → front_kinds o ss (Coefficient part c) ts ++ literal l ∷ [] ≡ front_kinds o ss (Literals part) (ts ++ record { coef = c; lit = l; more = [] } ∷ [])
  add-literal part ts c l = rw (← flat_map_more) (simp append_assoc)

  pub sum-last : (part : Part) (front : List NamedTerm) (t : NamedTerm) → front_kinds o ss (Literals part) (front ++ t ∷ []) ≡ front_kinds o ss (Literals part) front ++ term_kinds t
  sum-last part front t =
      ap (λ (ks : List Kind). closed ++ ks) (sym (flat_map_more term_kinds (part_kinds part) front t)) ∙ sym (append_assoc closed (part_kinds part ++ sum_kinds front) (term_kinds t))

  pub add-further : (part : Part) (front : List NamedTerm) (t : NamedTerm) (l : NamedLit) → front_kinds o ss (Literals part) (front ++ t ∷ []) ++ literal l ∷ [] ≡ front_kinds o ss (Literals part) (front ++ with_literal t l ∷ [])
  add-further part front t l =
      let before = front_kinds o ss (Literals part) front in
      ap (λ (ks : List Kind). ks ++ literal l ∷ []) (sum-last part front t) ∙ append_assoc before (term_kinds t) (literal l ∷ [])
      ∙ ap (λ (ks : List Kind). before ++ ks) (sym (term-further t l)) ∙ sym (sum-last part front (with_literal t l))

  pub add-relation : (ts : List NamedTerm) (r : Relation) → front_kinds o ss (Literals Statement) ts ++ relation r ∷ [] ≡ front_kinds o ss (Related r) ts
  add-relation ts r = simp append_assoc

  pub add-right : (ts : List NamedTerm) (r : Relation) (n : ℤ) → front_kinds o ss (Related r) ts ++ integer n ∷ [] ≡ front_kinds o ss (Right r n) ts
  add-right ts r n = simp append_assoc

  pub add-statement : (s : NamedStatement) → front_kinds o ss (Right s.relation s.right) s.terms ++ semicolon ∷ [] ≡ front_kinds o (ss ++ s ∷ []) Next []
  add-statement s =
      let regrouped : front_kinds o ss (Right s.relation s.right) s.terms ++ semicolon ∷ [] ≡ closed ++ statement_kinds s = simp append_assoc in
      regrouped ∙ flat_map_more statement_kinds (objective_kinds o) ss s ∙ sym (append-nil (objective_kinds o ++ flat_map statement_kinds (ss ++ s ∷ [])))

pub add-objective : (ts : List NamedTerm) → front_kinds None [] (Literals Objective) ts ++ semicolon ∷ [] ≡ front_kinds (Some ts) [] Next []
add-objective ts = simp append-nil

-- the written_of's tokens begin with these
pub record Reaches (p : NamedProblem) (ks : List Kind) : Type 0 where
  pub rest : List Kind
  pub same : text_kinds p ≡ ks ++ rest

begins : {p : NamedProblem} {ks : List Kind} → Reaches p ks → Begins ks
begins {p} r = (p, r.rest, r.same)

reaches-before : {p : NamedProblem} {ls : List Kind} (ks : List Kind) (k : Kind) → ks ++ k ∷ [] ≡ ls → Reaches p ls → Reaches p ks
reaches-before ks k same r = record {
  rest = k ∷ r.rest;
  same = r.same ∙ ap (λ (xs : List Kind). xs ++ r.rest) (sym same) ∙ append_assoc ks (k ∷ []) r.rest;
}

reaches-next : (o : Option (List NamedTerm)) (ss : List NamedStatement) → Reaches (written_of o ss) (front_kinds o ss Next [])
reaches-next o ss = record { rest = end ∷ []; same = simp append-nil }

reaches-right : (o : Option (List NamedTerm)) (ss : List NamedStatement) (ts : List NamedTerm) (r : Relation) (n : ℤ) → Reaches (written_of o (ss ++ raw ts r n ∷ [])) (front_kinds o ss (Right r n) ts)
reaches-right o ss ts r n = reaches-before (front_kinds o ss (Right r n) ts) semicolon (add-statement o ss (raw ts r n)) (reaches-next o (ss ++ raw ts r n ∷ []))

reaches-related : (o : Option (List NamedTerm)) (ss : List NamedStatement) (ts : List NamedTerm) (r : Relation) → Reaches (written_of o (ss ++ raw ts r (pos 0) ∷ [])) (front_kinds o ss (Related r) ts)
reaches-related o ss ts r = reaches-before (front_kinds o ss (Related r) ts) (integer (pos 0)) (add-right o ss ts r (pos 0)) (reaches-right o ss ts r (pos 0))

reaches-sum : (o : Option (List NamedTerm)) (ss : List NamedStatement) (part : Part) (ts : List NamedTerm) → IsOpen o ss part → Reaches (complete o ss (Literals part) ts) (front_kinds o ss (Literals part) ts)
reaches-sum o ss Statement ts placed = reaches-before (front_kinds o ss (Literals Statement) ts) (relation AtLeast) (add-relation o ss ts AtLeast) (reaches-related o ss ts AtLeast)
reaches-sum o ss Objective ts placed =
    let none : front_kinds o ss (Literals Objective) ts ≡ front_kinds None [] (Literals Objective) ts = rw (placed.0, placed.1) refl in
    reaches-before (front_kinds o ss (Literals Objective) ts) semicolon (ap (λ (ks : List Kind). ks ++ semicolon ∷ []) none ∙ add-objective ts ∙ ap (λ (xs : List NamedStatement). front_kinds (Some ts) xs Next []) (sym placed.1)) (reaches-next (Some ts) ss)

reaches-coefficient : (o : Option (List NamedTerm)) (ss : List NamedStatement) (part : Part) (c : ℤ) (ts : List NamedTerm) → IsOpen o ss part → Reaches (complete o ss (Coefficient part c) ts) (front_kinds o ss (Coefficient part c) ts)
reaches-coefficient o ss Statement c ts placed = reaches-before (front_kinds o ss (Coefficient Statement c) ts) (literal (first c).lit) (add-literal o ss Statement ts c (first c).lit) (reaches-sum o ss Statement (ts ++ first c ∷ []) placed)
reaches-coefficient o ss Objective c ts placed = reaches-before (front_kinds o ss (Coefficient Objective c) ts) (literal (first c).lit) (add-literal o ss Objective ts c (first c).lit) (reaches-sum o ss Objective (ts ++ first c ∷ []) placed)

-- What was read so far begins the text of its shortest end.
pub reaches : (o : Option (List NamedTerm)) (ss : List NamedStatement) (stage : Stage) (ts : List NamedTerm) → IsPlaced o ss stage ts → Reaches (complete o ss stage ts) (front_kinds o ss stage ts)
reaches o ss Start ts placed = reaches-next o ss
reaches o ss Next ts placed = reaches-next o ss
reaches o ss Minimised ts placed = subst (λ (us : List NamedTerm). Reaches (written_of (Some us) ss) (front_kinds o ss Minimised us)) (sym placed.2) (reaches-sum o ss Objective [] (placed.0, placed.1))
reaches o ss (Literals Statement) ts placed = reaches-sum o ss Statement ts tt
reaches o ss (Literals Objective) ts placed = reaches-sum o ss Objective ts placed.0
reaches o ss (Coefficient Statement c) ts placed = reaches-coefficient o ss Statement c ts tt
reaches o ss (Coefficient Objective c) ts placed = reaches-coefficient o ss Objective c ts placed
reaches o ss (Related r) ts placed = reaches-related o ss ts r
reaches o ss (Right r n) ts placed = reaches-right o ss ts r n

begins-next : (o : Option (List NamedTerm)) (ss : List NamedStatement) → Begins (front_kinds o ss Next [])
begins-next o ss = begins (reaches o ss Next [] refl)

begins-right : (o : Option (List NamedTerm)) (ss : List NamedStatement) (ts : List NamedTerm) (r : Relation) (n : ℤ) → Begins (front_kinds o ss (Right r n) ts)
begins-right o ss ts r n = begins (reaches o ss (Right r n) ts tt)

begins-related : (o : Option (List NamedTerm)) (ss : List NamedStatement) (ts : List NamedTerm) (r : Relation) → Begins (front_kinds o ss (Related r) ts)
begins-related o ss ts r = begins (reaches o ss (Related r) ts tt)

pub begins-sum : (o : Option (List NamedTerm)) (ss : List NamedStatement) (part : Part) (ts : List NamedTerm) → IsOpen o ss part → Begins (front_kinds o ss (Literals part) ts)
begins-sum o ss part ts before = begins (reaches-sum o ss part ts before)

begins-objective : (ts : List NamedTerm) → Begins (front_kinds None [] (Literals Objective) ts)
begins-objective ts = begins-sum None [] Objective ts (refl, refl)

begins-coefficient : (o : Option (List NamedTerm)) (ss : List NamedStatement) (ts : List NamedTerm) (c : ℤ) → Begins (front_kinds o ss (Coefficient Statement c) ts)
begins-coefficient o ss ts c = begins (reaches o ss (Coefficient Statement c) ts tt)

elim_allowed : (b : Bool) → (b ≡ false → ⊥) → IsTrue b
elim_allowed true h = refl
elim_allowed false h = absurd (h refl)

-- what does not go on leads nowhere
stuck : (s : ReaderState) (k : Kind) → takes s k ≡ false → step s k ≡ None
stuck s k h = rw h refl

-- what is told as not allowed does not go on, and what is allowed does
told-takes : (s : ReaderState) (k : Kind) → IsTrue (tells (expected s) k) → allows (expected s) k ≡ false → takes s k ≡ false
told-takes (literals Objective) (literal l) told h = cc
told-takes (literals Statement) (literal l) told h = cc
told-takes _ _ told h = h

allowed-takes : (s : ReaderState) (k : Kind) → allows (expected s) k ≡ true → takes s k ≡ true
allowed-takes (literals part) (literal l) h = refl
allowed-takes _ _ h = h

after-sum : (o : Option (List NamedTerm)) (ss : List NamedStatement) (ts : List NamedTerm) (k : Kind) → allows TermOrRelation k ≡ true → Begins (front_kinds o ss (Literals Statement) ts ++ k ∷ [])
after-sum o ss ts (integer c) h = rw add-coefficient (begins-coefficient o ss ts c)
after-sum o ss ts (relation r) h = rw add-relation (begins-related o ss ts r)
after-sum o ss ts _ h = cc

after-objective : (o : Option (List NamedTerm)) (ss : List NamedStatement) (ts : List NamedTerm) (k : Kind) → IsOpen o ss Objective → allows TermOrSemicolon k ≡ true → Begins (front_kinds o ss (Literals Objective) ts ++ k ∷ [])
after-objective o ss ts (integer c) before h = rw (before.0, before.1) (subst Begins (sym (add-coefficient None [] Objective ts c)) (begins (reaches None [] (Coefficient Objective c) ts (refl, refl))))
after-objective o ss ts semicolon before h = rw (before.0, before.1) (subst Begins (sym (add-objective ts)) (begins-next (Some ts) []))
after-objective o ss ts _ before h = cc

after-further : (o : Option (List NamedTerm)) (ss : List NamedStatement) (part : Part) (ts : List NamedTerm) (l : NamedLit) → IsOpen o ss part → Ends ts → Begins (front_kinds o ss (Literals part) ts ++ literal l ∷ [])
after-further o ss part ts l before ends =
    subst (λ (us : List NamedTerm). Begins (front_kinds o ss (Literals part) us ++ literal l ∷ [])) (sym ends.is)
    (subst Begins (sym (add-further o ss part ends.front ends.last l)) (begins-sum o ss part (ends.front ++ with_literal ends.last l ∷ []) before))

after-end : (o : Option (List NamedTerm)) (ss : List NamedStatement) → Begins (front_kinds o ss Next [] ++ end ∷ [])
after-end o ss = (record { objective = o; statements = ss }, [], simp (append_assoc, append-nil))

pub begins-after : (o : Option (List NamedTerm)) (ss : List NamedStatement) (stage : Stage) (ts : List NamedTerm) (k : Kind) → IsPlaced o ss stage ts → takes (state_of stage) k ≡ true → Begins (front_kinds o ss stage ts ++ k ∷ [])
begins-after o ss Start ts minimise placed h = rw (placed.0, placed.1) (begins-objective [])
begins-after o ss Start ts (integer c) placed h = after-sum o ss [] (integer c) refl
begins-after o ss Start ts (relation r) placed h = after-sum o ss [] (relation r) refl
begins-after o ss Start ts end placed h = after-end o ss
begins-after o ss Start ts _ placed h = cc
begins-after o ss Next ts (integer c) placed h = after-sum o ss [] (integer c) refl
begins-after o ss Next ts (relation r) placed h = after-sum o ss [] (relation r) refl
begins-after o ss Next ts end placed h = after-end o ss
begins-after o ss Next ts _ placed h = cc
begins-after o ss Minimised ts k placed h = after-objective o ss [] k (placed.0, placed.1) h
begins-after o ss (Coefficient part c) ts (literal l) placed h = subst Begins (sym (add-literal o ss part ts c l)) (begins-sum o ss part (ts ++ record { coef = c; lit = l; more = [] } ∷ []) placed)
begins-after o ss (Coefficient part c) ts _ placed h = cc
begins-after o ss (Literals part) ts (literal l) placed h = after-further o ss part ts l placed.0 placed.1
begins-after o ss (Literals Statement) ts (integer c) placed h = after-sum o ss ts (integer c) refl
begins-after o ss (Literals Statement) ts (relation r) placed h = after-sum o ss ts (relation r) refl
begins-after o ss (Literals Statement) ts _ placed h = cc
begins-after o ss (Literals Objective) ts (integer c) placed h = after-objective o ss ts (integer c) placed.0 refl
begins-after o ss (Literals Objective) ts semicolon placed h = after-objective o ss ts semicolon placed.0 refl
begins-after o ss (Literals Objective) ts _ placed h = cc
begins-after o ss (Related r) ts (integer n) placed h = rw add-right (begins-right o ss ts r n)
begins-after o ss (Related r) ts _ placed h = cc
begins-after o ss (Right r n) ts semicolon placed h =
    let s : NamedStatement = record { terms = ts; relation = r; right = n } in
    subst Begins (sym (add-statement o ss s)) (begins-next o (ss ++ s ∷ []))
begins-after o ss (Right r n) ts _ placed h = cc

module _ (o : Option (List NamedTerm)) (ss : List NamedStatement) (stage : Stage) (ts : List NamedTerm) (front : IsFront o ss stage ts) where
  -- what does not go on begins no text
  pub front-refused : (k : Kind) → takes (state_of stage) k ≡ false → Begins (front_kinds o ss stage ts ++ k ∷ []) → ⊥
  front-refused k h = refused (front_kinds o ss stage ts) k (state_of stage) front.runs (stuck (state_of stage) k h)

  -- a stage tells what could stand there
  pub front-expects : Expects (expected (state_of stage)) (front_kinds o ss stage ts)
  front-expects k told = (
    λ begins. elim_allowed (allows (expected (state_of stage)) k) (λ none. front-refused k (told-takes (state_of stage) k told none) begins),
    λ allowed. begins-after o ss stage ts k front.placed (allowed-takes (state_of stage) k allowed),
  )

-- the automaton goes along
pub keeps : (o p : Option (List NamedTerm)) (ss rs : List NamedStatement) (here there : Stage) (ts us : List NamedTerm) (k : Kind) → IsFront o ss here ts → front_kinds p rs there us ≡ front_kinds o ss here ts ++ k ∷ [] → takes (state_of here) k ≡ true → move (state_of here) k ≡ state_of there → IsPlaced p rs there us → IsFront p rs there us
keeps o p ss rs here there ts us k front same taken moves placed = record {
  placed = placed;
  runs = ap (run start) same ∙ run-append (front_kinds o ss here ts) (k ∷ []) start ∙ ap (option_and_then (λ t. run t (k ∷ []))) front.runs
      ∙ ap (λ (b : Bool). option_and_then (λ t. run t []) (cond b (Some (move (state_of here) k)) None)) taken ∙ ap Some moves;
}

pub took-step : (o : Option (List NamedTerm)) (ss : List NamedStatement) (here there : Stage) (ts : List NamedTerm) (k : Kind) → Leads here k there → IsFront o ss here ts → IsFront o ss there ts
took-step o ss here there ts k leads front =
    keeps o o ss ss here there ts ts k front (leads.kinds o ss ts front.placed) leads.taken leads.moves (leads.placed o ss ts front.placed)

-- what a reader is after a token
pub record IsTaken (o p : Option (List NamedTerm)) (ss rs : List NamedStatement) (here there : Stage) (ts us : List NamedTerm) (k : Kind) : Type 0 where
  pub front : IsFront p rs there us
  pub kinds : front_kinds p rs there us ≡ front_kinds o ss here ts ++ k ∷ []

pub took-statement : (o : Option (List NamedTerm)) (ss rs : List NamedStatement) (stage : Stage) (ts us : List NamedTerm) (s : NamedStatement) (k : Kind) → (stage ≡ Right s.relation s.right) × (k ≡ semicolon) → rs ≡ ss ++ s ∷ [] → s.terms ≡ ts → us ≡ [] → IsFront o ss stage ts → IsTaken o o ss rs stage Next ts us k
took-statement o ss rs stage ts us s k (at, says) more terms none front =
    let same : front_kinds o rs Next us ≡ front_kinds o ss stage ts ++ k ∷ [] =
    ap (λ (xs : List NamedStatement). front_kinds o xs Next us) more ∙ sym (add-statement o ss s)
    ∙ ap (λ (xs : List NamedTerm). front_kinds o ss (Right s.relation s.right) xs ++ semicolon ∷ []) terms
    ∙ ap (λ (l : Kind). front_kinds o ss (Right s.relation s.right) ts ++ l ∷ []) (sym says)
    ∙ ap (λ (g : Stage). front_kinds o ss g ts ++ k ∷ []) (sym at) in
    record {
      front = keeps o o ss rs stage Next ts us k front same (rw (at, says) refl) (rw (at, says) refl) none;
      kinds = same;
    }

-- where an objective ends, it is the open sum
end-kinds : (o : Option (List NamedTerm)) (ss : List NamedStatement) (stage : Stage) (ts : List NamedTerm) → MayEndObjective stage → IsPlaced o ss stage ts → (front_kinds o ss stage ts ≡ front_kinds None [] (Literals Objective) ts) × (ss ≡ [])
end-kinds o ss Minimised ts ends placed = (rw (placed.0, placed.1, placed.2) refl, placed.1)
end-kinds o ss (Literals Objective) ts ends placed = (rw (placed.0.0, placed.0.1) refl, placed.0.1)
end-kinds o ss _ ts ends placed = absurd ends

end-moves : (stage : Stage) → MayEndObjective stage → (takes (state_of stage) semicolon ≡ true) × (move (state_of stage) semicolon ≡ state_of Next)
end-moves Minimised ends = (refl, refl)
end-moves (Literals Objective) ends = (refl, refl)
end-moves _ ends = absurd ends

pub took-objective : (o p : Option (List NamedTerm)) (ss : List NamedStatement) (stage : Stage) (ts us : List NamedTerm) (k : Kind) → MayEndObjective stage × (k ≡ semicolon) → p ≡ Some ts → us ≡ [] → IsFront o ss stage ts → IsTaken o p ss ss stage Next ts us k
took-objective o p ss stage ts us k (ends, says) some none front =
    let parts = end-kinds o ss stage ts ends front.placed in
    let moves = end-moves stage ends in
    let same : front_kinds p ss Next us ≡ front_kinds o ss stage ts ++ k ∷ [] =
    ap (λ (q : Option (List NamedTerm)). front_kinds q ss Next us) some
    ∙ ap (λ (xs : List NamedStatement). front_kinds (Some ts) xs Next us) parts.1
    ∙ sym (add-objective ts)
    ∙ ap (λ (ks : List Kind). ks ++ semicolon ∷ []) (sym parts.0)
    ∙ ap (λ (l : Kind). front_kinds o ss stage ts ++ l ∷ []) (sym says) in
    record {
      front = keeps o p ss ss stage Next ts us k front same (ap (takes (state_of stage)) says ∙ moves.0) (ap (move (state_of stage)) says ∙ moves.1) none;
      kinds = same;
    }

-- the text ends between statements alone
pub end-refused : (stage : Stage) → (stage ≡ Start → ⊥) → (stage ≡ Next → ⊥) → takes (state_of stage) end ≡ false
end-refused Start s n = absurd (s refl)
end-refused Next s n = absurd (n refl)
end-refused Minimised s n = refl
end-refused (Literals Objective) s n = refl
end-refused (Literals Statement) s n = refl
end-refused (Coefficient part c) s n = refl
end-refused (Related r) s n = refl
end-refused (Right r c) s n = refl
