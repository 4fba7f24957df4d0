-- Constraints on a stack keep their room and their variables.
use Rattle.std.proofs.Common.{◌≡◌, ◌≤◌, ◌<◌, ℕ, zero, suc, ltb, length, get_or, List, [], ◌∷◌, ◌++◌, Bool, true, false, cond, arith, refl, ap, sym, ◌∙◌, subst, Option, Some, None, reverse}
use Rattle.std.specs.Prelude.{All, map, flat_map, unsigned_abs, option_and_then, option_map, is_some}
use Rattle.std.specs.Option.{option_or}
use Rattle.std.proofs.lemmas.Bool.{ltb-false, false≢true}
use Rattle.std.proofs.lemmas.List.{reverse-append}
use Rattle.std.proofs.lemmas.List.Elements.{All-nil, All-cons, All-head, All-tail, All-map, All-filter, All-weaker}
use Rattle.pb_base.specs.declared.literal.Lit.{Lit}
use Rattle.pb_base.proofs.Members.{All-append_both}
use Rattle.pb_norm.specs.Constraints.{Weighted, Constraint}
use Rattle.pb_norm.specs.Addition.{sum_of}
use Rattle.pb_norm.specs.Halves.{is_positive}
use Rattle.pb_norm.specs.Reduction.{cut_to}
use Rattle.pb_norm.proofs.Variables.{joined-vars}
use Rattle.pb_operations.proofs.Parts.{weight-filter, weight-narrow, degree-narrow, narrow-from}
use Rattle.pb_norm.specs.Constraints.{HasVarsWithin}
use Rattle.pb_steps.specs.declared.denied.Denied.{Denied}
use Rattle.pb_steps.specs.declared.denied.Denied.TheVariants.{Stack, UnknownVar, Width}
use Rattle.pb_steps.specs.declared.op.PolOp.{PolOp}
use Rattle.pb_steps.specs.declared.op.PolOp.TheVariants.{Push, Axiom, Add, Mul, Div, Saturate, Weaken}
use Rattle.pb_steps.specs.declared.step.Step.TheVariants.{Pol}
use Rattle.pb_steps.specs.Steps.{vars_of_op, IsSpelled}
use Rattle.pb_steps.specs.Operations.{is_narrow, IsNarrow, axiom_of, multiple, scaled, division, shrunk, saturation, weakening, is_other}
use Rattle.pb_steps.specs.Database.{Entry, Database, constraint_at, grown}
use Rattle.pb_steps.specs.Stacks.{after_op, after_ops, with_room, is_stacked}
use Rattle.pb_operations.specs.Room.{fitting}
use Rattle.pb_steps.specs.Allowed.{Allowed}
use Rattle.pb_steps.specs.Denials.{seen_denial, unless, unknown_var, unknown_id}
use Rattle.pb_steps.proofs.Searching.{none-some, from_unless-none, from_find-none, from_map-none}
use Rattle.pb_steps.proofs.Heights.{one_left}
use Rattle.pb_database.specs.Sound.{IsSound}
use Rattle.pb_rules.specs.inner.Tops.{done_op, topped, IsSoundConstraint, AreSoundConstraints, IsOutcome, IsOpOutcome}
use Rattle.pb_rules.specs.inner.Early.{early}
use Rattle.pb_database.proofs.SoundLemmas.{at-sound}
use Rattle.pb_rules.proofs.Seen.{by_elimination}

abbrev Within : ℕ → Weighted → Type 0
Within vars t = t.lit.var ≤ vars

room-fit : (vars : ℕ) (c : Constraint) (stack after : List Constraint) → HasVarsWithin vars c.terms → AreSoundConstraints vars stack → with_room (c ∷ stack) ≡ Some after → AreSoundConstraints vars after
room-fit vars c stack after within fit e = test (is_narrow c) refl e where
  test : (b : Bool) → is_narrow c ≡ b → cond {A = Option (List Constraint)} b (Some (c ∷ stack)) None ≡ Some after → AreSoundConstraints vars after
  test true narrow f = let same : c ∷ stack ≡ after = cc in subst (AreSoundConstraints vars) same (All-cons (IsSoundConstraint vars) c stack (record { narrow = narrow; within = within }) fit)
  test false narrow f = absurd (none-some after f)

-- an operation keeps them
pub done-fit : (vars : ℕ) (live : List Entry) (op : PolOp) (stack after : List Constraint) → All (IsSound vars) live → All (λ v. v ≤ vars) (vars_of_op op) → AreSoundConstraints vars stack → done_op live op stack ≡ Some after → AreSoundConstraints vars after
done-fit vars live (Push id) stack after sound known fit e = look (constraint_at live id) refl e where
  look : (o : Option Constraint) → constraint_at live id ≡ o → option_and_then with_room (option_map (λ (c : Constraint). c ∷ stack) o) ≡ Some after → AreSoundConstraints vars after
  look None f g = absurd (none-some after g)
  look (Some c) f g = room-fit vars c stack after (at-sound vars live id c sound f).1 fit g
done-fit vars live (Axiom l) stack after sound known fit e =
    room-fit vars (axiom_of l) stack after (All-cons (Within vars) (record { coef = 1; lit = l }) [] (All-head (λ v. v ≤ vars) l.var [] known) (All-nil (Within vars))) fit e
done-fit vars live Add [] after sound known fit e = absurd (none-some after e)
done-fit vars live Add (d ∷ []) after sound known fit e = absurd (none-some after e)
done-fit vars live Add (d ∷ c ∷ stack) after sound known fit e =
    let rest = All-tail (IsSoundConstraint vars) d (c ∷ stack) fit in
    room-fit vars (sum_of c d) stack after
    (joined-vars (λ v. v ≤ vars) c.terms d.terms (All-head (IsSoundConstraint vars) c stack rest).within (All-head (IsSoundConstraint vars) d (c ∷ stack) fit).within)
    (All-tail (IsSoundConstraint vars) c stack rest) e
done-fit vars live (Mul n) [] after sound known fit e = absurd (none-some after e)
done-fit vars live (Mul n) (c ∷ stack) after sound known fit e =
    room-fit vars (multiple (unsigned_abs n) c) stack after (All-map (Within vars) (scaled (unsigned_abs n)) c.terms (All-head (IsSoundConstraint vars) c stack fit).within) (All-tail (IsSoundConstraint vars) c stack fit) e
done-fit vars live (Div n) [] after sound known fit e = absurd (none-some after e)
done-fit vars live (Div n) (c ∷ stack) after sound known fit e =
    room-fit vars (division (unsigned_abs n) c) stack after (All-map (Within vars) (shrunk (unsigned_abs n)) c.terms (All-head (IsSoundConstraint vars) c stack fit).within) (All-tail (IsSoundConstraint vars) c stack fit) e
done-fit vars live Saturate [] after sound known fit e = absurd (none-some after e)
done-fit vars live Saturate (c ∷ stack) after sound known fit e =
    room-fit vars (saturation c) stack after (All-filter is_positive (Within vars) (map (cut_to c.degree) c.terms) (All-map (Within vars) (cut_to c.degree) c.terms (All-head (IsSoundConstraint vars) c stack fit).within)) (All-tail (IsSoundConstraint vars) c stack fit) e
done-fit vars live (Weaken v) [] after sound known fit e = absurd (none-some after e)
done-fit vars live (Weaken v) (c ∷ stack) after sound known fit e =
    room-fit vars (weakening v c) stack after (All-filter (is_other v) (Within vars) c.terms (All-head (IsSoundConstraint vars) c stack fit).within) (All-tail (IsSoundConstraint vars) c stack fit) e

pub after_ops-fit : (vars : ℕ) (live : List Entry) (ops : List PolOp) (stack after : List Constraint) → All (IsSound vars) live → All (λ v. v ≤ vars) (flat_map vars_of_op ops) → AreSoundConstraints vars stack → after_ops live ops stack ≡ Some after → AreSoundConstraints vars after
after_ops-fit vars live [] stack after sound known fit e = let same : stack ≡ after = cc in subst (AreSoundConstraints vars) same fit
after_ops-fit vars live (op ∷ ops) stack after sound known fit e =
    let parts = All-append_both (λ v. v ≤ vars) (vars_of_op op) (flat_map vars_of_op ops) known in
    step (done_op live op stack) (λ next f. done-fit vars live op stack next sound parts.0 fit f) (λ next g h. after_ops-fit vars live ops next after sound parts.1 h g) refl e
  where
    step : (o : Option (List Constraint)) → ((next : List Constraint) → done_op live op stack ≡ Some next → AreSoundConstraints vars next) → ((next : List Constraint) → after_ops live ops next ≡ Some after → AreSoundConstraints vars next → AreSoundConstraints vars after) →
        done_op live op stack ≡ o → option_and_then (after_ops live ops) o ≡ Some after → AreSoundConstraints vars after
    step None one rest f g = absurd (none-some after g)
    step (Some next) one rest f g = rest next g (one next f)

-- ---- the topmost of a list that is kept from the bottom

pub reverse_top : {X : Type 0} (old new : List X) (x : X) → old ≡ new ++ x ∷ [] → reverse old ≡ x ∷ reverse new
reverse_top old new x e = ap reverse e ∙ reverse-append new (x ∷ [])

pub top_has : {X : Type 0} (P : X → Type 0) (old new : List X) (x : X) → old ≡ new ++ x ∷ [] → All P (reverse old) → P x
top_has P old new x e h = All-head P x (reverse new) (subst (All P) (reverse_top old new x e) h)

pub only_top : {X : Type 0} (old new : List X) (x y : X) → old ≡ new ++ x ∷ [] → reverse old ≡ y ∷ [] → reverse old ≡ x ∷ []
only_top {X} old new x y e f =
    let both : x ∷ reverse new ≡ y ∷ [] = sym (reverse_top old new x e) ∙ f in
    let same : y ≡ x = cc in
    f ∙ ap (λ (z : X). z ∷ []) same

-- ---- what keeps its room

pub with_room-narrow : (c : Constraint) (stack : List Constraint) → IsNarrow c → with_room (c ∷ stack) ≡ Some (c ∷ stack)
with_room-narrow c stack h = ap (λ (b : Bool). cond {A = Option (List Constraint)} b (Some (c ∷ stack)) None) h

pub weakening-narrow : (v : ℕ) (c : Constraint) → IsNarrow c → IsNarrow (weakening v c)
weakening-narrow v c h = narrow-from (weakening v c) (omega (arith, weight-filter (is_other v) c.terms, weight-narrow c h)) (omega (arith, degree-narrow c h))

pub weakened-top : (v : ℕ) (old new after : List Constraint) (c made : Constraint) (done : Bool) → old ≡ new ++ c ∷ [] → All IsNarrow (reverse old) → made ≡ weakening v c → IsOutcome done (topped (Some made) (reverse new)) (reverse after) → IsOpOutcome [] (Weaken v) old after done
weakened-top v old new after c made done e narrow is outcome =
    let same : done_op [] (Weaken v) (reverse old) ≡ topped (Some made) (reverse new) =
    ap (done_op [] (Weaken v)) (reverse_top old new c e) ∙ (with_room-narrow (weakening v c) (reverse new) (weakening-narrow v c (top_has IsNarrow old new c e narrow)) ∙ ap (λ (d : Constraint). topped (Some d) (reverse new)) (sym is)) in
    subst (λ (o : Option (List Constraint)). IsOutcome done o (reverse after)) (sym same) outcome

pub pushed-top : (live : List Entry) (vars id : ℕ) (old after : List Constraint) (c : Constraint) (done : Bool) → All (IsSound vars) live → constraint_at live id ≡ Some c → IsOutcome done (topped (Some c) (reverse old)) (reverse after) → IsOpOutcome live (Push id) old after done
pushed-top live vars id old after c done sound found outcome =
    let narrow : IsNarrow c = (at-sound vars live id c sound found).0 in
    let same : done_op live (Push id) (reverse old) ≡ topped (Some c) (reverse old) =
    ap (λ (o : Option Constraint). option_and_then with_room (option_map (λ (d : Constraint). d ∷ reverse old) o)) found ∙ with_room-narrow c (reverse old) narrow in
    subst (λ (o : Option (List Constraint)). IsOutcome done o (reverse after)) (sym same) outcome

-- the top with room, or nothing
room_or_none : (made : Constraint) (stack : List Constraint) → with_room (made ∷ stack) ≡ topped (fitting made) stack
room_or_none made stack = by_test (is_narrow made)
  where
    by_test : (b : Bool) → cond b (Some (made ∷ stack)) None ≡ topped (cond b (Some made) None) stack
    by_test true = refl
    by_test false = refl

-- an operation on the topmost constraint
pub fitted-top : (op : PolOp) (old new after : List Constraint) (c made : Constraint) (found : Option Constraint) (done : Bool) → old ≡ new ++ c ∷ [] → after_op [] op (c ∷ reverse new) ≡ Some (made ∷ reverse new) → found ≡ fitting made → IsOutcome done (topped found (reverse new)) (reverse after) → IsOpOutcome [] op old after done
fitted-top op old new after c made found done e step is outcome =
    let same : done_op [] op (reverse old) ≡ topped found (reverse new) =
    ap (done_op [] op) (reverse_top old new c e) ∙
    (ap (λ (o : Option (List Constraint)). option_and_then with_room o) step ∙
    (room_or_none made (reverse new) ∙ ap (λ (o : Option Constraint). topped o (reverse new)) (sym is))) in
    subst (λ (o : Option (List Constraint)). IsOutcome done o (reverse after)) (sym same) outcome

-- the two topmost constraints, added
pub summed-top : (old mid new after : List Constraint) (c d : Constraint) (found : Option Constraint) (done : Bool) → old ≡ mid ++ d ∷ [] → mid ≡ new ++ c ∷ [] → found ≡ fitting (sum_of c d) → IsOutcome done (topped found (reverse new)) (reverse after) → IsOpOutcome [] Add old after done
summed-top old mid new after c d found done e f is outcome =
    let stack : reverse old ≡ d ∷ c ∷ reverse new = reverse_top old mid d e ∙ ap (λ (xs : List Constraint). d ∷ xs) (reverse_top mid new c f) in
    let same : done_op [] Add (reverse old) ≡ topped found (reverse new) =
    ap (done_op [] Add) stack ∙ (room_or_none (sum_of c d) (reverse new) ∙ ap (λ (o : Option Constraint). topped o (reverse new)) (sym is)) in
    subst (λ (o : Option (List Constraint)). IsOutcome done o (reverse after)) (sym same) outcome

-- ---- the causes of a denial in their order

abbrev in_order : Option Denied → Option Denied → Option Denied → Option Denied → Option Denied
in_order o p q w = option_or o (option_or p (option_or q (option_or w None)))

ordered : (o p q w : Option Denied) → in_order o p q w ≡ option_or (option_or o (option_or p q)) w
ordered (Some d) p q w = refl
ordered None (Some d) q w = refl
ordered None None (Some d) w = refl
ordered None None None (Some d) = refl
ordered None None None None = refl

seen_denial-pol : (db : Database) (ops : List PolOp) (clause : Option (List Lit)) → seen_denial db (Pol ops) clause ≡ option_or (early db ops) (unless (is_some (after_ops db.live ops [])) Width)
seen_denial-pol db ops clause = ordered (unknown_var db (Pol ops)) (unknown_id db (Pol ops)) (unless (is_stacked ops) Stack) (unless (is_some (after_ops db.live ops [])) Width)

pub seen_denial-early : (db : Database) (ops : List PolOp) (clause : Option (List Lit)) (d : Denied) → Some d ≡ early db ops → seen_denial db (Pol ops) clause ≡ Some d
seen_denial-early db ops clause d e = seen_denial-pol db ops clause ∙ rw (← e) refl

pub seen_denial-no_width : (db : Database) (ops : List PolOp) (clause : Option (List Lit)) (stack : List Constraint) → None ≡ early db ops → after_ops db.live ops [] ≡ Some stack → seen_denial db (Pol ops) clause ≡ None
seen_denial-no_width db ops clause stack e f = seen_denial-pol db ops clause ∙ rw (← e, f) refl

or-parts : (o p : Option Denied) → option_or o p ≡ None → (o ≡ None) × (p ≡ None)
or-parts None p e = (refl, e)
or-parts (Some d) p e = absurd (none-some d (sym e))

pub early-vars : (db : Database) (ops : List PolOp) → None ≡ early db ops → All (λ v. v ≤ db.vars) (flat_map vars_of_op ops)
early-vars db ops e =
    let row : unknown_var db (Pol ops) ≡ None = (or-parts (unknown_var db (Pol ops)) (option_or (unknown_id db (Pol ops)) (unless (is_stacked ops) Stack)) (sym e)).0 in
    All-weaker (λ v. ltb db.vars v ≡ false) (λ v. v ≤ db.vars) (λ v h. ltb-false db.vars v h) (flat_map vars_of_op ops) (from_find-none (λ v. ltb db.vars v) (flat_map vars_of_op ops) (from_map-none UnknownVar _ row))

pub early-stacked : (db : Database) (ops : List PolOp) → None ≡ early db ops → is_stacked ops ≡ true
early-stacked db ops e =
    let rest = (or-parts (unknown_var db (Pol ops)) (option_or (unknown_id db (Pol ops)) (unless (is_stacked ops) Stack)) (sym e)).1 in
    let row : unless (is_stacked ops) Stack ≡ None = (or-parts (unknown_id db (Pol ops)) (unless (is_stacked ops) Stack) rest).1 in
    from_unless-none (is_stacked ops) Stack row

-- ---- the step as a whole

-- the operations leave this constraint alone
pub record IsOneLeft (db : Database) (ops : List PolOp) (c : Constraint) : Type 0 where
  pub unseen : None ≡ early db ops
  pub alone : after_ops db.live ops [] ≡ Some (c ∷ [])

pub left_from : (db : Database) (ops : List PolOp) (old new : List Constraint) (x : Constraint) → None ≡ early db ops → after_ops db.live ops [] ≡ Some (reverse old) → old ≡ new ++ x ∷ [] → IsOneLeft db ops x
left_from db ops old new x e f g =
    let one = one_left db.live ops (reverse old) (early-stacked db ops e) f in
    record { unseen = e; alone = f ∙ ap (λ (s : List Constraint). Some s) (only_top old new x one.0 g one.1) }

pub left-fit : (db : Database) (ops : List PolOp) (c : Constraint) → All (IsSound db.vars) db.live → IsOneLeft db ops c → IsSoundConstraint db.vars c
left-fit db ops c sound h =
    All-head (IsSoundConstraint db.vars) c [] (after_ops-fit db.vars db.live ops [] (c ∷ []) sound (early-vars db ops h.unseen) (All-nil (IsSoundConstraint db.vars)) h.alone)

pub left-allowed : (db : Database) (ops : List PolOp) (c : Constraint) (clause : Option (List Lit)) → IsSpelled (Pol ops) → IsOneLeft db ops c → Allowed db (Pol ops) clause (grown db c)
left-allowed db ops c clause spelled h =
    let found = by_elimination db (Pol ops) clause tt spelled (seen_denial-no_width db ops clause (c ∷ []) h.unseen h.alone) (λ d by. by) in
    let sum = found.1.rule.sum in
    let both : Some (sum ∷ []) ≡ Some (c ∷ []) = sym found.1.rule.result ∙ h.alone in
    let same : sum ≡ c = cc in
    subst (Allowed db (Pol ops) clause) (found.1.rule.after ∙ ap (grown db) same) found.1

-- nothing is left where something was
pub no_one_left : (db : Database) (ops : List PolOp) (old : List Constraint) → None ≡ early db ops → after_ops db.live ops [] ≡ Some (reverse old) → old ≡ [] → ⊥
no_one_left db ops old e f g =
    let one = one_left db.live ops (reverse old) (early-stacked db ops e) f in
    let none : [] ≡ one.0 ∷ [] = sym (ap reverse g) ∙ one.1 in
    cc

-- ---- steps of loops

pub outcome_true : (done : Bool) (after : Option (List Constraint)) (stack : List Constraint) → done ≡ true → IsOutcome done after stack → after ≡ Some stack
outcome_true true after stack e h = h
outcome_true false after stack e h = absurd (false≢true e)

pub flat-at : {X Y : Type 0} (P : Y → Type 0) (f : X → List Y) (xs : List X) (i : ℕ) (d : X) → All P (flat_map f xs) → i < length xs → All P (f (get_or xs i d))
flat-at P f [] i d h below = absurd (omega arith)
flat-at P f (x ∷ xs) zero d h below = (All-append_both P (f x) (flat_map f xs) h).0
flat-at P f (x ∷ xs) (suc i) d h below = flat-at P f xs i d (All-append_both P (f x) (flat_map f xs) h).1 (omega arith)
