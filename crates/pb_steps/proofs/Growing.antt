-- Solutions extend along a step.
use Rattle.std.proofs.Common.{◌≡◌, ◌+◌, inl, inr, ℕ, Bool, true, false, not, cond, List, [], ◌∷◌, ◌++◌, arith, refl, ap, sym, subst}
use Rattle.std.specs.Prelude.{All, map, filter, filter_map, Some, None, Option, ℤ}
use Rattle.std.specs.List.{cons_option}
use Rattle.std.proofs.lemmas.List.Elements.{All-nil, All-cons, All-head, All-tail}
use Rattle.pb_base.specs.declared.literal.Lit.{Lit}
use Rattle.pb_base.specs.declared.literal.Term.{Term}
use Rattle.pb_base.specs.Literals.{Assignment, AgreeBelow, lit_value}
use Rattle.pb_base.proofs.Members.{All-append_both}
use Rattle.pb_norm.specs.Constraints.{Constraint, IsAscending, Holds, Solves}
use Rattle.pb_norm.specs.Halves.{written}
use Rattle.pb_norm.specs.Propagation.{Conflict}
use Rattle.pb_norm.proofs.WrittenForm.{normal_terms-ascending}
use Rattle.pb_norm.proofs.PropagationTrue.{conflict-unsolvable}
use Rattle.pb_steps.specs.declared.op.Set.{Set}
use Rattle.pb_steps.specs.declared.step.Step.{Step}
use Rattle.pb_steps.specs.declared.step.Step.TheVariants.{Blank, Head, Loaded, Pol, Rup, Red, Del, Out, End}
use Rattle.pb_steps.specs.Operations.{negation}
use Rattle.pb_steps.specs.Database.{Entry, Database, live_constraints, constraint_at, is_listed, entry, grown, reduced, mark, marked}
use Rattle.pb_steps.specs.Substitutions.{overwritten, restriction, names_set}
use Rattle.pb_steps.specs.Allowed.{hinted, IsShown, IsMet, IsRedundant, ByRule}
use Rattle.pb_steps.proofs.Holding.{holds_or_negation}
use Rattle.pb_steps.proofs.Implying.{implied_holds}
use Rattle.pb_steps.proofs.Substituting.{holds-from_restricted, unnamed-value, agree-overwritten}
use Rattle.pb_steps.proofs.Good.{IsGood, AllGood, OptionGood, StackGood, good-holds, at-good, after_ops-good, negation-ascending}

-- ---- lists of live constraints

pub good-append : (a : Assignment) (es : List Entry) (e : Entry) → AllGood a (live_constraints es) → IsGood a e.constraint → AllGood a (live_constraints (es ++ e ∷ []))
good-append a [] e h g = All-cons (IsGood a) e.constraint [] g h
good-append a (x ∷ es) e h g =
    All-cons (IsGood a) x.constraint (live_constraints (es ++ e ∷ []))
    (All-head (IsGood a) x.constraint (live_constraints es) h)
    (good-append a es e (All-tail (IsGood a) x.constraint (live_constraints es) h) g)

good-filter : (a : Assignment) (p : Entry → Bool) (es : List Entry) → AllGood a (live_constraints es) → AllGood a (live_constraints (filter p es))
good-filter a p [] h = h
good-filter a p (e ∷ es) h = by_test (p e) (good-filter a p es (All-tail (IsGood a) e.constraint (live_constraints es) h)) where
  by_test : (b : Bool) → AllGood a (live_constraints (filter p es)) → AllGood a (live_constraints (cond {A = List Entry} b (e ∷ filter p es) (filter p es)))
  by_test true ih = All-cons (IsGood a) e.constraint (live_constraints (filter p es)) (All-head (IsGood a) e.constraint (live_constraints es) h) ih
  by_test false ih = ih

pub live_constraints-marked : (id : ℕ) (es : List Entry) → live_constraints (map (mark id) es) ≡ live_constraints es
live_constraints-marked id [] = refl
live_constraints-marked id (e ∷ es) = ap (λ (cs : List Constraint). e.constraint ∷ cs) (live_constraints-marked id es)

good-found : (a : Assignment) (es : List Entry) (ids : List ℕ) → AllGood a (live_constraints es) → AllGood a (filter_map (constraint_at es) ids)
good-found a es [] h = All-nil (IsGood a)
good-found a es (id ∷ ids) h = with_found (constraint_at es id) (at-good a es id h) (good-found a es ids h) where
  with_found : (o : Option Constraint) → OptionGood a o → AllGood a (filter_map (constraint_at es) ids) → AllGood a (cons_option o (filter_map (constraint_at es) ids))
  with_found None g ih = ih
  with_found (Some c) g ih = All-cons (IsGood a) c (filter_map (constraint_at es) ids) g ih

good-hinted : (a : Assignment) (es : List Entry) (ids : List ℕ) → AllGood a (live_constraints es) → AllGood a (hinted es ids)
good-hinted a es [] h = h
good-hinted a es (id ∷ ids) h = good-found a es (id ∷ ids) h

pub written-ascending : (ts : List Term) (right : ℤ) → IsAscending (written ts right).terms
written-ascending ts right = normal_terms-ascending ts

-- ---- propagation

-- what propagation refutes the negation of, holds
pub to_refute-holds : (a : Assignment) (claim : Constraint) (cs : List Constraint) → Conflict (negation claim ∷ cs) [] → Solves a cs → Holds a claim
to_refute-holds a claim cs conflict h =
    elim (holds_or_negation a claim) [
      | inl holds ↦ holds
      | inr not_holds ↦ absurd (conflict-unsolvable a (negation claim ∷ cs) [] conflict (All-cons (Holds a) (negation claim) cs not_holds h) (All-nil (λ l. lit_value a l ≡ true)))
    ]

-- where the claim does not hold, what is shown holds
shown-holds : (a : Assignment) (live : List Entry) (claim goal : Constraint) →
    IsAscending claim.terms → Solves a (live_constraints live) → Holds a (negation claim) → IsShown live claim goal → Holds a goal
shown-holds a live claim goal ascending h n (inl implied) = implied_holds a (negation claim) goal (negation-ascending claim ascending) implied n
shown-holds a live claim goal ascending h n (inr conflict) =
    elim (holds_or_negation a goal) [
      | inl holds ↦ holds
      | inr not_holds ↦
          let rest = All-cons (Holds a) (negation goal) (live_constraints live) not_holds h in
          absurd (conflict-unsolvable a (negation claim ∷ negation goal ∷ live_constraints live) [] conflict (All-cons (Holds a) (negation claim) (negation goal ∷ live_constraints live) n rest) (All-nil (λ l. lit_value a l ≡ true)))
    ]

-- ---- substitution

met-holds : (a : Assignment) (db : Database) (claim : Constraint) (sets : List Set) (e : Entry) →
    IsAscending claim.terms → Solves a (live_constraints db.live) → Holds a (negation claim) → IsMet db claim sets e → Holds (overwritten sets a) e.constraint
met-holds a db claim sets e ascending h n met =
    holds-from_restricted sets a e.constraint (shown-holds a db.live claim (restriction sets e.constraint) ascending h n met)

abbrev named : List Set → List Entry → List Entry
named sets es = filter {X = Entry} (λ e. names_set sets e.constraint) es

-- what has a set variable is met, and what has none keeps its value
each-holds : (a : Assignment) (db : Database) (claim : Constraint) (sets : List Set) → IsAscending claim.terms → Solves a (live_constraints db.live) → Holds a (negation claim) →
    (es : List Entry) → AllGood a (live_constraints es) → All (IsMet db claim sets) (named sets es) → AllGood (overwritten sets a) (live_constraints es)
each-holds a db claim sets ascending h n [] g met = All-nil (IsGood (overwritten sets a))
each-holds a db claim sets ascending h n (e ∷ es) g met =
    let good : IsGood a e.constraint = All-head (IsGood a) e.constraint (live_constraints es) g in
    by_test (names_set sets e.constraint) refl good met (each-holds a db claim sets ascending h n es (All-tail (IsGood a) e.constraint (live_constraints es) g))
  where
    by_test : (b : Bool) → names_set sets e.constraint ≡ b → IsGood a e.constraint → All (IsMet db claim sets) (cond {A = List Entry} b (e ∷ named sets es) (named sets es)) →
        (All (IsMet db claim sets) (named sets es) → AllGood (overwritten sets a) (live_constraints es)) → AllGood (overwritten sets a) (live_constraints (e ∷ es))
    by_test true e1 good all ih =
        let holds : Holds (overwritten sets a) e.constraint = met-holds a db claim sets e ascending h n (All-head (IsMet db claim sets) e (named sets es) all) in
        All-cons (IsGood (overwritten sets a)) e.constraint (live_constraints es) (record { holds = holds; ascending = good.ascending }) (ih (All-tail (IsMet db claim sets) e (named sets es) all))
    by_test false e1 good all ih =
        let holds : Holds (overwritten sets a) e.constraint = omega (arith, unnamed-value a sets e.constraint.terms e1, good.holds) in
        All-cons (IsGood (overwritten sets a)) e.constraint (live_constraints es) (record { holds = holds; ascending = good.ascending }) (ih all)

-- ---- a step

pub record Extended (db : Database) (a : Assignment) (db' : Database) : Type 0 where
  pub assignment : Assignment
  pub agrees : AgreeBelow (db.original + 1) a assignment
  pub good : AllGood assignment (live_constraints db'.live)
  pub original : db'.original ≡ db.original

pub unchanged : (db : Database) (a : Assignment) (db' : Database) → AllGood a (live_constraints db'.live) → db'.original ≡ db.original → Extended db a db'
unchanged db a db' g e = record { assignment = a; agrees = λ v h. refl; good = g; original = e }

grown-good : (a : Assignment) (db : Database) (c : Constraint) → AllGood a (live_constraints db.live) → IsGood a c → AllGood a (live_constraints (grown db c).live)
grown-good a db c h g = good-append a db.live (entry db.next c) h g

-- where the claim does not hold, the substitution makes it hold, and all live constraints still
redundant-extended : (db : Database) (ts : List Term) (right : ℤ) (sets : List Set) (db' : Database) (a : Assignment) → IsRedundant db ts right sets db' → AllGood a (live_constraints db.live) → Extended db a (grown db (written ts right))
redundant-extended db ts right sets db' a r h =
    let claim : Constraint = written ts right in
    let ascending : IsAscending claim.terms = written-ascending ts right in
    let solves = good-holds a (live_constraints db.live) h in
    elim (holds_or_negation a claim) [
      | inl holds ↦ unchanged db a (grown db claim) (grown-good a db claim h (record { holds = holds; ascending = ascending })) refl
      | inr not_holds ↦
          let parts = All-append_both (IsMet db claim sets) (named sets db.live) (entry db.next claim ∷ []) r.met in
          let others = each-holds a db claim sets ascending solves not_holds db.live h parts.0 in
          let own = met-holds a db claim sets (entry db.next claim) ascending solves not_holds (All-head (IsMet db claim sets) (entry db.next claim) [] parts.1) in
          record {
            assignment = overwritten sets a;
            agrees = agree-overwritten db.original sets a r.fresh;
            good = grown-good (overwritten sets a) db claim others (record { holds = own; ascending = ascending });
            original = refl;
          }
    ]

pub step-extended : (db : Database) (s : Step) (clause : Option (List Lit)) (db' : Database) (a : Assignment) → ByRule db s clause db' → AllGood a (live_constraints db.live) → Extended db a db'
step-extended db Blank clause db' a rule h = subst (Extended db a) (sym rule) (unchanged db a db h refl)
step-extended db (Pol ops) clause db' a rule h =
    let stack = subst (StackGood a) rule.result (after_ops-good a db.live ops [] rule.factors h (All-nil (IsGood a))) in
    subst (Extended db a) (sym rule.after) (unchanged db a (grown db rule.sum) (grown-good a db rule.sum h (All-head (IsGood a) rule.sum [] stack)) refl)
step-extended db (Rup ts right ids) clause db' a rule h =
    let claim : Constraint = written ts right in
    let holds = to_refute-holds a claim (hinted db.live ids) rule.conflict (good-holds a (hinted db.live ids) (good-hinted a db.live ids h)) in
    let good : IsGood a claim = record { holds = holds; ascending = written-ascending ts right } in
    subst (Extended db a) (sym rule.after) (unchanged db a (grown db claim) (grown-good a db claim h good) refl)
step-extended db (Red ts right sets) clause db' a rule h = subst (Extended db a) (sym rule.after) (redundant-extended db ts right sets db' a rule h)
step-extended db (Del ids) clause db' a rule h =
    subst (Extended db a) (sym rule.after) (unchanged db a (reduced db ids) (good-filter a (λ (e : Entry). not (is_listed ids e.id)) db.live h) refl)
step-extended db (Out id) clause db' a rule h =
    subst (Extended db a) (sym rule.after) (unchanged db a (marked db id) (subst (AllGood a) (sym (live_constraints-marked id db.live)) h) refl)
step-extended db Head clause db' a rule h = absurd rule
step-extended db (Loaded count) clause db' a rule h = absurd rule
step-extended db End clause db' a rule h = absurd rule
