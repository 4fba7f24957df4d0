-- Justifications run: each clause follows and is put out.
use Rattle.std.proofs.Common.{◌≡◌, ◌≢◌, ◌≤◌, ℕ, cond, List, [], ◌∷◌, ◌++◌, refl, ap, arith, pos}
use Rattle.std.specs.Prelude.{All, map, flat_map, is_some}
use Rattle.std.proofs.lemmas.List.Elements.{All-nil, All-cons, All-head, All-tail, All-append, All-weaker, All-map}
use Rattle.std.proofs.lemmas.Int.{ints}
use Rattle.pb_base.specs.declared.literal.Lit.{Lit}
use Rattle.pb_base.specs.Literals.{Assignment, negated, is_same}
use Rattle.pb_norm.specs.Constraints.{Constraint, AllPositive, IsAscending, term_value, value}
use Rattle.pb_steps.specs.declared.op.PolOp.{PolOp}
use Rattle.pb_steps.specs.declared.op.PolOp.TheVariants.{Push, Add, Div, Weaken}
use Rattle.pb_steps.specs.declared.step.Step.TheVariants.{Pol}
use Rattle.pb_steps.specs.Operations.{division}
use Rattle.pb_steps.specs.Steps.{HasFactor, vars_of_op, ids_of_op}
use Rattle.pb_steps.specs.Database.{Entry, Database, IsLive}
use Rattle.pb_derive.specs.inner.Ran.{StepGives, IsClaim}
use Rattle.pb_derive.specs.Forms.{IsFormOf}
use Rattle.pb_derive.specs.Later.{IsNumbered, Knows, IsLater}
use Rattle.pb_derive.specs.Justifications.{Justification, widest, push_and_add, closing, by_justification}
use Rattle.pb_derive.specs.inner.Follows.{degrees, weight_in, value_in, coef_in, FollowsFrom, AllKnown, IsJustification}
use Rattle.pb_derive.proofs.Closed.{ArePositive, closed_sum, closed-implies, divided-among}
use Rattle.pb_derive.proofs.Closing.{AllAscending, degrees-cons, weight_in-cons, value_in-cons, coef_in-cons}
use Rattle.pb_derive.proofs.Laters.{known_below, later_knows}
use Rattle.pb_derive.proofs.Stacked.{Found, closing-stacked, closing_ops}

-- ---- what is known, in the order of the variables

pub record AreForms (live : List Entry) (ids : List ℕ) (ss : List Constraint) : Type 0 where
  pub cs : List Constraint
  pub found : Found live ids cs
  pub degrees_same : degrees cs ≡ degrees ss
  pub weights_same : weight_in cs ≡ weight_in ss
  pub values_same : (a : Assignment) → value_in a cs ≡ value_in a ss
  pub coefs_same : (l : Lit) → coef_in cs l ≡ coef_in ss l
  pub tight_same : (a : Assignment) → All (λ s. value a s.terms ≤ s.degree) ss → All (λ c. value a c.terms ≤ c.degree) cs
  pub ascending : AllAscending cs
  pub positive : ArePositive cs

pub forms_of : (db : Database) (ids : List ℕ) (ss : List Constraint) → AllKnown (Knows db) ids ss → AreForms db.live ids ss
forms_of db [] [] known = record {
  cs = [];
  found = tt;
  degrees_same = refl;
  weights_same = refl;
  values_same = λ a. refl;
  coefs_same = λ l. refl;
  tight_same = λ a h. All-nil (λ (c : Constraint). value a c.terms ≤ c.degree);
  ascending = All-nil (λ (c : Constraint). IsAscending c.terms);
  positive = All-nil (λ (c : Constraint). AllPositive c.terms);
}
forms_of db [] (s ∷ ss) known = absurd known
forms_of db (id ∷ ids) [] known = absurd known
forms_of db (id ∷ ids) (s ∷ ss) known =
    let c : Constraint = known.0.0 in
    let form : IsFormOf s c = known.0.2 in
    let rest = forms_of db ids ss known.1 in
    record {
      cs = c ∷ rest.cs;
      found = (known.0.1, rest.found);
      degrees_same = omega (arith, degrees-cons c rest.cs, degrees-cons s ss, form.degree, rest.degrees_same);
      weights_same = omega (arith, weight_in-cons c rest.cs, weight_in-cons s ss, form.terms (λ t. t.coef), rest.weights_same);
      values_same = λ a. omega (arith, value_in-cons a c rest.cs, value_in-cons a s ss, form.terms (term_value a), rest.values_same a);
      coefs_same = λ l. omega (arith, coef_in-cons l c rest.cs, coef_in-cons l s ss, form.terms (λ t. cond (is_same t.lit l) t.coef 0), rest.coefs_same l);
      tight_same = λ a h.
          let now : value a s.terms ≤ s.degree = All-head (λ (s : Constraint). value a s.terms ≤ s.degree) s ss h in
          All-cons (λ (c : Constraint). value a c.terms ≤ c.degree) c rest.cs (omega (arith, now, form.terms (term_value a), form.degree)) (rest.tight_same a (All-tail (λ (s : Constraint). value a s.terms ≤ s.degree) s ss h));
      ascending = All-cons (λ (c : Constraint). IsAscending c.terms) c rest.cs form.ascending rest.ascending;
      positive = All-cons (λ (c : Constraint). AllPositive c.terms) c rest.cs form.positive rest.positive;
    }

follows_form : (live : List Entry) (ids : List ℕ) (ss : List Constraint) (r : Justification) (forms : AreForms live ids ss) → FollowsFrom ss r → FollowsFrom forms.cs r
follows_form live ids ss r forms h = record {
  within = λ l. rw (forms.coefs_same l, forms.coefs_same (negated l)) (h.within l);
  apart = h.apart;
  short = λ a false_there. omega (arith, h.short a false_there, forms.values_same a, forms.degrees_same);
  weight_fits = omega (arith, h.weight_fits, forms.weights_same);
  degree_fits = omega (arith, h.degree_fits, forms.degrees_same);
}

-- ---- the operations name what is known

pub All-flat_map : {X Y : Type 0} (P : Y → Type 0) (f : X → List Y) (xs : List X) → All (λ x. All P (f x)) xs → All P (flat_map f xs)
All-flat_map P f [] h = All-nil P
All-flat_map P f (x ∷ xs) h = All-append P (f x) (flat_map f xs) (All-head (λ x. All P (f x)) x xs h) (All-flat_map P f xs (All-tail (λ x. All P (f x)) x xs h))

-- what holds of each operation of a justification
pub closing-all : (Q : PolOp → Type 0) (clause : List Lit) (id : ℕ) (ids vs : List ℕ) → All (λ i. Q (Push i)) (id ∷ ids) → Q Add → All (λ v. Q (Weaken v)) vs → Q (Div (pos widest)) →
    All Q (closing (record { clause = clause; ids = id ∷ ids; weakened = vs }))
closing-all Q clause id ids vs pushed added gone cut =
    All-cons Q (Push id) (flat_map push_and_add ids ++ (map Weaken vs ++ Div (pos widest) ∷ []))
    (All-head (λ i. Q (Push i)) id ids pushed)
    (All-append Q (flat_map push_and_add ids) (map Weaken vs ++ Div (pos widest) ∷ [])
    (All-flat_map Q push_and_add ids (All-weaker (λ i. Q (Push i)) (λ i. All Q (push_and_add i)) (λ i h. All-cons Q (Push i) (Add ∷ []) h (All-cons Q Add [] added (All-nil Q))) ids (All-tail (λ i. Q (Push i)) id ids pushed)))
    (All-append Q (map Weaken vs) (Div (pos widest) ∷ []) (each vs gone) (All-cons Q (Div (pos widest)) [] cut (All-nil Q))))
  where
    each : (vs : List ℕ) → All (λ v. Q (Weaken v)) vs → All Q (map Weaken vs)
    each vs h = All-map Q Weaken vs h

pub found_live : (live : List Entry) (ids : List ℕ) (cs : List Constraint) → Found live ids cs → All (IsLive live) ids
found_live live [] [] found = All-nil (IsLive live)
found_live live [] (c ∷ cs) found = absurd found
found_live live (id ∷ ids) [] found = absurd found
found_live live (id ∷ ids) (c ∷ cs) found = All-cons (IsLive live) id ids (ap is_some found.0) (found_live live ids cs found.1)

-- ---- a justification by itself

pub justification_gives : (db : Database) (r : Justification) → IsJustification (Knows db) db.vars r → StepGives db (Pol (closing r)) r.clause
justification_gives db r h = by_ids r.ids h.some (forms_of db r.ids h.sources h.found) (follows_form db.live r.ids h.sources r (forms_of db r.ids h.sources h.found) h.follows)
  where
    by_ids : (ids : List ℕ) → ids ≢ [] → (forms : AreForms db.live ids h.sources) → FollowsFrom forms.cs r → StepGives db (Pol (closing (record { clause = r.clause; ids = ids; weakened = r.weakened }))) r.clause
    by_ids [] some forms follows = absurd (some refl)
    by_ids (id ∷ ids) some forms follows = by_forms forms.cs forms.found forms.ascending forms.positive follows
      where
        by_forms : (cs : List Constraint) → Found db.live (id ∷ ids) cs → AllAscending cs → ArePositive cs → FollowsFrom cs r → StepGives db (Pol (closing (record { clause = r.clause; ids = id ∷ ids; weakened = r.weakened }))) r.clause
        by_forms [] found up positive follows = absurd found
        by_forms (c ∷ cs) found up positive follows =
            let now = All-head (λ (c : Constraint). IsAscending c.terms) c cs up in
            let ups = All-tail (λ (c : Constraint). IsAscending c.terms) c cs up in
            let some_now = All-head (λ (c : Constraint). AllPositive c.terms) c cs positive in
            let some_then = All-tail (λ (c : Constraint). AllPositive c.terms) c cs positive in
            let live = found_live db.live (id ∷ ids) (c ∷ cs) found in
            let ops = closing (record { clause = r.clause; ids = id ∷ ids; weakened = r.weakened }) in
            record {
              constraint = division widest (closed_sum c cs r.weakened);
              allowed = λ next. record {
                vars = All-flat_map (λ v. v ≤ db.vars) vars_of_op ops
                    (closing-all (λ op. All (λ v. v ≤ db.vars) (vars_of_op op)) r.clause id ids r.weakened
                    (λ k d below. All-nil (λ v. v ≤ db.vars)) (All-nil (λ v. v ≤ db.vars))
                    (All-weaker (λ v. v ≤ db.vars) (λ v. All (λ v. v ≤ db.vars) (v ∷ [])) (λ v m. All-cons (λ v. v ≤ db.vars) v [] m (All-nil (λ v. v ≤ db.vars))) r.weakened h.vars_known)
                    (All-nil (λ v. v ≤ db.vars)));
                ids = All-flat_map (IsLive db.live) ids_of_op ops
                    (closing-all (λ op. All (IsLive db.live) (ids_of_op op)) r.clause id ids r.weakened
                    (All-weaker (IsLive db.live) (λ i. All (IsLive db.live) (i ∷ [])) (λ i m. All-cons (IsLive db.live) i [] m (All-nil (IsLive db.live))) (id ∷ ids) live)
                    (All-nil (IsLive db.live))
                    (λ k d below. All-nil (IsLive db.live)) (All-nil (IsLive db.live)));
                rule = record {
                  factors = closing-all HasFactor r.clause id ids r.weakened (λ k d below. tt) tt (λ k d below. tt) (omega (arith, ints));
                  stacked = closing-stacked r.clause id ids r.weakened;
                  sum = division widest (closed_sum c cs r.weakened);
                  result = closing_ops db.live r.clause id ids r.weakened c cs found.0 found.1 follows.weight_fits follows.degree_fits;
                  after = refl;
                };
              };
              implies = closed-implies c cs r follows now ups some_now some_then;
              among = divided-among c cs r follows now ups some_now some_then;
            }

-- ---- it stays one

known_later : (P : ℕ → Type 0) (db end : Database) → IsLater P db end → IsNumbered db → (ids : List ℕ) (ss : List Constraint) → AllKnown (Knows db) ids ss → AllKnown (Knows end) ids ss
known_later P db end later numbered [] [] known = tt
known_later P db end later numbered [] (s ∷ ss) known = absurd known
known_later P db end later numbered (id ∷ ids) [] known = absurd known
known_later P db end later numbered (id ∷ ids) (s ∷ ss) known =
    (later_knows P db end id s later (known_below db id s numbered known.0) known.0, known_later P db end later numbered ids ss known.1)

pub justification_later : (P : ℕ → Type 0) (db end : Database) (r : Justification) → IsLater P db end → IsNumbered db → IsJustification (Knows db) db.vars r → IsJustification (Knows end) end.vars r
justification_later P db end r later numbered h = record {
  some = h.some;
  sources = h.sources;
  found = known_later P db end later numbered r.ids h.sources h.found;
  follows = h.follows;
  vars_known = All-weaker (λ v. v ≤ db.vars) (λ v. v ≤ end.vars) (λ v m. omega (arith, m, later.vars)) r.weakened h.vars_known;
}

-- a clause with a justification may be claimed
pub justification_claims : (P : ℕ → Type 0) (db : Database) (r : Justification) → IsNumbered db → All (λ l. P l.var) r.clause → IsJustification (Knows db) db.vars r → IsClaim P db (by_justification r)
justification_claims P db r numbered named h = record {
  named = named;
  takes = refl;
  gives = λ end later. justification_gives end r (justification_later P db end r later numbered h);
}
