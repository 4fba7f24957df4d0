-- Fresh variables get their reifications: both constraints are redundant (after Gocht, Martins, Nordström and Oertel 2022).
use Rattle.std.proofs.Common.{◌≡◌, ◌≢◌, ◌≤◌, ◌<◌, ◌+◌, ◌-◌, ◌*◌, ◌||◌, inl, inr, ℕ, zero, suc, Bool, true, false, not, cond, List, [], ◌∷◌, ◌++◌, refl, ap, sym, ◌∙◌, subst, arith, eqb, leb, ltb, pos, length, get_or}
use mathlib.Core.Bool.{beq}
use Rattle.std.specs.Prelude.{All, map, filter, sum_by, Option, Some, None, is_some, is_none, unwrap_or}
use Rattle.std.specs.List.{list_any}
use Rattle.std.proofs.lemmas.Bool.{eq-eqb, ne_eqb, le-leb, ltb-true, ltb-false, or_right, or_from}
use Rattle.std.proofs.lemmas.List.Elements.{All-nil, All-cons, All-head, All-tail, All-weaker, All-map, All-append, All-filter, filter-append}
use Rattle.std.proofs.lemmas.List.Kept.{AllPairs-cons}
use Rattle.std.proofs.lemmas.List.Sums.{sum_by-cons, get_or-le-sum_by}
use Rattle.pb_base.specs.declared.literal.Lit.{Lit}
use Rattle.pb_base.specs.declared.literal.Term.{Term}
use Rattle.pb_base.specs.Literals.{negated, is_same}
use Rattle.pb_base.proofs.LiteralLemmas.{negated-negated, is_same-refl}
use Rattle.pb_base.proofs.Members.{Contains-here}
use Rattle.pb_base.proofs.Pairs.{AllPairs-head, AllPairs-tail, AllPairs-map}
use Rattle.pb_base.proofs.Sums.{sum_by-map, sum_by-filter}
use Rattle.pb_norm.specs.Constraints.{Weighted, Constraint, AllPositive, weight, terms_of}
use Rattle.pb_norm.specs.Addition.{coef_of}
use Rattle.pb_norm.specs.Halves.{written}
use Rattle.pb_norm.specs.Reduction.{opposite}
use Rattle.pb_norm.proofs.AdditionSizes.{weight-cons}
use Rattle.pb_steps.specs.declared.op.Set.{Set}
use Rattle.pb_steps.specs.declared.step.Step.{Step}
use Rattle.pb_steps.specs.declared.step.Step.TheVariants.{Rup}
use Rattle.pb_steps.specs.Operations.{negation, excess}
use Rattle.pb_steps.specs.Substitutions.{is_unset, is_made_true, restriction, names_set}
use Rattle.pb_steps.specs.Database.{Entry, Database, entry, grown, IsLive}
use Rattle.pb_steps.specs.Allowed.{Allowed, IsMet, IsShown}
use Rattle.pb_steps.specs.Runs.{Runs}
use Rattle.pb_derive.specs.inner.Ran.{Ran}
use Rattle.pb_derive.specs.Forms.{AreApartTerms, IsFormOf}
use Rattle.pb_derive.specs.Later.{IsOther, IsUnnamed, IsNumbered, Knows, IsLater}
use Rattle.pb_derive.specs.Reifications.{Reification, spare, forward_of, reverse_of, redundant, reification_steps}
use Rattle.pb_derive.specs.inner.Meant.{IsReification, NamesNot, AreReifications, IsMeant, AreMeant}
use Rattle.pb_derive.proofs.Laters.{at_grown, known_below, later_then, later_grown, later_knows}
use Rattle.pb_derive.proofs.Opposites.{weight-opposite}
use Rattle.pb_derive.proofs.Running.{runs_append, ran_none}
use Rattle.pb_derive.proofs.SameTerms.{written-form, written-all, magnitude-terms}

-- ---- one variable is set

abbrev setting : ℕ → Bool → List Set
setting v value = record { var = v; value = value } ∷ []

unset-other : (v : ℕ) (value : Bool) (t : Weighted) → IsOther v t → is_unset (setting v value) t ≡ true
unset-other v value t other = ap (λ (b : Bool). is_none (cond {A = Option Bool} b (Some value) None)) (ne_eqb v t.lit.var other)

made_true-other : (v : ℕ) (value : Bool) (l : Lit) → v ≢ l.var → is_made_true (setting v value) l ≡ false
made_true-other v value l other =
    ap (λ (b : Bool). beq (unwrap_or (cond {A = Option Bool} b (Some value) None) (not l.positive)) l.positive) (ne_eqb v l.var other) ∙ never l.positive
  where
    never : (p : Bool) → beq (not p) p ≡ false
    never true = refl
    never false = refl

made_true-same : (v : ℕ) (value p : Bool) → is_made_true (setting v value) (record { var = v; positive = p }) ≡ beq value p
made_true-same v value p = ap (λ (b : Bool). beq (unwrap_or (cond {A = Option Bool} b (Some value) None) (not p)) p) (eq-eqb v v refl)

-- constraints that do not name the variable ask for nothing
unnamed-filter : (v : ℕ) (value : Bool) (es : List Entry) → All (λ e. All (IsOther v) e.constraint.terms) es → filter (λ e. names_set (setting v value) e.constraint) es ≡ []
unnamed-filter v value [] h = refl
unnamed-filter v value (e ∷ es) h =
    let none = unnamed-names e.constraint.terms (All-head (λ (e : Entry). All (IsOther v) e.constraint.terms) e es h) in
    ap (λ (b : Bool). cond {A = List Entry} b (e ∷ filter (λ (e : Entry). names_set (setting v value) e.constraint) es) (filter (λ (e : Entry). names_set (setting v value) e.constraint) es)) none
    ∙ unnamed-filter v value es (All-tail (λ (e : Entry). All (IsOther v) e.constraint.terms) e es h)
  where
    unnamed-names : (ts : List Weighted) → All (IsOther v) ts → list_any {X = Weighted} (λ t. not (is_unset (setting v value) t)) ts ≡ false
    unnamed-names [] h = refl
    unnamed-names (t ∷ ts) h =
        or_from (not (is_unset (setting v value) t)) (list_any {X = Weighted} (λ t. not (is_unset (setting v value) t)) ts)
        (ap not (unset-other v value t (All-head (IsOther v) t ts h))) (unnamed-names ts (All-tail (IsOther v) t ts h))

-- what a setting of another variable takes from the degree
made-none : (v : ℕ) (value : Bool) (ts : List Weighted) → All (IsOther v) ts → sum_by {X = Weighted} (λ t. cond (is_made_true (setting v value) t.lit) t.coef 0) ts ≡ 0
made-none v value [] h = refl
made-none v value (t ∷ ts) h =
    let nothing : cond (is_made_true (setting v value) t.lit) t.coef 0 ≡ 0 = ap (λ (b : Bool). cond b t.coef 0) (made_true-other v value t.lit (All-head (IsOther v) t ts h)) in
    omega (arith, sum_by-cons {X = Weighted} (λ t. cond (is_made_true (setting v value) t.lit) t.coef 0) t ts, nothing, made-none v value ts (All-tail (IsOther v) t ts h))

-- a constraint whose degree is the coefficient of the literal that is made true
own_shown : (live : List Entry) (v n : ℕ) (value : Bool) (ts : List Weighted) (claim c : Constraint) → All (IsOther v) ts → IsFormOf (record { terms = record { coef = n; lit = record { var = v; positive = value } } ∷ ts; degree = n }) c →
    IsShown live claim (restriction (setting v value) c)
own_shown live v n value ts claim c others form =
    let f : Weighted → ℕ = λ t. cond (is_made_true (setting v value) t.lit) t.coef 0 in
    let z : Weighted = record { coef = n; lit = record { var = v; positive = value } } in
    let here : f z ≡ n = ap (λ (b : Bool). cond b n 0) (made_true-same v value value ∙ same value) in
    let whole : sum_by f c.terms ≡ n = form.terms f ∙ omega (arith, sum_by-cons f z ts, here, made-none v value ts others) in
    let nothing : (restriction (setting v value) c).degree ≡ 0 = omega (arith, whole, form.degree) in
    inl (ap (λ (n : ℕ). eqb n 0 || leb (n + excess (negation claim) (restriction (setting v value) c)) (negation claim).degree) nothing)
  where
    same : (b : Bool) → beq b b ≡ true
    same true = refl
    same false = refl

-- ---- the two constraints in the order of their variables

module _ (m : Reification) (apart : AreApartTerms m.sum) (positive : AllPositive m.sum) (others : All (IsOther m.var) m.sum) (some : 1 ≤ m.least) where
  first_apart : AreApartTerms (forward_of m).terms
  first_apart = AllPairs-cons (λ (s t : Weighted). s.lit.var ≢ t.lit.var) (record { coef = m.least; lit = record { var = m.var; positive = false } }) m.sum others apart

  first_positive : AllPositive (forward_of m).terms
  first_positive = All-cons (λ (t : Weighted). 0 < t.coef) (record { coef = m.least; lit = record { var = m.var; positive = false } }) m.sum (omega arith) positive

  pub first_form : IsFormOf (forward_of m) (written (terms_of (forward_of m).terms) (pos m.least))
  first_form = written-form (forward_of m).terms m.least first_apart first_positive

  opposite_others : All (IsOther m.var) (map opposite m.sum)
  opposite_others = All-map (IsOther m.var) opposite m.sum others

  second_apart : AreApartTerms (reverse_of m).terms
  second_apart =
      AllPairs-cons (λ (s t : Weighted). s.lit.var ≢ t.lit.var) (record { coef = spare m; lit = record { var = m.var; positive = true } }) (map opposite m.sum) opposite_others
      (AllPairs-map (λ (s t : Weighted). s.lit.var ≢ t.lit.var) (λ (s t : Weighted). s.lit.var ≢ t.lit.var) opposite (λ s t h. h) m.sum apart)

  second_positive : m.least ≤ weight m.sum → AllPositive (reverse_of m).terms
  second_positive reach =
      All-cons (λ (t : Weighted). 0 < t.coef) (record { coef = spare m; lit = record { var = m.var; positive = true } }) (map opposite m.sum) (omega arith) (All-map (λ (t : Weighted). 0 < t.coef) opposite m.sum positive)

  pub second_form : m.least ≤ weight m.sum → IsFormOf (reverse_of m) (written (terms_of (reverse_of m).terms) (pos (spare m)))
  second_form reach = written-form (reverse_of m).terms (spare m) second_apart (second_positive reach)

-- ---- the second implies the first where the variable is true

-- each coefficient of the sum is found in what is left of the first
left_coef : (m : Reification) (c : Constraint) → IsFormOf (forward_of m) c → All (IsOther m.var) m.sum → All (λ t. t.coef ≤ coef_of (restriction (setting m.var true) c).terms t.lit) m.sum
left_coef m c form others = λ k d h.
    let t : Weighted = get_or m.sum k d in
    let g : Weighted → ℕ = λ u. cond (is_unset (setting m.var true) u) (cond (is_same u.lit t.lit) u.coef 0) 0 in
    let kept : coef_of (restriction (setting m.var true) c).terms t.lit ≡ sum_by g c.terms = sum_by-filter (λ (u : Weighted). cond (is_same u.lit t.lit) u.coef 0) (is_unset (setting m.var true)) c.terms in
    let z : Weighted = record { coef = m.least; lit = record { var = m.var; positive = false } } in
    let here : g t ≡ t.coef =
    ap (λ (b : Bool). cond b (cond (is_same t.lit t.lit) t.coef 0) 0) (unset-other m.var true t (others k d h)) ∙ ap (λ (b : Bool). cond b t.coef 0) (is_same-refl t.lit) in
    let part : g t ≤ sum_by g m.sum = get_or-le-sum_by g m.sum k d h in
    omega (arith, kept, form.terms g, sum_by-cons g z m.sum, here, part)

no_opposite_excess : (ts rs : List Weighted) → All (λ t. t.coef ≤ coef_of rs t.lit) ts → sum_by (λ t. (opposite t).coef - coef_of rs (opposite t).lit) (map opposite ts) ≡ 0
no_opposite_excess [] rs h = refl
no_opposite_excess (t ∷ ts) rs h =
    let less : t.coef ≤ coef_of rs t.lit = All-head (λ (t : Weighted). t.coef ≤ coef_of rs t.lit) t ts h in
    let same : coef_of rs (negated (negated t.lit)) ≡ coef_of rs t.lit = ap (coef_of rs) (negated-negated t.lit) in
    omega (arith, sum_by-cons (λ (t : Weighted). (opposite t).coef - coef_of rs (opposite t).lit) (opposite t) (map opposite ts), less, same, no_opposite_excess ts rs (All-tail (λ (t : Weighted). t.coef ≤ coef_of rs t.lit) t ts h))

first_shown : (live : List Entry) (m : Reification) (c d : Constraint) → IsFormOf (forward_of m) c → IsFormOf (reverse_of m) d → All (IsOther m.var) m.sum → m.least ≤ weight m.sum →
    IsShown live d (restriction (setting m.var true) c)
first_shown live m c d first second others reach =
    let r : Constraint = restriction (setting m.var true) c in
    let y : Weighted = record { coef = spare m; lit = record { var = m.var; positive = true } } in
    let f : Weighted → ℕ = λ t. (opposite t).coef - coef_of r.terms (opposite t).lit in
    let mapped : excess (negation d) r ≡ sum_by f d.terms = sum_by-map (λ (t : Weighted). t.coef - coef_of r.terms t.lit) opposite d.terms in
    let parts = sum_by-cons f y (map opposite m.sum) in
    let rest = no_opposite_excess m.sum r.terms (left_coef m c first others) in
    let weights : weight d.terms ≡ spare m + weight m.sum = second.terms (λ t. t.coef) ∙ omega (arith, weight-cons y (map opposite m.sum), weight-opposite m.sum) in
    inl (or_right (eqb r.degree 0) (leb (r.degree + excess (negation d) r) (negation d).degree)
    (le-leb (r.degree + excess (negation d) r) (negation d).degree (omega (arith, mapped, second.terms f, parts, rest, weights, second.degree, first.degree))))

-- ---- one reification

-- a database after the two lines of a reification
record Defined (db : Database) (steps : List Step) (m : Reification) : Type 1 where
  pub end : Database
  pub runs : Runs db steps [] end
  pub later : (Q : ℕ → Type 0) → All (λ t. Q t.lit.var) (forward_of m).terms → IsLater Q db end
  pub next : end.next ≡ db.next + 2
  pub meant : IsMeant end db.next m

-- the variables of terms as a step names them
named_within : (vars : ℕ) (ts : List Weighted) → All (λ t. t.lit.var ≤ vars) ts → All (λ v. v ≤ vars) (map {A = Term} {B = ℕ} (λ t. t.lit.var) (terms_of ts))
named_within vars [] h = All-nil (λ (v : ℕ). v ≤ vars)
named_within vars (t ∷ ts) h =
    All-cons (λ (v : ℕ). v ≤ vars) t.lit.var (map {A = Term} {B = ℕ} (λ t. t.lit.var) (terms_of ts)) (All-head (λ (t : Weighted). t.lit.var ≤ vars) t ts h) (named_within vars ts (All-tail (λ (t : Weighted). t.lit.var ≤ vars) t ts h))

-- a line that says nothing
nothing_allowed : (db : Database) (id : ℕ) (next : Option (List Lit)) → IsLive db.live id → Allowed db (Rup [] (pos 0) (id ∷ [])) next (grown db (written [] (pos 0)))
nothing_allowed db id next live = record {
  vars = All-nil (λ v. v ≤ db.vars);
  ids = All-cons (IsLive db.live) id [] live (All-nil (IsLive db.live));
  rule = record { slim = omega arith; conflict = inr ([], negation (written [] (pos 0)), tt, Contains-here (negation (written [] (pos 0))) _, omega arith); after = refl };
}

module _ (db : Database) (numbered : IsNumbered db) (m : Reification) (is : IsReification db.original db.vars m) (unnamed : IsUnnamed m.var db) where
  abbrev one : Constraint
  one = written (terms_of (forward_of m).terms) (pos m.least)

  abbrev two : Constraint
  two = written (terms_of (reverse_of m).terms) (pos (spare m))

  abbrev mid : Database
  mid = grown db one

  one_form : IsFormOf (forward_of m) one
  one_form = first_form m is.apart is.positive is.other is.some

  first_allowed : (next : Option (List Lit)) → Allowed db (redundant (forward_of m) m.var false) next mid
  first_allowed next = record {
    vars = All-append (λ (v : ℕ). v ≤ db.vars) (map {A = Term} {B = ℕ} (λ t. t.lit.var) (terms_of (forward_of m).terms)) (m.var ∷ [])
        (named_within db.vars (forward_of m).terms (All-cons (λ (t : Weighted). t.lit.var ≤ db.vars) (record { coef = m.least; lit = record { var = m.var; positive = false } }) m.sum is.known is.sum_known))
        (All-cons (λ (v : ℕ). v ≤ db.vars) m.var [] is.known (All-nil (λ (v : ℕ). v ≤ db.vars)));
    ids = All-nil (IsLive db.live);
    rule = record {
      slim = omega (arith, magnitude-terms (forward_of m).terms, weight-cons (record { coef = m.least; lit = record { var = m.var; positive = false } }) m.sum, is.light);
      fresh = All-cons (λ (v : ℕ). db.original < v) m.var [] is.fresh (All-nil (λ (v : ℕ). db.original < v));
      met = subst (λ (es : List Entry). All (IsMet db one (setting m.var false)) (es ++ entry db.next one ∷ [])) (sym (unnamed-filter m.var false db.live unnamed))
          (All-cons (IsMet db one (setting m.var false)) (entry db.next one) [] (own_shown db.live m.var m.least false m.sum one one is.other one_form) (All-nil (IsMet db one (setting m.var false))));
      after = refl;
    };
  }

  later_first : (Q : ℕ → Type 0) → All (λ t. Q t.lit.var) (forward_of m).terms → IsLater Q db mid
  later_first Q named = later_grown Q db one numbered (written-all (λ t. Q t.lit.var) (forward_of m).terms m.least (first_apart m is.apart is.positive is.other is.some) named)

  mid_numbered : IsNumbered mid
  mid_numbered = (later_first (λ v. Unit {0}) (λ k d h. tt)).numbered

  one_known : Knows mid db.next (forward_of m)
  one_known = (one, at_grown db one numbered, one_form)

  second_allowed : (reach : m.least ≤ weight m.sum) (next : Option (List Lit)) → Allowed mid (redundant (reverse_of m) m.var true) next (grown mid two)
  second_allowed reach next =
      let two_form : IsFormOf (reverse_of m) two = second_form m is.apart is.positive is.other is.some reach in
      let y : Weighted = record { coef = spare m; lit = record { var = m.var; positive = true } } in
      let met : IsMet mid two (setting m.var true) (entry db.next one) = first_shown mid.live m one two one_form two_form is.other reach in
      let own : IsMet mid two (setting m.var true) (entry mid.next two) =
      own_shown mid.live m.var (spare m) true (map opposite m.sum) two two (opposite_others m is.apart is.positive is.other is.some) two_form in
      let Met : Entry → Type 0 = IsMet mid two (setting m.var true) in
      let names : Entry → Bool = λ e. names_set (setting m.var true) e.constraint in
      let left : All Met (filter names (db.live ++ entry db.next one ∷ [])) =
      subst (λ (es : List Entry). All Met es) (sym (filter-append names db.live (entry db.next one ∷ []) ∙ ap (λ (es : List Entry). es ++ filter names (entry db.next one ∷ [])) (unnamed-filter m.var true db.live unnamed)))
      (All-filter names Met (entry db.next one ∷ []) (All-cons Met (entry db.next one) [] met (All-nil Met))) in
      record {
        vars = All-append (λ (v : ℕ). v ≤ db.vars) (map {A = Term} {B = ℕ} (λ t. t.lit.var) (terms_of (reverse_of m).terms)) (m.var ∷ [])
            (named_within db.vars (reverse_of m).terms (All-cons (λ (t : Weighted). t.lit.var ≤ db.vars) y (map opposite m.sum) is.known (All-map (λ (t : Weighted). t.lit.var ≤ db.vars) opposite m.sum is.sum_known)))
            (All-cons (λ (v : ℕ). v ≤ db.vars) m.var [] is.known (All-nil (λ (v : ℕ). v ≤ db.vars)));
        ids = All-nil (IsLive mid.live);
        rule = record {
          slim = omega (arith, magnitude-terms (reverse_of m).terms, weight-cons y (map opposite m.sum), weight-opposite m.sum, is.light);
          fresh = All-cons (λ (v : ℕ). db.original < v) m.var [] is.fresh (All-nil (λ (v : ℕ). db.original < v));
          met = All-append Met (filter names mid.live) (entry mid.next two ∷ []) left (All-cons Met (entry mid.next two) [] own (All-nil Met));
          after = refl;
        };
      }

  -- the second line, as it is
  abbrev second_line : Bool → Step
  second_line b = cond {A = Step} b (Rup [] (pos 0) (db.next ∷ [])) (redundant (reverse_of m) m.var true)

  reification_defined : Defined db (redundant (forward_of m) m.var false ∷ second_line (ltb (weight m.sum) m.least) ∷ []) m
  reification_defined = by_test (ltb (weight m.sum) m.least) refl
    where
      by_test : (b : Bool) → ltb (weight m.sum) m.least ≡ b → Defined db (redundant (forward_of m) m.var false ∷ second_line b ∷ []) m
      by_test true e =
          let filler : Constraint = written [] (pos 0) in
          let end : Database = grown mid filler in
          let stays = λ (Q : ℕ → Type 0). later_grown Q mid filler mid_numbered (All-nil (λ (t : Weighted). Q t.lit.var)) in
          record {
            end = end;
            runs = (mid, first_allowed _, (end, nothing_allowed mid db.next _ (ap is_some (at_grown db one numbered)), (refl, refl)));
            later = λ Q named. later_then Q db mid end (later_first Q named) (stays Q);
            next = omega arith;
            meant = record {
              first = later_knows (λ v. Unit {0}) mid end db.next (forward_of m) (stays (λ v. Unit {0})) (omega arith) one_known;
              second = λ reach. absurd (omega (arith, ltb-true (weight m.sum) m.least e));
            };
          }
      by_test false e =
          let reach : m.least ≤ weight m.sum = ltb-false (weight m.sum) m.least e in
          let end : Database = grown mid two in
          let two_form : IsFormOf (reverse_of m) two = second_form m is.apart is.positive is.other is.some reach in
          let others = second_apart m is.apart is.positive is.other is.some in
          let stays = λ (Q : ℕ → Type 0) (named : All (λ t. Q t.lit.var) (forward_of m).terms). later_grown Q mid two mid_numbered
          (written-all (λ t. Q t.lit.var) (reverse_of m).terms (spare m) others
          (All-cons (λ (t : Weighted). Q t.lit.var) (record { coef = spare m; lit = record { var = m.var; positive = true } }) (map opposite m.sum)
          (All-head (λ (t : Weighted). Q t.lit.var) (record { coef = m.least; lit = record { var = m.var; positive = false } }) m.sum named)
          (All-map (λ (t : Weighted). Q t.lit.var) opposite m.sum (All-tail (λ (t : Weighted). Q t.lit.var) (record { coef = m.least; lit = record { var = m.var; positive = false } }) m.sum named)))) in
          record {
            end = end;
            runs = (mid, first_allowed _, (end, second_allowed reach _, (refl, refl)));
            later = λ Q named. later_then Q db mid end (later_first Q named) (stays Q named);
            next = omega arith;
            meant = record {
              first = later_knows (λ v. Unit {0}) mid end db.next (forward_of m) (stays (λ v. Unit {0}) (λ k d h. tt)) (omega arith) one_known;
              second = λ k. (two, at_grown mid two mid_numbered, two_form);
            };
          }

-- ---- one after the other

meant_later : (P : ℕ → Type 0) (db end : Database) (id : ℕ) (m : Reification) → IsLater P db end → IsNumbered db → IsMeant db id m → IsMeant end id m
meant_later P db end id m later numbered h = record {
  first = later_knows P db end id (forward_of m) later (known_below db id (forward_of m) numbered h.first) h.first;
  second = λ reach. later_knows P db end (id + 1) (reverse_of m) later (known_below db (id + 1) (reverse_of m) numbered (h.second reach)) (h.second reach);
}

-- what reifications leave
pub record Meant (P : ℕ → Type 0) (db : Database) (ms : List Reification) : Type 0 where
  pub ran : Ran P db (reification_steps db.next ms) [] (2 * length ms)
  pub meant : AreMeant ran.end db.next ms

-- the others may still be added
reifications_left : (P : ℕ → Type 0) (db : Database) (steps : List Step) (m : Reification) (ms : List Reification) (first : Defined db steps m) → AreReifications P db (m ∷ ms) → AreReifications P first.end ms
reifications_left P db steps m ms first h =
    let Names : ℕ → Type 0 = λ v. ¬ (All (IsOther v) (forward_of m).terms) in
    let names : All (λ t. Names t.lit.var) (forward_of m).terms = λ k d within all. all k d within refl in
    let later = first.later Names names in
    let apart = AllPairs-head NamesNot m ms h.in_order in
    let unnamed = All-tail (λ (m : Reification). IsUnnamed m.var db) m ms h.unnamed in
    record {
      each = All-weaker (IsReification db.original db.vars) (IsReification first.end.original first.end.vars)
          (λ n is. record {
            fresh = omega (arith, is.fresh, later.original);
            known = omega (arith, is.known, later.vars);
            sum_known = All-weaker (λ (t : Weighted). t.lit.var ≤ db.vars) (λ (t : Weighted). t.lit.var ≤ first.end.vars) (λ t k. omega (arith, k, later.vars)) n.sum is.sum_known;
            apart = is.apart;
            positive = is.positive;
            other = is.other;
            some = is.some;
            light = is.light;
          })
          ms (All-tail (IsReification db.original db.vars) m ms h.each);
      named = All-tail (λ (m : Reification). All (λ t. P t.lit.var) (forward_of m).terms) m ms h.named;
      unnamed = λ k d within. later.unnamed (get_or ms k d).var (λ none. none (apart k d within)) (unnamed k d within);
      in_order = AllPairs-tail NamesNot m ms h.in_order;
    }

pub meant_all : (P : ℕ → Type 0) (db end : Database) (id : ℕ) (ms : List Reification) → IsLater P db end → IsNumbered db → AreMeant db id ms → AreMeant end id ms
meant_all P db end id [] later numbered h = tt
meant_all P db end id (m ∷ ms) later numbered h = (meant_later P db end id m later numbered h.0, meant_all P db end (id + 2) ms later numbered h.1)

pub reifications_ran : (P : ℕ → Type 0) (db : Database) (ms : List Reification) → IsNumbered db → AreReifications P db ms → Meant P db ms
reifications_ran P db [] numbered h = record { ran = ran_none P db numbered; meant = tt }
reifications_ran P db (m ∷ ms) numbered h =
    let is = All-head (IsReification db.original db.vars) m ms h.each in
    let first = reification_defined db numbered m is (All-head (λ (m : Reification). IsUnnamed m.var db) m ms h.unnamed) in
    let named = All-head (λ (m : Reification). All (λ t. P t.lit.var) (forward_of m).terms) m ms h.named in
    let later = first.later P named in
    let rest = reifications_ran P first.end ms later.numbered (reifications_left P db _ m ms first h) in
    let end : Database = rest.ran.end in
    record {
      ran = record {
        end = end;
        runs = subst (λ (n : ℕ). Runs db (redundant (forward_of m) m.var false ∷ cond {A = Step} (ltb (weight m.sum) m.least) (Rup [] (pos 0) (db.next ∷ [])) (redundant (reverse_of m) m.var true) ∷ reification_steps n ms) [] end) first.next
            (runs_append db first.end end (redundant (forward_of m) m.var false ∷ cond {A = Step} (ltb (weight m.sum) m.least) (Rup [] (pos 0) (db.next ∷ [])) (redundant (reverse_of m) m.var true) ∷ []) (reification_steps first.end.next ms) [] [] first.runs rest.ran.runs);
        later = later_then P db first.end end later rest.ran.later;
        next = omega (arith, rest.ran.next, first.next);
      };
      meant = (
        meant_later P first.end end db.next m rest.ran.later later.numbered first.meant,
        subst (λ (n : ℕ). AreMeant end n ms) first.next rest.meant,
      );
    }

-- the reification at a place
pub meant_at : (db : Database) (id : ℕ) (ms : List Reification) (k : ℕ) (m : Reification) → k < length ms → AreMeant db id ms → IsMeant db (id + 2 * k) (get_or ms k m)
meant_at db id [] k m within h = absurd (omega arith)
meant_at db id (n ∷ ms) zero m within h = subst (λ (i : ℕ). IsMeant db i n) (let e : id ≡ id + 2 * 0 = omega arith in e) h.0
meant_at db id (n ∷ ms) (suc k) m within h =
    subst (λ (i : ℕ). IsMeant db i (get_or ms k m)) (let e : id + 2 + 2 * k ≡ id + 2 * suc k = omega arith in e) (meant_at db (id + 2) ms k m (omega arith) h.1)
