-- A visit to a constraint.
use Rattle.std.proofs.Common.{◌≡◌, ◌≤◌, ◌<◌, ◌+◌, ◌-◌, inl, inr, ℕ, Bool, true, false, not, cond, List, [], ◌∷◌, ◌++◌, append_assoc, Option, arith, length, get_or, ◌&&◌, refl, ap, sym, ◌∙◌, subst}
use Rattle.std.specs.Prelude.{All, Contains, nat_lt}
use Rattle.std.specs.Bool.{OnTrue, OnFalse}
use Rattle.std.proofs.lemmas.Bool.{or_left, or_right, both_ways, and_parts, and_cases, ltb-true, not-true, not-false, lt-ltb}
use Rattle.std.proofs.lemmas.List.Elements.{All-nil, All-cons, All-head, All-tail, All-weaker, All-contains_itself}
use Rattle.std.proofs.Math.ListN.{get_or-map, length-map}
use Rattle.pb_base.specs.declared.literal.Lit.{Lit}
use Rattle.pb_base.specs.declared.literal.Term.{Term}
use Rattle.pb_base.specs.Literals.{negated, is_same, is_among}
use Rattle.pb_base.proofs.LiteralLemmas.{is_same-refl}
use Rattle.pb_norm.specs.Constraints.{Weighted, Constraint, weighted, weights, HasVarsWithin}
use Rattle.pb_norm.specs.Propagation.{room, Needs}
use Rattle.pb_norm.proofs.Rooms.{IsPart, room-le}
use Rattle.pb_norm.proofs.Consistent.{consistent-cons}
use Rattle.pb_unit.specs.Trails.{Held}
use Rattle.pb_unit.specs.States.{Stands, standing}
use Rattle.pb_unit.specs.Steps.{IsDecided, IsAtRest, IsCalm, IsAlert, with_needed, with_all_needed, Advances, HasTooLittle, VisitShort, VisitJoined}
use Rattle.pb_unit.proofs.Standing.{stands_contains}

kept_more : (l : Lit) (ls : List Lit) → IsPart ls (l ∷ ls)
kept_more l ls k h = or_right (is_same l k) (is_among ls k) h

abbrev is_needed : ℕ → Weighted → List Lit → Bool
is_needed slack t ls = nat_lt slack t.coef && not (is_among ls t.lit) && not (is_among ls (negated t.lit))

not_needed : (slack : ℕ) (t : Weighted) (ls : List Lit) → is_needed slack t ls ≡ false → IsAtRest ls slack t
not_needed slack t ls e more =
    elim (and_cases (nat_lt slack t.coef && not (is_among ls t.lit)) (not (is_among ls (negated t.lit))) e) [
      | inl first ↦
          elim (and_cases (nat_lt slack t.coef) (not (is_among ls t.lit)) first) [
            | inl small ↦ absurd (both_ways (nat_lt slack t.coef) small (lt-ltb slack t.coef more))
            | inr there ↦ inl (not-false (is_among ls t.lit) there)
          ]
      | inr opposite ↦ inr (not-false (is_among ls (negated t.lit)) opposite)
    ]

-- a constraint that needs a term's literal
needed : (cs : List Constraint) (c : Constraint) (slack : ℕ) (t : Weighted) (ls : List Lit) → Contains cs c → Contains c.terms t → room ls c.terms ≤ slack + c.degree → is_needed slack t ls ≡ true → Needs cs ls t.lit
needed cs c slack t ls known term within e =
    let parts = and_parts (nat_lt slack t.coef && not (is_among ls t.lit)) (not (is_among ls (negated t.lit))) e in
    let first = and_parts (nat_lt slack t.coef) (not (is_among ls t.lit)) parts.0 in
    let more : slack < t.coef = ltb-true slack t.coef first.0 in
    record {
      by = c;
      coef = t.coef;
      known = known;
      term = term;
      short = omega (arith, more, within);
      absent = not-true (is_among ls t.lit) first.1;
      undecided = not-true (is_among ls (negated t.lit)) parts.1;
    }

pub stays : (cs : List Constraint) (given : List Lit) (a : List Lit) → Advances cs given a a
stays cs given a = record { reached = λ r. r; consistent = λ h. h; kept = λ l h. h; more = []; extends = refl }

-- one step after another
pub then : (cs : List Constraint) (given : List Lit) (a b c : List Lit) → Advances cs given a b → Advances cs given b c → Advances cs given a c
then cs given a b c f g = record {
  reached = λ r. g.reached (f.reached r);
  consistent = λ h. g.consistent (f.consistent h);
  kept = λ l h. g.kept l (f.kept l h);
  more = g.more ++ f.more;
  extends = g.extends ∙ (ap (λ (xs : List Lit). g.more ++ xs) f.extends ∙ sym (append_assoc g.more f.more a));
}

-- the literals that a constraint needs join
needed_advances : (cs : List Constraint) (given : List Lit) (c : Constraint) (slack : ℕ) (ts : List Weighted) (ls : List Lit) → Contains cs c → All (Contains c.terms) ts → room ls c.terms ≤ slack + c.degree → Advances cs given ls (with_all_needed slack ts ls)
needed_advances cs given c slack [] ls known terms within = stays cs given ls
needed_advances cs given c slack (t ∷ ts) ls known terms within =
    step (is_needed slack t ls) refl
    (λ ms w. needed_advances cs given c slack ts ms known (All-tail (Contains c.terms) t ts terms) w)
  where
    step : (b : Bool) → is_needed slack t ls ≡ b → ((ms : List Lit) → room ms c.terms ≤ slack + c.degree → Advances cs given ms (with_all_needed slack ts ms)) → Advances cs given ls (with_all_needed slack ts (cond b (t.lit ∷ ls) ls))
    step true e more =
        let rest = more (t.lit ∷ ls) (omega (arith, room-le ls (t.lit ∷ ls) (kept_more t.lit ls) c.terms, within)) in
        let need = needed cs c slack t ls known (All-head (Contains c.terms) t ts terms) within e in
        let first : Advances cs given ls (t.lit ∷ ls) = record {
          reached = λ r. (inr need, r);
          consistent = λ h. consistent-cons t.lit ls h need.undecided;
          kept = kept_more t.lit ls;
          more = t.lit ∷ [];
          extends = refl;
        } in
        then cs given ls (t.lit ∷ ls) (with_all_needed slack ts (t.lit ∷ ls)) first rest
    step false e more = more ls within

pub within_at : (vars : ℕ) (ts : List Term) (i : ℕ) (t : Term) → i < length ts → t ≡ get_or ts i t → HasVarsWithin vars (weights ts) → t.lit.var ≤ vars
within_at vars ts i t below at within =
    let e : get_or (weights ts) i (weighted t) ≡ weighted t = get_or-map weighted ts i t ∙ ap weighted (sym at) in
    let h : (get_or (weights ts) i (weighted t)).lit.var ≤ vars = within i (weighted t) (omega (arith, length-map ts weighted)) in
    omega (arith, h, ap (λ (u : Weighted). u.lit.var) e)

with_needed-kept : (slack : ℕ) (t : Weighted) (ls : List Lit) (k : Lit) → is_among ls k ≡ true → is_among (with_needed slack t ls) k ≡ true
with_needed-kept slack t ls k h = by_cases (is_needed slack t ls) where
  by_cases : (b : Bool) → is_among (cond b (t.lit ∷ ls) ls) k ≡ true
  by_cases true = or_right (is_same t.lit k) (is_among ls k) h
  by_cases false = h

still : (slack : ℕ) (us : List Weighted) (ms : List Lit) (k : Lit) → is_among ms k ≡ true → is_among (with_all_needed slack us ms) k ≡ true
still slack [] ms k h = h
still slack (u ∷ us) ms k h = still slack us (with_needed slack u ms) k (with_needed-kept slack u ms k h)

-- each term is at rest once its literal had its turn
all_at_rest : (slack : ℕ) (ts : List Weighted) (ls : List Lit) → All (IsAtRest (with_all_needed slack ts ls) slack) ts
all_at_rest slack [] ls = All-nil (IsAtRest ls slack)
all_at_rest slack (t ∷ ts) ls =
    All-cons (IsAtRest (with_all_needed slack ts (with_needed slack t ls)) slack) t ts
    (decided (is_needed slack t ls) refl)
    (all_at_rest slack ts (with_needed slack t ls))
  where
    kept_all : (us : List Weighted) (ms : List Lit) (k : Lit) → IsDecided ms k → IsDecided (with_all_needed slack us ms) k
    kept_all us ms k (inl there) = inl (still slack us ms k there)
    kept_all us ms k (inr opposite) = inr (still slack us ms (negated k) opposite)

    decided : (b : Bool) → is_needed slack t ls ≡ b → IsAtRest (with_all_needed slack ts (cond b (t.lit ∷ ls) ls)) slack t
    decided true e more = kept_all ts (t.lit ∷ ls) t.lit (inl (or_left (is_same t.lit t.lit) (is_among ls t.lit) (is_same-refl t.lit)))
    decided false e more = kept_all ts ls t.lit (not_needed slack t ls e more)

-- ---- a visit, by its answer

pub shown_advanced : (b : Bool) (cs : List Constraint) (given : List Lit) (r : ℕ) (c : Constraint) (before after : Held) → Contains cs c → room before.lits c.terms ≤ r → VisitShort b r c before after → VisitJoined b r c before.lits after.lits → Advances cs given before.lits after.lits
shown_advanced true cs given r c before after known bound short joined =
    subst (Advances cs given before.lits) (sym joined.1) (needed_advances cs given c (r - c.degree) c.terms before.lits known (All-contains_itself c.terms) (omega (arith, bound, joined.0)))
shown_advanced false cs given r c before after known bound short joined = subst (Advances cs given before.lits) (ap (λ (h : Held). h.lits) (sym short.0)) (stays cs given before.lits)

pub visit_advanced : (b : Bool) (ps : List (Option Constraint)) (given : List Lit) (p : ℕ) (r : ℕ) (c : Constraint) (before after : Held) → Stands ps p c → room before.lits c.terms ≤ r → VisitShort b r c before after → VisitJoined b r c before.lits after.lits → Advances (standing ps) given before.lits after.lits
visit_advanced b ps given p r c before after at = shown_advanced b (standing ps) given r c before after (stands_contains ps p c at)

pub shown_calm : (b : Bool) (r : ℕ) (c : Constraint) (before after : List Lit) → VisitJoined b r c before after → OnTrue b (IsCalm r after c)
shown_calm true r c before after joined = record {
  enough = joined.0;
  closed = subst (λ (ls : List Lit). All (IsAtRest ls (r - c.degree)) c.terms) (sym joined.1) (all_at_rest (r - c.degree) c.terms before);
}
shown_calm false r c before after joined = tt

pub visit_calm : (b : Bool) (ps : List (Option Constraint)) (p r : ℕ) (c : Constraint) (before after : List Lit) → Stands ps p c → VisitJoined b r c before after → OnTrue b ((d : Constraint) → Stands ps p d → IsCalm r after d)
visit_calm true ps p r c before after at joined = λ d at_d. let same : c ≡ d = cc (at, at_d) in subst (IsCalm r after) same (shown_calm true r c before after joined)
visit_calm false ps p r c before after at joined = tt

pub shown_short : (b : Bool) (r : ℕ) (c : Constraint) (before after : Held) → room before.lits c.terms ≤ r → VisitShort b r c before after → OnFalse b (room after.lits c.terms < c.degree)
shown_short true r c before after bound short = tt
shown_short false r c before after bound short = subst (λ (h : Held). room h.lits c.terms < c.degree) (sym short.0) (omega (arith, bound, short.1))

pub visit_short : (b : Bool) (ps : List (Option Constraint)) (p r : ℕ) (c : Constraint) (before after : Held) → Stands ps p c → room before.lits c.terms ≤ r → VisitShort b r c before after → OnFalse b (HasTooLittle ps after.lits p)
visit_short true ps p r c before after at bound short = tt
visit_short false ps p r c before after at bound short =
    record { constraint = c; at = at; short = shown_short false r c before after bound short }

-- ---- calm constraints

pub calm_alert : (alert r : ℕ) (c : Constraint) (ls : List Lit) → IsAlert alert c → alert ≤ r → IsCalm r ls c
calm_alert alert r c ls h enough = record {
  enough = omega (arith, h.degree, enough);
  closed = λ k d below more. absurd (omega (arith, h.terms k d below, more, enough));
}

-- what is calm stays so when more holds
pub calm_more : (r : ℕ) (c : Constraint) (before after : List Lit) → IsPart before after → IsCalm r before c → IsCalm r after c
calm_more r c before after part h = record {
  enough = h.enough;
  closed = All-weaker (IsAtRest before (r - c.degree)) (IsAtRest after (r - c.degree)) (λ t rest more. decided t (rest more)) c.terms h.closed;
}
  where
    decided : (t : Weighted) → IsDecided before t.lit → IsDecided after t.lit
    decided t (inl there) = inl (part t.lit there)
    decided t (inr opposite) = inr (part (negated t.lit) opposite)

-- a literal that is needed joins
pub needed_joins : (slack : ℕ) (t : Weighted) (ls : List Lit) → slack < t.coef → is_among ls t.lit ≡ false → is_among ls (negated t.lit) ≡ false → with_needed slack t ls ≡ t.lit ∷ ls
needed_joins slack t ls more absent undecided =
    ap (λ (x : Bool). cond (x && not (is_among ls t.lit) && not (is_among ls (negated t.lit))) (t.lit ∷ ls) ls) (lt-ltb slack t.coef more) ∙
    (ap (λ (x : Bool). cond (true && not x && not (is_among ls (negated t.lit))) (t.lit ∷ ls) ls) absent ∙
    ap (λ (x : Bool). cond (true && true && not x) (t.lit ∷ ls) ls) undecided)
