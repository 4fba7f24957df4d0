-- A variable is not named any more, once the constraints with some ids are gone.
use Rattle.std.proofs.Common.{◌≡◌, ◌≢◌, ◌≤◌, ◌<◌, ◌+◌, ◌⊎◌, inl, inr, ℕ, true, false, not, eqb, List, [], ◌∷◌, refl, sym, subst, arith, get_or}
use Rattle.std.specs.Prelude.{All, Option, None}
use Rattle.std.proofs.lemmas.Bool.{both_ways, or_parts, eq-eqb, not-true}
use Rattle.std.proofs.lemmas.List.Elements.{All-nil, All-cons, All-head, All-tail, All-append, All-weaker, filter_passes}
use Rattle.pb_base.specs.declared.literal.Lit.{Lit}
use Rattle.pb_norm.specs.Constraints.{Constraint}
use Rattle.pb_norm.specs.Halves.{written}
use Rattle.pb_steps.specs.declared.step.Step.{Step}
use Rattle.pb_steps.specs.declared.step.Step.TheVariants.{Blank, Head, Loaded, Pol, Rup, Red, Del, Out, End}
use Rattle.pb_steps.specs.Allowed.{Allowed}
use Rattle.pb_steps.specs.Database.{Entry, Database, entry, grown, reduced, is_listed}
use Rattle.pb_steps.specs.Runs.{Runs, next_clause, clauses_after}
use Rattle.pb_steps.specs.Steps.{takes_id}
use Rattle.pb_derive.specs.Later.{IsOther, IsNumbered, Knows}
use Rattle.pb_derive.proofs.Held.{AreAdding}
use Rattle.pb_derive.proofs.IdRanges.{IsOff}
use Rattle.pb_derive.proofs.Laters.{at_grown, later_grown}
use Rattle.pb_derive.proofs.Lines.{Adds, LineRan}
use Rattle.pb_derive.proofs.Running.{takes_keeps}

-- ---- steps that add constraints

added : (db : Database) (s : Step) (c : Option (List Lit)) (end : Database) → takes_id s ≡ true → Allowed db s c end → (d : Constraint) × (end ≡ grown db d)
added db (Pol ops) c end t h = (h.rule.sum, h.rule.after)
added db (Rup ts right ids) c end t h = (written ts right, h.rule.after)
added db (Red ts right sets) c end t h = (written ts right, h.rule.after)
added db Blank c end t h = absurd (both_ways false refl t)
added db Head c end t h = absurd (both_ways false refl t)
added db (Loaded count) c end t h = absurd (both_ways false refl t)
added db (Del ids) c end t h = absurd (both_ways false refl t)
added db (Out id) c end t h = absurd (both_ways false refl t)
added db End c end t h = absurd (both_ways false refl t)

abbrev OldOr : ℕ → ℕ → Entry → Type 0
OldOr v n e = All (IsOther v) e.constraint.terms ⊎ (n ≤ e.id)

-- what names the variable has an id from the next one on
pub unnamed_or_new : (v n : ℕ) (db : Database) (ss : List Step) (cs : List (List Lit)) (end : Database) → n ≤ db.next → AreAdding ss → Runs db ss cs end → All (OldOr v n) db.live → All (OldOr v n) end.live
unnamed_or_new v n db [] cs end le takes h all = subst (λ (d : Database). All (OldOr v n) d.live) (sym h.1) all
unnamed_or_new v n db (s ∷ ss) cs end le takes h all =
    let one = added db s (next_clause cs) h.0 (All-head (λ (s : Step). takes_id s ≡ true) s ss takes) h.1 in
    let more : All (OldOr v n) (grown db one.0).live = All-append (OldOr v n) db.live (entry db.next one.0 ∷ []) all (All-cons (OldOr v n) (entry db.next one.0) [] (inr le) (All-nil (OldOr v n))) in
    let next : n ≤ h.0.next = subst (λ (d : Database). n ≤ d.next) (sym one.1) (let e : n ≤ db.next + 1 = omega (arith, le) in e) in
    unnamed_or_new v n h.0 ss (clauses_after s cs) end next (All-tail (λ (s : Step). takes_id s ≡ true) s ss takes) h.2 (subst (λ (d : Database). All (OldOr v n) d.live) (sym one.1) more)

-- ---- one line that does not name it

-- or what names it has an id from one to another
abbrev pub NamedBetween : ℕ → ℕ → ℕ → Entry → Type 0
NamedBetween v n m e = All (IsOther v) e.constraint.terms ⊎ ((n ≤ e.id) × (e.id < m))

-- the line, and what it leaves
pub record LineGrown (P : ℕ → Type 0) (db : Database) (step : Step) (id : ℕ) (t c : Constraint) : Type 0 where
  pub line : LineRan P db step id t
  pub is : line.added.ran.end ≡ grown db c

pub line_grown : (P : ℕ → Type 0) (db : Database) (step : Step) (id : ℕ) (t : Constraint) → IsNumbered db → db.next ≡ id → (adds : Adds P db step t) → LineGrown P db step id t adds.constraint
line_grown P db step id t numbered at adds =
    let c : Constraint = adds.constraint in
    let end : Database = grown db c in
    record {
      line = record {
        added = record {
          ran = record {
            end = end;
            runs = (end, adds.allowed None, subst (λ (cs : List (List Lit)). Runs end [] cs end) (sym (takes_keeps step adds.takes [])) (refl, refl));
            later = later_grown P db c numbered adds.named;
            next = refl;
          };
          adding = All-cons (λ (s : Step). takes_id s ≡ true) step [] adds.takes (All-nil (λ (s : Step). takes_id s ≡ true));
        };
        known = subst (λ (k : ℕ). Knows end k t) at (c, at_grown db c numbered, adds.form);
      };
      is = refl;
    }

-- ---- some ids go

none_off : (ids : List ℕ) (i : ℕ) → is_listed ids i ≡ false → IsOff ids i
none_off [] i h = All-nil (λ (j : ℕ). j ≢ i)
none_off (j ∷ ids) i h =
    let parts = or_parts (eqb j i) (is_listed ids i) h in
    All-cons (λ (k : ℕ). k ≢ i) j ids (λ same. both_ways (eqb j i) parts.0 (eq-eqb j i same)) (none_off ids i parts.1)

pub left_off : (db : Database) (ids : List ℕ) → All (λ e. IsOff ids e.id) (reduced db ids).live
left_off db ids =
    All-weaker (λ (e : Entry). not (is_listed ids e.id) ≡ true) (λ (e : Entry). IsOff ids e.id) (λ e left. none_off ids e.id (not-true (is_listed ids e.id) left)) (reduced db ids).live (filter_passes (λ (e : Entry). not (is_listed ids e.id)) db.live)

pub unnamed_left : (v n m : ℕ) (es : List Entry) → All (NamedBetween v n m) es → All (λ e. (e.id < n) ⊎ (m ≤ e.id)) es → All (λ e. All (IsOther v) e.constraint.terms) es
unnamed_left v n m es named out = λ k d w. elim (named k d w) as (λ _. All (IsOther v) (get_or es k d).constraint.terms) [
  | inl other ↦ other
  | inr between ↦ elim (out k d w) as (λ _. All (IsOther v) (get_or es k d).constraint.terms) [
    | inl early ↦ absurd (omega (arith, early, between.0))
    | inr late ↦ absurd (omega (arith, late, between.1))
  ]
]
