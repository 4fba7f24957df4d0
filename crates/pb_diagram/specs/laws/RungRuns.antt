-- A level's lines run, and leave that its false nodes weigh no more than the literals from the level on.
use Rattle.std.proofs.Common.{◌≡◌, ◌≢◌, ◌≤◌, ◌<◌, ◌+◌, ◌*◌, ◌^◌, ◌⊎◌, inl, inr, ℕ, List, [], ◌∷◌, ◌++◌, length, refl, sym, ◌∙◌, subst, arith, get_or}
use Rattle.std.specs.Prelude.{All, None}
use Rattle.std.specs.List.{range_with_len}
use Rattle.std.proofs.lemmas.Bool.{cases_eq}
use Rattle.std.proofs.lemmas.List.Elements.{All-nil, All-cons, All-append, All-weaker}
use Rattle.pb_norm.specs.Constraints.{Weighted, Constraint, AllPositive, weight}
use Rattle.pb_steps.specs.declared.op.PolOp.TheVariants.{Push}
use Rattle.pb_steps.specs.declared.step.Step.{Step}
use Rattle.pb_steps.specs.declared.step.Step.TheVariants.{Del}
use Rattle.pb_steps.specs.Database.{Entry, Database, entry, reduced}
use Rattle.pb_steps.specs.Runs.{Runs}
use Rattle.pb_derive.specs.Forms.{AreApartTerms}
use Rattle.pb_derive.specs.Later.{IsOther, IsUnnamed, IsLater, Knows}
use Rattle.pb_derive.specs.Reifications.{forward_of, reverse_of, reification_steps}
use Rattle.pb_derive.specs.inner.Meant.{AreReifications}
use Rattle.pb_derive.proofs.Deleted.{at_reduced, reduced_all}
use Rattle.pb_derive.proofs.FormOperations.{form_all}
use Rattle.pb_derive.proofs.Holding.{IsHolding, OrBetween, before, between, LeftOut, holding_same, holding_added, holding_deleted, deleted_allowed}
use Rattle.pb_derive.proofs.IdRanges.{IsOff, outside, off-range, each_between, range-apart}
use Rattle.pb_derive.proofs.Laters.{later_then, later_knows}
use Rattle.pb_derive.proofs.Lines.{Adds, Added, added_then, LineRan, line_ran, MeantFrom, meant_from}
use Rattle.pb_derive.proofs.Meant.{reifications_ran}
use Rattle.pb_derive.proofs.Running.{runs_append}
use Rattle.pb_diagram.specs.Guards.{Rung, guard, guard_width, last_top, split_line, climb_line, rung_lines, rung_steps}
use Rattle.pb_diagram.specs.laws.ClimbLines.{climb_of, climb-apart, climb-positive, climb_adds}
use Rattle.pb_diagram.specs.laws.GuardReification.{guard_added, guard_weight}
use Rattle.pb_diagram.specs.laws.GuardSplit.{IsRung, guard_split}
use Rattle.pb_diagram.specs.laws.RungLines.{unit_clause}
use Rattle.pb_diagram.specs.laws.RungSizes.{IsModest, split_small, climb_small}
use Rattle.pb_diagram.specs.laws.Unnamed.{unnamed_or_new, NamedBetween, LineGrown, line_grown, left_off, unnamed_left}

abbrev pub Below : ℕ → ℕ → Type 0
Below limit v = v < limit

-- all is there for a level's lines: what the next level's sum says has the id `held`
pub record MayClimb (limit : ℕ) (base db : Database) (v : ℕ) (r : Rung) (ts : List Weighted) (held : ℕ) : Type 1 where
  pub holding : IsHolding (Below limit) base db (λ i. i ≡ held)
  pub at : db.next ≡ held + 1
  pub unnamed : IsUnnamed v db
  pub known : Knows db held (climb_of ts r.after r.next)
  pub rung : (d : Database) → IsLater (Below limit) base d → IsRung d r
  pub modest : IsModest r
  pub light : r.term.coef + weight ts ≤ 2 ^ 100
  pub some : 0 < last_top r.nodes
  pub original : base.original < v
  pub first : v < r.var
  pub other : v ≢ r.term.lit.var
  pub limited : r.after + length r.next ≤ limit
  pub fits : limit ≤ base.vars + 1
  pub apart : AreApartTerms (r.term ∷ ts)
  pub positive : AllPositive (r.term ∷ ts)
  pub low : All (λ t. t.lit.var < v) (r.term ∷ ts)
  pub named : All (λ t. t.lit.var < limit) (climb_of (r.term ∷ ts) r.var r.nodes).terms
  pub apart_v : All (IsOther v) (climb_of (r.term ∷ ts) r.var r.nodes).terms

-- steps ran, and what a level's sum says has the id `held`; nothing else is held, and the guard's variable is free
pub record ClimbRan (limit : ℕ) (base db : Database) (v : ℕ) (steps : List Step) (held : ℕ) (t : Constraint) : Type 1 where
  pub end : Database
  pub runs : Runs db steps [] end
  pub holding : IsHolding (Below limit) base end (λ i. i ≡ held)
  pub at : end.next ≡ held + 1
  pub unnamed : IsUnnamed v end
  pub known : Knows end held t

module _ (limit : ℕ) (base db : Database) (v : ℕ) (r : Rung) (ts : List Weighted) (held : ℕ) (h : MayClimb limit base db v r ts held) where
  abbrev P : ℕ → Type 0
  P = Below limit

  abbrev now : Constraint
  now = climb_of (r.term ∷ ts) r.var r.nodes

  later_0 : IsLater P base db
  later_0 = h.holding.later

  rung_0 : IsRung db r
  rung_0 = h.rung db later_0

  small_v : v < limit
  small_v = omega (arith, h.first, rung_0.high, h.limited)

  guards : AreReifications P db (guard v r ∷ [])
  guards = guard_added v r h.first h.other rung_0.low rung_0.high rung_0.up rung_0.rise P db (omega (arith, h.original, later_0.original)) rung_0.fits rung_0.counted h.some
      (omega (arith, rung_0.top, rung_0.last, h.modest.ends, h.modest.next_ends)) h.unnamed small_v (omega (arith, rung_0.low, rung_0.high, h.limited)) (λ w from to. omega (arith, to, h.limited))

  meant : MeantFrom P db (held + 1) (guard v r ∷ [])
  meant = meant_from P db (held + 1) (guard v r ∷ []) h.at (reifications_ran P db (guard v r ∷ []) later_0.numbered guards)

  abbrev d1 : Database
  d1 = meant.added.ran.end

  at_1 : d1.next ≡ held + 3
  at_1 = omega (arith, meant.added.ran.next, h.at)

  rung_1 : IsRung d1 r
  rung_1 = h.rung d1 (later_then P base db d1 later_0 meant.added.ran.later)

  forward_1 : Knows d1 (held + 1) (forward_of (guard v r))
  forward_1 = meant.meant.0.first

  reverse_1 : Knows d1 (held + 2) (reverse_of (guard v r))
  reverse_1 = subst (λ (i : ℕ). Knows d1 i (reverse_of (guard v r))) (let e : held + 1 + 1 ≡ held + 2 = omega arith in e)
      (meant.meant.0.second (omega (arith, guard_weight v r h.first h.other rung_1.low rung_1.high rung_1.up rung_1.rise, rung_1.top)))

  abbrev split : Step
  split = split_line r (Push (held + 2) ∷ []) (guard_width r)

  one : LineRan P d1 split (held + 3) (unit_clause v)
  one = line_ran P d1 split (held + 3) (unit_clause v) meant.added.ran.later.numbered at_1 (guard_split d1 r v (held + 2) rung_1 h.first h.other reverse_1 P small_v (split_small d1 r v (held + 2) rung_1 h.first h.other h.modest reverse_1))

  abbrev d2 : Database
  d2 = one.added.ran.end

  at_2 : d2.next ≡ held + 4
  at_2 = omega (arith, one.added.ran.next, at_1)

  abbrev guarded : Added P db (reification_steps (held + 1) (guard v r ∷ []) ++ split ∷ []) (2 * 1 + 1)
  guarded = added_then P db (reification_steps (held + 1) (guard v r ∷ [])) (split ∷ []) (2 * 1) 1 meant.added one.added

  rung_2 : IsRung d2 r
  rung_2 = h.rung d2 (later_then P base db d2 later_0 guarded.ran.later)

  abbrev climb : Step
  climb = climb_line r (held + 1) (held + 3) held

  climbs : Adds P d2 climb now
  climbs = climb_adds d2 r v (held + 1) (held + 3) held ts rung_2 h.first h.other P
      (later_knows P d1 d2 (held + 1) (forward_of (guard v r)) one.added.ran.later (omega (arith, at_1)) forward_1) one.known
      (later_knows P db d2 held (climb_of ts r.after r.next) guarded.ran.later (omega (arith, h.at)) h.known)
      h.apart h.positive h.low h.named h.some (climb_small d2 r v (held + 1) rung_2 h.first h.other h.modest (held + 1) (held + 3) held ts h.light)

  grows : LineGrown P d2 climb (held + 4) now climbs.constraint
  grows = line_grown P d2 climb (held + 4) now guarded.ran.later.numbered at_2 climbs

  abbrev last : LineRan P d2 climb (held + 4) now
  last = grows.line

  abbrev d3 : Database
  d3 = last.added.ran.end

  at_3 : d3.next ≡ held + 4 + 1
  at_3 = omega (arith, last.added.ran.next, at_2)

  abbrev all : Added P db (rung_lines v r held) (2 * 1 + (1 + 1))
  all = added_then P db (reification_steps (held + 1) (guard v r ∷ [])) (split ∷ climb ∷ []) (2 * 1) (1 + 1) meant.added (added_then P d1 (split ∷ []) (climb ∷ []) 1 1 one.added last.added)

  -- ---- the variable is named between alone

  named_2 : All (NamedBetween v (held + 1) (held + 4)) d2.live
  named_2 =
      let old : All (λ e. All (IsOther v) e.constraint.terms ⊎ (held + 1 ≤ e.id)) d2.live =
      unnamed_or_new v (held + 1) db (reification_steps (held + 1) (guard v r ∷ []) ++ split ∷ []) [] d2 (omega (arith, h.at)) guarded.adding guarded.ran.runs (λ k d w. inl (h.unnamed k d w)) in
      λ k d w. elim (old k d w) as (λ _. NamedBetween v (held + 1) (held + 4) (get_or d2.live k d)) [
        | inl none ↦ inl none
        | inr new ↦ inr (new, omega (arith, guarded.ran.later.numbered k d w, at_2))
      ]

  named_3 : All (NamedBetween v (held + 1) (held + 4)) d3.live
  named_3 =
      subst (λ (d : Database). All (NamedBetween v (held + 1) (held + 4)) d.live) (sym grows.is)
      (All-append (NamedBetween v (held + 1) (held + 4)) d2.live (entry d2.next climbs.constraint ∷ []) named_2
      (All-cons (NamedBetween v (held + 1) (held + 4)) (entry d2.next climbs.constraint) [] (inl climbs_other) (All-nil (NamedBetween v (held + 1) (held + 4)))))
    where
      climbs_other : All (IsOther v) climbs.constraint.terms
      climbs_other = form_all (IsOther v) now climbs.constraint
          (climb-apart (r.term ∷ ts) r.var r.nodes h.apart (All-weaker (λ (t : Weighted). t.lit.var < v) (λ (t : Weighted). t.lit.var < r.var) (λ t k. omega (arith, k, h.first)) (r.term ∷ ts) h.low))
          (climb-positive (r.term ∷ ts) r.var r.nodes h.positive rung_2.up) climbs.form h.apart_v

  -- ---- they go

  abbrev gone : List ℕ
  gone = range_with_len held 4

  abbrev InTop : ℕ → Type 0
  InTop = OrBetween (λ i. i ≡ held) db.next d3.next

  holds_3 : IsHolding P base d3 InTop
  holds_3 = holding_added P base db (λ i. i ≡ held) (rung_lines v r held) (2 * 1 + (1 + 1)) h.holding all

  in_top : (i : ℕ) → held ≤ i → i < held + 5 → InTop i
  in_top i from to =
      elim (cases_eq i held) as (λ _. InTop i) [
        | inl same ↦ before same
        | inr other ↦ between (omega (arith, h.at, from, other)) (omega (arith, at_3, to))
      ]

  each_gone : All InTop gone
  each_gone = each_between InTop held 4 (λ i from to. in_top i from (omega (arith, to)))

  abbrev end : Database
  end = reduced d3 gone

  outside_left : All (λ e. (e.id < held + 1) ⊎ (held + 4 ≤ e.id)) end.live
  outside_left = All-weaker (λ (e : Entry). IsOff gone e.id) (λ (e : Entry). (e.id < held + 1) ⊎ (held + 4 ≤ e.id))
      (λ e off. elim (outside held 4 e.id off) as (λ _. (e.id < held + 1) ⊎ (held + 4 ≤ e.id)) [ inl early ↦ inl (omega (arith, early)) | inr late ↦ inr late ]) end.live (left_off d3 gone)

  unnamed_end : IsUnnamed v end
  unnamed_end = unnamed_left v (held + 1) (held + 4) end.live (reduced_all (NamedBetween v (held + 1) (held + 4)) d3 gone named_3) outside_left

  there : (i : ℕ) → LeftOut InTop gone i → i ≡ held + 4
  there i left =
      elim (outside held 4 i left.1) as (λ _. i ≡ held + 4) [
        | inl early ↦ elim left.0 as (λ _. i ≡ held + 4) [
          | before same ↦ absurd (omega (arith, same, early))
          | between from to ↦ absurd (omega (arith, from, h.at, early))
        ]
        | inr late ↦ elim left.0 as (λ _. i ≡ held + 4) [
          | before same ↦ absurd (omega (arith, same, late))
          | between from to ↦ omega (arith, late, to, at_3)
        ]
      ]

  back : (i : ℕ) → i ≡ held + 4 → LeftOut InTop gone i
  back i same = (in_top i (omega (arith, same)) (omega (arith, same)), off-range held 4 i (inr (omega (arith, same))))

  pub rung_ran : ClimbRan limit base db v (rung_steps v r held) (held + 4) (climb_of (r.term ∷ ts) r.var r.nodes)
  rung_ran = record {
    end = reduced d3 (range_with_len held 4);
    runs = runs_append db d3 end (rung_lines v r held) (Del gone ∷ []) [] [] all.ran.runs (end, deleted_allowed P base d3 InTop gone None each_gone (range-apart held 4) holds_3, (refl, refl));
    holding = holding_same P P base end (LeftOut InTop gone) (λ i. i ≡ held + 4) (λ w p. p) there back (holding_deleted P base d3 InTop gone each_gone holds_3);
    at = at_3;
    unnamed = unnamed_end;
    known = (last.known.0, at_reduced d3 gone (held + 4) (off-range held 4 (held + 4) (inr (omega arith))) ∙ last.known.1, last.known.2);
  }
