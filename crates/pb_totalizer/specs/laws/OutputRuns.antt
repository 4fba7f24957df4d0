-- The lines about a part run, and what they leave is known.
use Rattle.std.proofs.Common.{◌≡◌, ◌≤◌, ◌+◌, ◌-◌, ◌*◌, ◌^◌, ◌++◌, ℕ, zero, suc, List, subst, arith}
use Rattle.pb_norm.specs.Constraints.{Weighted}
use Rattle.pb_steps.specs.Database.{Database}
use Rattle.pb_derive.specs.Later.{IsNumbered, IsLater, Knows}
use Rattle.pb_derive.proofs.Laters.{later_then, later_knows}
use Rattle.pb_derive.proofs.Lines.{AreKnown, still_known, Added, added_as, added_then, LinesRan, lines_ran, ChainRan, chain_ran}
use Rattle.pb_derive.proofs.UnaryRows.{front_of}
use Rattle.pb_family.specs.Fresh.{positive_of}
use Rattle.pb_totalizer.specs.OutputRows.{nothing_line, front_line, front_lines, tail_line, tail_lines, others_line, others_lines, row_lines, row_size, others_at}
use Rattle.pb_totalizer.specs.laws.OutputForms.{tail_of, others_of}
use Rattle.pb_totalizer.specs.laws.OutputAdds.{Below, IsReified, reified_later, nothing_adds, front_adds, tail_adds, others_adds}

-- what the lines about a row start from
pub record MayTell (db : Database) (top p row last m next : ℕ) (ts : List Weighted) : Type 0 where
  pub few : m ≤ 2 ^ 32
  pub under : p + suc last ≤ top
  pub vars : top ≤ db.vars + 1
  pub numbered : IsNumbered db
  pub at : db.next ≡ next
  pub reified : IsReified db p row last m ts
  pub before : row + 2 * suc last ≤ next

-- and what they leave
pub record RowTold (db : Database) (top p row last m next : ℕ) : Type 0 where
  pub added : Added (Below top) db (row_lines p row m last next) (row_size last)
  pub known : AreKnown added.ran.end (others_at last next) (others_of p last) (suc (suc last))

module _ (db : Database) (top p row last m next : ℕ) (ts : List Weighted) (h : MayTell db top p row last m next ts) where
  abbrev P : ℕ → Type 0
  P = Below top

  abbrev tails : ℕ
  tails = next + suc last

  abbrev last_ones : ℕ
  last_ones = next + suc last + suc (suc last)

  narrow : suc last ≤ 2 ^ 32
  narrow = omega (arith, h.reified.within, h.few)

  vars_at : (mid : Database) → IsLater P db mid → top ≤ mid.vars + 1
  vars_at mid later = omega (arith, h.vars, later.vars)

  fronts : ChainRan P db (front_lines p row m last next) next (front_of p) last
  fronts =
      chain_ran P db next (nothing_line p) (front_line row m next) (front_of p) last h.numbered h.at (nothing_adds top (positive_of p) db (omega (arith, h.under, h.vars)))
      (λ j within mid later known. front_adds top p row last m ts mid h.few h.under (vars_at mid later) next j within (reified_later P db mid p row last m ts later (omega (arith, h.before, h.at)) h.reified) known)

  abbrev mid1 : Database
  mid1 = fronts.added.ran.end

  at_1 : mid1.next ≡ tails
  at_1 = omega (arith, fronts.added.ran.next, h.at)

  behind : ChainRan P mid1 (tail_lines p last tails) tails (tail_of p last) (suc last)
  behind =
      chain_ran P mid1 tails (nothing_line p) (tail_line p last tails) (tail_of p last) (suc last) fronts.added.ran.later.numbered at_1 (nothing_adds top (positive_of p) mid1 (omega (arith, h.under, vars_at mid1 fronts.added.ran.later)))
      (λ k within mid later known. tail_adds top p row last m ts mid h.few h.under (vars_at mid (later_then P db mid1 mid fronts.added.ran.later later)) tails k within narrow known)

  abbrev mid2 : Database
  mid2 = behind.added.ran.end

  at_2 : mid2.next ≡ last_ones
  at_2 = omega (arith, behind.added.ran.next, at_1)

  later_2 : IsLater P db mid2
  later_2 = later_then P db mid1 mid2 fronts.added.ran.later behind.added.ran.later

  fronts_2 : AreKnown mid2 next (front_of p) (suc last)
  fronts_2 = still_known P mid1 mid2 next (front_of p) (suc last) behind.added.ran.later (omega (arith, at_1)) fronts.known

  others : LinesRan P mid2 (others_lines last next tails) last_ones (λ j. others_of p last (suc j)) (suc last)
  others =
      lines_ran P mid2 last_ones (others_line last next tails) (λ j. others_of p last (suc j)) (suc last) later_2.numbered at_2
      (λ j within mid later known.
      let front = later_knows P mid2 mid (next + j) (front_of p j) later (omega (arith, at_2, within)) (fronts_2 j within) in
      let tail = later_knows P mid2 mid (tails + (last - j)) (tail_of p last (last - j)) later (omega (arith, at_2, within)) (behind.known (last - j) (omega (arith, within))) in
      others_adds top p row last m ts mid h.few h.under (vars_at mid (later_then P db mid2 mid later_2 later)) next tails j within narrow front tail)

  abbrev end : Database
  end = others.added.ran.end

  all_known : AreKnown end (others_at last next) (others_of p last) (suc (suc last))
  all_known zero within =
      let none = later_knows P mid2 end (tails + suc last) (tail_of p last (suc last)) others.added.ran.later (omega (arith, at_2)) (behind.known (suc last) (omega arith)) in
      subst (λ (id : ℕ). Knows end id (others_of p last 0)) (let e : tails + suc last ≡ others_at last next + 0 = omega arith in e) none
  all_known (suc j) within = subst (λ (id : ℕ). Knows end id (others_of p last (suc j))) (let e : last_ones + j ≡ others_at last next + suc j = omega arith in e) (others.known j (omega (arith, within)))

  pub row_told : RowTold db top p row last m next
  row_told = record {
    added = added_as P db (row_lines p row m last next) (1 + last + (1 + suc last + suc last)) (row_size last) (omega arith)
        (added_then P db (front_lines p row m last next) (tail_lines p last tails ++ others_lines last next tails) (1 + last) (1 + suc last + suc last) fronts.added
        (added_then P mid1 (tail_lines p last tails) (others_lines last next tails) (1 + suc last) (suc last) behind.added others.added));
    known = all_known;
  }
